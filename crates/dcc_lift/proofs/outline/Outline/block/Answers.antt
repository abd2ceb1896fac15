use Rattle.std.proofs.Common.{refl}
use Rattle.dcc_ir.specs.Views.{block_of}
use Rattle.dcc_lift.specs.Known.{source_of}
use Rattle.dcc_ops.specs.Writing.{written}
use Rattle.dcc_lift.proofs.BegunLaws.{begun-more, begun-all}
use Rattle.dcc_lift.proofs.outline.Outline.block.Goals as goal

pub loop-next-preserved : goal.loop-next-preserved
loop-next-preserved c =
    begun-more (source_of c.args.self.now) c.args.at c.loop-next.last c.in-Some.next
    (written c.loop-next.writer) (written c.write-in-Some.new.writer) c.loop-next.invariant (cc)
    c.in_ok-write-2.ensures

pub returns : goal.returns
returns c =
    begun-all (source_of c.args.self.now) c.args.at c.loop-next.last (written c.loop-next.writer)
    (block_of (record { at = c.args.at; stmts = c.loop-next.writer.stmts; end = c.in_ok-end.end }))
    c.loop-next.invariant
    (cc) refl refl c.in_ok-end.ensures
