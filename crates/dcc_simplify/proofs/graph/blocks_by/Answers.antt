use Rattle.std.proofs.Common.{refl}
use Rattle.dcc_ir.specs.Views.{block_of}
use Rattle.dcc_rules.specs.Views.{numbers_of}
use Rattle.dcc_simplify.specs.Reshaped.{IsBlockAs}
use Rattle.dcc_simplify.specs.Simplified.{IsSimplified}
use Rattle.dcc_simplify.proofs.ZipLaws.{zip-pushed}
use Rattle.dcc_simplify.proofs.graph.blocks_by.Goals as goal

pub loop-block-preserved : goal.loop-block-preserved
loop-block-preserved g c =
    zip-pushed block_of (IsBlockAs (IsSimplified (numbers_of c.args.by.now.rules.now) c.args.by.now.bits.now)) c.loop-block.yielded c.loop-block.done.items
    c.in-Some.block _ c.push.new.self.items c.in_ok-push.ensures.items c.loop-block.invariant
    (record { at = refl; stmts = c.in_ok-stmts.ensures; exit = c.in_ok-end.ensures })
