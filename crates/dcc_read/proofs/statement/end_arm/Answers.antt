use Rattle.std.proofs.Common.{sym, ap, ◌∙◌}
use Rattle.dcc_c.specs.Reading.{got}
use Rattle.dcc_reader.specs.ReaderViews.{reader_of}
use Rattle.dcc_read.proofs.LineLaws.{popped}
use Rattle.dcc_reader.proofs.LoopLaws.{if-true, if-false}
use Rattle.dcc_read.proofs.statement.end_arm.Goals as goal

pub returns-then-block : goal.returns-then-block
returns-then-block c =
    let r = reader_of c.args.r.now in
    ap (λ l. got l r) (popped c.args.block.lines.items c.pop.new.self.items c.pop.result _ (sym c.args.block.lines.ok.0) c.pop.ensures.items c.pop.ensures.variant)
    ∙ sym (if-false _ _ _ (sym c.is_stopped.ensures ∙ c.if-is_stopped.false) ∙ if-true _ _ _ c.if-block.true)
