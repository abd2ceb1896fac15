use Rattle.std.proofs.Common.{codes, refl, sym, ap, ◌∙◌, arith}
use Rattle.dcc_c.specs.Reading.{take_plain}
use Rattle.dcc_reader.specs.PartialViews.{number_of}
use Rattle.dcc_reader.specs.ReaderViews.{reader_of}
use Rattle.dcc_reader.proofs.LoopLaws.{before-step, before-done, map-listed, values-none, values-some, values-end}
use Rattle.dcc_reader.proofs.SeenLaws.{mark-seen}
use Rattle.dcc_reader.proofs.declaration.more_values.Goals as goal

pub loop-left-init : goal.loop-left-init
loop-left-init c = refl

pub returns-then-not-sees_mark : goal.returns-then-not-sees_mark
returns-then-not-sees_mark c =
    before-done _ _ _ _ (values-none _ _ (sym c.sees_mark.ensures ∙ c.if-not-sees_mark.true)) c.loop-left.invariant

pub skip-requires : goal.skip-requires
skip-requires c = record { seen = mark-seen (codes ",") (reader_of c.loop-left.r) (sym c.sees_mark.ensures ∙ c.if-not-sees_mark.false) }

pub loop-left-preserved : goal.loop-left-preserved
loop-left-preserved c =
    before-step _ _ _ _ _ _ (map-listed number_of _ _ _ c.in_ok-push_some.ensures)
    (values-some _ _ _ c.loop-left-test.true (sym c.sees_mark.ensures ∙ c.if-not-sees_mark.false)
    (c.take_plain-value.ensures ∙ ap take_plain c.skip.ensures))
    c.loop-left.invariant

pub returns : goal.returns
returns c = before-done _ _ _ _ (values-end c.loop-left.left (reader_of c.loop-left.r) (omega arith)) c.loop-left.invariant
