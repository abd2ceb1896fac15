use Rattle.std.proofs.Common.{codes, sym, ap, ◌∙◌, ◌-◌, arith}
use Rattle.dcc_c.specs.ReadingStatements.{read_enclosed}
use Rattle.dcc_reader.specs.PartialViews.{expr_of}
use Rattle.dcc_reader.specs.ReaderViews.{reader_of}
use Rattle.dcc_reader.proofs.LoopLaws.{before-step, before-done, map-pushed, map-first, arguments-first, arguments-none, arguments-some, arguments-end}
use Rattle.dcc_reader.proofs.SeenLaws.{mark-seen}
use Rattle.dcc_read.proofs.call.read_arguments.Goals as goal

pub loop-left-init : goal.loop-left-init
loop-left-init c =
    arguments-first _ _ _ _ (sym c.sees_mark.ensures ∙ c.if-sees_mark.false) c.in_ok-read_enclosed.ensures
    (map-first expr_of _ _ _ c.in_ok-arguments.ensures.items c.in_ok-push.ensures.items)

pub returns-then-not-sees_mark : goal.returns-then-not-sees_mark
returns-then-not-sees_mark c =
    before-done _ _ _ _ (arguments-none _ _ (sym c.sees_mark-in-loop-left.ensures ∙ c.if-not-sees_mark.true)) c.loop-left.invariant

pub skip-requires : goal.skip-requires
skip-requires c = record { seen = mark-seen (codes ",") (reader_of c.loop-left.r) (sym c.sees_mark-in-loop-left.ensures ∙ c.if-not-sees_mark.false) }

pub loop-left-preserved : goal.loop-left-preserved
loop-left-preserved c =
    before-step _ _ _ _ _ _ (map-pushed expr_of _ _ _ c.in_ok-push-2.ensures.items)
    (arguments-some _ _ _ c.loop-left-test.true (sym c.sees_mark-in-loop-left.ensures ∙ c.if-not-sees_mark.false)
    (c.in_ok-read_enclosed-2.ensures ∙ ap (read_enclosed (c.loop-left.left - 1)) c.skip.ensures))
    c.loop-left.invariant

pub returns : goal.returns
returns c = before-done _ _ _ _ (arguments-end c.loop-left.left (reader_of c.loop-left.r) (omega arith)) c.loop-left.invariant
