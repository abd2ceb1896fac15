use Rattle.std.proofs.Common.{codes, sym, ◌∙◌, arith}
use Rattle.dcc_reader.specs.PartialViews.{case_of}
use Rattle.dcc_reader.specs.ReaderViews.{reader_of}
use Rattle.dcc_reader.proofs.LoopLaws.{before-step, before-done, before-none, map-listed, cases-none, cases-some, cases-end}
use Rattle.dcc_reader.proofs.SeenLaws.{word-seen}
use Rattle.dcc_read.proofs.arm.read_cases.Goals as goal

pub loop-left-init : goal.loop-left-init
loop-left-init c = before-none case_of _ _ c.new-numbers.ensures.items

pub returns-then-not-sees_word : goal.returns-then-not-sees_word
returns-then-not-sees_word c =
    before-done _ _ _ _ (cases-none _ _ (sym c.sees_word.ensures ∙ c.if-not-sees_word.true)) c.loop-left.invariant

pub read_case-number-requires : goal.read_case-number-requires
read_case-number-requires c = record { seen = word-seen (codes "case") (reader_of c.loop-left.r) (sym c.sees_word.ensures ∙ c.if-not-sees_word.false) }

pub loop-left-preserved : goal.loop-left-preserved
loop-left-preserved c =
    before-step _ _ _ _ _ _ (map-listed case_of _ _ _ c.in_ok-push_some.ensures)
    (cases-some _ _ _ c.loop-left-test.true (sym c.sees_word.ensures ∙ c.if-not-sees_word.false) c.read_case-number.ensures)
    c.loop-left.invariant

pub returns : goal.returns
returns c = before-done _ _ _ _ (cases-end c.loop-left.left (reader_of c.loop-left.r) (omega arith)) c.loop-left.invariant
