use Rattle.std.proofs.Common.{codes, sym, ap, ◌∙◌, arith}
use Rattle.dcc_c.specs.ReadingStatements.{read_param}
use Rattle.dcc_reader.specs.PartialViews.{variable_of}
use Rattle.dcc_reader.specs.ReaderViews.{reader_of}
use Rattle.dcc_c.specs.Reading.{got}
use Rattle.dcc_reader.proofs.LoopLaws.{before-step, before-done, map-pushed, map-first, params-first, params-none, params-some, params-end}
use Rattle.dcc_reader.proofs.SeenLaws.{mark-seen, word-seen}
use Rattle.dcc_reader.proofs.declaration.read_params.Goals as goal

pub skip-requires : goal.skip-requires
skip-requires c = record { seen = word-seen (codes "void") (reader_of c.args.r.now) (sym c.sees_word.ensures ∙ c.if-sees_word.true) }

pub loop-left-init : goal.loop-left-init
loop-left-init c =
    params-first _ (reader_of c.args.r.now) (got (variable_of c.read_param.result) (reader_of c.read_param.new.r)) _ (sym c.sees_word.ensures ∙ c.if-sees_word.false) c.read_param.ensures
    (map-first variable_of _ _ _ c.new-params.ensures.items c.in_ok-push.ensures.items)

pub returns-then-not-sees_mark : goal.returns-then-not-sees_mark
returns-then-not-sees_mark c =
    before-done _ _ _ _ (params-none _ _ (sym c.sees_mark.ensures ∙ c.if-not-sees_mark.true)) c.loop-left.invariant

pub skip-requires-in-loop-left : goal.skip-requires-in-loop-left
skip-requires-in-loop-left c = record { seen = mark-seen (codes ",") (reader_of c.loop-left.r) (sym c.sees_mark.ensures ∙ c.if-not-sees_mark.false) }

pub loop-left-preserved : goal.loop-left-preserved
loop-left-preserved c =
    before-step _ _ _ _ _ _ (map-pushed variable_of _ _ _ c.in_ok-push-2.ensures.items)
    (params-some c.loop-left.left (reader_of c.loop-left.r) (got (variable_of c.read_param-in-loop-left.result) (reader_of c.read_param-in-loop-left.new.r))
    c.loop-left-test.true (sym c.sees_mark.ensures ∙ c.if-not-sees_mark.false)
    (c.read_param-in-loop-left.ensures ∙ ap read_param c.skip-in-loop-left.ensures))
    c.loop-left.invariant

pub returns : goal.returns
returns c = before-done _ _ _ _ (params-end c.loop-left.left (reader_of c.loop-left.r) (omega arith)) c.loop-left.invariant
