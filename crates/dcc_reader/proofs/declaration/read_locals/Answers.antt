use Rattle.std.proofs.Common.{sym, ◌∙◌, arith}
use Rattle.dcc_reader.specs.PartialViews.{variable_of}
use Rattle.dcc_reader.specs.ReaderViews.{reader_of}
use Rattle.dcc_c.specs.Reading.{got}
use Rattle.dcc_reader.proofs.LoopLaws.{before-step, before-done, before-none, map-pushed, locals-none, locals-some, locals-end}
use Rattle.dcc_reader.proofs.declaration.read_locals.Goals as goal

pub loop-left-init : goal.loop-left-init
loop-left-init c = before-none variable_of _ _ c.new-locals.ensures.items

pub returns-then-not-begins_local : goal.returns-then-not-begins_local
returns-then-not-begins_local c =
    before-done _ _ _ _ (locals-none _ _ (sym c.begins_local.ensures ∙ c.if-not-begins_local.true)) c.loop-left.invariant

pub loop-left-preserved : goal.loop-left-preserved
loop-left-preserved c =
    before-step _ _ _ _ _ _ (map-pushed variable_of _ _ _ c.in_ok-push.ensures.items)
    (locals-some c.loop-left.left (reader_of c.loop-left.r) (got (variable_of c.read_local.result) (reader_of c.read_local.new.r))
    c.loop-left-test.true (sym c.begins_local.ensures ∙ c.if-not-begins_local.false) c.read_local.ensures)
    c.loop-left.invariant

pub returns : goal.returns
returns c = before-done _ _ _ _ (locals-end c.loop-left.left (reader_of c.loop-left.r) (omega arith)) c.loop-left.invariant
