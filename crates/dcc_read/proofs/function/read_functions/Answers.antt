use Rattle.std.proofs.Common.{sym, ◌∙◌, arith}
use Rattle.dcc_reader.specs.PartialViews.{function_of}
use Rattle.dcc_reader.specs.ReaderViews.{reader_of}
use Rattle.dcc_reader.specs.BegunViews.{begun_of}
use Rattle.dcc_c.specs.Reading.{got}
use Rattle.dcc_reader.proofs.LoopLaws.{before-step, before-done, map-pushed, map-first}
use Rattle.dcc_read.proofs.TextLaws.{functions-first, functions-none, functions-some, functions-end}
use Rattle.dcc_read.proofs.function.read_functions.Goals as goal

pub loop-left-init : goal.loop-left-init
loop-left-init c =
    functions-first _ (got (begun_of c.args.begun) (reader_of c.args.r.now))
    (got (function_of c.in_ok-first.first) (reader_of c.read_function.new.r)) _ c.in_ok-first.ensures
    (map-first function_of _ _ _ c.new-functions.ensures.items c.in_ok-push.ensures.items)

pub returns-then-is_end : goal.returns-then-is_end
returns-then-is_end c =
    before-done _ _ _ _ (functions-none _ _ (sym c.is_end.ensures ∙ c.if-is_end.true)) c.loop-left.invariant

pub loop-left-preserved : goal.loop-left-preserved
loop-left-preserved c =
    before-step _ _ _ _ _ _ (map-pushed function_of _ _ _ c.in_ok-push-2.ensures.items)
    (functions-some c.loop-left.left (reader_of c.loop-left.r) (got (begun_of c.read_begun-begun.result) (reader_of c.read_begun-begun.new.r))
    (got (function_of c.in_ok-function.function) (reader_of c.read_function-in-loop-left.new.r)) c.loop-left-test.true
    (sym c.is_end.ensures ∙ c.if-is_end.false) c.read_begun-begun.ensures c.in_ok-function.ensures)
    c.loop-left.invariant

pub returns : goal.returns
returns c = before-done _ _ _ _ (functions-end c.loop-left.left (reader_of c.loop-left.r) (omega arith)) c.loop-left.invariant
