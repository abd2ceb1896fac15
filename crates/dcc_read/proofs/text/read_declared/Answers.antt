use Rattle.std.proofs.Common.{◌≤◌, ◌+◌, ◌*◌, ◌-◌, Some, map, sym, ap, ◌∙◌, arith}
use Rattle.dcc_c.specs.Reading.{got}
use Rattle.dcc_c.specs.ReadingText.{read_declared}
use Rattle.dcc_read.specs.TextViews.{before_globals}
use Rattle.dcc_reader.specs.PartialViews.{variable_of, function_of}
use Rattle.dcc_reader.specs.ReaderViews.{reader_of}
use Rattle.dcc_reader.specs.BegunViews.{begun_of}
use Rattle.dcc_c.specs.Token.{place_line}
use Rattle.dcc_reader.proofs.LoopLaws.{map-pushed}
use Rattle.dcc_reader.proofs.SeenLaws.{head-seen}
use Rattle.dcc_read.proofs.TextLaws.{globals-none, globals-step, globals-done, globals-parts, declared-place, declared-global, declared-functions, declared-end, address-kept}
use Rattle.dcc_read.proofs.text.read_declared.Goals as goal

pub loop-left-init : goal.loop-left-init
loop-left-init c = record {
  within = omega arith;
  low = tt;
  read = globals-none _ _ (ap (map variable_of) c.new-globals.ensures.items);
}

pub read_place_line-requires : goal.read_place_line-requires
read_place_line-requires c = record { seen = head-seen place_line (reader_of c.loop-left.r) (sym c.sees_head.ensures ∙ c.if-sees_head.true) }

pub loop-left-preserved-then-sees_head : goal.loop-left-preserved-then-sees_head
loop-left-preserved-then-sees_head c = record {
  within = omega arith;
  low = omega arith;
  read =
      sym (ap (λ d. before_globals (map variable_of c.loop-left.globals.items) d)
      (declared-place c.loop-left.left c.loop-left.address (reader_of c.loop-left.r)
      (got c.read_place_line.result (reader_of c.read_place_line.new.r)) c.loop-left-test.true (sym c.sees_head.ensures ∙ c.if-sees_head.true)
      c.read_place_line.ensures.exact))
      ∙ c.loop-left.invariant.read;
}

pub returns-in_default : goal.returns-in_default
returns-in_default c =
    globals-done _ _ _ _
    (declared-functions c.loop-left.left c.loop-left.address (reader_of c.loop-left.r) (got (begun_of c.read_begun-begun.result) (reader_of c.read_begun-begun.new.r))
    (got (map function_of c.in_ok-functions.functions.items) (reader_of c.read_functions.new.r)) c.loop-left-test.true (sym c.sees_head.ensures ∙ c.if-sees_head.false) c.read_begun-begun.ensures
    (c.in_default.ensures) c.in_ok-functions.ensures)
    c.loop-left.invariant.read

pub overflow_add-address : goal.overflow_add-address
overflow_add-address c =
    let low : c.in-Some.here + 17179869180 * (c.loop-left.left + 1) ≤ 4294967295 + 17179869180 * c.args.calls =
    address-kept (λ a. a + 17179869180 * (c.loop-left.left + 1) ≤ 4294967295 + 17179869180 * c.args.calls) c.loop-left.address
    (got (begun_of c.read_begun-begun.result) (reader_of c.read_begun-begun.new.r)) c.in-Some.here c.in-Some.ensures c.loop-left.invariant.low in
    let few = c.size_in_bytes.ensures.few in
    let most = c.requires.few in
    omega arith

pub loop-left-preserved : goal.loop-left-preserved
loop-left-preserved c =
    let low : c.in-Some.here + 17179869180 * (c.loop-left.left + 1) ≤ 4294967295 + 17179869180 * c.args.calls =
    address-kept (λ a. a + 17179869180 * (c.loop-left.left + 1) ≤ 4294967295 + 17179869180 * c.args.calls) c.loop-left.address
    (got (begun_of c.read_begun-begun.result) (reader_of c.read_begun-begun.new.r)) c.in-Some.here c.in-Some.ensures c.loop-left.invariant.low in
    let few = c.size_in_bytes.ensures.few in
    record {
      within = omega arith;
      low = omega arith;
      read =
          ap (λ n. before_globals (map variable_of c.push.new.self.items)
          (read_declared (c.loop-left.left - 1) (Some (c.in-Some.here + n)) (reader_of c.read_global.new.r))) c.size_in_bytes.ensures.exact
          ∙ globals-step _ _ _ _ _ _ (map-pushed variable_of _ _ _ c.in_ok-push.ensures.items)
          (declared-global c.loop-left.left c.loop-left.address (reader_of c.loop-left.r) (got (begun_of c.read_begun-begun.result) (reader_of c.read_begun-begun.new.r))
          c.in-Some.here (got (variable_of c.in_ok-global.global) (reader_of c.read_global.new.r)) c.loop-left-test.true (sym c.sees_head.ensures ∙ c.if-sees_head.false) c.read_begun-begun.ensures
          c.in-Some.ensures c.in_ok-global.ensures)
          c.loop-left.invariant.read;
    }

pub returns : goal.returns
returns c =
    globals-parts _ _ _ (ap (map function_of) c.new-functions.ensures.items)
    ∙ globals-done _ _ _ _ (declared-end c.loop-left.left c.loop-left.address (reader_of c.loop-left.r) (omega arith)) c.loop-left.invariant.read
