use Rattle.std.proofs.Common.{◌≡◌, ◌+◌, ◌-◌, ◌<◌, ◌≤◌, if◌then◌else◌, sym, ap, ◌∙◌, arith}
use Rattle.std.proofs.lemmas.List.{length-set}
use Rattle.dcc_globals.specs.Gaps.{is_text, text_from}
use Rattle.dcc_globals.specs.Marks.{data_of}
use Rattle.dcc_globals.proofs.Counting.{text-from-next, text-from-le, text-from-last, last-zero, filled-down}
use Rattle.dcc_globals.proofs.texts.behind.Goals as goal

pub loop-at-preserved : goal.loop-at-preserved
loop-at-preserved c =
    let d = data_of c.args.runs.now.source in
    let at = c.loop-at.at - 1 in
    let more : at + 1 ≡ c.loop-at.at = omega (arith, c.loop-at-test.true) in
    let inside : at < 65536 = let h = c.loop-at.invariant.small in omega (arith, more, h) in
    let is : c.next_count-count.result ≡ text_from d at =
    c.next_count-count.ensures ∙ ap (λ t. if t then c.loop-at.count + 1 else 0) c.is_text.ensures
    ∙ ap (λ n. if is_text d at then n + 1 else 0) (c.loop-at.invariant.count ∙ ap (text_from d) (sym more)) ∙ sym (text-from-next d at inside) in
    record {
      whole = length-set c.loop-at.table.items at c.next_count-count.result ∙ c.loop-at.invariant.whole;
      each = filled-down (text_from d) c.loop-at.table.items at c.loop-at.at c.next_count-count.result more inside c.loop-at.invariant.whole c.loop-at.invariant.each is;
      count = is;
      small = let h = text-from-le d at (omega (arith, inside)) in omega (arith, is, h);
    }

pub loop-at-init : goal.loop-at-init
loop-at-init c =
    let d = data_of c.args.runs.now.source in
    record {
      whole = c.in_ok-table.ensures.whole;
      each = λ k above below. last-zero d _ k above below (c.in_ok-table.ensures.none k);
      count = sym (text-from-last d);
      small = omega arith;
    }

pub returns : goal.returns
returns c = record {
  whole = c.loop-at.invariant.whole;
  each = λ k inside. c.loop-at.invariant.each k (omega (arith, c.loop-at-test.false)) inside;
}
