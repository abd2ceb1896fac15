use Rattle.std.proofs.Common.{◌≡◌, ◌+◌, ◌<◌, ◌≤◌, if◌then◌else◌, sym, ap, ◌∙◌, arith}
use Rattle.std.proofs.lemmas.List.{length-set}
use Rattle.dcc_globals.specs.Gaps.{is_text, text_before}
use Rattle.dcc_globals.specs.Marks.{data_of}
use Rattle.dcc_globals.proofs.Counting.{text-before-next, text-before-le, text-before-first, first-zero, filled-up}
use Rattle.dcc_globals.proofs.texts.before.Goals as goal

pub loop-at-preserved : goal.loop-at-preserved
loop-at-preserved c =
    let d = data_of c.args.runs.now.source in
    let at = c.loop-at.at in
    let inside : at < 65536 = omega arith in
    let is : c.next_count-count.result ≡ text_before d (at + 1) =
    c.next_count-count.ensures ∙ ap (λ t. if t then c.loop-at.count + 1 else 0) c.is_text.ensures
    ∙ ap (λ n. if is_text d at then n + 1 else 0) c.loop-at.invariant.count ∙ sym (text-before-next d at) in
    record {
      whole = length-set c.loop-at.table.items (at + 1) c.next_count-count.result ∙ c.loop-at.invariant.whole;
      each = filled-up (text_before d) c.loop-at.table.items at c.next_count-count.result inside c.loop-at.invariant.whole c.loop-at.invariant.each is;
      count = is;
      small = let h = text-before-le d (at + 1) in omega (arith, is, h);
    }

pub loop-at-init : goal.loop-at-init
loop-at-init c =
    let d = data_of c.args.runs.now.source in
    record {
      whole = c.in_ok-table.ensures.whole;
      each = λ k below. first-zero d _ k below (c.in_ok-table.ensures.none k);
      count = sym (text-before-first d);
      small = omega arith;
    }

pub returns : goal.returns
returns c = record {
  whole = c.loop-at.invariant.whole;
  each = λ k inside. c.loop-at.invariant.each k (omega (arith, inside, c.loop-at-test.false));
}
