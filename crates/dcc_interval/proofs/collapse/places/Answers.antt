use Rattle.std.proofs.Common.{◌<◌, ℕ, length, get_or, All, ap, sym, ◌∙◌, subst, arith}
use Rattle.std.proofs.lemmas.List.{length-replicate}
use Rattle.dcc_interval.specs.Intervals.{intervals_in}
use Rattle.dcc_interval.proofs.CollapseLaws.{length_all_placed, places_begin, places_step, places_end}
use Rattle.dcc_interval.proofs.collapse.places.Goals as goal

pub loop-place-init : goal.loop-place-init
loop-place-init c =
    let is = c.in_ok-places.ensures.items_if_clones_equal (λ y same. same) in
    record {
      count = ap length is ∙ length-replicate {A = ℕ} c.args.count 0;
      rest = places_begin c.args.count (intervals_in c.args.intervals.now.items) c.in_ok-places.places.items is;
    }

pub place_all-requires : goal.place_all-requires
place_all-requires c =
    let xs = c.args.intervals.now.items in
    let p = c.loop-place.place in
    let r = c.index.result.now in
    let less : p < length xs = omega arith in
    let all = c.requires.within p r less in
    subst (λ l. All (λ n. n < length c.loop-place.places.items) l) (sym (c.as_slice.ensures.value ∙ ap (λ i. i.members.items) c.index.ensures))
    (subst (λ k. All (λ n. n < k) (get_or xs p r).members.items) (sym c.loop-place.invariant.count) all)

pub loop-place-preserved : goal.loop-place-preserved
loop-place-preserved c =
    let xs = c.args.intervals.now.items in
    let p = c.loop-place.place in
    let less : p < length xs = omega arith in
    record {
      count = ap length c.place_all.ensures ∙ length_all_placed c.loop-place.places.items c.as_slice.result.now p ∙ c.loop-place.invariant.count;
      rest = places_step xs p c.index.result.now less c.index.ensures c.loop-place.places.items c.place_all.new.places.items c.as_slice.result.now c.as_slice.ensures.value c.place_all.ensures
          ∙ c.loop-place.invariant.rest;
    }

pub returns : goal.returns
returns c = places_end c.args.count c.args.intervals.now.items c.loop-place.place c.loop-place.places.items (omega arith) c.loop-place.invariant.rest
