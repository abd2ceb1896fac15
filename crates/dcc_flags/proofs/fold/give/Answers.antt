use Rattle.std.proofs.Common.{◌≡◌, ℕ, ◌+◌, ◌<◌, suc, List, length, map, drop, get_or, slice_set, slice_index_or, ap, sym, ◌∙◌, add-one, drop-cons}
use Rattle.std.proofs.lemmas.List.{map-set, length-set}
use Rattle.dcc_flags.specs.declared.choices.Choices.{Choices as ChoicesOf}
use Rattle.dcc_flags.specs.Folding.{Choices, choices_of, given_to}
use Rattle.dcc_flags.proofs.fold.give.Goals as goal

-- one place further
step :
    (c : Choices) (given : List ChoicesOf) (made : ChoicesOf) (places : List ℕ) (k : ℕ)
    → choices_of made ≡ c → k < length places
    → given_to c (map choices_of (slice_set given (get_or places k 0) made)) (drop (k + 1) places)
    ≡ given_to c (map choices_of given) (drop k places)
step c given made places k is inside =
    ap (λ n. given_to c (map choices_of (slice_set given (get_or places k 0) made)) (drop n places)) (add-one k)
    ∙ ap (λ l. given_to c l (drop (suc k) places)) (map-set choices_of given (get_or places k 0) made)
    ∙ ap (λ x. given_to c (slice_set (map choices_of given) (get_or places k 0) x) (drop (suc k) places)) is
    ∙ sym (ap (given_to c (map choices_of given)) (drop-cons places k 0 inside))

pub loop-place-preserved : goal.loop-place-preserved
loop-place-preserved c =
    let places = c.args.places.now in
    let k = c.loop-place.place-index in
    let given = c.loop-place.given.items in
    record {
      count = length-set given (slice_index_or places k 0) c.in_ok-given.field-0 ∙ c.loop-place.invariant.count;
      rest = step (choices_of c.args.choices.now) given c.in_ok-given.field-0 places k c.in_ok-given.ensures c.loop-place-test.true
          ∙ c.loop-place.invariant.rest;
    }
