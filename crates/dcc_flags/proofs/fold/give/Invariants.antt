use Rattle.std.proofs.Common.{◌≡◌, length, map, drop}
use Rattle.dcc_flags.specs.Folding.{choices_of, given_to}
use Rattle.dcc_flags.proofs.fold.give.Given as goal

abbrev pub invariant-loop-place : goal.invariant-loop-place
invariant-loop-place l = record {
  count : length l.given.items ≡ length l.initial.given.items;
  rest :
      given_to (choices_of l.choices) (map choices_of l.given.items) (drop l.place-index l.places)
      ≡ given_to (choices_of l.choices) (map choices_of l.initial.given.items) l.places;
}
