use Rattle.std.proofs.Common.{◌≡◌, ◌||◌, drop}
use Rattle.std.specs.List.{list_all}
use Rattle.dcc_words.specs.Words.{is_alone, takes_argument}
use Rattle.dcc_words.specs.Roles.{role_of}
use Rattle.dcc_words.proofs.roles.Roles.are_given.Given as goal

abbrev pub invariant-loop-location : goal.invariant-loop-location
invariant-loop-location l =
    list_all (λ x. is_alone (role_of l.self x) || takes_argument l.params x) (drop l.location-index l.locations)
    ≡ list_all (λ x. is_alone (role_of l.self x) || takes_argument l.params x) l.locations
