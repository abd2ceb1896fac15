use Rattle.std.proofs.Common.{◌≡◌, drop}
use Rattle.std.specs.List.{list_all}
use Rattle.dcc_words.specs.Words.{takes_whole}
use Rattle.dcc_words.specs.Roles.{role_of}
use Rattle.dcc_words.proofs.roles.Roles.take_whole.Given as goal

abbrev pub invariant-loop-param : goal.invariant-loop-param
invariant-loop-param l =
    list_all (λ p. takes_whole (role_of l.self) p.put) (drop l.param-index l.params)
    ≡ list_all (λ p. takes_whole (role_of l.self) p.put) l.params
