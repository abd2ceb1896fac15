use Rattle.std.proofs.Common.{◌≡◌, drop}
use Rattle.dcc_words.specs.Words.{takes_argument}
use Rattle.dcc_words.proofs.fitting.takes.Given as goal

abbrev pub invariant-loop-param : goal.invariant-loop-param
invariant-loop-param l = takes_argument (drop l.param-index l.params) l.location ≡ takes_argument l.params l.location
