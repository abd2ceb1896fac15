use Rattle.std.proofs.Common.{◌≡◌, drop}
use Rattle.std.specs.List.{list_all}
use Rattle.dcc_words.specs.Words.{are_halves}
use Rattle.dcc_words.proofs.roles.are_all_halves.Given as goal

abbrev pub invariant-loop-pair : goal.invariant-loop-pair
invariant-loop-pair l = list_all (are_halves l.bits) (drop l.pair-index l.pairs) ≡ list_all (are_halves l.bits) l.pairs
