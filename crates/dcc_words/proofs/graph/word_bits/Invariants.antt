use Rattle.std.proofs.Common.{◌≡◌, map}
use Rattle.dcc_words.proofs.graph.word_bits.Given as goal

abbrev pub invariant-loop-pair : goal.invariant-loop-pair
invariant-loop-pair l = l.words.items ≡ map (λ pair. 16) l.yielded
