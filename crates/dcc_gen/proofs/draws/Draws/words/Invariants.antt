use Rattle.std.proofs.Common.{◌≡◌, map, vec_len}
use Rattle.dcc_gen.specs.Draws.{AreDrawn}
use Rattle.dcc_gen.proofs.draws.Draws.words.Given as goal

abbrev pub invariant-loop : goal.invariant-loop
invariant-loop l = record {
  count : vec_len l.words ≡ l.counter;
  drawn : AreDrawn (map (λ word. (65536, word)) l.words.items) l.initial.self.state l.self.state;
}
