use Rattle.std.proofs.Common.{◌≡◌, All, vec_len}
use Rattle.std.specs.List.{flat_map}
use Rattle.dcc_gen.specs.Draws.{AreDrawn}
use Rattle.dcc_gen.specs.Pieces.{draws_of, IsInRange}
use Rattle.dcc_gen.proofs.draws.Draws.pieces.Given as goal

abbrev pub invariant-loop : goal.invariant-loop
invariant-loop l = record {
  count : vec_len l.pieces ≡ l.counter;
  drawn : AreDrawn (flat_map (draws_of l.kinds) l.pieces.items) l.initial.self.state l.self.state;
  in_range : All IsInRange l.pieces.items;
}
