use Rattle.std.proofs.Common.{◌≡◌, ◌*◌, ◌≤◌, take}
use Rattle.std.specs.List.{sum_by}
use Rattle.dcc_gen.specs.Code.{piece_length}
use Rattle.dcc_gen.proofs.code.length_of_all.Given as goal

abbrev pub invariant-loop-piece : goal.invariant-loop-piece
invariant-loop-piece l = record {
  length : l.bytes ≡ sum_by piece_length (take l.piece-index l.pieces);
  few : l.bytes ≤ 7 * l.piece-index;
}
