use Rattle.std.proofs.Common.{◌≡◌, ◌≤◌, ◌++◌, drop, slice_index}
use Rattle.std.specs.List.{sum_by}
use Rattle.dcc_gen.specs.Code.{piece_length, pieces_code}
use Rattle.dcc_gen.proofs.code.push_pieces.Given as goal

abbrev pub invariant-loop-piece : goal.invariant-loop-piece
invariant-loop-piece l = record {
  code : l.code.items ++ pieces_code (λ procedure. slice_index l.ahead procedure) (drop l.piece-index l.pieces)
      ≡ l.initial.code.items ++ pieces_code (λ procedure. slice_index l.ahead procedure) l.pieces;
  left : l.left ≡ sum_by piece_length (drop l.piece-index l.pieces);
  near : l.left ≤ 14000;
}
