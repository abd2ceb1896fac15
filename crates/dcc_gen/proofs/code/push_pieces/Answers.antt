use Rattle.std.proofs.Common.{◌≡◌, ℕ, ◌+◌, ◌-◌, drop, slice_index, arith}
use Rattle.std.specs.List.{sum_by}
use Rattle.std.proofs.lemmas.List.Sums.{sum_by-drop_more}
use Rattle.dcc_gen.specs.declared.piece.Piece.{Piece}
use Rattle.dcc_gen.specs.declared.piece.Piece.TheVariants.{SetAx}
use Rattle.dcc_gen.specs.Code.{piece_length}
use Rattle.dcc_gen.proofs.CodeLaws.{pieces-end, pieces-step}
use Rattle.dcc_gen.proofs.code.push_pieces.Goals as goal

pub loop-piece-preserved : goal.loop-piece-preserved
loop-piece-preserved c =
    let pieces = c.args.pieces.now in
    let i = c.loop-piece.piece-index in
    let ahead : ℕ → ℕ = λ procedure. slice_index c.args.ahead.now procedure in
    let d : Piece = SetAx 0 in
    let more = sum_by-drop_more piece_length pieces i d (omega arith) in
    let left : c.loop-piece.left - c.length_of-left.result ≡ sum_by piece_length (drop (i + 1) pieces) =
    omega (arith, more, c.loop-piece.invariant.left, c.length_of-left.ensures.length) in
    record {
      code = pieces-step ahead pieces i d _ _ _ _ (omega arith) left c.in_ok-push_piece.ensures c.loop-piece.invariant.code;
      left = left;
      near = omega arith;
    }

pub returns : goal.returns
returns c =
    let ahead : ℕ → ℕ = λ procedure. slice_index c.args.ahead.now procedure in
    pieces-end ahead c.args.pieces.now c.loop-piece.piece-index _ _ (omega arith) c.loop-piece.invariant.code
