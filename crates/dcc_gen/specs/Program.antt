-- The program of a seed: what is drawn of it, and in which order.
use Rattle.std.specs.Prelude.{◌≡◌, ℕ, ◌*◌, List, ◌++◌, map, length}
use Rattle.std.specs.List.{flat_map}
use Rattle.dcc_gen.specs.declared.piece.Piece.{Piece}
use Rattle.dcc_gen.specs.Draws.{Draw, AreDrawn}
use Rattle.dcc_gen.specs.Pieces.{draws_of}

-- what is drawn of a program: the pieces of start, the procedure that runs first; those of the eight procedures that
-- it may call, sixteen for each, one procedure after another; and the words of its data
pub record Program : Type 0 where
  pub start : List Piece
  pub bodies : List Piece
  pub words : List ℕ

-- all that is drawn, in order. A piece of start is of one of twelve kinds, and one of a body of the first eleven, so
-- that no procedure calls another
abbrev pub all_draws : Program → List Draw
all_draws program =
    flat_map (draws_of 12) program.start
    ++ (flat_map (draws_of 11) program.bodies ++ map (λ word. (65536, word)) program.words)

-- the program has `size` drawn pieces in start, and all that is drawn is what the generator gives from the seed on
pub record IsDrawnFrom (seed size : ℕ) (program : Program) : Type 0 where
  pub start : length program.start ≡ size
  pub bodies : length program.bodies ≡ 8 * 16
  pub words : length program.words ≡ 64
  pub last_state : ℕ
  pub drawn : AreDrawn (all_draws program) seed last_state
