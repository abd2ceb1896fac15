-- The pieces of what is left of a text.
use Rattle.std.specs.Prelude.{◌≡◌, List, [], ◌∷◌, ◌++◌, map, drop, Option, MatchOption, option_to_list}
use Rattle.dcc_c.specs.Pieces as spec
use Rattle.dcc_lex.specs.declared.left.Pieces.{Pieces}
use Rattle.dcc_lex.specs.TokenViews.{piece_of}
use Rattle.dcc_lex.specs.CutViews.{spot_of, remaining}

-- all pieces of what is left: the first two, and those of the bytes that have not been cut
unfoldable pub pieces_of : Pieces → List spec.Piece
pieces_of p =
    map piece_of (option_to_list p.first)
    ++ (map piece_of (option_to_list p.second) ++ remaining (spot_of p.spot) p.line p.bytes.now)

-- the pieces begin with the given one, or there are none
abbrev pub BeginWith : Option spec.Piece → List spec.Piece → Type 0
BeginWith first pieces = MatchOption first (pieces ≡ []) (λ p. pieces ≡ p ∷ drop 1 pieces)
