-- The cuts of a text that the declared types stand for.
use Rattle.std.specs.Prelude.{◌≡◌, ℕ, Bool, false, not, if◌then◌else◌, List, [], ◌∷◌, ◌++◌, map, length, Some}
use Rattle.std.specs.Prelude.{option_to_list}
use Rattle.std.specs.List.{take_while}
use Rattle.dcc_c.specs.Token.{is_word_byte}
use Rattle.dcc_c.specs.Lexing.{is_blank}
use Rattle.dcc_c.specs.Pieces as spec
use Rattle.dcc_lex.specs.declared.cut.Spot.{Spot}
use Rattle.dcc_lex.specs.declared.cut.Spot.TheVariants.{LineStart, InLine, InPragma, InBlanks}
use Rattle.dcc_lex.specs.declared.cut.Cut.{Cut}
use Rattle.dcc_lex.specs.TokenViews.{piece_of}

abbrev pub spot_of : Spot → spec.Spot
spot_of LineStart = spec.line_start
spot_of InLine = spec.in_line
spot_of InPragma = spec.in_pragma
spot_of InBlanks = spec.in_blanks

abbrev pub cut_of : Cut → spec.Cut
cut_of c = spec.cut (map piece_of (option_to_list c.piece)) (spot_of c.spot) c.line c.rest.now

-- the cut of bytes that begin with no letter, digit or `_`
abbrev pub mark_cut : spec.Spot → ℕ → List ℕ → spec.Cut
mark_cut spot line [] = spec.cut [] spot line []
mark_cut spot line (b ∷ bytes) = spec.cut_mark spot line b bytes

-- the cut of bytes that begin with no blank
abbrev pub token_cut : spec.Spot → ℕ → List ℕ → spec.Cut
token_cut spot line [] = spec.cut [] spot line []
token_cut spot line (b ∷ bytes) = spec.cut_token spot line b bytes

-- a run of blanks at once
abbrev pub blank_run : spec.Spot → ℕ → List ℕ → spec.Cut
blank_run spot line bytes =
    let rest = spec.after_while is_blank bytes in
    if not (spec.is_of_pragma spot) then spec.cut [] spec.in_line line rest
    else if spec.is_line_end rest then spec.cut (spec.piece line (Some spec.stray) ∷ []) spec.in_line line rest
    else spec.cut [] spec.in_blanks line rest

-- the number of a pragma, after one space, begins here
abbrev pub has_number : spec.Spot → List ℕ → Bool
has_number spot [] = false
has_number spot (b ∷ bytes) = spec.has_number spot b bytes

-- the cut of bytes that begin with the number of a pragma after one space
abbrev pub number_cut : ℕ → List ℕ → spec.Cut
number_cut line [] = spec.cut [] spec.in_pragma line []
number_cut line (b ∷ bytes) =
    spec.cut (spec.piece line (spec.token_of_word (take_while is_word_byte bytes)) ∷ []) spec.in_pragma line
    (spec.after_while is_word_byte bytes)

-- all the pieces of bytes
unfoldable pub remaining : spec.Spot → ℕ → List ℕ → List spec.Piece
remaining spot line bytes = spec.pieces_from (length bytes) spot line bytes

-- the pieces of the bytes are those of the cut and those after it
unfoldable pub Continues : spec.Spot → ℕ → List ℕ → spec.Cut → Type 0
Continues spot line bytes c = remaining spot line bytes ≡ c.pieces ++ remaining c.spot c.line c.rest
