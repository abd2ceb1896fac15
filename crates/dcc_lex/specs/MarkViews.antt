-- What a mark that was found says.
use Rattle.std.specs.Prelude.{◌≡◌, ℕ, true, false, List, [], ◌∷◌, length, drop, Option, MatchOption}
use Rattle.dcc_c.specs.Token.{is_mark}
use Rattle.dcc_c.specs.Pieces as spec
use Rattle.dcc_lex.specs.declared.token.Mark.{Mark}
use Rattle.dcc_lex.specs.declared.mark.FoundMark.{FoundMark}
use Rattle.dcc_lex.specs.TokenViews.{mark_of}

-- the mark that the bytes are, if they are one
abbrev pub IsMarkOf : Option Mark → List ℕ → Type 0
IsMarkOf found bytes =
    MatchOption found (is_mark bytes ≡ false) (λ mark. (is_mark bytes ≡ true) × (mark_of mark ≡ bytes))

-- the first two bytes, if they are a mark, or the first one
abbrev pub first_mark : List ℕ → List ℕ
first_mark [] = []
first_mark (b ∷ bytes) = spec.first_mark b bytes

-- the mark that bytes begin with, and what is after it, if they begin with one
abbrev pub IsFirstMark : Option FoundMark → List ℕ → Type 0
IsFirstMark found bytes =
    MatchOption found (is_mark (first_mark bytes) ≡ false)
    (λ f.
    (is_mark (first_mark bytes) ≡ true) × (mark_of f.mark ≡ first_mark bytes)
    × (f.rest.now ≡ drop (length (first_mark bytes)) bytes))
