-- The first of some pieces, and which tokens may stand where.
use Rattle.std.proofs.Common.{◌≡◌, ℕ, Bool, true, false, ◌&&◌, List, [], ◌∷◌, drop, Option, Some, None, refl, sym, ap, ◌∙◌}
use Rattle.std.proofs.lemmas.Bool.{and_parts}
use Rattle.dcc_c.specs.Token.{Token, Pragma, version_line}
use Rattle.dcc_c.specs.Lexing.{Placed, placed}
use Rattle.dcc_c.specs.Pieces.{Piece, piece, stray, Spot, line_start, in_line, in_pragma, in_blanks, is_of_pragma, allowed_at}
use Rattle.dcc_c.specs.Reading.{first_token, line_of}
use Rattle.dcc_c.proofs.reading.Passing.{pieces_with}

-- the token is no version line
abbrev pub is_no_version : Token → Bool
is_no_version (Pragma version_line) = false
is_no_version token = true

-- none of the tokens is a version line
abbrev pub no_version : List Placed → Bool
no_version [] = true
no_version (t ∷ tokens) = is_no_version t.token && no_version tokens

-- The pieces of these tokens begin with a piece: the first token and those after it.
pub record IsFirstToken (line : ℕ) (o : Option Token) (others : List Piece) (tokens : List Placed) : Type 0 where
  pub token : Token
  pub later : List Placed
  pub is : o ≡ Some token
  pub after : others ≡ pieces_with later
  pub same : tokens ≡ placed line token ∷ later
  pub allowed : is_no_version token ≡ true
  pub others_allowed : no_version later ≡ true

pub first_of_tokens : (line : ℕ) (o : Option Token) (others : List Piece) (tokens : List Placed) → piece line o ∷ others ≡ pieces_with tokens →
    no_version tokens ≡ true → IsFirstToken line o others tokens
first_of_tokens line o others [] same good = absurd cc
first_of_tokens line o others (t ∷ tokens) same good =
    let (first, later) = and_parts (is_no_version t.token) (no_version tokens) good in
    record {
      token = t.token;
      later = tokens;
      is = ap first_token same;
      after = ap (λ ps. drop 1 ps) same;
      same = ap (λ l. placed l t.token ∷ tokens) (sym (ap line_of same));
      allowed = first;
      others_allowed = later;
    }

-- the token that may stand nowhere is none of the tokens
pub no_stray : (line : ℕ) (others : List Piece) (tokens : List Placed) → piece line (Some stray) ∷ others ≡ pieces_with tokens → no_version tokens ≡ true → ⊥
no_stray line others tokens same good =
    let first = first_of_tokens line (Some stray) others tokens same good in
    no_stray_token first.token first.is first.allowed
  where
    no_stray_token : (token : Token) → Some stray ≡ Some token → is_no_version token ≡ true → ⊥
    no_stray_token token is allowed =
        let same : stray ≡ token = cc in let e : is_no_version stray ≡ true = ap is_no_version same ∙ allowed in absurd cc

-- no piece without a token is among the pieces of tokens
pub no_none : (line : ℕ) (others : List Piece) (tokens : List Placed) → piece line None ∷ others ≡ pieces_with tokens → no_version tokens ≡ true → ⊥
no_none line others tokens same good = let first = first_of_tokens line None others tokens same good in let e : None ≡ Some first.token = first.is in absurd cc

-- in the line of a pragma stands no token but its numbers
pub not_of_pragma : (spot : Spot) (line : ℕ) (o : Option Token) (others : List Piece) (tokens : List Placed) → piece line (allowed_at spot o) ∷ others ≡ pieces_with tokens →
    no_version tokens ≡ true → is_of_pragma spot ≡ false
not_of_pragma line_start line o others tokens same good = refl
not_of_pragma in_line line o others tokens same good = refl
not_of_pragma in_pragma line (Some t) others tokens same good = absurd (no_stray line others tokens same good)
not_of_pragma in_pragma line None others tokens same good = absurd (no_none line others tokens same good)
not_of_pragma in_blanks line (Some t) others tokens same good = absurd (no_stray line others tokens same good)
not_of_pragma in_blanks line None others tokens same good = absurd (no_none line others tokens same good)

pub allowed_free : (spot : Spot) (o : Option Token) → is_of_pragma spot ≡ false → allowed_at spot o ≡ o
allowed_free line_start o free = refl
allowed_free in_line o free = refl
allowed_free in_pragma o free = absurd cc
allowed_free in_blanks o free = absurd cc
