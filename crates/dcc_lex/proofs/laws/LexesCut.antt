-- Bytes that are tokens are cut into these.
use Rattle.std.proofs.Common.{◌≡◌, ℕ, Bool, true, false, not, ◌==◌, ◌&&◌, List, [], ◌∷◌, ◌++◌, length, drop, Option, Some, None, refl, sym, ap, ◌∙◌, subst, inl, inr, arith}
use Rattle.std.specs.List.{take_while, list_all}
use Rattle.std.proofs.lemmas.Bool.{and_parts, or_cases, cond-true, cond-false, eqb-true, ne_eqb}
use Rattle.dcc_c.specs.Token.{Token, WordToken, Decimal, Hex, Mark, Pragma, is_mark, is_word_byte, Spells, ends_before}
use Rattle.dcc_c.specs.Lexing.{is_blank}
use Rattle.dcc_c.specs.Pieces.{Piece, piece, after_while, token_of_word, Spot, line_start, in_line, is_of_pragma, Cut, cut, allowed_at, first_mark, cut_mark, cut_token, has_number, first_cut, pieces_from}
use Rattle.dcc_c.proofs.WrittenRows.{other_byte}
use Rattle.dcc_lex.proofs.laws.Runs.{ends_run, no_more_of, run_is, after_run, drop_first}
use Rattle.dcc_lex.proofs.laws.Words.{is_used, word_ends_before, IsFound}
use Rattle.dcc_lex.proofs.laws.Numbers.{spelling_found}
use Rattle.dcc_lex.proofs.laws.Marks.{mark_begins, mark_first}

-- where tokens begin
abbrev pub spot_of : Bool → Spot
spot_of true = line_start
spot_of false = in_line

-- the pieces after a first cut
abbrev pub with_cut : ℕ → Cut → List Piece
with_cut more c = c.pieces ++ pieces_from more c.spot c.line c.rest

-- the first cut of these bytes, if it is no number of a pragma
number_no_first : (fresh : Bool) (b : ℕ) (bytes : List ℕ) → has_number (spot_of fresh) b bytes ≡ false
number_no_first true b bytes = refl
number_no_first false b bytes = refl

free_first : (fresh : Bool) → not (is_of_pragma (spot_of fresh)) ≡ true
free_first true = refl
free_first false = refl

allowed_first : (fresh : Bool) (o : Option Token) → allowed_at (spot_of fresh) o ≡ o
allowed_first true o = refl
allowed_first false o = refl

-- a byte that is no line feed
module _ (fresh : Bool) (line b : ℕ) (bytes : List ℕ) (no_feed : (b == 10) ≡ false) where
  pub blank_first : is_blank b ≡ true → first_cut (spot_of fresh) line b bytes ≡ cut [] in_line line bytes
  blank_first is =
      cond-false _ _ _ no_feed ∙ cond-false _ _ _ (number_no_first fresh b bytes) ∙ cond-true _ _ _ is ∙ cond-true _ _ _ (free_first fresh)

  token_first : is_blank b ≡ false → first_cut (spot_of fresh) line b bytes ≡ cut_token (spot_of fresh) line b bytes
  token_first no_blank =
      cond-false _ _ _ no_feed ∙ cond-false _ _ _ (number_no_first fresh b bytes) ∙ cond-false _ _ _ no_blank

pub blank_no_feed : (b : ℕ) → is_blank b ≡ true → (b == 10) ≡ false
blank_no_feed b is =
    elim (or_cases (b == 32) (b == 9) is) [
      | inl space ↦ ne_eqb b 10 (λ same. omega (arith, same, eqb-true b 32 space))
      | inr tab ↦ ne_eqb b 10 (λ same. omega (arith, same, eqb-true b 9 tab))
    ]

word_no_blank : (b : ℕ) → is_word_byte b ≡ true → is_blank b ≡ false
word_no_blank b is = let space = other_byte 32 b refl is in let tab = other_byte 9 b refl is in rw (space, tab) refl

-- A word or a number.

module _ (fresh : Bool) (line : ℕ) (b : ℕ) (others rest : List ℕ) (read : Token) where
  word_first : IsFound (b ∷ others) read → ends_run is_word_byte rest ≡ true →
      first_cut (spot_of fresh) line b (others ++ rest) ≡ cut (piece line (Some read) ∷ []) in_line line rest
  word_first found ended =
      let here = (and_parts (is_word_byte b) (list_all is_word_byte others) found.all).0 in
      let read_is : allowed_at (spot_of fresh) (token_of_word (take_while is_word_byte (b ∷ (others ++ rest)))) ≡ Some read =
      allowed_first fresh _ ∙ ap token_of_word (run_is is_word_byte (b ∷ others) rest found.all ended) ∙ found.found
      in
      token_first fresh line b (others ++ rest) (other_byte 10 b refl here) (word_no_blank b here) ∙ cond-true _ _ _ here
      ∙ ap (λ o. cut (piece line o ∷ []) in_line line (after_while is_word_byte (b ∷ (others ++ rest)))) read_is
      ∙ ap (λ r. cut (piece line (Some read) ∷ []) in_line line r) (after_run is_word_byte (b ∷ others) rest found.all ended)

-- A mark.

module _ (fresh : Bool) (line : ℕ) (b : ℕ) (others rest : List ℕ) where
  mark_cut_first : (mark : List ℕ) → is_mark mark ≡ true → first_mark b (others ++ rest) ≡ mark →
      cut_mark (spot_of fresh) line b (others ++ rest) ≡ cut (piece line (Some (Mark mark)) ∷ []) in_line line (drop (length mark) (b ∷ (others ++ rest)))
  mark_cut_first mark is first =
      cond-true _ _ _ (ap is_mark first ∙ is) ∙ ap (λ o. cut (piece line o ∷ []) in_line line (drop (length (first_mark b (others ++ rest))) (b ∷ (others ++ rest)))) (allowed_first fresh _)
      ∙ ap (λ m. cut (piece line (Some (Mark m)) ∷ []) in_line line (drop (length m) (b ∷ (others ++ rest)))) first

  mark_first_cut : is_mark (b ∷ others) ≡ true → ends_before (Mark (b ∷ others)) rest ≡ true →
      first_cut (spot_of fresh) line b (others ++ rest) ≡ cut (piece line (Some (Mark (b ∷ others))) ∷ []) in_line line rest
  mark_first_cut is ended =
      let (no_word, others_no) = and_parts (not (is_word_byte b)) (not (is_blank b) && not (b == 10)) (mark_begins b others is) in
      let (no_blank, no_feed) = and_parts (not (is_blank b)) (not (b == 10)) others_no in
      token_first fresh line b (others ++ rest) (no_more_of (λ x. x == 10) b no_feed) (no_more_of is_blank b no_blank)
      ∙ cond-false _ _ _ (no_more_of is_word_byte b no_word)
      ∙ mark_cut_first (b ∷ others) is (mark_first b others rest is ended)
      ∙ ap (λ r. cut (piece line (Some (Mark (b ∷ others))) ∷ []) in_line line r) (drop_first (b ∷ others) rest)

-- the spelling of a token that stands before a rest, in which it does not go on, is the first cut
pub token_first_cut : (fresh : Bool) (line : ℕ) (b : ℕ) (others rest : List ℕ) (read : Token) → Spells (b ∷ others) read → ends_before read rest ≡ true → is_used read ≡ true →
    first_cut (spot_of fresh) line b (others ++ rest) ≡ cut (piece line (Some read) ∷ []) in_line line rest
token_first_cut fresh line b others rest (WordToken word) spells ended used =
    word_first fresh line b others rest (WordToken word) (spelling_found (b ∷ others) (WordToken word) spells refl used) (sym (word_ends_before (WordToken word) rest refl) ∙ ended)
token_first_cut fresh line b others rest (Decimal n suffix) spells ended used =
    word_first fresh line b others rest (Decimal n suffix) (spelling_found (b ∷ others) (Decimal n suffix) spells refl used) (sym (word_ends_before (Decimal n suffix) rest refl) ∙ ended)
token_first_cut fresh line b others rest (Hex n suffix) spells ended used =
    word_first fresh line b others rest (Hex n suffix) (spelling_found (b ∷ others) (Hex n suffix) spells refl used) (sym (word_ends_before (Hex n suffix) rest refl) ∙ ended)
token_first_cut fresh line b others rest (Mark mark) (same, is) ended used =
    subst (λ m. first_cut (spot_of fresh) line b (others ++ rest) ≡ cut (piece line (Some (Mark m)) ∷ []) in_line line rest) same
    (mark_first_cut fresh line b others rest (ap is_mark same ∙ is) (subst (λ m. ends_before (Mark m) rest ≡ true) (sym same) ended))
token_first_cut fresh line b others rest (Pragma head) spells ended used = absurd spells

-- no token has an empty spelling
pub spelled_some : (read : Token) → Spells [] read → is_used read ≡ true → ⊥
spelled_some (WordToken word) spells used = absurd_found (WordToken word) (spelling_found [] (WordToken word) spells refl used)
  where
    absurd_found : (read : Token) → IsFound [] read → ⊥
    absurd_found read found = let e : None ≡ Some read = found.found in absurd cc
spelled_some (Decimal n suffix) spells used = let e : None ≡ Some (Decimal n suffix) = (spelling_found [] (Decimal n suffix) spells refl used).found in absurd cc
spelled_some (Hex n suffix) spells used = let e : None ≡ Some (Hex n suffix) = (spelling_found [] (Hex n suffix) spells refl used).found in absurd cc
spelled_some (Mark mark) (same, is) used = let e : is_mark [] ≡ true = ap is_mark same ∙ is in absurd cc
spelled_some (Pragma head) spells used = spells
