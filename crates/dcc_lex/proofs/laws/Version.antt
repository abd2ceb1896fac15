-- A text is its version line and pieces, and the tokens of the text are that of the version line and those of the pieces.
use Rattle.std.proofs.Common.{◌≡◌, ◌≤◌, ◌<◌, ℕ, suc, Bool, true, false, List, [], ◌∷◌, ◌++◌, map, length, Some, None, refl, sym, ap, ◌∙◌, subst, arith}
use Rattle.std.specs.Prelude.{if◌then◌else◌}
use Rattle.std.proofs.lemmas.Bool.{and_parts, and_from, cond-true}
use Rattle.dcc_c.specs.Token.{Token, WordToken, Decimal, Hex, Mark, Pragma, plain_number, Head, version_line, stack_line, place_line, depth_line, head_bytes, Spells}
use Rattle.dcc_c.specs.Lexing.{Placed, placed, pragma_bytes, are_pragma_numbers, Lexes, ends, blank, feed, token, pragma}
use Rattle.dcc_c.specs.Pieces.{after, is_line_end, in_line, pieces_of, after_version}
use Rattle.dcc_c.proofs.reading.Passing.{if-cases, option-cases, pieces_with}
use Rattle.dcc_c.proofs.reading.Statements.{with_version}
use Rattle.dcc_lex.proofs.laws.Runs.{after-is}
use Rattle.dcc_lex.proofs.laws.Words.{is_used}
use Rattle.dcc_lex.proofs.laws.Used.{all_used}
use Rattle.dcc_lex.proofs.laws.UsedDeclarations.{after_first}
use Rattle.dcc_lex.proofs.laws.Pieces.{is_no_version, no_version}
use Rattle.dcc_lex.proofs.laws.CutsLex.{line_ends, cuts_lex}
use Rattle.dcc_lex.proofs.laws.TokensCut.{line_ended, lexes_cut}

-- The version line.

-- the text is the version line, and a rest that begins with the end of that line
pub record IsVersioned (text rest : List ℕ) : Type 0 where
  pub same : text ≡ head_bytes version_line ++ rest
  pub ended : is_line_end rest ≡ true

pub versioned : (text rest : List ℕ) → after_version text ≡ Some rest → IsVersioned text rest
versioned text rest =
    option-cases (after (head_bytes version_line) text) (λ o. elim o [ Some others ↦ if is_line_end others then Some others else None | None ↦ None ] ≡ Some rest → IsVersioned text rest)
    (λ others begins. if-cases (λ o. o ≡ Some rest → IsVersioned text rest) (is_line_end others)
    (λ ended is. let same : others ≡ rest = cc in subst (IsVersioned text) same (record { same = after-is (head_bytes version_line) text others begins; ended = ended }))
    (λ _ is. absurd cc))
    (λ _ is. absurd cc)

pub version_after : (text rest : List ℕ) → IsVersioned text rest → after_version text ≡ Some rest
version_after text rest is = ap after_version is.same ∙ cond-true _ _ _ is.ended

-- From pieces to tokens.

-- a text whose pieces after the version line are these tokens is the version line and these
pub cut-lexes : (text rest : List ℕ) (tokens : List Placed) → after_version text ≡ Some rest → pieces_of rest ≡ pieces_with tokens → no_version tokens ≡ true →
    Lexes true 1 text (with_version tokens)
cut-lexes text rest tokens begins same good =
    let is = versioned text rest begins in
    pragma version_line [] rest refl (line_ends version_line rest is.ended) is.same (cuts_lex (length rest) in_line 1 rest tokens (omega arith) refl same good) refl

-- From tokens to pieces.

-- the first of the tokens stands in this line or after it
abbrev IsFrom : ℕ → List Placed → Type 0
IsFrom line [] = Unit {0}
IsFrom line (t ∷ tokens) = line ≤ t.line

from_before : (line : ℕ) (tokens : List Placed) → IsFrom (suc line) tokens → IsFrom line tokens
from_before line [] is = tt
from_before line (t ∷ tokens) is = omega (arith, is)

lexes_from : {fresh : Bool} {line : ℕ} {bytes : List ℕ} {tokens : List Placed} → Lexes fresh line bytes tokens → IsFrom line tokens
lexes_from ends = tt
lexes_from (blank is later) = lexes_from later
lexes_from (feed {line} {tokens} later) = from_before line tokens (lexes_from later)
lexes_from (token {line} read spelling rest spells ended same later) = omega arith
lexes_from (pragma {line} head numbers rest good ended same later all_is) =
    let here : line ≤ line = omega arith in subst (IsFrom line) (sym all_is) here

abbrev is_pragma : Token → Bool
is_pragma (Pragma head) = true
is_pragma other = false

-- the first of the tokens is no pragma of this line
abbrev IsFree : ℕ → List Placed → Type 0
IsFree line [] = Unit {0}
IsFree line (t ∷ tokens) = is_pragma t.token ≡ true → line < t.line

free_from : (line : ℕ) (tokens : List Placed) → IsFrom (suc line) tokens → IsFree line tokens
free_from line [] is = tt
free_from line (t ∷ tokens) is = λ _. omega (arith, is)

spelled_free : (spelling : List ℕ) (read : Token) → Spells spelling read → is_pragma read ≡ true → ⊥
spelled_free spelling (WordToken word) spells is = absurd cc
spelled_free spelling (Decimal n suffix) spells is = absurd cc
spelled_free spelling (Hex n suffix) spells is = absurd cc
spelled_free spelling (Mark mark) spells is = absurd cc
spelled_free spelling (Pragma head) spells is = spells

lexes_free : {fresh : Bool} {line : ℕ} {bytes : List ℕ} {tokens : List Placed} → Lexes fresh line bytes tokens → fresh ≡ false → IsFree line tokens
lexes_free ends inside = tt
lexes_free (blank is later) inside = lexes_free later refl
lexes_free (feed {line} {tokens} later) inside = free_from line tokens (lexes_from later)
lexes_free (token read spelling rest spells ended same later) inside = λ is. absurd (spelled_free spelling read spells is)
lexes_free (pragma head numbers rest good ended same later all_is) inside = absurd cc

abbrev first_of : List Placed → Token
first_of [] = Mark []
first_of (t ∷ tokens) = t.token

-- a pragma that is a version line has no numbers
no_numbers : (head : Head) (numbers : List ℕ) → Pragma head ≡ Pragma version_line → are_pragma_numbers head numbers ≡ true → (head ≡ version_line) × (numbers ≡ [])
no_numbers version_line [] is good = (refl, refl)
no_numbers version_line (n ∷ numbers) is good = absurd cc
no_numbers stack_line numbers is good = absurd cc
no_numbers place_line numbers is good = absurd cc
no_numbers depth_line numbers is good = absurd cc

-- The bytes are the version line and others, which are these tokens.
record BeginsVersioned (line : ℕ) (bytes : List ℕ) (tokens : List Placed) : Type 0 where
  rest : List ℕ
  is : IsVersioned bytes rest
  lexed : Lexes false line rest tokens

version_first : {fresh : Bool} {line : ℕ} {bytes : List ℕ} {all : List Placed} → Lexes fresh line bytes all →
    (tokens : List Placed) → all ≡ placed line (Pragma version_line) ∷ tokens → BeginsVersioned line bytes tokens
version_first ends tokens is = absurd cc
version_first (blank {line} {tokens = all} blank_is later) tokens is =
    let free : IsFree line (placed line (Pragma version_line) ∷ tokens) = subst (IsFree line) is (lexes_free later refl) in
    absurd (omega (arith, free refl))
version_first (feed {line} {tokens = all} later) tokens is =
    let from : IsFrom (suc line) (placed line (Pragma version_line) ∷ tokens) = subst (IsFrom (suc line)) is (lexes_from later) in
    absurd (omega (arith, from))
version_first (token read spelling rest spells ended same later) tokens is =
    absurd (spelled_free spelling read spells (ap (λ ts. is_pragma (first_of ts)) is))
version_first (pragma {line} {bytes} {tokens = later_tokens} {all} head numbers rest good ended same later all_is) tokens is =
    let both = sym all_is ∙ is in
    let (head_is, none) = no_numbers head numbers (ap first_of both) good in
    let later_is : later_tokens ≡ tokens =
    sym (ap (λ ns. map (placed line) (map (λ n. Decimal n plain_number) ns) ++ later_tokens) none) ∙ ap after_first both
    in
    record {
      rest = rest;
      is = record {
        same = same ∙ ap (λ ns. pragma_bytes head ns ++ rest) none ∙ ap (λ h. pragma_bytes h [] ++ rest) head_is;
        ended = line_ended head rest ended;
      };
      lexed = subst (Lexes false line rest) later_is later;
    }

-- The pieces after the version line of a text are these tokens.
pub record IsCutTo (text : List ℕ) (tokens : List Placed) : Type 0 where
  pub rest : List ℕ
  pub begins : after_version text ≡ Some rest
  pub same : pieces_of rest ≡ pieces_with tokens

-- a text that is the version line and these tokens, which may stand after it, is cut into them
pub lexes-cut : (text : List ℕ) (tokens : List Placed) → Lexes true 1 text (with_version tokens) → all_used tokens ≡ true → IsCutTo text tokens
lexes-cut text tokens lexed used =
    let first = version_first lexed tokens refl in
    record {
      rest = first.rest;
      begins = version_after text first.rest first.is;
      same = lexes_cut first.lexed used (length first.rest) (omega arith);
    }

-- tokens that may stand after the version line are no version lines
used_no_version-token : (t : Token) → is_used t ≡ true → is_no_version t ≡ true
used_no_version-token (WordToken word) used = refl
used_no_version-token (Decimal n suffix) used = refl
used_no_version-token (Hex n suffix) used = refl
used_no_version-token (Mark mark) used = refl
used_no_version-token (Pragma version_line) used = absurd cc
used_no_version-token (Pragma stack_line) used = refl
used_no_version-token (Pragma place_line) used = refl
used_no_version-token (Pragma depth_line) used = refl

pub used_no_version : (tokens : List Placed) → all_used tokens ≡ true → no_version tokens ≡ true
used_no_version [] used = refl
used_no_version (t ∷ tokens) used =
    let (here, others) = and_parts (is_used t.token) (all_used tokens) used in
    and_from _ _ (used_no_version-token t.token here) (used_no_version tokens others)
