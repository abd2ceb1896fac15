-- What a reader passes: tokens, each of which the reader took.
use Rattle.std.proofs.Common.{◌≡◌, ℕ, suc, ◌+◌, ◌≤◌, Bool, true, false, ◌&&◌, is_some, if◌then◌else◌, List, [], ◌∷◌, length, drop, map, Option, Some, None, refl, ap, ◌∙◌, arith}
use Rattle.dcc_c.specs.Token.{Token, WordToken, Mark}
use Rattle.dcc_c.specs.Lexing.{Placed, placed}
use Rattle.dcc_c.specs.Kinds.{Kind, Offence, offence}
use Rattle.dcc_c.specs.Pieces.{Piece, piece}
use Rattle.dcc_c.specs.Tree.{Word}
use Rattle.dcc_c.specs.Reading.{Reader, first_token, line_of, next_token, skip, stop_at, stop_kind, fail, is_the_mark, is_the_word, sees_mark, sees_word, take_mark, take_word}
use Rattle.dcc_c.proofs.NameLaws.{same_bytes-equal}

-- the tokens of some pieces, each in its line; a piece without a token is left out
abbrev pub tokens_of : List Piece → List Placed
tokens_of [] = []
tokens_of (p ∷ pieces) = elim p.token [ Some token ↦ placed p.line token ∷ tokens_of pieces | None ↦ tokens_of pieces ]

-- each of the pieces is a token
abbrev pub are_tokens : List Piece → Bool
are_tokens [] = true
are_tokens (p ∷ pieces) = is_some p.token && are_tokens pieces

-- the tokens as pieces
abbrev pub pieces_with : List Placed → List Piece
pieces_with tokens = map (λ p. piece p.line (Some p.token)) tokens

-- The reader came from the first place to the second one, and passed nothing but tokens.
pub record Passed (r following : Reader) : Type 0 where
  pub going : r.stop ≡ None
  pub whole : are_tokens r.left ≡ are_tokens following.left
  pub place : following.at + length following.left ≡ r.at + length r.left
  pub fewer : length following.left ≤ length r.left

-- The reader passed the given token, and no other.
pub record Took (token : Token) (r following : Reader) : Type 0 where
  pub passed : Passed r following
  pub steady : following.depth ≡ r.depth
  pub line : ℕ
  pub line_is : line ≡ line_of r.left
  pub begins : tokens_of r.left ≡ placed line token ∷ tokens_of following.left
  pub one_less : length r.left ≡ suc (length following.left)

pub then_passed : {r between following : Reader} → Passed r between → Passed between following → Passed r following
then_passed first second =
    record { going = first.going; whole = first.whole ∙ second.whole; place = second.place ∙ first.place; fewer = omega (arith, first.fewer, second.fewer) }

pub not_passed : (r : Reader) → r.stop ≡ None → Passed r r
not_passed r going = record { going = going; whole = refl; place = refl; fewer = omega arith }

-- Cases.

pub if-cases : {A : Type 0} (P : A → Type 0) (b : Bool) {x y : A} → (b ≡ true → P x) → (b ≡ false → P y) → P (if b then x else y)
if-cases P true holds fails = holds refl
if-cases P false holds fails = fails refl

pub option-cases : {A : Type 0} (o : Option A) (P : Option A → Type 0) → ((a : A) → o ≡ Some a → P (Some a)) → (o ≡ None → P None) → P o
option-cases (Some a) P some none = some a refl
option-cases None P some none = none refl

-- Stopping.

stopped_so : (stop : Option Offence) (x y : Reader) → x.stop ≡ stop → (o : Offence) → y.stop ≡ Some o → (if is_some stop then x else y).stop ≡ None → ⊥
stopped_so (Some first) x y same o stops none = absurd cc
stopped_so None x y same o stops none = absurd cc

pub stop_at-stops : (kind : Kind) (at : ℕ) (r : Reader) → (stop_at kind at r).stop ≡ None → ⊥
stop_at-stops kind at r none = stopped_so r.stop r (record r { stop = Some (offence kind at) }) refl _ refl none

pub fail-stops : (r : Reader) → (fail r).stop ≡ None → ⊥
fail-stops r none = stop_at-stops (stop_kind r.left) r.at r none

-- One token.

skip-took_at : (left : List Piece) (at : ℕ) (stop : Option Offence) (depth : ℕ) (token : Token) →
    (if is_some stop then None else first_token left) ≡ Some token →
    Took token (record { left = left; at = at; stop = stop; depth = depth }) (record { left = drop 1 left; at = suc at; stop = stop; depth = depth })
skip-took_at left at (Some o) depth token is = absurd cc
skip-took_at [] at None depth token is = absurd cc
skip-took_at (p ∷ pieces) at None depth token is =
    record {
      passed = record { going = refl; whole = rw is; place = omega arith; fewer = omega arith };
      steady = refl;
      line = p.line;
      line_is = refl;
      begins = rw is;
      one_less = refl;
    }

-- the reader passes the token that it sees
pub skip-took : (r : Reader) (token : Token) → next_token r ≡ Some token → Took token r (skip r)
skip-took r token is = skip-took_at r.left r.at r.stop r.depth token is

pub the_mark-is : (bytes : Word) (token : Option Token) → is_the_mark bytes token ≡ true → token ≡ Some (Mark bytes)
the_mark-is bytes (Some (Mark mark)) same = ap (λ m. Some (Mark m)) (same_bytes-equal mark bytes same)
the_mark-is bytes _ same = absurd cc

pub the_word-is : (bytes : Word) (token : Option Token) → is_the_word bytes token ≡ true → token ≡ Some (WordToken bytes)
the_word-is bytes (Some (WordToken word)) same = ap (λ m. Some (WordToken m)) (same_bytes-equal word bytes same)
the_word-is bytes _ same = absurd cc

pub sees_mark-took : (bytes : Word) (r : Reader) → sees_mark bytes r ≡ true → Took (Mark bytes) r (skip r)
sees_mark-took bytes r sees = skip-took r (Mark bytes) (the_mark-is bytes (next_token r) sees)

pub sees_word-took : (bytes : Word) (r : Reader) → sees_word bytes r ≡ true → Took (WordToken bytes) r (skip r)
sees_word-took bytes r sees = skip-took r (WordToken bytes) (the_word-is bytes (next_token r) sees)

pub take_mark-took : (bytes : Word) (r : Reader) → (take_mark bytes r).stop ≡ None → Took (Mark bytes) r (take_mark bytes r)
take_mark-took bytes r =
    if-cases (λ following. following.stop ≡ None → Took (Mark bytes) r following) (sees_mark bytes r)
    (λ sees _. sees_mark-took bytes r sees) (λ _ none. absurd (fail-stops r none))

pub take_word-took : (bytes : Word) (r : Reader) → (take_word bytes r).stop ≡ None → Took (WordToken bytes) r (take_word bytes r)
take_word-took bytes r =
    if-cases (λ following. following.stop ≡ None → Took (WordToken bytes) r following) (sees_word bytes r)
    (λ sees _. sees_word-took bytes r sees) (λ _ none. absurd (fail-stops r none))
