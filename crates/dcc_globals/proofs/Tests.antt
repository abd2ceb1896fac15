-- Tests of pieces, and tables of them.
use Rattle.std.proofs.Common.{◌≡◌, ◌≢◌, ℕ, zero, suc, ◌+◌, ◌<◌, ◌≤◌, ◌==◌, Bool, true, false, inl, inr, List, [], ◌∷◌, ◌++◌, length, take, get_or, slice_set, slice_index_or, replicate, refl, sym, ap, ap₂, ◌∙◌, subst, arith}
use Rattle.std.specs.Prelude.{◌&&◌, ◌||◌, not, nat_le, nat_lt}
use Rattle.std.specs.List.{list_any}
use Rattle.std.proofs.lemmas.Bool.Decides.{nat_tests}
use Rattle.std.proofs.lemmas.List.{get_or-set_same, get_or-set_other, get_or_read, take_all}
use Rattle.std.proofs.lemmas.List.Folds.{list_any_more}
use Rattle.dcc_globals.specs.declared.pieces.Piece.{Piece}
use Rattle.dcc_globals.specs.declared.pieces.Piece.TheVariants.{OneByte, OneWord, Broken}
use Rattle.dcc_globals.specs.Pieces.{spoils}
use Rattle.dcc_globals.specs.Marks.{is_small, breaks, IsTable}

pub or_true : (a : Bool) → a || true ≡ true
or_true true = refl
or_true false = refl

pub or_false : (a : Bool) → a || false ≡ a
or_false true = refl
or_false false = refl

pub or_assoc : (a b c : Bool) → (a || b) || c ≡ a || (b || c)
or_assoc true b c = refl
or_assoc false b c = refl

or_swap : (a b c d : Bool) → (a || b) || (c || d) ≡ (a || c) || (b || d)
or_swap true b c d = refl
or_swap false true true d = refl
or_swap false true false d = refl
or_swap false false c d = refl

and_true : (a : Bool) → a && true ≡ a
and_true true = refl
and_true false = refl

and_false : (a : Bool) → a && false ≡ false
and_false true = refl
and_false false = refl

eq_of_test : (a b : ℕ) → a == b ≡ true → a ≡ b
eq_of_test a b h = grind (arith, nat_tests)

apart_of_test : (a b : ℕ) → a == b ≡ false → b ≢ a
apart_of_test a b h e = grind (arith, nat_tests)

-- one mark more
pub set_marked : (marks : List Bool) (i k : ℕ) → i < length marks
    → slice_index_or (slice_set marks i true) k false ≡ slice_index_or marks k false || (i == k)
set_marked marks i k l =
    let P : Bool → Type 0 = λ t. (i == k) ≡ t → slice_index_or (slice_set marks i true) k false ≡ slice_index_or marks k false || t in
    let cases : (t : Bool) → P t = λ t. elim t as P [
      | true ↦ λ e.
          let same : i ≡ k = eq_of_test i k e in
          subst (λ j. slice_index_or (slice_set marks i true) j false ≡ slice_index_or marks j false || true) same
          (get_or-set_same marks i true false l ∙ sym (or_true (slice_index_or marks i false)))
      | false ↦ λ e. get_or-set_other marks i k true false (apart_of_test i k e) ∙ sym (or_false (slice_index_or marks k false))
    ] in
    cases (i == k) refl

-- no mark is there at first
pub unmarked_at : (n k : ℕ) → slice_index_or (replicate n false) k false ≡ false
unmarked_at zero k = refl
unmarked_at (suc n) zero = refl
unmarked_at (suc n) (suc k) = unmarked_at n k

-- Tests of lists.

pub any-agree : {X : Type 0} (p q : X → Bool) → ((x : X) → p x ≡ q x) → (xs : List X) → list_any p xs ≡ list_any q xs
any-agree p q same [] = refl
any-agree p q same (x ∷ xs) = ap₂ (λ a b. a || b) (same x) (any-agree p q same xs)

pub any-or : {X : Type 0} (p q : X → Bool) (xs : List X) → list_any (λ x. p x || q x) xs ≡ list_any p xs || list_any q xs
any-or p q [] = refl
any-or p q (x ∷ xs) =
    ap (λ b. (p x || q x) || b) (any-or p q xs) ∙ or_swap (p x) (q x) (list_any p xs) (list_any q xs)

-- Pieces that spoil a scalar.

one-place : (at first : ℕ) → nat_le at first && nat_lt first (at + 1) ≡ (first == at)
one-place at first = grind (arith, nat_tests)

two-places : (at first : ℕ) → nat_le at first && nat_lt first (at + 2) ≡ (first == at) || (first == (at + 1))
two-places at first = grind (arith, nat_tests)

spoils-byte : (at : ℕ) (piece : Piece) → spoils at 1 piece ≡ breaks at piece
spoils-byte at (OneByte first) = and_false (nat_le at first && nat_lt first (at + 1))
spoils-byte at (OneWord first) = and_false (nat_le at first && nat_lt first (at + 1))
spoils-byte at (Broken first) = and_true (nat_le at first && nat_lt first (at + 1)) ∙ one-place at first

spoils-word : (at : ℕ) (piece : Piece) → spoils at 2 piece ≡ is_small at piece || is_small (at + 1) piece
spoils-word at (OneByte first) = and_true (nat_le at first && nat_lt first (at + 2)) ∙ two-places at first
spoils-word at (OneWord first) = and_false (nat_le at first && nat_lt first (at + 2))
spoils-word at (Broken first) = and_true (nat_le at first && nat_lt first (at + 2)) ∙ two-places at first

-- a byte is spoilt by broken pieces, and a word by single bytes
pub byte-spoilt : (at : ℕ) (ps : List Piece) → list_any (spoils at 1) ps ≡ list_any (breaks at) ps
byte-spoilt at ps = any-agree (spoils at 1) (breaks at) (spoils-byte at) ps

pub word-spoilt : (at : ℕ) (ps : List Piece)
    → list_any (spoils at 2) ps ≡ list_any (is_small at) ps || list_any (is_small (at + 1)) ps
word-spoilt at ps =
    any-agree (spoils at 2) (λ p. is_small at p || is_small (at + 1) p) (spoils-word at) ps
    ∙ any-or (is_small at) (is_small (at + 1)) ps

-- what a table says of an offset
pub told : {X : Type 0} (test : ℕ → X → Bool) (xs : List X) (table : List Bool) (at : ℕ) (r : Bool) → IsTable test xs table
    → at < 65537 → r ≡ slice_index_or table at r → r ≡ list_any (test at) xs
told test xs table at r is inside read =
    let within : at < length table = omega (arith, is.whole, inside) in
    get_or_read table at r within read false ∙ is.each at

-- A table, one thing after another.

pub table_more : {X : Type 0} (test : ℕ → X → Bool) (xs : List X) (i : ℕ) (d : X) (table old new : List Bool) → IsTable test (take i xs) table
    → i < length xs → old ≡ table → length new ≡ length old → ((k : ℕ) → slice_index_or new k false ≡ slice_index_or old k false || test k (get_or xs i d))
    → IsTable test (take (i + 1) xs) new
table_more test xs i d table old new so_far inside same size marked = record {
  whole = size ∙ ap length same ∙ so_far.whole;
  each = λ k. marked k ∙ ap (λ b. b || test k (get_or xs i d)) (ap (λ t. slice_index_or t k false) same ∙ so_far.each k)
      ∙ sym (list_any_more (test k) xs i d inside);
}

pub table_all : {X : Type 0} (test : ℕ → X → Bool) (xs : List X) (i : ℕ) (table : List Bool) → IsTable test (take i xs) table
    → length xs ≤ i → IsTable test xs table
table_all test xs i table so_far past = subst (λ ys. IsTable test ys table) (take_all i xs past) so_far

pub table_none : {X : Type 0} (test : ℕ → X → Bool) (xs : List X) (table : List Bool) → length table ≡ 65537
    → ((k : ℕ) → slice_index_or table k false ≡ false) → IsTable test (take 0 xs) table
table_none test xs table whole none = record { whole = whole; each = none }
