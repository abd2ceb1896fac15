-- What global variables hold at first, read one byte after another.
use Rattle.std.proofs.Common.{◌≡◌, ℕ, zero, suc, ◌+◌, ◌*◌, ◌<◌, ◌≤◌, ◌==◌, Bool, true, false, List, [], ◌∷◌, ◌++◌, length, take, get_or, refl, sym, ap, ◌∙◌, subst, arith}
use Rattle.std.specs.Prelude.{◌&&◌, if◌then◌else◌}
use Rattle.std.proofs.lemmas.Bool.{eqb-true, eqb-false, cases_Bool, ne_eqb}
use Rattle.std.proofs.lemmas.Bool.Decides.{nat_tests}
use Rattle.std.proofs.lemmas.List.{take_more, take_all, length-take-le}
use Rattle.dcc_globals.specs.Globals.{significant}

-- the count with one byte before
abbrev with-byte : ℕ → ℕ → ℕ
with-byte count byte = if (count == 0) && (byte == 0) then 0 else count + 1

pub significant-le : (bytes : List ℕ) → significant bytes ≤ length bytes
significant-le [] = omega arith
significant-le (b ∷ bytes) = by ((significant bytes == 0) && (b == 0)) (significant-le bytes)
  where
    by : (t : Bool) → significant bytes ≤ length bytes → (if t then 0 else significant bytes + 1) ≤ suc (length bytes)
    by true h = omega arith
    by false h = omega (arith, h)

-- one byte more at the end
pub significant-zero : (bytes : List ℕ) → significant (bytes ++ 0 ∷ []) ≡ significant bytes
significant-zero [] = refl
significant-zero (b ∷ bytes) = ap (λ n. with-byte n b) (significant-zero bytes)

some-before : (n b : ℕ) → 0 < n → with-byte n b ≡ n + 1
some-before n b some =
    ap (λ t. if t && (b == 0) then 0 else n + 1) (ne_eqb n 0 (λ e. absurd (omega (arith, e, some))))

pub significant-some : (bytes : List ℕ) (byte : ℕ) → (byte ≡ 0 → ⊥) → significant (bytes ++ byte ∷ []) ≡ length bytes + 1
significant-some [] byte some = ap (λ t. if t then 0 else 0 + 1) (ne_eqb byte 0 some)
significant-some (b ∷ bytes) byte some =
    ap (λ n. with-byte n b) (significant-some bytes byte some)
    ∙ some-before (length bytes + 1) b (omega arith) ∙ omega arith

significant-next : (bytes : List ℕ) (byte : ℕ) → significant (bytes ++ byte ∷ []) ≡ (if byte == 0 then significant bytes else length bytes + 1)
significant-next bytes byte = by (byte == 0) refl
  where
    by : (t : Bool) → (byte == 0) ≡ t → significant (bytes ++ byte ∷ []) ≡ (if t then significant bytes else length bytes + 1)
    by true is = ap (λ b. significant (bytes ++ b ∷ [])) (eqb-true byte 0 is) ∙ significant-zero bytes
    by false is = significant-some bytes byte (eqb-false byte 0 is)

-- the count of the first bytes with the next one
pub significant-more : (bytes : List ℕ) (place count : ℕ) → place < length bytes → count ≡ significant (take place bytes)
    → (if get_or bytes place 0 == 0 then count else place + 1) ≡ significant (take (place + 1) bytes)
significant-more bytes place count inside is =
    ap (λ n. if get_or bytes place 0 == 0 then n else place + 1) is
    ∙ ap (λ n. if get_or bytes place 0 == 0 then significant (take place bytes) else n + 1) (sym (length-take-le place bytes (omega (arith, inside))))
    ∙ sym (significant-next (take place bytes) (get_or bytes place 0))
    ∙ ap significant (sym (take_more bytes place 0 inside))

pub significant-all : (bytes : List ℕ) (place : ℕ) → length bytes ≤ place → significant (take place bytes) ≡ significant bytes
significant-all bytes place past = ap significant (take_all place bytes past)

pub counted-within : (after count place byte : ℕ) → after ≡ (if byte == 0 then count else place + 1) → count ≤ place → after ≤ place + 1
counted-within after count place byte is small = by (byte == 0) is
  where
    by : (t : Bool) → after ≡ (if t then count else place + 1) → after ≤ place + 1
    by true e = omega (arith, e, small)
    by false e = omega (arith, e)
