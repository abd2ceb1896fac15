-- Names that begin with `lib_` are words.
use Rattle.std.proofs.Common.{◌≡◌, ◌<◌, ◌≤◌, ℕ, Bool, true, false, List, [], ◌∷◌, length, take, get_or, refl, sym, ap, ◌∙◌, subst, arith}
use Rattle.std.specs.Prelude.{not, IsTrue, codes}
use Rattle.dcc_c.specs.Token.{is_digit, is_word}
use Rattle.dcc_lex.proofs.Words.{run_is_word}
use Rattle.dcc_sigs.specs.Signature.{IsName}

first-of : (name : List ℕ) → get_or (take 4 name) 0 0 ≡ get_or name 0 0
first-of [] = refl
first-of (b ∷ name) = refl

pub name-is_word : (name : List ℕ) → IsName name → is_word name ≡ true
name-is_word name h =
    let first : get_or name 0 0 ≡ 108 = sym (first-of name) ∙ ap (λ (l : List ℕ). get_or l 0 0) h.begins in
    let some : length name ≡ 0 → ⊥ = λ none. some-of name first none in
    run_is_word name h.letters (ap is_digit first) some h.short
  where
    some-of : (l : List ℕ) → get_or l 0 0 ≡ 108 → length l ≡ 0 → ⊥
    some-of [] e none = omega (arith, e)
    some-of (b ∷ l) e none = omega (arith, none)
