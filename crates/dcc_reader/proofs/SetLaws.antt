-- Sets and lists of words.
use Rattle.std.proofs.Common.{◌≡◌, ℕ, Bool, true, false, cond, List, [], ◌∷◌, ◌++◌, refl, sym, ◌∙◌, subst}
use Rattle.std.specs.Prelude.{◌||◌}
use Rattle.std.specs.BTreeSet as set
use Rattle.std.specs.Str.{bytes_eq}
use Rattle.std.specs.Cmp.Lexicographic.{slice_cmp}
use Rattle.std.specs.Ordering.{nat_cmp, is_eq}
use Rattle.std.proofs.lemmas.Map.Text.{is_eq-slice_cmp}
use denote.Ref.{Bor}
use Rattle.dcc_c.specs.Token.{same_bytes}
use Rattle.dcc_c.specs.Tree.{Word}
use Rattle.dcc_c.specs.Grammar.{is_among}
use Rattle.dcc_c.proofs.NameLaws.{same_bytes-pointwise}
use Rattle.dcc_c.proofs.refusals.ListRules.{bytes-symmetric}
use Rattle.dcc_reader.specs.WordViews.{holds}

pub same_bytes-bytes_eq : (xs ys : List ℕ) → same_bytes xs ys ≡ bytes_eq xs ys
same_bytes-bytes_eq xs ys = same_bytes-pointwise xs ys

pub among-append : (xs ys : List Word) (word : Word) → is_among (xs ++ ys) word ≡ is_among xs word || is_among ys word
among-append [] ys word = refl
among-append (x ∷ xs) ys word = either (same_bytes word x) _ _ _ (among-append xs ys word) where
  either : (b p q r : Bool) → p ≡ q || r → b || p ≡ (b || q) || r
  either true p q r e = refl
  either false p q r e = e

-- a set with one more word
pub set-inserted : (s n : set.BTreeSet (Bor (List ℕ))) (k : Bor (List ℕ)) → set.Updates (λ x y. slice_cmp nat_cmp x.now y.now) s n k true →
    (word : Word) → holds n word ≡ same_bytes word k.now || holds s word
set-inserted s n k h word =
    h.0 (record { ref_ptr = (0, 0); now = word })
    ∙ either (is_eq (slice_cmp nat_cmp k.now word)) (same_bytes word k.now) (holds s word)
    (is_eq-slice_cmp k.now word ∙ sym (same_bytes-bytes_eq k.now word) ∙ bytes-symmetric k.now word) where
      either : (b c r : Bool) → b ≡ c → cond b true r ≡ c || r
      either true c r e = subst (λ d. true ≡ d || r) e refl
      either false c r e = subst (λ d. r ≡ d || r) e refl
