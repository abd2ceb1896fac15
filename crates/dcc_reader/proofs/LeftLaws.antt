-- What is left of lists, one step on.
use Rattle.std.proofs.Common.{◌≡◌, ℕ, ◌+◌, ◌<◌, List, ◌∷◌, ◌++◌, length, drop, get_or, sym, ap, ◌∙◌, append_assoc}
use Rattle.std.proofs.lemmas.List.{at_drop_more}

-- the first of what is left
pub next-left : {X Y : Type 0} (F : List X → Y) (xs : List X) (i : ℕ) (x : X) → i < length xs → x ≡ get_or xs i x →
    F (drop i xs) ≡ F (x ∷ drop (i + 1) xs)
next-left F xs i x within is = at_drop_more F xs i x within ∙ ap (λ y. F (y ∷ drop (i + 1) xs)) (sym is)

-- some of what is left is appended
pub step-listed : {X : Type 0} (old new end xs rest whole : List X) → new ≡ old ++ xs → whole ≡ xs ++ rest → old ++ whole ≡ end →
    new ++ rest ≡ end
step-listed old new end xs rest whole listed parts had =
    ap (λ l. l ++ rest) listed ∙ append_assoc old xs rest ∙ ap (λ l. old ++ l) (sym parts) ∙ had
