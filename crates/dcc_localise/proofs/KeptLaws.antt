-- What stays of a list, from its end on.
use Rattle.std.proofs.Common.{◌≡◌, ℕ, suc, Bool, true, false, cond, List, [], ◌∷◌, ◌++◌, length, reverse, refl, sym, ap, ◌∙◌, append_assoc, append-nil}
use Rattle.std.proofs.lemmas.List.{reverse-append}
use Rattle.dcc_ir.specs.Trimmed.{kept}

module _ {A : Type 0} where
  -- the last element stays where its place does
  kept-last : (stays : ℕ → Bool) (xs : List A) (x : A) → kept stays (xs ++ x ∷ []) ≡ kept stays xs ++ cond (stays (length xs)) (x ∷ []) []
  kept-last stays [] x = refl
  kept-last stays (y ∷ ys) x = go (stays 0) (kept-last (λ k. stays (suc k)) ys x)
    where
      go : (b : Bool) → kept (λ k. stays (suc k)) (ys ++ x ∷ []) ≡ kept (λ k. stays (suc k)) ys ++ cond (stays (suc (length ys))) (x ∷ []) []
          → cond b (y ∷ kept (λ k. stays (suc k)) (ys ++ x ∷ [])) (kept (λ k. stays (suc k)) (ys ++ x ∷ []))
          ≡ cond b (y ∷ kept (λ k. stays (suc k)) ys) (kept (λ k. stays (suc k)) ys) ++ cond (stays (suc (length ys))) (x ∷ []) []
      go true later = ap (λ l. y ∷ l) later
      go false later = later

  module _ (stays : ℕ → Bool) (all rest fewer left : List A) (x : A) (is : rest ≡ fewer ++ x ∷ []) (so_far : kept stays rest ++ reverse left ≡ kept stays all) where
    -- the last one stays
    pub last_stays : stays (length fewer) ≡ true → (more : List A) → more ≡ left ++ x ∷ [] → kept stays fewer ++ reverse more ≡ kept stays all
    last_stays on more put =
        ap (λ l. kept stays fewer ++ l) (ap reverse put ∙ reverse-append left (x ∷ []))
        ∙ sym (append_assoc (kept stays fewer) (x ∷ []) (reverse left))
        ∙ sym (ap (λ l. l ++ reverse left) (ap (kept stays) is ∙ kept-last stays fewer x ∙ ap (λ b. kept stays fewer ++ cond b (x ∷ []) []) on))
        ∙ so_far

    -- the last one goes
    pub last_goes : stays (length fewer) ≡ false → kept stays fewer ++ reverse left ≡ kept stays all
    last_goes off =
        ap (λ l. l ++ reverse left) (sym (ap (kept stays) is ∙ kept-last stays fewer x ∙ ap (λ b. kept stays fewer ++ cond b (x ∷ []) []) off ∙ append-nil (kept stays fewer)))
        ∙ so_far
