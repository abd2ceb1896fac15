-- Where the places or the values have run out, nothing more goes anywhere.
use Rattle.std.proofs.Common.{◌≡◌, ℕ, ◌≤◌, min, List, [], ◌∷◌, length, drop, refl, ap, ◌∙◌, inl, inr, arith, drop_of_length-le}
use Rattle.std.proofs.lemmas.Bool.{cases_lt}
use Rattle.dcc_ir.specs.declared.syntax.Loc.{Loc}
use Rattle.dcc_ir.specs.declared.syntax.Param.{Param}
use Rattle.dcc_ir.specs.Run.{State, passing, giving}

giving_nothing : (results : List Loc) (s : State) → giving results [] s ≡ s
giving_nothing [] s = refl
giving_nothing (location ∷ results) s = refl

pub passing_nothing : (j : ℕ) (params : List Param) (s : State) → passing j params [] s ≡ s
passing_nothing j [] s = refl
passing_nothing j (param ∷ params) s = refl

pub giving_done : (results : List Loc) (values : List ℕ) (k : ℕ) (s : State) → min (length results) (length values) ≤ k → giving (drop k results) (drop k values) s ≡ s
giving_done results values k s far = elim (cases_lt k (length results)) [
  | inl more ↦
      let e : drop k values ≡ [] = drop_of_length-le values (omega arith) in
      ap (λ v. giving (drop k results) v s) e ∙ giving_nothing (drop k results) s
  | inr less ↦
      let e : drop k results ≡ [] = drop_of_length-le results less in
      ap (λ r. giving r (drop k values) s) e
]

pub passing_done : (params : List Param) (arguments : List ℕ) (j : ℕ) (s : State) → min (length params) (length arguments) ≤ j → passing j (drop j params) (drop j arguments) s ≡ s
passing_done params arguments j s far = elim (cases_lt j (length params)) [
  | inl more ↦
      let e : drop j arguments ≡ [] = drop_of_length-le arguments (omega arith) in
      ap (λ v. passing j (drop j params) v s) e ∙ passing_nothing j (drop j params) s
  | inr less ↦
      let e : drop j params ≡ [] = drop_of_length-le params less in
      ap (λ r. passing j r (drop j arguments) s) e
]
