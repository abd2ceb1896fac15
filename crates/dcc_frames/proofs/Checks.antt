-- Instructions that are tried one after another.
use Rattle.std.proofs.Common.{◌≡◌, ◌<◌, ◌≤◌, ℕ, ◌+◌, Bool, true, false, List, take, length, get_or, All, Contains, subst}
use Rattle.std.proofs.lemmas.List.{take_all}
use Rattle.std.proofs.lemmas.List.Elements.{All-more, Contains-get_or}
use Rattle.dcc_prog.specs.declared.refusal.ConstructKind.{ConstructKind}
use Rattle.dcc_prog.specs.declared.refusal.Refusal.TheVariants.{Construct}
use Rattle.dcc_frames.specs.declared.steps.Step.{Step}
use Rattle.dcc_frames.specs.Inside.{IsToldOf, told}

module _ (allowed : Step → Bool) (steps list : List Step) (same : list ≡ steps) (i : ℕ) (d : Step)
    (inside : i < length list) where
  pub allowed-more :
      All (λ (step : Step). allowed step ≡ true) (take i steps) → allowed (get_or list i d) ≡ true
      → All (λ (step : Step). allowed step ≡ true) (take (i + 1) steps)
  allowed-more before here =
      All-more (λ (step : Step). allowed step ≡ true) steps i d (subst (λ l. i < length l) same inside) before
      (subst (λ l. allowed (get_or l i d) ≡ true) same here)

  pub told-at : (kind : Step → ConstructKind) → allowed (get_or list i d) ≡ false
      → IsToldOf steps allowed kind (Construct (kind (get_or list i d)) (get_or list i d).at)
  told-at kind bad = told (subst (λ l. Contains l (get_or list i d)) same (Contains-get_or list i d inside)) bad

pub allowed-all :
    (allowed : Step → Bool) (steps list : List Step) → list ≡ steps → (i : ℕ) → length list ≤ i
    → All (λ (step : Step). allowed step ≡ true) (take i steps) → All (λ (step : Step). allowed step ≡ true) steps
allowed-all allowed steps list same i past all =
    subst (λ l. All (λ (step : Step). allowed step ≡ true) l)
    (take_all i steps (subst (λ l. length l ≤ i) same past)) all
