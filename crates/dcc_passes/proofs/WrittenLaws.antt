-- Values that go to other locations, where those that matter stand for the ones that they went to.
use Rattle.std.proofs.Common.{◌≡◌, ℕ, ◌+◌, Bool, true, false, List, [], ◌∷◌, length, refl, sym, ap, ◌∙◌, subst, true≢false, map, Contains}
use Rattle.std.specs.Prelude.{if◌then◌else◌, ◌/◌, ◌%◌}
use Rattle.std.proofs.lemmas.List.Elements.{Contains-append_left, Contains-append_right}
use Rattle.dcc_ir.specs.declared.syntax.Loc.{Loc}
use Rattle.dcc_ir.specs.declared.syntax.Put.{Put}
use Rattle.dcc_ir.specs.declared.syntax.Put.TheVariants.{Memory, One, Two}
use Rattle.dcc_ir.specs.declared.syntax.Param.{Param}
use Rattle.dcc_ir.specs.Location.{same_location, Values, with_value}
use Rattle.dcc_ir.specs.Joinable.{places_of}
use Rattle.dcc_ir.specs.Run.{State, putting, passing}
use Rattle.dcc_ir.specs.Passes.{with_values, FitIn}
use Rattle.dcc_ir.proofs.LocationLaws.{location_same, location_itself, Contains-here, Contains-later, Contains-none, Contains-cases}
use Rattle.dcc_passes.specs.Renaming.{renamed_put, renamed_param, param_places}
use Rattle.dcc_passes.specs.Renamed.{AreWrittenAs}

-- The memory after arguments are taken.

module _ (start : Loc → Loc) where
  pub taken-outside : (j : ℕ) (params : List Param) (a : List ℕ) (s t : State) → t.memory ≡ s.memory → t.running.base ≡ s.running.base
      → (passing j (map (renamed_param start) params) a t).memory ≡ (passing j params a s).memory
  taken-outside j [] a s t memory base = memory
  taken-outside j (p ∷ params) [] s t memory base = memory
  taken-outside j (p ∷ params) (n ∷ a) s t memory base =
      let outside = go p.put in
      taken-outside (j + 1) params a (putting j p.put n s) (putting j (renamed_put start p.put) n t) outside.0 outside.1
    where
      go : (put : Put) → ((putting j (renamed_put start put) n t).memory ≡ (putting j put n s).memory)
          × ((putting j (renamed_put start put) n t).running.base ≡ (putting j put n s).running.base)
      go Memory = (let m = memory in let b = base in cc, base)
      go (One x) = (memory, base)
      go (Two low high) = (memory, base)

module _ (Has : Loc → Type 0) (name written : Loc → Loc) (all : List Loc) (w : AreWrittenAs Has name written all) where
  -- a location and what stands for it hold the same after a value has gone to one that is written
  pub put-one : (x : Loc) (n n' : ℕ) (v v' : Values) → Contains all x → (l : Loc) → Has l → (Has x → n' ≡ n) → ((l ≡ x → ⊥) → v' (name l) ≡ v l)
      → with_value v' (written x) n' (name l) ≡ with_value v x n l
  put-one x n n' v v' among l has same held = go (same_location l x) refl (same_location (name l) (written x)) refl
    where
      go : (b : Bool) → same_location l x ≡ b → (c : Bool) → same_location (name l) (written x) ≡ c → (if c then n' else v' (name l)) ≡ (if b then n else v l)
      go true here true there = same (subst Has (location_same l x here) has)
      go true here false apart =
          let is : l ≡ x = location_same l x here in
          let to : name l ≡ written x = ap name is ∙ sym (w.taken x among (subst Has is has)) in
          absurd (true≢false (sym (subst (λ y. same_location (name l) y ≡ true) to (location_itself (name l))) ∙ apart))
      go false other true there =
          absurd (w.apart x l among has (λ is. true≢false (sym (subst (λ y. same_location l y ≡ true) is (location_itself l)) ∙ other)) (sym (location_same (name l) (written x) there)))
      go false other false apart = held (λ is. true≢false (sym (subst (λ y. same_location l y ≡ true) is (location_itself l)) ∙ other))

  -- the same after values are given back
  pub given-names : (widths : List ℕ) (results : List Loc) (r : List ℕ) (v v' : Values) → length widths ≡ length results → FitIn widths r
      → ((x : Loc) → Contains results x → Contains all x) → (l : Loc) → Has l → ((Contains results l → ⊥) → v' (name l) ≡ v l)
      → with_values v' (map written results) r (name l) ≡ with_values v results r l
  given-names [] [] [] v v' len fit among l has held = held (Contains-none l)
  given-names (width ∷ widths) (x ∷ results) (n ∷ r) v v' len fit among l has held =
      given-names widths results r (with_value v x n) (with_value v' (written x) n) (cc) fit.1 (λ y c. among y (Contains-later x results y c)) l has
      (λ out. put-one x n n v v' (among x (Contains-here x results)) l has (λ h. refl)
      (λ other. held (λ c. Contains-cases x results l ⊥ (λ is. other (sym is)) out c)))
  given-names [] [] (n ∷ r) v v' len fit among l has held = absurd fit
  given-names (width ∷ widths) (x ∷ results) [] v v' len fit among l has held = absurd fit
  given-names [] (x ∷ results) r v v' len fit among l has held = absurd (cc)
  given-names (width ∷ widths) [] r v v' len fit among l has held = absurd (cc)

  -- each location that matters and what stands for it hold the same
  abbrev pub Held : State → State → Type 0
  Held s t = (l : Loc) → Has l → t.running.values (name l) ≡ s.running.values l

  -- the same after arguments are taken
  pub taken-names : (j : ℕ) (params : List Param) (a : List ℕ) (s t : State) → ((x : Loc) → Contains (param_places params) x → Contains all x)
      → Held s t → Held (passing j params a s) (passing j (map (renamed_param written) params) a t)
  taken-names j [] a s t among held = held
  taken-names j (p ∷ params) [] s t among held = held
  taken-names j (p ∷ params) (n ∷ a) s t among held =
      taken-names (j + 1) params a (putting j p.put n s) (putting j (renamed_put written p.put) n t)
      (λ x c. among x (Contains-append_right (places_of p.put) (param_places params) x c))
      (go p.put (λ x c. among x (Contains-append_left (places_of p.put) (param_places params) x c)))
    where
      go : (put : Put) → ((x : Loc) → Contains (places_of put) x → Contains all x) → Held (putting j put n s) (putting j (renamed_put written put) n t)
      go Memory here = held
      go (One x) here = λ l has. put-one x n n s.running.values t.running.values (here x (Contains-here x [])) l has (λ h. refl) (λ other. held l has)
      go (Two low high) here = λ l has.
          let v = s.running.values in
          let v' = t.running.values in
          put-one high (n / 256) (n / 256) (with_value v low (n % 256)) (with_value v' (written low) (n % 256)) (here high (Contains-later low (high ∷ []) high (Contains-here high []))) l has (λ h. refl)
          (λ other. put-one low (n % 256) (n % 256) v v' (here low (Contains-here low (high ∷ []))) l has (λ h. refl) (λ other. held l has))
