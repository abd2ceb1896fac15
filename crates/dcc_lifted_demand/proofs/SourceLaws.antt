-- What points make and use, by the statements that stand at them.
use Rattle.std.proofs.Common.{◌≡◌, ℕ, Bool, true, false, ◌&&◌, if◌then◌else◌, ◌⊎◌, inl, inr, List, [], ◌∷◌, refl, sym, ap, ◌∙◌, subst, true≢false}
use Rattle.std.specs.Prelude.{Contains, flat_map}
use Rattle.std.proofs.lemmas.List.Elements.{Contains-append_left, Contains-append_right, Contains-append_cases}
use Rattle.dcc_ir.specs.declared.syntax.Loc.{Loc}
use Rattle.dcc_ir.specs.Tree.{Get, Stmt, Set}
use Rattle.dcc_ir.specs.Demand.{makes_of}
use Rattle.dcc_ir.specs.Live.{is_among}
use Rattle.dcc_ir.proofs.LocationLaws.{Contains-none, Contains-here, among_contains, contains_among}
use Rattle.dcc_demand.specs.Procedures.{Effect, Leaves, Copies, Pops, Action, Procedure, is_left}
use Rattle.dcc_refinement.specs.Steps.{later_effect, later_word_effect, effect_of, word_effect_of, Flows, Uses}
use Rattle.dcc_sums.specs.Points.{Position}
use Rattle.dcc_sums.specs.Instance as sums
use Rattle.dcc_sums.specs.Instance.{used_by, written_by, action_of, only_using}
use Rattle.dcc_lifted_demand.specs.Sources.{before, sources, used, effect_after, word_effect_after}
use Rattle.dcc_lifted_demand.specs.StatementsTellPoints.{AreAt, StatementsTellPoints}
use Rattle.dcc_lifted_demand.proofs.ListLaws.{in_flat, of_flat, only}

-- One statement.

either : {X : Type 0} (P : X → Type 0) (b : Bool) (x y : X) → P x → P y → P (if b then x else y)
either P true x y p q = p
either P false x y p q = q

-- where a statement writes a location, its effect leaves nothing
writes_something : (pushed : ℕ) (s : Stmt) → is_left (sums.effect_of pushed s) ≡ false
writes_something pushed (Set location (Get from)) =
    either (λ (x : Effect Loc Loc). is_left x ≡ false) (sums.is_half location && sums.is_pushed pushed from) (Pops from) (Copies from) refl refl
writes_something pushed s = refl

-- what has the statement's action makes of what is told before it
module _ (pushed : ℕ) (s : Stmt) (x : Action Loc Loc) (is : x ≡ action_of pushed s) where
  made_in : (l to : Loc) → is_left (x.effect to) ≡ false → x.made_of to l ≡ true → Contains (before s to) l
  made_in l to w m = by (is_among (written_by s) to) (sym (ap (λ (y : Action Loc Loc). is_left (y.effect to)) is) ∙ w)
    where
      by : (b : Bool) → is_left (if b then sums.effect_of pushed s else Leaves) ≡ false → Contains (if b then makes_of s else to ∷ []) l
      by true w = among_contains (makes_of s) l (sym (ap (λ (y : Action Loc Loc). y.made_of to l) is) ∙ m)
      by false w = absurd (true≢false w)

  kept_in : (l : Loc) → x.surely l ≡ false → Contains (before s l) l
  kept_in l k = by (is_among (written_by s) l) (sym (ap (λ (y : Action Loc Loc). y.surely l) is) ∙ k)
    where
      by : (b : Bool) → b ≡ false → Contains (if b then makes_of s else l ∷ []) l
      by true e = absurd (true≢false e)
      by false e = Contains-here l []

  from_before : (l to : Loc) → Contains (before s to) l → ((is_left (x.effect to) ≡ false) × (x.made_of to l ≡ true)) ⊎ ((to ≡ l) × (x.surely l ≡ false))
  from_before l to c = by (is_among (written_by s) to) refl c
    where
      by : (b : Bool) → is_among (written_by s) to ≡ b → Contains (if b then makes_of s else to ∷ []) l
          → ((is_left (x.effect to) ≡ false) × (x.made_of to l ≡ true)) ⊎ ((to ≡ l) × (x.surely l ≡ false))
      by true t c = inl (
        ap (λ (y : Action Loc Loc). is_left (y.effect to)) is ∙ ap (λ b. is_left (if b then sums.effect_of pushed s else Leaves)) t ∙ writes_something pushed s,
        ap (λ (y : Action Loc Loc). y.made_of to l) is ∙ contains_among (makes_of s) l c,
      )
      by false t c =
          let same = only to l c in
          inr (same, ap (λ (y : Action Loc Loc). y.surely l) is ∙ sym (ap (is_among (written_by s)) same) ∙ t)

  used_in : (l : Loc) → x.uses l ≡ true → Contains (used_by s) l
  used_in l u = among_contains (used_by s) l (sym (ap (λ (y : Action Loc Loc). y.uses l) is) ∙ u)

  used_out : (l : Loc) → Contains (used_by s) l → x.uses l ≡ true
  used_out l c = ap (λ (y : Action Loc Loc). y.uses l) is ∙ contains_among (used_by s) l c

-- Several.

module _ (g : Procedure Position Loc Loc) (pushed : ℕ) (after : List Loc) where
  abbrev Are : List Position → List Stmt → Type 0
  Are steps ss = AreAt g pushed steps ss after

  no_uses : {l : Loc} → Uses g [] l → ⊥
  no_uses u = elim u [ ]

  no_flows : {l m : Loc} → Flows g [] l m → l ≡ m
  no_flows Flows.stays = refl

  -- what only uses leaves all
  end_flows : {a : Position} {steps : List Position} {l m : Loc} → steps ≡ [] → g.action a ≡ only_using after → Flows g (a ∷ steps) l m → l ≡ m
  end_flows none is (Flows.made {to = to} w e f) = absurd (true≢false (ap (λ (y : Action Loc Loc). is_left (y.effect to)) (sym is) ∙ w))
  end_flows none is (Flows.kept {location = l} {after = m} e f) = no_flows (subst (λ xs. Flows g xs l m) none f)

  end_uses : {a : Position} {steps : List Position} {l : Loc} → steps ≡ [] → g.action a ≡ only_using after → Uses g (a ∷ steps) l → Contains after l
  end_uses none is (Uses.here {location = l} e) = among_contains after l (sym (ap (λ (y : Action Loc Loc). y.uses l) is) ∙ e)
  end_uses none is (Uses.made {to = to} w e u) = absurd (true≢false (ap (λ (y : Action Loc Loc). is_left (y.effect to)) (sym is) ∙ w))
  end_uses none is (Uses.kept {location = l} e u) = absurd (no_uses (subst (λ xs. Uses g xs l) none u))

  flows_in : (steps : List Position) (ss : List Stmt) {l m : Loc} → Are steps ss → Flows g steps l m → Contains (sources ss m) l
  flows_in [] [] {l} {m} are f = subst (λ x. Contains (m ∷ []) x) (sym (no_flows f)) (Contains-here m [])
  flows_in [] (s ∷ ss) are f = absurd are
  flows_in (a ∷ steps) [] {l} {m} are f = subst (λ x. Contains (m ∷ []) x) (sym (end_flows are.0 are.1 f)) (Contains-here m [])
  flows_in (a ∷ steps) (s ∷ ss) are (Flows.made {location = l} {to = to} {after = m} w e f) =
      in_flat (before s) (sources ss m) to l (flows_in steps ss are.1 f) (made_in pushed s (g.action a) are.0 l to w e)
  flows_in (a ∷ steps) (s ∷ ss) are (Flows.kept {location = l} {after = m} e f) =
      in_flat (before s) (sources ss m) l l (flows_in steps ss are.1 f) (kept_in pushed s (g.action a) are.0 l e)

  flows_out : (steps : List Position) (ss : List Stmt) (l m : Loc) → Are steps ss → Contains (sources ss m) l → Flows g steps l m
  flows_out [] [] l m are c = subst (λ x. Flows g [] x m) (only m l c) Flows.stays
  flows_out [] (s ∷ ss) l m are c = absurd are
  flows_out (a ∷ steps) [] l m are c =
      Flows.kept (ap (λ (y : Action Loc Loc). y.surely l) are.1)
      (subst (λ xs. Flows g xs l m) (sym are.0) (subst (λ x. Flows g [] x m) (only m l c) Flows.stays))
  flows_out (a ∷ steps) (s ∷ ss) l m are c =
      let from = of_flat (before s) (sources ss m) l c in
      let later = flows_out steps ss from.0 m are.1 from.1 in
      elim (from_before pushed s (g.action a) are.0 l from.0 from.2) [
        | inl made ↦ Flows.made made.0 made.1 later
        | inr kept ↦ Flows.kept kept.1 (subst (λ x. Flows g steps x m) kept.0 later)
      ]

  uses_in : (steps : List Position) (ss : List Stmt) {l : Loc} → Are steps ss → Uses g steps l → Contains (used ss after) l
  uses_in [] ss are u = absurd (no_uses u)
  uses_in (a ∷ steps) [] are u = end_uses are.0 are.1 u
  uses_in (a ∷ steps) (s ∷ ss) are (Uses.here {location = l} e) =
      Contains-append_left (used_by s) (flat_map (before s) (used ss after)) l (used_in pushed s (g.action a) are.0 l e)
  uses_in (a ∷ steps) (s ∷ ss) are (Uses.made {location = l} {to = to} w e u) =
      Contains-append_right (used_by s) (flat_map (before s) (used ss after)) l
      (in_flat (before s) (used ss after) to l (uses_in steps ss are.1 u) (made_in pushed s (g.action a) are.0 l to w e))
  uses_in (a ∷ steps) (s ∷ ss) are (Uses.kept {location = l} e u) =
      Contains-append_right (used_by s) (flat_map (before s) (used ss after)) l
      (in_flat (before s) (used ss after) l l (uses_in steps ss are.1 u) (kept_in pushed s (g.action a) are.0 l e))

  uses_out : (steps : List Position) (ss : List Stmt) (l : Loc) → Are steps ss → Contains (used ss after) l → Uses g steps l
  uses_out [] [] l are c = absurd (Contains-none l (subst (λ xs. Contains xs l) are c))
  uses_out [] (s ∷ ss) l are c = absurd are
  uses_out (a ∷ steps) [] l are c = Uses.here (ap (λ (y : Action Loc Loc). y.uses l) are.1 ∙ contains_among after l c)
  uses_out (a ∷ steps) (s ∷ ss) l are c = elim (Contains-append_cases (used_by s) (flat_map (before s) (used ss after)) l c) [
    | inl here ↦ Uses.here (used_out pushed s (g.action a) are.0 l here)
    | inr there ↦
        let from = of_flat (before s) (used ss after) l there in
        let later = uses_out steps ss from.0 are.1 from.1 in
        elim (from_before pushed s (g.action a) are.0 l from.0 from.2) [
          | inl made ↦ Uses.made made.0 made.1 later
          | inr kept ↦ Uses.kept kept.1 (subst (λ x. Uses g steps x) kept.0 later)
        ]
  ]

  effect_is : (steps : List Position) (ss : List Stmt) (l : Loc) → Are steps ss → effect_of g steps l ≡ effect_after pushed ss l
  effect_is [] [] l are = refl
  effect_is [] (s ∷ ss) l are = absurd are
  effect_is (a ∷ steps) [] l are =
      ap (λ xs. later_effect (effect_of g xs l) ((g.action a).effect l)) are.0 ∙ ap (λ (y : Action Loc Loc). y.effect l) are.1
  effect_is (a ∷ steps) (s ∷ ss) l are =
      ap (λ (y : Action Loc Loc). later_effect (effect_of g steps l) (y.effect l)) are.0
      ∙ ap (λ x. later_effect x ((action_of pushed s).effect l)) (effect_is steps ss l are.1)

  word_effect_is : (steps : List Position) (ss : List Stmt) (w : Loc) → Are steps ss → word_effect_of g steps w ≡ word_effect_after pushed ss w
  word_effect_is [] [] w are = refl
  word_effect_is [] (s ∷ ss) w are = absurd are
  word_effect_is (a ∷ steps) [] w are =
      ap (λ xs. later_word_effect (word_effect_of g xs w) ((g.action a).word_effect w)) are.0 ∙ ap (λ (y : Action Loc Loc). y.word_effect w) are.1
  word_effect_is (a ∷ steps) (s ∷ ss) w are =
      ap (λ (y : Action Loc Loc). later_word_effect (word_effect_of g steps w) (y.word_effect w)) are.0
      ∙ ap (λ x. later_word_effect x ((action_of pushed s).word_effect w)) (word_effect_is steps ss w are.1)

pub statements-tell_points : StatementsTellPoints
statements-tell_points g pushed steps ss after are = record {
  effect = λ l. effect_is g pushed after steps ss l are;
  word_effect = λ w. word_effect_is g pushed after steps ss w are;
  flows = λ l m. (λ f. flows_in g pushed after steps ss are f, λ c. flows_out g pushed after steps ss l m are c);
  uses = λ l. (λ u. uses_in g pushed after steps ss are u, λ c. uses_out g pushed after steps ss l are c);
}
