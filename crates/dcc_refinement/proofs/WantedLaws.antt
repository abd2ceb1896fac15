-- What is wanted after points that stand one after another is wanted before them, and what stands between a call's point
-- and the next one is no matter.
use Rattle.std.proofs.Common.{◌≡◌, ℕ, zero, suc, true, List, [], ◌∷◌, ◌++◌, refl, sym, ◌∙◌, subst, true≢false, arith}
use Rattle.std.specs.Prelude.{Option, Some, None, Contains}
use Rattle.dcc_demand.specs.Procedures.{Procedure, Procedures, CallChanges}
use Rattle.dcc_demand.specs.Changes.{ChangesWithin, Changes}
use Rattle.dcc_demand.specs.Wanted.{IsWantedBy, Wanted}
use Rattle.dcc_refinement.specs.Steps.{CallNothing, Walks, Flows, Uses, PassBy}

pub itself : {A : Type 0} {x : A} → Contains (x ∷ []) x
itself = (0, omega arith, refl)

module _ {Point Location Word : Type 0} (g : Procedure Point Location Word) where
  pub unused : {steps : List Point} {l : Location} → PassBy g l steps → Uses g steps l → ⊥
  unused p (Uses.here e) = true≢false (sym e ∙ p.1)
  unused p (Uses.made {to = to} w e u) = true≢false (sym e ∙ p.0.unmade to)
  unused p (Uses.kept e u) = unused p.2 u

  pub flows_still : {steps : List Point} {l m : Location} → PassBy g l steps → Flows g steps l m → l ≡ m
  flows_still p Flows.stays = refl
  flows_still p (Flows.made {to = to} w e f) = absurd (true≢false (sym e ∙ p.0.unmade to))
  flows_still p (Flows.kept e f) = flows_still p.2 f

  pub quiet_within : (before : List Point) (a : Point) (after : List Point) → CallNothing g (before ++ (a ∷ after)) → (g.action a).callee ≡ None
  quiet_within [] a after n = n.0
  quiet_within (x ∷ before) a after n = quiet_within before a after n.1

  -- each point of the list goes on to the next
  pub data Line : List Point → Type 0 where
    last : {a : Point} → Line (a ∷ [])
    goes : {a b : Point} {steps : List Point} → Contains (g.next a) b → Line (b ∷ steps) → Line (a ∷ b ∷ steps)

  -- none but the first calls
  abbrev pub RestCallsNothing : List Point → Type 0
  RestCallsNothing [] = Unit {0}
  RestCallsNothing (a ∷ steps) = CallNothing g steps

  pub walks_first : {a b : Point} {steps : List Point} → Walks g a steps b → {first : Point} {others : List Point} → steps ≡ first ∷ others
      → (c : Point) × Contains (g.next first) c × Walks g c others b
  walks_first Walks.stands e = absurd (cc e)
  walks_first (Walks.goes {a = a} {b = c} {c = b} {steps = steps} next walk) {first} {others} e =
      let head : a ≡ first = cc e in
      let tail : steps ≡ others = cc e in
      (c, subst (λ x. Contains (g.next x) c) head next, subst (λ x. Walks g c x b) tail walk)

module _ {Point Location Word : Type 0} (p : Procedures Point Location Word) where
  changed_passes : (depth : ℕ) (j : ℕ) (l : Location) → ChangesWithin p depth j l → p.passes l ≡ true
  changed_passes zero j l c = absurd c
  changed_passes (suc depth) j l c = c.passes

  pub changes_pass : {j : ℕ} {l : Location} → Changes p j l → p.passes l ≡ true
  changes_pass {j} {l} c = changed_passes c.0 j l c.1

  pub call_passes : (callee : Option ℕ) {l : Location} → CallChanges (Changes p) callee l → p.passes l ≡ true
  call_passes (Some j) c = changes_pass c
  call_passes None c = absurd c

  pub free : {callee : Option ℕ} (l : Location) → callee ≡ None → ¬ CallChanges (Changes p) callee l
  free l e c = subst (λ x. CallChanges (Changes p) x l) e c

  -- the first of these points, if there is one, calls nothing that changes the location
  abbrev pub FirstLeaves : ℕ → List Point → Location → Type 0
  FirstLeaves i [] l = Unit {0}
  FirstLeaves i (a ∷ steps) l = ¬ CallChanges (Changes p) ((p.procedure i).action a).callee l

  module _ (i : ℕ) where
    through : {a b : Point} {steps : List Point} {l m : Location} → Walks (p.procedure i) a steps b → CallNothing (p.procedure i) steps → Flows (p.procedure i) steps l m
        → Wanted p i b m → Wanted p i a l
    through Walks.stands n Flows.stays w = w
    through (Walks.goes c walk) n (Flows.made h e f) w = IsWantedBy.made_of c h e (through walk n.1 f w)
    through (Walks.goes c walk) n (Flows.kept {location = l} e f) w = IsWantedBy.unwritten c e (free l n.0) (through walk n.1 f w)

    pub through_first : {a b : Point} {steps : List Point} {l m : Location} → Walks (p.procedure i) a steps b → RestCallsNothing (p.procedure i) steps → FirstLeaves i steps l
        → Flows (p.procedure i) steps l m → Wanted p i b m → Wanted p i a l
    through_first Walks.stands n q Flows.stays w = w
    through_first (Walks.goes c walk) n q (Flows.made h e f) w = IsWantedBy.made_of c h e (through walk n f w)
    through_first (Walks.goes c walk) n q (Flows.kept e f) w = IsWantedBy.unwritten c e q (through walk n f w)

    by_use : {a : Point} {steps : List Point} {l : Location} → Line (p.procedure i) (a ∷ steps) → CallNothing (p.procedure i) (a ∷ steps) → Uses (p.procedure i) (a ∷ steps) l → Wanted p i a l
    by_use Line.last n (Uses.here e) = IsWantedBy.used e
    by_use Line.last n (Uses.made h e u) = elim u [ ]
    by_use Line.last n (Uses.kept e u) = elim u [ ]
    by_use (Line.goes c line) n (Uses.here e) = IsWantedBy.used e
    by_use (Line.goes c line) n (Uses.made h e u) = IsWantedBy.made_of c h e (by_use line n.1 u)
    by_use (Line.goes c line) n (Uses.kept {location = l} e u) = IsWantedBy.unwritten c e (free l n.0) (by_use line n.1 u)

    -- where the first calls what changes the location, that passes by the others
    pub by_use_first : {a : Point} {others : List Point} {l : Location} → Line (p.procedure i) (a ∷ others) → CallNothing (p.procedure i) others
        → (CallChanges (Changes p) ((p.procedure i).action a).callee l → PassBy (p.procedure i) l others) → Uses (p.procedure i) (a ∷ others) l → Wanted p i a l
    by_use_first line n q (Uses.here e) = IsWantedBy.used e
    by_use_first Line.last n q (Uses.made h e u) = elim u [ ]
    by_use_first Line.last n q (Uses.kept e u) = elim u [ ]
    by_use_first (Line.goes c line) n q (Uses.made h e u) = IsWantedBy.made_of c h e (by_use line n u)
    by_use_first (Line.goes c line) n q (Uses.kept e u) = IsWantedBy.unwritten c e (λ x. unused (p.procedure i) (q x) u) (by_use line n u)

    pub past : {a b : Point} {steps : List Point} {l : Location} → Walks (p.procedure i) a steps b → CallNothing (p.procedure i) steps → PassBy (p.procedure i) l steps → Wanted p i b l → Wanted p i a l
    past Walks.stands n q w = w
    past {l = l} (Walks.goes c walk) n q w = IsWantedBy.unwritten c q.0.unwritten (free l n.0) (past walk n.1 q.2 w)
