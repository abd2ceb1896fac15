-- What is wanted before a coarse point is wanted where its steps begin, and the other way.
use Rattle.std.proofs.Common.{◌≡◌, ℕ, true, false, ◌⊎◌, inl, inr, List, [], ◌∷◌, ◌++◌, refl, sym, ap, ◌∙◌, subst, true≢false}
use Rattle.std.specs.Prelude.{Option, Some, None, Contains, ◌↔◌}
use Rattle.std.proofs.lemmas.List.{append_assoc}
use Rattle.dcc_demand.specs.Procedures.{Procedures, is_left, CallChanges}
use Rattle.dcc_demand.specs.Changes.{Changes}
use Rattle.dcc_demand.specs.Wanted.{WantedFamily, IsWantedBy, Wanted, IsParam, IsResult, IsClosedUnderDemand}
use Rattle.dcc_demand.proofs.WantedLaws.{wanted-least}
use Rattle.dcc_refinement.specs.Steps.{CallNothing, Walks, Flows, Uses, Passes, PassBy}
use Rattle.dcc_refinement.specs.Refinement.{Refinement, Carries, Takes, CallsFirst, IsSettled, IsApart, IsRefined}
use Rattle.dcc_refinement.specs.Laws.{IsAwaited, HaveSameRelations}
use Rattle.dcc_refinement.proofs.TrailLaws.{only, walks_nowhere, changes_up, changes_down}
use Rattle.dcc_refinement.proofs.WantedLaws as wants
use Rattle.dcc_refinement.proofs.WantedLaws.{itself, changes_pass, call_passes, Line, RestCallsNothing, FirstLeaves}

module _ {Point Location Word FinePoint FineLocation FineWord : Type 0} (coarse : Procedures Point Location Word)
    (fine : Procedures FinePoint FineLocation FineWord) (r : Refinement Point Location Word FinePoint FineLocation FineWord)
    (refined : IsRefined coarse fine r) where
  -- The steps of a point.

  -- what is known of the first one and of the others
  record First (i : ℕ) (a : Point) (first : FinePoint) (others : List FinePoint) : Type 0 where
    then : CallNothing (fine.procedure i) others
    callee : ((fine.procedure i).action first).callee ≡ ((coarse.procedure i).action a).callee
    passed : (((coarse.procedure i).action a).callee ≡ None)
        ⊎ ((j : ℕ) × (((coarse.procedure i).action a).callee ≡ Some j) × CallsFirst coarse fine r i j a
        × ((m : FineLocation) → fine.passes m ≡ true → Passes (fine.procedure i) m first × PassBy (fine.procedure i) m others))

  first_of : (i : ℕ) (a : Point) (first : FinePoint) (others : List FinePoint) → r.steps i a ≡ first ∷ others → First i a first others
  first_of i a first others e = elim (refined.callees i a) [
    | inl both ↦ let quiet = subst (λ s. CallNothing (fine.procedure i) s) e both.1 in record { then = quiet.1; callee = quiet.0 ∙ sym both.0; passed = inl both.0 }
    | inr calls ↦
        let c = calls.2 in
        let head : c.call ≡ first = cc (c.steps_are, e) in
        let tail : c.others ≡ others = cc (c.steps_are, e) in
        record {
          then = subst (λ s. CallNothing (fine.procedure i) s) tail c.then;
          callee = subst (λ x. ((fine.procedure i).action x).callee ≡ ((coarse.procedure i).action a).callee) head (c.calls ∙ sym calls.1);
          passed = inr (
            calls.0,
            calls.1,
            c,
            λ m passes. let q = c.passed m passes in
                (subst (λ x. Passes (fine.procedure i) m x) head q.0, subst (λ s. PassBy (fine.procedure i) m s) tail q.1),
          );
        }
  ]

  no_steps_call_nothing : (i : ℕ) (a : Point) → r.steps i a ≡ [] → ((coarse.procedure i).action a).callee ≡ None
  no_steps_call_nothing i a e = elim (refined.callees i a) [
    | inl both ↦ both.0
    | inr calls ↦ absurd (cc (calls.2.steps_are, e))
  ]

  line_of : (i : ℕ) (a : Point) (before : List FinePoint) (step : FinePoint) (after : List FinePoint) → r.steps i a ≡ before ++ (step ∷ after) → Line (fine.procedure i) (step ∷ after)
  line_of i a before step [] e = Line.last
  line_of i a before step (next ∷ after) e =
      Line.goes (subst (λ x. Contains x next) (sym ((refined.edges i a).within before after step next e).0) itself)
      (line_of i a (before ++ (step ∷ [])) next after (e ∙ sym (append_assoc before (step ∷ []) (next ∷ after))))

  -- Calls change the same.

  module _ (i : ℕ) (l : Location) (m : FineLocation) (same : r.same i l m) where
    passes_too : coarse.passes l ≡ true → fine.passes m ≡ true
    passes_too e = sym (refined.passes i l m same) ∙ e

    passes_back : fine.passes m ≡ true → coarse.passes l ≡ true
    passes_back e = refined.passes i l m same ∙ e

    call_up : (callee : Option ℕ) → CallChanges (Changes coarse) callee l → CallChanges (Changes fine) callee m
    call_up (Some j) c = changes_up coarse fine r refined j l m (refined.shared i j l m same (changes_pass coarse c)) c
    call_up None c = c

    call_down : (callee : Option ℕ) → CallChanges (Changes fine) callee m → CallChanges (Changes coarse) callee l
    call_down (Some j) c = changes_down coarse fine r refined j l m (refined.shared i j l m same (passes_back (changes_pass fine c))) c
    call_down None c = c

    -- of a location of which a point makes something, no call of the point changes it
    made_free : (a : Point) (to : Location) → ((coarse.procedure i).action a).made_of to l ≡ true → ¬ CallChanges (Changes coarse) ((coarse.procedure i).action a).callee l
    made_free a to e c = elim (refined.callees i a) [
      | inl both ↦ wants.free coarse l both.0 c
      | inr calls ↦ true≢false (sym e ∙ (calls.2.left l m same (call_passes coarse ((coarse.procedure i).action a).callee c)).1.unmade to)
    ]

  -- From coarse to fine.

  module _ (i : ℕ) (a : Point) (l : Location) (m : FineLocation) (same : r.same i l m) where
    use_at : (steps : List FinePoint) → r.steps i a ≡ steps → Uses (fine.procedure i) steps m → Wanted fine i (r.begin i a) m
    use_at [] e u = elim u [ ]
    use_at (first ∷ others) e u =
        let f = first_of i a first others e in
        subst (λ x. Wanted fine i x m) (sym ((refined.edges i a).begins first others e))
        (wants.by_use_first fine i (line_of i a [] first others e) f.then (λ c. passing f c) u)
      where
        passing : First i a first others → CallChanges (Changes fine) ((fine.procedure i).action first).callee m → PassBy (fine.procedure i) m others
        passing f c = elim f.passed [
          | inl none ↦ absurd (wants.free fine m (f.callee ∙ none) c)
          | inr calls ↦ (calls.3 m (call_passes fine ((fine.procedure i).action first).callee c)).1
        ]

    use_wanted : Uses (fine.procedure i) (r.steps i a) m → Wanted fine i (r.begin i a) m
    use_wanted u = use_at (r.steps i a) refl u

    flow_at : (steps : List FinePoint) → r.steps i a ≡ steps → {b : Point} {n : FineLocation} → ¬ CallChanges (Changes coarse) ((coarse.procedure i).action a).callee l
        → Walks (fine.procedure i) (r.begin i a) steps (r.begin i b) → Flows (fine.procedure i) steps m n → Wanted fine i (r.begin i b) n → Wanted fine i (r.begin i a) m
    flow_at [] e n walk f w = wants.through_first fine i walk tt tt f w
    flow_at (first ∷ others) e n walk f w =
        let known = first_of i a first others e in
        wants.through_first fine i walk known.then
        (λ c. n (call_down i l m same ((coarse.procedure i).action a).callee (subst (λ x. CallChanges (Changes fine) x m) known.callee c))) f w

    carry_wanted : (b : Point) (to : Location) (n : FineLocation) → r.same i to n → Contains ((coarse.procedure i).next a) b → Carries coarse fine r i a l to
        → ¬ CallChanges (Changes coarse) ((coarse.procedure i).action a).callee l → Wanted fine i (r.begin i b) n → Wanted fine i (r.begin i a) m
    carry_wanted b to n both c carries leaves w = elim ((refined.wants i a).carried l to m n same both carries) [
      | inl f ↦ flow_at (r.steps i a) refl leaves ((refined.edges i a).goes b c) f w
      | inr u ↦ use_wanted u
    ]

  -- a call of a coarse point, and what comes after its fine one
  record CallUp (callee caller : ℕ) (m : FineLocation) : Type 0 where
    call : FinePoint
    after : FinePoint
    calls : ((fine.procedure caller).action call).callee ≡ Some callee
    goes : Contains ((fine.procedure caller).next call) after
    wanted : Wanted fine caller after m

  called_up : (callee caller : ℕ) (call after : Point) (l : Location) (m : FineLocation) → r.same caller l m → coarse.passes l ≡ true → ((coarse.procedure caller).action call).callee ≡ Some callee
      → Contains ((coarse.procedure caller).next call) after → Wanted fine caller (r.begin caller after) m → CallUp callee caller m
  called_up callee caller call after l m same passes e c w = elim (refined.callees caller call) [
    | inl both ↦ absurd (cc (e, both.0))
    | inr calls ↦
        let f = calls.2 in
        let callee_is : calls.0 ≡ callee = cc (e, calls.1) in
        let walk = wants.walks_first (fine.procedure caller) ((refined.edges caller call).goes after c) f.steps_are in
        record {
          call = f.call;
          after = walk.0;
          calls = f.calls ∙ ap (λ j. Some j) callee_is;
          goes = walk.1;
          wanted = wants.past fine caller walk.2 f.then (f.passed m (passes_too caller l m same passes)).1 w;
        }
  ]

  pub wanted_up : {i : ℕ} {a : Point} {l : Location} → Wanted coarse i a l → (m : FineLocation) → r.same i l m → Wanted fine i (r.begin i a) m
  wanted_up {i} {a} {l} w m same = wanted-least coarse (Changes coarse) family closed w m same
    where
      family : WantedFamily Point Location
      family i a l = (m : FineLocation) → r.same i l m → Wanted fine i (r.begin i a) m

      entry_too : (callee : ℕ) (m : FineLocation) → ¬ IsApart coarse fine r callee → Wanted fine callee (r.begin callee (coarse.procedure callee).entry) m → Wanted fine callee (fine.procedure callee).entry m
      entry_too callee m n w = elim (refined.entries callee) [
        | inl e ↦ subst (λ x. Wanted fine callee x m) e w
        | inr apart ↦ absurd (n apart)
      ]

      taken : (i callee : ℕ) (a : Point) (l : Location) → ((coarse.procedure i).action a).callee ≡ Some callee → coarse.passes l ≡ true → family callee (coarse.procedure callee).entry l → family i a l
      taken i callee a l e passes w m same = elim (refined.callees i a) [
        | inl both ↦ absurd (cc (e, both.0))
        | inr calls ↦
            let f = calls.2 in
            let callee_is : calls.0 ≡ callee = cc (e, calls.1) in
            subst (λ x. Wanted fine i x m) (sym ((refined.edges i a).begins f.call f.others f.steps_are))
            (IsWantedBy.taken (f.calls ∙ ap (λ j. Some j) callee_is) (passes_too i l m same passes)
            (entry_too callee m (λ apart. apart.uncalled i a e) (w m (refined.shared i callee l m same passes))))
      ]

      made_of : (i : ℕ) (a b : Point) (l to : Location) → Contains ((coarse.procedure i).next a) b → is_left (((coarse.procedure i).action a).effect to) ≡ false
          → ((coarse.procedure i).action a).made_of to l ≡ true → family i b to → family i a l
      made_of i a b l to c h e w m same = elim ((refined.wants i a).made l to h e) [
        | inl exposed ↦ use_wanted i a l m same ((refined.wants i a).taken l m same (inr (to, b, exposed, c, h, e)))
        | inr stands ↦ carry_wanted i a l m same b to stands.0 stands.1 c (inl (h, e)) (made_free i l m same a to e) (w stands.0 stands.1)
      ]

      given_back : (i caller : ℕ) (a call after : Point) (l : Location) → (coarse.procedure i).returns a ≡ true → Changes coarse i l → ((coarse.procedure caller).action call).callee ≡ Some i
          → Contains ((coarse.procedure caller).next call) after → family caller after l → family i a l
      given_back i caller a call after l returns changes e c w m same =
          let passes = changes_pass coarse changes in
          let there = refined.shared i caller l m same passes in
          let alone = (refined.edges i a).alone returns in
          let up = called_up i caller call after l m there passes e c (w m there) in
          subst (λ x. Wanted fine i x m) (sym ((refined.edges i a).begins alone.0 [] alone.1))
          (IsWantedBy.given_back ((refined.edges i a).returns [] alone.0 alone.1 ∙ returns) (changes_up coarse fine r refined i l m same changes) up.calls up.goes up.wanted)

      closed : IsClosedUnderDemand coarse (Changes coarse) family
      closed = record {
        used = λ i a l u m same. use_wanted i a l m same ((refined.wants i a).taken l m same (inl u));
        exposed = λ i a l e m same. absurd (refined.exposed i l m e same);
        made_of = made_of;
        unwritten = λ i a b l c e n w m same. carry_wanted i a l m same b l m same c (inr (refl, e)) n (w m same);
        taken = taken;
        given_back = given_back;
      }

  -- From fine to coarse.

  -- the fine location stands for one that is wanted before the point
  abbrev Stands : ℕ → Point → FineLocation → Type 0
  Stands i a m = (l : Location) × r.same i l m × Wanted coarse i a l

  abbrev Awaited : ℕ → Point → List FinePoint → FineLocation → Type 0
  Awaited = IsAwaited coarse fine r

  -- before a step that has these before it in its point
  abbrev StandsAfter : List FinePoint → ℕ → Point → List FinePoint → FineLocation → Type 0
  StandsAfter [] i a steps m = Stands i a m
  StandsAfter (x ∷ before) i a steps m = Awaited i a steps m

  after_one : (before : List FinePoint) (step : FinePoint) {i : ℕ} {a : Point} {steps : List FinePoint} {m : FineLocation} → StandsAfter (before ++ (step ∷ [])) i a steps m → Awaited i a steps m
  after_one [] step w = w
  after_one (x ∷ before) step w = w

  abbrev Family : WantedFamily FinePoint FineLocation
  Family i step m = (a : Point) (before after : List FinePoint) → r.steps i a ≡ before ++ (step ∷ after) → StandsAfter before i a (step ∷ after) m

  module _ (i : ℕ) (a : Point) where
    takes_wanted : (l : Location) → Takes coarse fine r i a l → Wanted coarse i a l
    takes_wanted l (inl u) = IsWantedBy.used u
    takes_wanted l (inr t) = IsWantedBy.made_of t.3 t.4 t.5 (IsWantedBy.exposed t.2)

    use_stands : (m : FineLocation) → Uses (fine.procedure i) (r.steps i a) m → Stands i a m
    use_stands m u = let t = (refined.wants i a).uses m u in (t.0, t.1, takes_wanted t.0 t.2)

    flow_stands : (m n : FineLocation) (b : Point) → ((l : Location) → r.same i l m → ¬ CallChanges (Changes coarse) ((coarse.procedure i).action a).callee l)
        → Flows (fine.procedure i) (r.steps i a) m n → Contains ((coarse.procedure i).next a) b → Stands i b n → Stands i a m
    flow_stands m n b leaves f c w =
        let t = (refined.wants i a).flows w.0 m n w.1 f in
        (t.0, t.1, by t.0 t.1 t.2)
      where
        by : (l : Location) → r.same i l m → Carries coarse fine r i a l w.0 ⊎ Takes coarse fine r i a l → Wanted coarse i a l
        by l same (inl (inl h)) = IsWantedBy.made_of c h.0 h.1 w.2
        by l same (inl (inr h)) = IsWantedBy.unwritten c h.1 (leaves l same) (subst (λ x. Wanted coarse i b x) (sym h.0) w.2)
        by l same (inr t) = takes_wanted l t

  -- where a point begins, by the steps that come there first
  begins_stand : (i : ℕ) {a : Point} → IsSettled coarse fine r i a → (m : FineLocation) → Family i (r.begin i a) m → Stands i a m
  begins_stand i (IsSettled.by_steps {a = a} {step = step} {steps = steps} e) m w =
      w a [] steps (e ∙ ap (λ x. x ∷ steps) (sym ((refined.edges i a).begins step steps e)))
  begins_stand i (IsSettled.by_next {a = a} {b = b} e c settled) m w =
      let one = walks_nowhere (fine.procedure i) ((refined.edges i a).goes b c) e in
      flow_stands i a m m b (λ l same. wants.free coarse l (no_steps_call_nothing i a e)) (subst (λ s. Flows (fine.procedure i) s m m) (sym e) Flows.stays) c
      (begins_stand i settled m (subst (λ x. Family i x m) one w))

  -- after a step
  ends_by : (i : ℕ) (a : Point) (before : List FinePoint) (step : FinePoint) (after : List FinePoint) → r.steps i a ≡ before ++ (step ∷ after) → (to : FinePoint) (m : FineLocation)
      → Contains ((fine.procedure i).next step) to → Family i to m → Awaited i a after m
  ends_by i a before step [] e to m c w =
      let come = (refined.edges i a).comes before step to e c in
      let s = begins_stand i (refined.settled i a come.0 come.1) m (subst (λ x. Family i x m) come.2 w) in
      IsAwaited.carried Flows.stays come.1 s.1 s.2
  ends_by i a before step (next ∷ after) e to m c w =
      let one : next ≡ to = only (subst (λ x. Contains x to) ((refined.edges i a).within before after step next e).0 c) in
      after_one before step (subst (λ x. Family i x m) (sym one) w a (before ++ (step ∷ [])) after (e ∙ sym (append_assoc before (step ∷ []) (next ∷ after))))

  -- before the steps of a point, by what is so before these
  stand_by : (i : ℕ) (a : Point) (before steps : List FinePoint) (m : FineLocation) → r.steps i a ≡ before ++ steps
      → (before ≡ [] → (l : Location) → r.same i l m → ¬ CallChanges (Changes coarse) ((coarse.procedure i).action a).callee l) → Awaited i a steps m → StandsAfter before i a steps m
  stand_by i a [] steps m e leaves (IsAwaited.used u) = use_stands i a m (subst (λ s. Uses (fine.procedure i) s m) (sym e) u)
  stand_by i a [] steps m e leaves (IsAwaited.carried {fine_after = n} {after = l} {b = b} f c same w) = flow_stands i a m n b (leaves refl) (subst (λ s. Flows (fine.procedure i) s m n) (sym e) f) c (l, same, w)
  stand_by i a (x ∷ before) steps m e leaves w = w

  -- a call of a fine point, by the coarse one
  record CallDown (callee caller : ℕ) (m : FineLocation) : Type 0 where
    call : Point
    after : Point
    calls : ((coarse.procedure caller).action call).callee ≡ Some callee
    goes : Contains ((coarse.procedure caller).next call) after
    stands : Stands caller after m

  called_down : (callee caller : ℕ) (call after : FinePoint) (m : FineLocation) → fine.passes m ≡ true → ((fine.procedure caller).action call).callee ≡ Some callee
      → Contains ((fine.procedure caller).next call) after → Family caller after m → CallDown callee caller m
  called_down callee caller call after m passes e c w =
      let there = refined.called caller callee call e in
      by there.0 there.1 there.2 (first_of caller there.0 call there.1 there.2) (ends_by caller there.0 [] call there.1 there.2 after m c w)
    where
      by : (a : Point) (others : List FinePoint) → r.steps caller a ≡ call ∷ others → First caller a call others → Awaited caller a others m → CallDown callee caller m
      by a others at f ends = elim f.passed [
        | inl none ↦ absurd (cc (e, f.callee, none))
        | inr calls ↦ with_others ends (calls.3 m passes).1
      ]
        where
          with_others : Awaited caller a others m → PassBy (fine.procedure caller) m others → CallDown callee caller m
          with_others (IsAwaited.used u) q = absurd (wants.unused (fine.procedure caller) q u)
          with_others (IsAwaited.carried {fine_after = n} {after = l} {b = b} flow c same w) q = record {
            call = a;
            after = b;
            calls = sym f.callee ∙ e;
            goes = c;
            stands = (l, subst (λ x. r.same caller l x) (sym (wants.flows_still (fine.procedure caller) q flow)) same, w);
          }

  made_free_down : (i : ℕ) (a : Point) (first : FinePoint) (others : List FinePoint) → r.steps i a ≡ first ∷ others → (m to : FineLocation) → ((fine.procedure i).action first).made_of to m ≡ true
      → (l : Location) → r.same i l m → ¬ CallChanges (Changes coarse) ((coarse.procedure i).action a).callee l
  made_free_down i a first others e m to h l same c = elim (first_of i a first others e).passed [
    | inl none ↦ wants.free coarse l none c
    | inr calls ↦ true≢false (sym h ∙ (calls.3 m (passes_too i l m same (call_passes coarse ((coarse.procedure i).action a).callee c))).0.unmade to)
  ]

  later_calls_nothing : (i : ℕ) (a : Point) (x : FinePoint) (before : List FinePoint) (step : FinePoint) (after : List FinePoint) → r.steps i a ≡ x ∷ (before ++ (step ∷ after)) → ((fine.procedure i).action step).callee ≡ None
  later_calls_nothing i a x before step after e = wants.quiet_within (fine.procedure i) before step after (first_of i a x (before ++ (step ∷ after)) e).then

  made_of_down : (i : ℕ) (step b : FinePoint) (m to : FineLocation) → Contains ((fine.procedure i).next step) b → is_left (((fine.procedure i).action step).effect to) ≡ false
      → ((fine.procedure i).action step).made_of to m ≡ true → Family i b to → Family i step m
  made_of_down i step b m to c h e w a before after at = stand_by i a before (step ∷ after) m at leaves (by (ends_by i a before step after at b to c w))
    where
      leaves : before ≡ [] → (l : Location) → r.same i l m → ¬ CallChanges (Changes coarse) ((coarse.procedure i).action a).callee l
      leaves none = made_free_down i a step after (at ∙ ap (λ x. x ++ (step ∷ after)) none) m to e

      by : Awaited i a after to → Awaited i a (step ∷ after) m
      by (IsAwaited.used u) = IsAwaited.used (Uses.made h e u)
      by (IsAwaited.carried f c same w) = IsAwaited.carried (Flows.made h e f) c same w

  unwritten_down : (i : ℕ) (step b : FinePoint) (m : FineLocation) → Contains ((fine.procedure i).next step) b → ((fine.procedure i).action step).surely m ≡ false
      → ¬ CallChanges (Changes fine) ((fine.procedure i).action step).callee m → Family i b m → Family i step m
  unwritten_down i step b m c e n w a before after at = stand_by i a before (step ∷ after) m at leaves (by (ends_by i a before step after at b m c w))
    where
      leaves : before ≡ [] → (l : Location) → r.same i l m → ¬ CallChanges (Changes coarse) ((coarse.procedure i).action a).callee l
      leaves none l same changes =
          let f = first_of i a step after (at ∙ ap (λ x. x ++ (step ∷ after)) none) in
          n (subst (λ x. CallChanges (Changes fine) x m) (sym f.callee) (call_up i l m same ((coarse.procedure i).action a).callee changes))

      by : Awaited i a after m → Awaited i a (step ∷ after) m
      by (IsAwaited.used u) = IsAwaited.used (Uses.kept e u)
      by (IsAwaited.carried f c same w) = IsAwaited.carried (Flows.kept e f) c same w

  taken_down : (i callee : ℕ) (step : FinePoint) (m : FineLocation) → ((fine.procedure i).action step).callee ≡ Some callee → fine.passes m ≡ true → Family callee (fine.procedure callee).entry m → Family i step m
  taken_down i callee step m e passes w a (x ∷ before) after at = absurd (cc (e, later_calls_nothing i a x before step after at))
  taken_down i callee step m e passes w a [] after at = elim (refined.entries callee) [
    | inl entry ↦
        let s = begins_stand callee (refined.settled_entry callee) m (subst (λ x. Family callee x m) (sym entry) w) in
        let p = passes_back callee s.0 m s.1 passes in
        let f = first_of i a step after at in
        (s.0, refined.shared callee i s.0 m s.1 p, IsWantedBy.taken (sym f.callee ∙ e) p s.2)
    | inr apart ↦ absurd (apart.fine_uncalled i step e)
  ]

  given_back_down : (i caller : ℕ) (step call after : FinePoint) (m : FineLocation) → (fine.procedure i).returns step ≡ true → Changes fine i m → ((fine.procedure caller).action call).callee ≡ Some i
      → Contains ((fine.procedure caller).next call) after → Family caller after m → Family i step m
  given_back_down i caller step call after m returns changes e c w a before (next ∷ rest) at = absurd (true≢false (sym returns ∙ ((refined.edges i a).within before rest step next at).1))
  given_back_down i caller step call after m returns changes e c w a before [] at = by before at
    where
      ret : (coarse.procedure i).returns a ≡ true
      ret = sym ((refined.edges i a).returns before step at) ∙ returns

      stands : Stands i a m
      stands =
          let d = called_down i caller call after m (changes_pass fine changes) e c w in
          let l = d.stands.0 in
          let same = refined.shared caller i l m d.stands.1 (passes_back caller l m d.stands.1 (changes_pass fine changes)) in
          (l, same, IsWantedBy.given_back ret (changes_down coarse fine r refined i l m same changes) d.calls d.goes d.stands.2)

      by : (before : List FinePoint) → r.steps i a ≡ before ++ (step ∷ []) → StandsAfter before i a (step ∷ []) m
      by [] at = stands
      by (x ∷ []) at = absurd (cc (at, ((refined.edges i a).alone ret).1))
      by (x ∷ y ∷ before) at = absurd (cc (at, ((refined.edges i a).alone ret).1))

  used_down : (i : ℕ) (step : FinePoint) (m : FineLocation) → ((fine.procedure i).action step).uses m ≡ true → Family i step m
  used_down i step m u a [] after at = use_stands i a m (subst (λ s. Uses (fine.procedure i) s m) (sym at) (Uses.here u))
  used_down i step m u a (x ∷ before) after at = IsAwaited.used (Uses.here u)

  down_closed : IsClosedUnderDemand fine (Changes fine) Family
  down_closed = record {
    used = used_down;
    exposed = λ i step m e. absurd (true≢false (sym e ∙ refined.unexposed i m));
    made_of = made_of_down;
    unwritten = unwritten_down;
    taken = taken_down;
    given_back = given_back_down;
  }

  family_holds : {i : ℕ} {step : FinePoint} {m : FineLocation} → Wanted fine i step m → Family i step m
  family_holds w = wanted-least fine (Changes fine) Family down_closed w

  pub wanted_down : (i : ℕ) (a : Point) (l : Location) (m : FineLocation) → r.same i l m → IsSettled coarse fine r i a → Wanted fine i (r.begin i a) m → Wanted coarse i a l
  wanted_down i a l m same settled w =
      let s = begins_stand i settled m (family_holds w) in
      subst (λ x. Wanted coarse i a x) (refined.one i s.0 l m s.1 same) s.2

  -- Between the steps of a point.

  -- the steps that are left lead to where the next point begins
  tail_walk : (i : ℕ) (before steps : List FinePoint) (x y : FinePoint) → Walks (fine.procedure i) x (before ++ steps) y → (z : FinePoint) × Walks (fine.procedure i) z steps y
  tail_walk i [] steps x y walk = (x, walk)
  tail_walk i (s ∷ before) steps x y walk =
      let next = wants.walks_first (fine.procedure i) walk refl in
      tail_walk i before steps next.0 y next.2

  walk_head : (i : ℕ) {x y step : FinePoint} {steps : List FinePoint} → Walks (fine.procedure i) x (step ∷ steps) y → x ≡ step
  walk_head i walk = by walk refl
    where
      by : {x y step : FinePoint} {steps all : List FinePoint} → Walks (fine.procedure i) x all y → all ≡ step ∷ steps → x ≡ step
      by Walks.stands e = absurd (cc e)
      by (Walks.goes next walk) e = cc e

  rest_calls_nothing : (before : List FinePoint) (steps : List FinePoint) (i : ℕ) → CallNothing (fine.procedure i) (before ++ steps) → CallNothing (fine.procedure i) steps
  rest_calls_nothing [] steps i quiet = quiet
  rest_calls_nothing (s ∷ before) steps i quiet = rest_calls_nothing before steps i quiet.1

  module _ (i : ℕ) (a : Point) (first step : FinePoint) (before steps : List FinePoint) (at : r.steps i a ≡ first ∷ (before ++ (step ∷ steps))) where
    quiet_left : CallNothing (fine.procedure i) (step ∷ steps)
    quiet_left = rest_calls_nothing before (step ∷ steps) i (first_of i a first (before ++ (step ∷ steps)) at).then

    awaited_wanted : (m : FineLocation) → Awaited i a (step ∷ steps) m → Wanted fine i step m
    awaited_wanted m (IsAwaited.used u) =
        wants.by_use_first fine i (line_of i a (first ∷ before) step steps at) quiet_left.1 (λ c. absurd (wants.free fine m quiet_left.0 c)) u
    awaited_wanted m (IsAwaited.carried {fine_after = n} {after = l} {b = b} f c same w) =
        let all = subst (λ s. Walks (fine.procedure i) (r.begin i a) s (r.begin i b)) at ((refined.edges i a).goes b c) in
        let left = tail_walk i (first ∷ before) (step ∷ steps) (r.begin i a) (r.begin i b) all in
        subst (λ x. Wanted fine i x m) (walk_head i left.1)
        (wants.through_first fine i left.1 quiet_left.1 (λ c. wants.free fine m quiet_left.0 c) f (wanted_up w n same))

    wanted_awaited : (m : FineLocation) → Wanted fine i step m → Awaited i a (step ∷ steps) m
    wanted_awaited m w = family_holds w a (first ∷ before) steps at

  -- What is taken and given back.

  params_agree : (i : ℕ) (l : Location) (m : FineLocation) → r.same i l m → r.begin i (coarse.procedure i).entry ≡ (fine.procedure i).entry → IsParam coarse i l ↔ IsParam fine i m
  params_agree i l m same e = (
    (λ p. record { passes = passes_too i l m same p.passes; wanted = subst (λ x. Wanted fine i x m) e (wanted_up p.wanted m same) }),
    (λ p. record {
      passes = passes_back i l m same p.passes;
      wanted = wanted_down i (coarse.procedure i).entry l m same (refined.settled_entry i) (subst (λ x. Wanted fine i x m) (sym e) p.wanted);
    }),
  )

  result_up : (i : ℕ) (l : Location) (m : FineLocation) → r.same i l m → IsResult coarse i l → IsResult fine i m
  result_up i l m same result =
      let passes = changes_pass coarse result.changes in
      let there = refined.shared i result.caller l m same passes in
      let up = called_up i result.caller result.call result.after l m there passes result.calls result.goes (wanted_up result.wanted m there) in
      record { changes = changes_up coarse fine r refined i l m same result.changes; caller = result.caller; call = up.call; after = up.after; calls = up.calls; goes = up.goes; wanted = up.wanted }

  result_down : (i : ℕ) (l : Location) (m : FineLocation) → r.same i l m → IsResult fine i m → IsResult coarse i l
  result_down i l m same result =
      let passes = changes_pass fine result.changes in
      let there = refined.shared i result.caller l m same (passes_back i l m same passes) in
      let down = called_down i result.caller result.call result.after m passes result.calls result.goes (family_holds result.wanted) in
      record {
        changes = changes_down coarse fine r refined i l m same result.changes;
        caller = result.caller;
        call = down.call;
        after = down.after;
        calls = down.calls;
        goes = down.goes;
        wanted = subst (λ x. Wanted coarse result.caller down.after x) (refined.one result.caller down.stands.0 l m down.stands.1 there) down.stands.2;
      }

  pub refined-agree : HaveSameRelations coarse fine r
  refined-agree = record {
    changes = λ i l m same. (changes_up coarse fine r refined i l m same, changes_down coarse fine r refined i l m same);
    preserved = λ i l m same. (
      (λ q. (passes_too i l m same q.0, λ c. q.1 (changes_down coarse fine r refined i l m same c))),
      (λ q. (passes_back i l m same q.0, λ c. q.1 (changes_up coarse fine r refined i l m same c))),
    );
    wanted = λ i a l m same settled. ((λ w. wanted_up w m same), wanted_down i a l m same settled);
    between = λ i a first step before steps m at. (wanted_awaited i a first step before steps at m, awaited_wanted i a first step before steps at m);
    params = params_agree;
    results = λ i l m same. (result_up i l m same, result_down i l m same);
  }
