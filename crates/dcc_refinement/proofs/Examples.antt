-- `push si; nop; inc si; pop si; ret` with SI as one location, and steps that stand for it: the INC makes its value in a
-- temporary first, and nothing stands for the NOP. So both preserve SI, or neither does.
use Rattle.std.proofs.Common.{◌≡◌, ℕ, Bool, true, false, ◌⊎◌, inl, inr, List, [], ◌∷◌, ◌++◌, refl, sym, ap, ◌∙◌, subst, true≢false, arith}
use Rattle.std.specs.Prelude.{Some, None, Contains, ◌↔◌}
use Rattle.dcc_demand.specs.Procedures.{Effect, Leaves, Pops, Makes, WordEffect, LeavesWord, Pushes, Action, Procedures}
use Rattle.dcc_demand.specs.Changes.{IsPreserved}
use Rattle.dcc_refinement.specs.Steps.{effect_of, word_effect_of, CallNothing, Walks, Flows, Uses, LosesAtOnce}
use Rattle.dcc_refinement.specs.Refinement.{Refinement, Carries, Takes, EffectsAgree, WordEffectsAgree, IsSettled}
use Rattle.dcc_refinement.specs.Refinement.{IsRefined, ChangesAgree, WantsAgree, EdgesAgree}
use Rattle.dcc_refinement.proofs.WantedLaws.{itself}
use Rattle.dcc_refinement.proofs.TrailLaws.{only}
use Rattle.dcc_refinement.proofs.RefinedLaws.{refined-agree}

data Register : Type 0 where
  si : Register

data Location : Type 0 where
  half : Location
  temporary : Location

data Stacked : Type 0 where
  top : Stacked

data Point : Type 0 where
  push : Point
  nop : Point
  inc : Point
  pop : Point
  ret : Point

data Step : Type 0 where
  pushes : Step
  makes : Step
  sets : Step
  pops : Step
  returns : Step

-- The coarse procedure.

abbrev doing : Effect Register Stacked → Bool → WordEffect Register → Action Register Stacked
doing effect writes on_word = record {
  uses = λ l. false;
  effect = λ l. effect;
  made_of = λ to l. writes;
  surely = λ l. writes;
  word_effect = λ w. on_word;
  callee = None;
}

abbrev action : Point → Action Register Stacked
action push = doing Leaves false (Pushes si)
action inc = doing Makes true LeavesWord
action pop = record (doing (Pops top) true LeavesWord) { made_of = λ to l. false }
action point = doing Leaves false LeavesWord

abbrev next : Point → List Point
next push = nop ∷ []
next nop = inc ∷ []
next inc = pop ∷ []
next pop = ret ∷ []
next ret = []

abbrev is_ret : Point → Bool
is_ret ret = true
is_ret point = false

abbrev coarse : Procedures Point Register Stacked
coarse = record {
  procedure = λ i. record { entry = push; next = next; returns = is_ret; action = action; is_private = λ w. true; is_exposed = λ l. false };
  passes = λ l. true;
}

-- The fine one.

abbrev only_half : Effect Location Stacked → Location → Effect Location Stacked
only_half effect half = effect
only_half effect temporary = Leaves

abbrev is_half : Location → Bool
is_half half = true
is_half temporary = false

abbrev setting_half : Effect Location Stacked → (Location → Bool) → Action Location Stacked
setting_half effect made_of = record {
  uses = λ l. false;
  effect = only_half effect;
  made_of = λ to l. made_of l;
  surely = is_half;
  word_effect = λ w. LeavesWord;
  callee = None;
}

abbrev only_temporary : Location → Effect Location Stacked
only_temporary half = Leaves
only_temporary temporary = Makes

abbrev is_temporary : Location → Bool
is_temporary half = false
is_temporary temporary = true

abbrev idle : WordEffect Location → Action Location Stacked
idle on_word = record {
  uses = λ l. false;
  effect = λ l. Leaves;
  made_of = λ to l. false;
  surely = λ l. false;
  word_effect = λ w. on_word;
  callee = None;
}

abbrev step_action : Step → Action Location Stacked
step_action pushes = idle (Pushes half)
step_action makes = record {
  uses = λ l. false;
  effect = only_temporary;
  made_of = λ to l. is_half l;
  surely = is_temporary;
  word_effect = λ w. LeavesWord;
  callee = None;
}
step_action sets = setting_half Makes is_temporary
step_action pops = setting_half (Pops top) (λ l. false)
step_action returns = idle LeavesWord

abbrev next_step : Step → List Step
next_step pushes = makes ∷ []
next_step makes = sets ∷ []
next_step sets = pops ∷ []
next_step pops = returns ∷ []
next_step returns = []

abbrev is_return : Step → Bool
is_return returns = true
is_return step = false

abbrev fine : Procedures Step Location Stacked
fine = record {
  procedure = λ i. record { entry = pushes; next = next_step; returns = is_return; action = step_action; is_private = λ w. true; is_exposed = λ l. false };
  passes = is_half;
}

-- How they stand for each other.

abbrev steps : Point → List Step
steps push = pushes ∷ []
steps nop = []
steps inc = makes ∷ sets ∷ []
steps pop = pops ∷ []
steps ret = returns ∷ []

abbrev begin : Point → Step
begin push = pushes
begin nop = makes
begin inc = makes
begin pop = pops
begin ret = returns

abbrev same : Register → Location → Type 0
same si half = Unit {0}
same si temporary = ⊥

abbrev standing : Refinement Point Register Stacked Step Location Stacked
standing = record { steps = λ i. steps; begin = λ i. begin; same = λ i. same; same_word = λ i w v. Unit {0} }

-- What the points do.

no : {A : Type 0} → true ≡ false → A
no e = absurd (true≢false e)

nor : {A : Type 0} → false ≡ true → A
nor e = absurd (true≢false (sym e))

effect_at : (i : ℕ) (a : Point) (l : Register) (m : Location) → same l m
    → EffectsAgree coarse fine standing i ((action a).effect l) (effect_of (fine.procedure i) (steps a) m)
effect_at i a si temporary s = absurd s
effect_at i push si half s = EffectsAgree.both_leave
effect_at i nop si half s = EffectsAgree.both_leave
effect_at i inc si half s = EffectsAgree.both_lose LosesAtOnce.made LosesAtOnce.made
effect_at i pop si half s = EffectsAgree.both_pop refl refl tt
effect_at i ret si half s = EffectsAgree.both_leave

word_at : (i : ℕ) (a : Point) (l : Register) (m : Location) (w v : Stacked) → same l m
    → WordEffectsAgree coarse fine standing l m ((action a).word_effect w) (word_effect_of (fine.procedure i) (steps a) v)
word_at i a si temporary w v s = absurd s
word_at i push si half w v s = WordEffectsAgree.both_push
word_at i nop si half w v s = WordEffectsAgree.both_leave
word_at i inc si half w v s = WordEffectsAgree.both_leave
word_at i pop si half w v s = WordEffectsAgree.both_leave
word_at i ret si half w v s = WordEffectsAgree.both_leave

calls_nothing : (i : ℕ) (a : Point) → ((action a).callee ≡ None) × CallNothing (fine.procedure i) (steps a)
calls_nothing i push = (refl, (refl, tt))
calls_nothing i nop = (refl, tt)
calls_nothing i inc = (refl, (refl, (refl, tt)))
calls_nothing i pop = (refl, (refl, tt))
calls_nothing i ret = (refl, (refl, tt))

pushed_at : (i : ℕ) (a : Point) (l : Register) (m : Location) (w : Stacked) → same l m → (action a).word_effect w ≡ Pushes l
    → ((action a).callee ≡ None) × (effect_of (fine.procedure i) (steps a) m ≡ Leaves)
pushed_at i a si temporary w s e = absurd s
pushed_at i push si half w s e = (refl, refl)
pushed_at i nop si half w s e = absurd (cc e)
pushed_at i inc si half w s e = absurd (cc e)
pushed_at i pop si half w s e = absurd (cc e)
pushed_at i ret si half w s e = absurd (cc e)

popped_at : (i : ℕ) (a : Point) (l : Register) (m : Location) (w v : Stacked) → same l m → (action a).effect l ≡ Pops w
    → word_effect_of (fine.procedure i) (steps a) v ≡ LeavesWord
popped_at i a si temporary w v s e = absurd s
popped_at i push si half w v s e = absurd (cc e)
popped_at i nop si half w v s e = refl
popped_at i inc si half w v s e = refl
popped_at i pop si half w v s e = refl
popped_at i ret si half w v s e = refl

changes_agree : (i : ℕ) (a : Point) → ChangesAgree coarse fine standing i a
changes_agree i a = record {
  effect = λ l m s p. effect_at i a l m s;
  word_effect = λ l m w v s p t. word_at i a l m w v s;
  pushed = λ l m w s p e. pushed_at i a l m w s e;
  popped = λ l m w v s p t e. popped_at i a l m w v s e;
}

unused : (step : Step) (m : Location) → (step_action step).uses m ≡ true → ⊥
unused pushes m e = nor e
unused makes m e = nor e
unused sets m e = nor e
unused pops m e = nor e
unused returns m e = nor e

none_used : (i : ℕ) {steps : List Step} {m : Location} → Uses (fine.procedure i) steps m → ⊥
none_used i (Uses.here {a = step} {location = m} e) = unused step m e
none_used i (Uses.made h e u) = none_used i u
none_used i (Uses.kept e u) = none_used i u

takes_none : (i : ℕ) (a : Point) (l : Register) → Takes coarse fine standing i a l → ⊥
takes_none i push l (inl u) = nor u
takes_none i nop l (inl u) = nor u
takes_none i inc l (inl u) = nor u
takes_none i pop l (inl u) = nor u
takes_none i ret l (inl u) = nor u
takes_none i a l (inr t) = nor t.2

carried_at : (i : ℕ) (a : Point) (l after : Register) (m n : Location) → same l m → same after n → Carries coarse fine standing i a l after → Flows (fine.procedure i) (steps a) m n
carried_at i a si si temporary n s t c = absurd s
carried_at i a si si half temporary s t c = absurd t
carried_at i push si si half half s t (inl c) = no c.0
carried_at i push si si half half s t (inr c) = Flows.kept refl Flows.stays
carried_at i nop si si half half s t (inl c) = no c.0
carried_at i nop si si half half s t (inr c) = Flows.stays
carried_at i inc si si half half s t (inl c) = Flows.made {to = temporary} refl refl (Flows.made {to = half} refl refl Flows.stays)
carried_at i inc si si half half s t (inr c) = no c.1
carried_at i pop si si half half s t (inl c) = nor c.1
carried_at i pop si si half half s t (inr c) = no c.1
carried_at i ret si si half half s t (inl c) = no c.0
carried_at i ret si si half half s t (inr c) = Flows.kept refl Flows.stays

-- nothing of what the temporary holds comes to SI
not_from_temporary : (i : ℕ) (a : Point) → Flows (fine.procedure i) (steps a) temporary half → ⊥
not_from_temporary i push (Flows.made h e f) = no h
not_from_temporary i push (Flows.kept e f) = elim f [ ]
not_from_temporary i nop f = elim f [ ]
not_from_temporary i inc (Flows.made h e f) = nor e
not_from_temporary i inc (Flows.kept e f) = no e
not_from_temporary i pop (Flows.made h e f) = nor e
not_from_temporary i pop (Flows.kept e f) = elim f [ ]
not_from_temporary i ret (Flows.made h e f) = no h
not_from_temporary i ret (Flows.kept e f) = elim f [ ]

from_half : (i : ℕ) (a : Point) → Flows (fine.procedure i) (steps a) half half → Carries coarse fine standing i a si si
from_half i push f = inr (refl, refl)
from_half i nop f = inr (refl, refl)
from_half i inc f = inl (refl, refl)
from_half i pop (Flows.made h e f) = nor e
from_half i pop (Flows.kept e f) = no e
from_half i ret f = inr (refl, refl)

flows_at : (i : ℕ) (a : Point) (after : Register) (m n : Location) → same after n → Flows (fine.procedure i) (steps a) m n
    → (l : Register) × same l m × (Carries coarse fine standing i a l after ⊎ Takes coarse fine standing i a l)
flows_at i a si m temporary s f = absurd s
flows_at i a si half half s f = (si, tt, inl (from_half i a f))
flows_at i a si temporary half s f = absurd (not_from_temporary i a f)

stands : (to : Register) → (m : Location) × same to m
stands si = (half, tt)

wants_agree : (i : ℕ) (a : Point) → WantsAgree coarse fine standing i a
wants_agree i a = record {
  carried = λ l after m n s t c. inl (carried_at i a l after m n s t c);
  taken = λ l m s t. absurd (takes_none i a l t);
  flows = λ after m n s f. flows_at i a after m n s f;
  uses = λ m u. absurd (none_used i u);
  made = λ l to h e. inr (stands to);
}

-- Where they lead.

one_more : (before : List Step) (x step next : Step) (after : List Step) → x ∷ [] ≡ before ++ (step ∷ next ∷ after) → ⊥
one_more [] x step next after e = cc e
one_more (y ∷ []) x step next after e = cc e
one_more (y ∷ z ∷ before) x step next after e = cc e

last_one : (before : List Step) (x step : Step) → x ∷ [] ≡ before ++ (step ∷ []) → x ≡ step
last_one [] x step e = cc e
last_one (y ∷ []) x step e = absurd (cc e)
last_one (y ∷ z ∷ before) x step e = absurd (cc e)

last_two : (before : List Step) (x y step : Step) → x ∷ y ∷ [] ≡ before ++ (step ∷ []) → y ≡ step
last_two [] x y step e = absurd (cc e)
last_two (z ∷ before) x y step e = last_one before y step (cc e)

-- the last step
abbrev last_step : Point → Step
last_step push = pushes
last_step nop = pushes
last_step inc = sets
last_step pop = pops
last_step ret = returns

last_at : (a : Point) (before : List Step) (step : Step) → steps a ≡ before ++ (step ∷ []) → last_step a ≡ step
last_at push before step e = last_one before pushes step e
last_at nop [] step e = absurd (cc e)
last_at nop (x ∷ before) step e = absurd (cc e)
last_at inc before step e = last_two before makes sets step e
last_at pop before step e = last_one before pops step e
last_at ret before step e = last_one before returns step e

begins_at : (a : Point) (step : Step) (rest : List Step) → steps a ≡ step ∷ rest → begin a ≡ step
begins_at push step rest e = cc e
begins_at nop step rest e = absurd (cc e)
begins_at inc step rest e = cc e
begins_at pop step rest e = cc e
begins_at ret step rest e = cc e

none_there : {A B : Type 0} {x : A} → Contains [] x → B
none_there c = absurd (omega (arith, c.1))

goes_at : (i : ℕ) (a b : Point) → Contains (next a) b → Walks (fine.procedure i) (begin a) (steps a) (begin b)
goes_at i push b c = subst (λ x. Walks (fine.procedure i) pushes (pushes ∷ []) (begin x)) (only c) (Walks.goes itself Walks.stands)
goes_at i nop b c = subst (λ x. Walks (fine.procedure i) makes [] (begin x)) (only c) Walks.stands
goes_at i inc b c = subst (λ x. Walks (fine.procedure i) makes (makes ∷ sets ∷ []) (begin x)) (only c) (Walks.goes itself (Walks.goes itself Walks.stands))
goes_at i pop b c = subst (λ x. Walks (fine.procedure i) pops (pops ∷ []) (begin x)) (only c) (Walks.goes itself Walks.stands)
goes_at i ret b c = none_there c

within_at : (a : Point) (before after : List Step) (step to : Step) → steps a ≡ before ++ (step ∷ to ∷ after) → (next_step step ≡ to ∷ []) × (is_return step ≡ false)
within_at push before after step to e = absurd (one_more before pushes step to after e)
within_at nop [] after step to e = absurd (cc e)
within_at nop (x ∷ before) after step to e = absurd (cc e)
within_at inc [] after step to e =
    let first : makes ≡ step = cc e in
    let second : sets ≡ to = cc e in
    (subst (λ x. next_step x ≡ to ∷ []) first (ap (λ x. x ∷ []) second), subst (λ x. is_return x ≡ false) first refl)
within_at inc (x ∷ before) after step to e = absurd (one_more before sets step to after (cc e))
within_at pop before after step to e = absurd (one_more before pops step to after e)
within_at ret before after step to e = absurd (one_more before returns step to after e)

comes_last : (a : Point) (to : Step) → Contains (next_step (last_step a)) to → ¬ (a ≡ nop) → (b : Point) × Contains (next a) b × (to ≡ begin b)
comes_last push to c n = (nop, itself, sym (only c))
comes_last nop to c n = absurd (n refl)
comes_last inc to c n = (pop, itself, sym (only c))
comes_last pop to c n = (ret, itself, sym (only c))
comes_last ret to c n = none_there c

some_steps : (before : List Step) (step : Step) → [] ≡ before ++ (step ∷ []) → ⊥
some_steps [] step e = cc e
some_steps (x ∷ before) step e = cc e

returns_last : (a : Point) → ¬ (a ≡ nop) → is_return (last_step a) ≡ is_ret a
returns_last push n = refl
returns_last nop n = refl
returns_last inc n = refl
returns_last pop n = refl
returns_last ret n = refl

alone_at : (a : Point) → is_ret a ≡ true → (step : Step) × (steps a ≡ step ∷ [])
alone_at ret e = (returns, refl)
alone_at push e = nor e
alone_at nop e = nor e
alone_at inc e = nor e
alone_at pop e = nor e

edges_agree : (i : ℕ) (a : Point) → EdgesAgree coarse fine standing i a
edges_agree i a = record {
  begins = begins_at a;
  goes = goes_at i a;
  within = within_at a;
  comes = λ before step to e c. comes_last a to (subst (λ x. Contains (next_step x) to) (sym (last_at a before step e)) c)
      (λ n. some_steps before step (sym (ap steps n) ∙ e));
  returns = λ before step e. ap is_return (sym (last_at a before step e)) ∙ returns_last a (λ n. some_steps before step (sym (ap steps n) ∙ e));
  alone = alone_at a;
}

settled : (i : ℕ) (a : Point) → IsSettled coarse fine standing i a
settled i push = IsSettled.by_steps refl
settled i nop = IsSettled.by_next {b = inc} refl itself (IsSettled.by_steps refl)
settled i inc = IsSettled.by_steps refl
settled i pop = IsSettled.by_steps refl
settled i ret = IsSettled.by_steps refl

none_called : (step : Step) {callee : ℕ} → (step_action step).callee ≡ Some callee → ⊥
none_called pushes e = cc e
none_called makes e = cc e
none_called sets e = cc e
none_called pops e = cc e
none_called returns e = cc e

one_location : (l k : Register) → l ≡ k
one_location si si = refl

passes_at : (l : Register) (m : Location) → same l m → true ≡ is_half m
passes_at si half s = refl
passes_at si temporary s = absurd s

refined : IsRefined coarse fine standing
refined = record {
  one = λ i l k m s t. one_location l k;
  passes = λ i l m s. passes_at l m s;
  shared = λ i j l m s p. s;
  exposed = λ i l m e s. nor e;
  unexposed = λ i m. refl;
  changes = changes_agree;
  callees = λ i a. inl (calls_nothing i a);
  wants = wants_agree;
  edges = edges_agree;
  called = λ i callee call e. absurd (none_called call e);
  entries = λ i. inl refl;
  settled_entry = λ i. settled i push;
  settled = λ i a b c. settled i b;
}

-- SI is preserved by the steps if it is by the points, and the other way
preserved_alike : IsPreserved coarse 0 si ↔ IsPreserved fine 0 half
preserved_alike = (refined-agree coarse fine standing refined).preserved 0 si half tt

-- Near misses: an INC whose steps set SI before they make the value take SI from what the temporary held before; a POP
-- that also pushes the word doesn't leave the word that it pops.

abbrev late_steps : Point → List Step
late_steps inc = sets ∷ makes ∷ []
late_steps point = steps point

abbrev late : Refinement Point Register Stacked Step Location Stacked
late = record standing { steps = λ i. late_steps }

nothing_held : (l : Register) → ¬ same l temporary
nothing_held si s = s

late_wants : ¬ WantsAgree coarse fine late 0 inc
late_wants w =
    let found = w.flows si temporary half tt (Flows.made {to = half} refl refl (Flows.kept refl Flows.stays)) in
    nothing_held found.0 found.1

abbrev pushing_steps : Point → List Step
pushing_steps pop = pushes ∷ pops ∷ []
pushing_steps point = steps point

abbrev pushing : Refinement Point Register Stacked Step Location Stacked
pushing = record standing { steps = λ i. pushing_steps }

pushing_changes : ¬ ChangesAgree coarse fine pushing 0 pop
pushing_changes c = cc (c.popped si half top top tt refl tt refl)
