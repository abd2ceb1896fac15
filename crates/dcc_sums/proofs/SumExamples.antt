-- The summaries of a small program are just these, so its localised program keeps all.
use Rattle.std.proofs.Common.{arith, lit<, ◌≡◌, ℕ, zero, suc, ◌<◌, Bool, true, false, cond, not, ◌⊎◌, inl, inr, List, [], ◌∷◌, Some, None, refl, sym, ap, ◌∙◌, subst, true≢false, map, eqb-true}
use Rattle.std.specs.Prelude.{All, Contains, filter, if◌then◌else◌, ◌==◌}
use Rattle.std.proofs.lemmas.List.Elements.{All-nil, All-cons, All-head, All-tail}
use Rattle.dcc_ir.specs.declared.syntax.Loc.{Loc}
use Rattle.dcc_ir.specs.Location.{same_location}
use Rattle.dcc_ir.specs.Live.{is_among}
use Rattle.dcc_ir.specs.Tree.{Get, Call, Stop, Block, Graph}
use Rattle.dcc_ir.specs.Flow.{graph_or_none}
use Rattle.dcc_ir.specs.Run.{no_graph, graph_at}
use Rattle.dcc_ir.specs.Passing.{passed, param_of, RetPasses, GraphPasses, StmtPasses, PassesAll}
use Rattle.dcc_ir.proofs.LocationLaws.{location_same, Contains-here, Contains-later, Contains-none, Contains-cases, among_contains, contains_among}
use Rattle.dcc_demand.specs.Procedures.{Effect, Leaves, Copies, Pops, Makes, ChangeFamily, is_left, CallChanges}
use Rattle.dcc_demand.specs.Changes.{IsWritten, Loses, Changes, ChangesWithin}
use Rattle.dcc_demand.specs.Wanted.{Wanted, IsParam, IsResult, IsClosedUnderDemand}
use Rattle.dcc_demand.proofs.SaveLaws.{lost_written}
use Rattle.dcc_demand.proofs.WantedLaws.{wanted-least}
use Rattle.dcc_sums.specs.Points.{Position, Site, Executes, Ends, Nowhere, site_of, nexts_of}
use Rattle.dcc_sums.specs.Instance.{passes, action_at}
use Rattle.dcc_sums.specs.Summaries.{IsSummary, AreSummaries, ReusesNone}
use Rattle.dcc_sums.proofs.SiteLaws.{contained_map, changes_pass}
use Rattle.dcc_sums.proofs.ArgumentLaws.{contains_filter}
use Rattle.dcc_ir.specs.Location.{location_width}
use Rattle.dcc_ir.specs.WellFormed.{is_param_list, memory_params_last, jumps_after_call, all_ret_widths, IsGraph, IsCalling, IsProgram}
use Rattle.dcc_sums.specs.Localised.{localised}
use Rattle.dcc_sums.specs.Laws.{IsKeptBy}
use Rattle.dcc_sums.proofs.KeepLaws.{localised-keeps}
use Rattle.dcc_ir.proofs.CallingPrograms as calling
use Rattle.dcc_ir.proofs.CallingPrograms.{one}
use Rattle.dcc_sums.proofs.Examples.{halves, call, exit_call, callee_block, calling_block, last_block, al, dl, si, word, push_si, set_si, copy_dl, pop_si, callee, caller, program, P, at, along, returns_there, unlost, al_is_changed, al_is_a_result, dl_is_a_param, caller_sum, callee_sum, sums}

-- Edges.

-- the edges of the two graphs
data Edge : ℕ → Position → Position → Type 0 where
  calls : Edge 0 (at 0 0) (at 0 1)
  jumps : Edge 0 (at 0 1) (at 1 0)
  exits : Edge 0 (at 1 0) (at 1 1)
  pushes : Edge 32 (at 0 0) (at 0 1)
  sets : Edge 32 (at 0 1) (at 0 2)
  copies : Edge 32 (at 0 2) (at 0 3)
  pops : Edge 32 (at 0 3) (at 0 4)

only_one : (i : ℕ) (a x b : Position) → Edge i a x → Contains (x ∷ []) b → Edge i a b
only_one i a x b e c = Contains-cases x [] b (Edge i a b) (λ same. subst (Edge i a) same e) (λ d. absurd (Contains-none b d)) c

caller_edge : (block done : ℕ) (b : Position) → Contains ((P.procedure 0).next (at block done)) b → Edge 0 (at block done) b
caller_edge zero zero b c = only_one 0 (at 0 0) (at 0 1) b calls c
caller_edge zero (suc zero) b c = only_one 0 (at 0 1) (at 1 0) b jumps c
caller_edge zero (suc (suc n)) b c = absurd (Contains-none b c)
caller_edge (suc zero) zero b c = only_one 0 (at 1 0) (at 1 1) b exits c
caller_edge (suc zero) (suc zero) b c = absurd (Contains-none b c)
caller_edge (suc zero) (suc (suc n)) b c = absurd (Contains-none b c)
caller_edge (suc (suc m)) zero b c = absurd (Contains-none b c)
caller_edge (suc (suc m)) (suc n) b c = absurd (Contains-none b c)

callee_edge : (block done : ℕ) (b : Position) → Contains ((P.procedure 32).next (at block done)) b → Edge 32 (at block done) b
callee_edge zero zero b c = only_one 32 (at 0 0) (at 0 1) b pushes c
callee_edge zero (suc zero) b c = only_one 32 (at 0 1) (at 0 2) b sets c
callee_edge zero (suc (suc zero)) b c = only_one 32 (at 0 2) (at 0 3) b copies c
callee_edge zero (suc (suc (suc zero))) b c = only_one 32 (at 0 3) (at 0 4) b pops c
callee_edge zero (suc (suc (suc (suc zero)))) b c = absurd (Contains-none b c)
callee_edge zero (suc (suc (suc (suc (suc n))))) b c = absurd (Contains-none b c)
callee_edge (suc m) zero b c = absurd (Contains-none b c)
callee_edge (suc m) (suc n) b c = absurd (Contains-none b c)

-- there is no other procedure
data Kind (i : ℕ) : Type 0 where
  first : i ≡ 0 → Kind i
  second : i ≡ 32 → Kind i
  neither : graph_or_none (graph_at program.graphs i) ≡ no_graph → Kind i

kind_of : (i : ℕ) → Kind i
kind_of i = go (0 == i) refl (32 == i) refl
  where
    go : (b : Bool) → (0 == i) ≡ b → (c : Bool) → (32 == i) ≡ c → Kind i
    go true e c f = first (sym (eqb-true 0 i e))
    go false e true f = second (sym (eqb-true 32 i f))
    go false e false f = neither (ap (λ b. graph_or_none (if b then Some caller else (if 32 == i then Some callee else None))) e ∙ ap (λ b. graph_or_none (if b then Some callee else None)) f)

no_site : (block done : ℕ) → (site_of no_graph (at block done) ≡ Ends Stop) ⊎ (site_of no_graph (at block done) ≡ Nowhere)
no_site block zero = inl refl
no_site block (suc n) = inr refl

-- what holds of no site is no part of another procedure
module _ (i : ℕ) (is : graph_or_none (graph_at program.graphs i) ≡ no_graph) where
  nothing_there : (Q : Site → Type 0) → (Q (Ends Stop) → ⊥) → (Q Nowhere → ⊥) → (block done : ℕ) → Q (site_of (graph_or_none (graph_at program.graphs i)) (at block done)) → ⊥
  nothing_there Q out out' block done h = elim (no_site block done) [
    | inl e ↦ out (subst Q e (subst (λ g. Q (site_of g (at block done))) is h))
    | inr e ↦ out' (subst Q e (subst (λ g. Q (site_of g (at block done))) is h))
  ]

edge : (i : ℕ) (block done : ℕ) (b : Position) → Contains ((P.procedure i).next (at block done)) b → Edge i (at block done) b
edge i block done b c = elim (kind_of i) [
  | first e ↦ subst (λ j. Edge j (at block done) b) (sym e) (caller_edge block done b (subst (λ j. Contains ((P.procedure j).next (at block done)) b) e c))
  | second e ↦ subst (λ j. Edge j (at block done) b) (sym e) (callee_edge block done b (subst (λ j. Contains ((P.procedure j).next (at block done)) b) e c))
  | neither e ↦ absurd (nothing_there i e (λ s. Contains (nexts_of s (at block done)) b) (Contains-none b) (Contains-none b) block done c)
]

-- What statements may be.

-- the one call
data IsCall : ℕ → Position → ℕ → Type 0 where
  the_call : IsCall 0 (at 0 0) 32

none_is_some : {A : Type 0} {n : ℕ} → None ≡ Some n → A
none_is_some e = absurd (cc)

caller_call : (block done c : ℕ) → ((P.procedure 0).action (at block done)).callee ≡ Some c → IsCall 0 (at block done) c
caller_call zero zero c e = let same : 32 ≡ c = cc in subst (IsCall 0 (at 0 0)) same the_call
caller_call zero (suc zero) c e = none_is_some e
caller_call zero (suc (suc n)) c e = none_is_some e
caller_call (suc zero) zero c e = none_is_some e
caller_call (suc zero) (suc zero) c e = none_is_some e
caller_call (suc zero) (suc (suc n)) c e = none_is_some e
caller_call (suc (suc m)) zero c e = none_is_some e
caller_call (suc (suc m)) (suc n) c e = none_is_some e

callee_call : (block done c : ℕ) → ((P.procedure 32).action (at block done)).callee ≡ Some c → IsCall 32 (at block done) c
callee_call zero zero c e = none_is_some e
callee_call zero (suc zero) c e = none_is_some e
callee_call zero (suc (suc zero)) c e = none_is_some e
callee_call zero (suc (suc (suc zero))) c e = none_is_some e
callee_call zero (suc (suc (suc (suc zero)))) c e = none_is_some e
callee_call zero (suc (suc (suc (suc (suc n))))) c e = none_is_some e
callee_call (suc m) zero c e = none_is_some e
callee_call (suc m) (suc n) c e = none_is_some e

call_is : (i : ℕ) (a : Position) (c : ℕ) → ((P.procedure i).action a).callee ≡ Some c → IsCall i a c
call_is i a c e = elim (kind_of i) [
  | first is ↦ subst (λ j. IsCall j a c) (sym is) (caller_call a.block a.done c (subst (λ j. ((P.procedure j).action a).callee ≡ Some c) is e))
  | second is ↦ subst (λ j. IsCall j a c) (sym is) (callee_call a.block a.done c (subst (λ j. ((P.procedure j).action a).callee ≡ Some c) is e))
  | neither is ↦ absurd (none_is_some {A = ⊥} (sym (no_callee a.block a.done) ∙ ap (λ g. (action_at g.pushed (site_of g a)).callee) (sym is) ∙ e))
]
  where
    no_callee : (block done : ℕ) → (action_at 0 (site_of no_graph (at block done))).callee ≡ None
    no_callee block zero = refl
    no_callee block (suc n) = refl

-- What is wanted.

data Needed : ℕ → Position → Loc → Type 0 where
  argument : Needed 0 (at 0 0) dl
  result : Needed 0 (at 0 1) al
  code : Needed 0 (at 1 0) al
  entered : Needed 32 (at 0 0) dl
  pushed : Needed 32 (at 0 1) dl
  set : Needed 32 (at 0 2) dl
  copied : Needed 32 (at 0 3) al
  returned : Needed 32 (at 0 4) al

no_use : {A : Type 0} → false ≡ true → A
no_use e = absurd (true≢false (sym e))

-- the location is the one of the list
the_one : (x l : Loc) → is_among (x ∷ []) l ≡ true → x ≡ l
the_one x l e = Contains-cases x [] l (x ≡ l) (λ same. same) (λ d. absurd (Contains-none l d)) (among_contains (x ∷ []) l e)

caller_uses : (block done : ℕ) (l : Loc) → ((P.procedure 0).action (at block done)).uses l ≡ true → Needed 0 (at block done) l
caller_uses zero zero l u = no_use u
caller_uses zero (suc zero) l u = no_use u
caller_uses zero (suc (suc n)) l u = no_use u
caller_uses (suc zero) zero l u = subst (Needed 0 (at 1 0)) (the_one al l u) code
caller_uses (suc zero) (suc zero) l u = no_use u
caller_uses (suc zero) (suc (suc n)) l u = no_use u
caller_uses (suc (suc m)) zero l u = no_use u
caller_uses (suc (suc m)) (suc n) l u = no_use u

callee_uses : (block done : ℕ) (l : Loc) → ((P.procedure 32).action (at block done)).uses l ≡ true → Needed 32 (at block done) l
callee_uses zero zero l u = no_use u
callee_uses zero (suc zero) l u = no_use u
callee_uses zero (suc (suc zero)) l u = no_use u
callee_uses zero (suc (suc (suc zero))) l u = no_use u
callee_uses zero (suc (suc (suc (suc zero)))) l u = no_use u
callee_uses zero (suc (suc (suc (suc (suc n))))) l u = no_use u
callee_uses (suc m) zero l u = no_use u
callee_uses (suc m) (suc n) l u = no_use u

uses_needed : (i : ℕ) (a : Position) (l : Loc) → ((P.procedure i).action a).uses l ≡ true → Needed i a l
uses_needed i a l u = elim (kind_of i) [
  | first is ↦ subst (λ j. Needed j a l) (sym is) (caller_uses a.block a.done l (subst (λ j. ((P.procedure j).action a).uses l ≡ true) is u))
  | second is ↦ subst (λ j. Needed j a l) (sym is) (callee_uses a.block a.done l (subst (λ j. ((P.procedure j).action a).uses l ≡ true) is u))
  | neither is ↦ no_use (sym (unused a.block a.done) ∙ ap (λ g. (action_at g.pushed (site_of g a)).uses l) (sym is) ∙ u)
]
  where
    unused : (block done : ℕ) → (action_at 0 (site_of no_graph (at block done))).uses l ≡ false
    unused block zero = refl
    unused block (suc n) = refl

made_needed : {i : ℕ} {a b : Position} (l : Loc) {to : Loc} → Edge i a b → is_left (((P.procedure i).action a).effect to) ≡ false → ((P.procedure i).action a).made_of to l ≡ true → Needed i b to → Needed i a l
made_needed l calls w m result = no_use m
made_needed l jumps w m code = no_use m
made_needed l exits w m h = elim h [ ]
made_needed l pushes w m pushed = absurd (true≢false w)
made_needed l sets w m set = no_use m
made_needed l copies w m copied = subst (Needed 32 (at 0 2)) (the_one dl l m) set
made_needed l pops w m returned = absurd (true≢false w)

still_needed : {i : ℕ} {a b : Position} {l : Loc} → Edge i a b → ((P.procedure i).action a).surely l ≡ false → ¬ CallChanges (Changes P) ((P.procedure i).action a).callee l → Needed i b l → Needed i a l
still_needed calls s n result = absurd (n al_is_changed)
still_needed jumps s n code = result
still_needed exits s n h = elim h [ ]
still_needed pushes s n pushed = entered
still_needed sets s n set = pushed
still_needed copies s n copied = absurd (true≢false s)
still_needed pops s n returned = copied

taken_needed : {i : ℕ} {a : Position} {callee : ℕ} {l : Loc} → IsCall i a callee → Needed callee (at 0 0) l → Needed i a l
taken_needed the_call entered = argument

-- only the callee returns, at its end
caller_stays : (block done : ℕ) → (P.procedure 0).returns (at block done) ≡ false
caller_stays zero zero = refl
caller_stays zero (suc zero) = refl
caller_stays zero (suc (suc n)) = refl
caller_stays (suc zero) zero = refl
caller_stays (suc zero) (suc zero) = refl
caller_stays (suc zero) (suc (suc n)) = refl
caller_stays (suc (suc m)) zero = refl
caller_stays (suc (suc m)) (suc n) = refl

returns_at : (block done : ℕ) → (P.procedure 32).returns (at block done) ≡ true → Needed 32 (at block done) al
returns_at zero zero e = no_use e
returns_at zero (suc zero) e = no_use e
returns_at zero (suc (suc zero)) e = no_use e
returns_at zero (suc (suc (suc zero))) e = no_use e
returns_at zero (suc (suc (suc (suc zero)))) e = returned
returns_at zero (suc (suc (suc (suc (suc n))))) e = no_use e
returns_at (suc m) zero e = no_use e
returns_at (suc m) (suc n) e = no_use e

given_needed : {i caller : ℕ} {call after : Position} {l : Loc} (a : Position) → (P.procedure i).returns a ≡ true → IsCall caller call i → Edge caller call after → Needed caller after l → Needed i a l
given_needed a r the_call calls result = returns_at a.block a.done r

needed_closed : IsClosedUnderDemand P (Changes P) Needed
needed_closed = record {
  used = uses_needed;
  exposed = λ i a l e. no_use e;
  made_of = λ i a b l to goes w m h. made_needed l (edge i a.block a.done b goes) w m h;
  unwritten = λ i a b l goes s n h. still_needed (edge i a.block a.done b goes) s n h;
  taken = λ i callee a l is passing h. taken_needed (call_is i a callee is) (entry_is callee l h);
  given_back = λ i caller a call after l r c is goes h. given_needed a r (call_is caller call i is) (edge caller call.block call.done after goes) h;
}
  where
    entry_is : (i : ℕ) (l : Loc) → Needed i ((P.procedure i).entry) l → Needed i (at 0 0) l
    entry_is i l h = h

wanted_needed : {i : ℕ} {a : Position} {l : Loc} → Wanted P i a l → Needed i a l
wanted_needed w = wanted-least P (Changes P) Needed needed_closed w

-- What is changed.

writes_one : (x l : Loc) (effect : Effect Loc Loc) → is_left (if is_among (x ∷ []) l then effect else Leaves) ≡ false → x ≡ l
writes_one x l effect e = go (is_among (x ∷ []) l) refl e
  where
    go : (b : Bool) → is_among (x ∷ []) l ≡ b → is_left (if b then effect else Leaves) ≡ false → x ≡ l
    go true is e = the_one x l is
    go false is e = absurd (true≢false e)

-- the callee writes nothing but these
module _ (changed : ChangeFamily Loc) (l : Loc) where
  step : (a : Position) (positions : List Position) (x : Loc) (xs : List Loc) → (is_left (((P.procedure 32).action a).effect l) ≡ false → x ≡ l) → ((P.procedure 32).action a).callee ≡ None →
      (IsWritten changed (P.procedure 32) l positions → Contains xs l) → IsWritten changed (P.procedure 32) l (a ∷ positions) → Contains (x ∷ xs) l
  step a positions x xs here plain rest (IsWritten.by_point e) = subst (Contains (x ∷ xs)) (here e) (Contains-here x xs)
  step a positions x xs here plain rest (IsWritten.by_call c) = absurd (subst (λ o. CallChanges changed o l) plain c)
  step a positions x xs here plain rest (IsWritten.before h) = Contains-later x xs l (rest h)

  nothing_before : IsWritten changed (P.procedure 32) l [] → Contains [] l
  nothing_before h = elim h [ ]

  written_there : IsWritten changed (P.procedure 32) l (at 0 3 ∷ at 0 2 ∷ at 0 1 ∷ at 0 0 ∷ []) → Contains (si ∷ al ∷ si ∷ word ∷ []) l
  written_there =
      step (at 0 3) (at 0 2 ∷ at 0 1 ∷ at 0 0 ∷ []) si (al ∷ si ∷ word ∷ []) (writes_one si l (Pops word)) refl
      (step (at 0 2) (at 0 1 ∷ at 0 0 ∷ []) al (si ∷ word ∷ []) (writes_one al l (Copies dl)) refl
      (step (at 0 1) (at 0 0 ∷ []) si (word ∷ []) (writes_one si l Makes) refl
      (step (at 0 0) [] word [] (writes_one word l (Copies si)) refl nothing_before)))

changed_is : (l : Loc) → Changes P 32 l → l ≡ al
changed_is l c = go c.0 c.1
  where
    passing : passes l ≡ true
    passing = changes_pass program 32 l c

    go : (depth : ℕ) → ChangesWithin P depth 32 l → l ≡ al
    go zero h = absurd h
    go (suc depth) h =
        let changed = ChangesWithin P depth in
        let there = returns_there (along h.trail) h.returns in
        let loses = subst (Loses changed (P.procedure 32) l) there h.loses in
        let no_si = λ (e : si ≡ l). absurd (unlost changed (subst (λ x. Loses changed (P.procedure 32) x (at 0 3 ∷ at 0 2 ∷ at 0 1 ∷ at 0 0 ∷ [])) (sym e) loses)) in
        Contains-cases si (al ∷ si ∷ word ∷ []) l (l ≡ al) no_si
        (λ d. Contains-cases al (si ∷ word ∷ []) l (l ≡ al) sym
        (λ d. Contains-cases si (word ∷ []) l (l ≡ al) no_si
        (λ d. Contains-cases word [] l (l ≡ al) (λ e. no_use (subst (λ x. passes x ≡ true) (sym e) passing)) (λ none. absurd (Contains-none l none)) d) d) d)
        (written_there changed l (lost_written changed (P.procedure 32) l loses))

never_changed : (l : Loc) → Changes P 0 l → ⊥
never_changed l c = go c.0 c.1
  where
    go : (depth : ℕ) → ChangesWithin P depth 0 l → ⊥
    go zero h = h
    go (suc depth) h = true≢false (sym h.returns ∙ caller_stays h.at.block h.at.done)

-- The summaries.

filter_part : (f : Loc → Bool) (xs : List Loc) (l : Loc) → Contains (filter f xs) l → Contains xs l × (f l ≡ true)
filter_part f [] l c = absurd (Contains-none l c)
filter_part f (x ∷ xs) l c = go (f x) refl (filter_part f xs l) c
  where
    go : (b : Bool) → f x ≡ b → (Contains (filter f xs) l → Contains xs l × (f l ≡ true)) → Contains (cond b (x ∷ filter f xs) (filter f xs)) l → Contains (x ∷ xs) l × (f l ≡ true)
    go true e rest c = Contains-cases x (filter f xs) l (Contains (x ∷ xs) l × (f l ≡ true)) (λ same. (subst (Contains (x ∷ xs)) same (Contains-here x xs), subst (λ y. f y ≡ true) same e))
        (λ d. let r = rest d in (Contains-later x xs l r.0, r.1)) c
    go false e rest c = let r = rest c in (Contains-later x xs l r.0, r.1)

one_only : (x l : Loc) → x ≡ l → Contains (x ∷ []) l
one_only x l e = subst (Contains (x ∷ [])) e (Contains-here x [])

only_that : (x l : Loc) → Contains (x ∷ []) l → x ≡ l
only_that x l c = Contains-cases x [] l (x ≡ l) (λ e. e) (λ d. absurd (Contains-none l d)) c

needed_entry : (l : Loc) → Needed 32 (at 0 0) l → dl ≡ l
needed_entry l entered = refl

-- where the callee is called and what is needed after it
result_is : {i caller : ℕ} {call after : Position} {l : Loc} → IsCall caller call i → Edge caller call after → Needed caller after l → (i ≡ 32) × (al ≡ l)
result_is the_call calls result = (refl, refl)

caller_is : IsSummary program caller caller_sum
caller_is = record {
  params = record { order = refl; exact = λ l. (λ c. absurd (Contains-none l c), λ h. absurd (Contains-none (param_of l) h.0)) };
  results = record { order = refl; exact = λ l. (λ c. absurd (Contains-none l c), λ h. absurd (never_changed l h.changes)) };
  preserved = record { order = refl; exact = λ l. (λ c. (contains_among passed l c, never_changed l), λ h. among_contains passed l h.0) };
}

callee_is : IsSummary program callee callee_sum
callee_is = record {
  params = record {
    order = refl;
    exact = λ l. (
      λ c. subst (λ x. Contains callee.params (param_of x) × IsParam P 32 x) (only_that dl l c) (contained_map param_of passed dl (among_contains passed dl refl), dl_is_a_param),
      λ h. one_only dl l (needed_entry l (wanted_needed h.1.wanted)),
    );
  };
  results = record {
    order = refl;
    exact = λ l. (
      λ c. subst (IsResult P 32) (only_that al l c) al_is_a_result,
      λ h. one_only al l (result_is (call_is h.caller h.call 32 h.calls) (edge h.caller h.call.block h.call.done h.after h.goes) (wanted_needed h.wanted)).1,
    );
  };
  preserved = record {
    order = refl;
    exact = λ l. (
      λ c. let both = filter_part (λ l. not (same_location l al)) passed l c in (contains_among passed l both.0, λ changes. kept_apart l (changed_is l changes) both.1),
      λ h. contains_filter (λ l. not (same_location l al)) passed l (apart l h.1 (same_location l al) refl) (among_contains passed l h.0),
    );
  };
}
  where
    kept_apart : (l : Loc) → l ≡ al → not (same_location l al) ≡ true → ⊥
    kept_apart l e out = true≢false (sym (subst (λ x. not (same_location x al) ≡ true) e out))

    apart : (l : Loc) → ¬ Changes P 32 l → (b : Bool) → same_location l al ≡ b → not b ≡ true
    apart l unchanged true e = absurd (unchanged (subst (Changes P 32) (sym (location_same l al e)) al_is_changed))
    apart l unchanged false e = refl

are_sums : AreSummaries program sums
are_sums = (caller_is, (callee_is, tt))

-- No byte of an argument is given back.

-- where a call stands, what it gives back
results_of : Site → List Loc
results_of (Executes (Call results entry arguments depth)) = results
results_of site = []

no_bytes : {i : ℕ} {a : Position} {callee : ℕ} → IsCall i a callee → results_of (site_of (graph_or_none (graph_at program.graphs i)) a) ≡ passed
unfolding results_of
no_bytes the_call = refl

reuses_none : ReusesNone program
unfolding results_of
reuses_none i a l reused =
    let site = reused.calls in
    let is : ((P.procedure i).action a).callee ≡ Some reused.callee = ap (λ s. (action_at (graph_or_none (graph_at program.graphs i)).pushed s).callee) site in
    let same : reused.results ≡ passed = sym (ap results_of site) ∙ no_bytes (call_is i a reused.callee is) in
    true≢false (sym (contains_among passed l (subst (λ xs. Contains xs l) same reused.given)) ∙ reused.argument)

-- All halves and flags pass.

no_words : ℕ → List ℕ
no_words entry = []

all_pass : PassesAll no_words program
unfolding no_words
all_pass = record {
  graphs = one (λ g. GraphPasses (no_words g.entry) g) callee (record {
    words = [];
    params = record { stack = refl; params = refl };
    known = record { ascending = λ k less. absurd (omega (arith, less)); words = All-nil (λ j. j < 0) };
    rets = one (λ b. RetPasses [] [] b.exit) callee_block refl;
  });
  calls = All-cons (λ g. All (λ b. All (StmtPasses no_words) b.stmts) g.blocks) caller (callee ∷ [])
      (All-cons (λ b. All (StmtPasses no_words) b.stmts) calling_block (last_block ∷ [])
      (one (StmtPasses no_words) call (record { words = []; taken = refl; temporaries = []; given = refl; differ = refl; two = refl }))
      (one (λ b. All (StmtPasses no_words) b.stmts) last_block (one (StmtPasses no_words) exit_call tt)))
      (one (λ g. All (λ b. All (StmtPasses no_words) b.stmts) g.blocks) callee
      (one (λ b. All (StmtPasses no_words) b.stmts) callee_block
      (All-cons (StmtPasses no_words) push_si (set_si ∷ copy_dl ∷ pop_si ∷ []) tt (All-cons (StmtPasses no_words) set_si (copy_dl ∷ pop_si ∷ []) tt
      (All-cons (StmtPasses no_words) copy_dl (pop_si ∷ []) tt (one (StmtPasses no_words) pop_si tt))))));
}

-- The program is well formed.

of_both : (Q : Graph → Type 0) → Q caller → Q callee → All Q program.graphs
of_both Q h k = All-cons Q caller (callee ∷ []) h (one Q callee k)

of_blocks : (Q : Block → Type 0) → Q calling_block → Q last_block → All Q caller.blocks
of_blocks Q h k = All-cons Q calling_block (last_block ∷ []) h (one Q last_block k)

-- the program is well formed with a callee that does nothing
idle_formed : IsProgram (calling.program 0x4C (Get al) [] [] passed (map Get passed) halves (map Get passed))
idle_formed = calling.formed 0x4C (Get al) [] [] passed (map Get passed) halves (map Get passed) refl refl refl refl refl refl refl refl refl

abbrev idle : Graph
idle = calling.callee 0x4C (Get al) [] [] passed (map Get passed) halves (map Get passed)

callee_formed : IsGraph callee
callee_formed =
    let is = All-head IsGraph idle [] (All-tail IsGraph caller (idle ∷ []) idle_formed.graphs) in
    record {
      begins = is.begins;
      entry = is.entry;
      offsets = one (λ b. b.at < 65536) callee_block (lit< tt);
      jumps = one (λ b. jumps_after_call b.stmts b.exit ≡ true) callee_block refl;
      addresses = is.addresses;
      bits = is.bits;
      params = is.params;
      blocks = refl;
    }

program_formed : IsProgram program
program_formed = record {
  image = idle_formed.image;
  lo = idle_formed.lo;
  hi = idle_formed.hi;
  begins = idle_formed.begins;
  entries = idle_formed.entries;
  graphs = of_both IsGraph (All-head IsGraph caller (idle ∷ []) idle_formed.graphs) callee_formed;
  params = of_both (λ g. is_param_list g.bits g.params ≡ true) refl refl;
  memory_last = of_both (λ g. memory_params_last g.params ≡ true) refl refl;
  start = idle_formed.start;
  start_rets = idle_formed.start_rets;
  rets = of_both (λ g. (a b : List ℕ) → Contains (all_ret_widths g) a → Contains (all_ret_widths g) b → a ≡ b)
      (λ a b c d. absurd (Contains-none a c)) (λ a b c d. sym (one_there a c) ∙ one_there b d);
  calls = of_both (λ g. All (λ b. All (IsCalling program g) b.stmts) g.blocks)
      (of_blocks (λ b. All (IsCalling program caller) b.stmts)
      (one (IsCalling program caller) call (record { callee = callee; named = refl; taken = refl; given = one (λ widths. widths ≡ map (location_width caller.bits) passed) (map (location_width []) passed) refl }))
      (one (IsCalling program caller) exit_call tt))
      (one (λ b. All (IsCalling program callee) b.stmts) callee_block
      (All-cons (IsCalling program callee) push_si (set_si ∷ copy_dl ∷ pop_si ∷ []) tt (All-cons (IsCalling program callee) set_si (copy_dl ∷ pop_si ∷ []) tt
      (All-cons (IsCalling program callee) copy_dl (pop_si ∷ []) tt (one (IsCalling program callee) pop_si tt)))));
}
  where
    one_there : (a : List ℕ) → Contains (all_ret_widths callee) a → map (location_width []) passed ≡ a
    one_there a c = Contains-cases (map (location_width []) passed) [] a (map (location_width []) passed ≡ a) (λ e. e) (λ d. absurd (Contains-none a d)) c

-- DL in and AL out are all that passes, and all is kept.
all_is_kept : IsKeptBy program (localised sums program)
all_is_kept = localised-keeps no_words program sums program_formed all_pass are_sums reuses_none
