-- States along trails: what a state tells some trail does, and what a trail does the states tell.
use Rattle.std.proofs.Common.{◌≡◌, ℕ, zero, suc, Bool, true, false, ◌||◌, not, inl, inr, List, [], ◌∷◌, get_or, map, refl, sym, ap, ◌∙◌, subst, true≢false, Contains}
use Rattle.std.specs.Prelude.{if◌then◌else◌, Option, Some, None}
use Rattle.std.proofs.lemmas.Bool.{or_cases, or_left, or_right}
use Rattle.std.proofs.lemmas.List.Elements.{All-contains}
use Rattle.dcc_ir.specs.declared.syntax.Loc.{Loc}
use Rattle.dcc_ir.specs.Location.{same_location}
use Rattle.dcc_ir.specs.Flow.{targets}
use Rattle.dcc_ir.specs.Live.{block_in}
use Rattle.dcc_ir.specs.Tree.{Stmt, Exit, Graph}
use Rattle.dcc_ir.proofs.LocationLaws.{location_same, location_itself, Contains-here, Contains-later, Contains-none, Contains-cases}
use Rattle.dcc_demand.specs.Procedures.{Effect, Leaves, Copies, Pops, Makes, WordEffect, LeavesWord, Pushes, Overwrites, Procedure, is_left, CallChanges}
use Rattle.dcc_demand.specs.Trail.{IsTrail}
use Rattle.dcc_demand.specs.Changes.{IsWritten, IsUnsaved, Loses}
use Rattle.dcc_demand.specs.Tables.{unsaved_after, lost_after}
use Rattle.dcc_sums.specs.Points.{Position, begin_of, next_of, Site, Executes, Ends, Nowhere, site_at, site_of, nexts_of}
use Rattle.dcc_sums.specs.Instance.{is_pushed, action_of, action_at, procedure_of}
use Rattle.dcc_modref.specs.States.{State, at_entry, is_unsaved, is_told, after, after_all, after_first}
use Rattle.dcc_modref.specs.Losses.{told}
use Rattle.dcc_modref.specs.Tables.{States, IsWithin, Flows, IsMet, AreClosed}
use Rattle.dcc_modref.proofs.PassLaws.{unsaved_there}

-- Sites.

pub after_next : (changed : ℕ → Bool) (pushed : ℕ) (location : Loc) (done : ℕ) (stmts : List Stmt) (exit : Exit) (stmt : Stmt) (s : State) → site_at done stmts exit ≡ Executes stmt
    → after_first changed pushed location (suc done) stmts s ≡ after changed pushed location stmt (after_first changed pushed location done stmts s)
after_next changed pushed location zero [] exit stmt s e = absurd (no e)
  where
    is_stmt : Site → Bool
    is_stmt (Executes stmt) = true
    is_stmt site = false

    no : Ends exit ≡ Executes stmt → ⊥
    no e = true≢false (sym (ap is_stmt e))
after_next changed pushed location zero (x ∷ stmts) exit stmt s e = ap (λ y. after changed pushed location y s) (ap the e)
  where
    the : Site → Stmt
    the (Executes y) = y
    the site = x
after_next changed pushed location (suc done) [] exit stmt s e = absurd (no e)
  where
    is_stmt : Site → Bool
    is_stmt (Executes stmt) = true
    is_stmt site = false

    no : Nowhere ≡ Executes stmt → ⊥
    no e = true≢false (sym (ap is_stmt e))
after_next changed pushed location (suc done) (x ∷ stmts) exit stmt s e = after_next changed pushed location done stmts exit stmt (after changed pushed location x s) e

pub after_end : (changed : ℕ → Bool) (pushed : ℕ) (location : Loc) (done : ℕ) (stmts : List Stmt) (exit end : Exit) (s : State) → site_at done stmts exit ≡ Ends end
    → (end ≡ exit) × (after_first changed pushed location done stmts s ≡ after_all changed pushed location stmts s)
after_end changed pushed location zero [] exit end s e = (sym (ap the e), refl)
  where
    the : Site → Exit
    the (Ends y) = y
    the site = exit
after_end changed pushed location zero (x ∷ stmts) exit end s e = absurd (true≢false (ap is_stmt e))
  where
    is_stmt : Site → Bool
    is_stmt (Executes stmt) = true
    is_stmt site = false
after_end changed pushed location (suc done) [] exit end s e = absurd (true≢false (sym (ap is_end e)))
  where
    is_end : Site → Bool
    is_end (Ends exit) = true
    is_end site = false
after_end changed pushed location (suc done) (x ∷ stmts) exit end s e = after_end changed pushed location done stmts exit end (after changed pushed location x s) e

module _ (changed : ℕ → Bool) (graph : Graph) (location : Loc) where
  abbrev procedure : Procedure Position Loc Loc
  procedure = procedure_of graph

  abbrev pushed : ℕ
  pushed = graph.pushed

  abbrev Does : (List Position → Type 0) → Position → Type 0
  Does Kind a = (passed : List Position) × IsTrail procedure passed a × Kind passed

  called : (callee : Option ℕ) → is_told changed callee ≡ true → CallChanges (told changed) callee location
  called (Some i) e = e
  called None e = absurd (true≢false (sym e))

  told_call : (callee : Option ℕ) → CallChanges (told changed) callee location → is_told changed callee ≡ true
  told_call (Some i) c = c
  told_call None c = absurd c

  -- A statement.
  module _ (a : Position) (stmt : Stmt) (site : site_of graph a ≡ Executes stmt) where
    does : procedure.action a ≡ action_of pushed stmt
    does = ap (action_at pushed) site

    goes : Contains (procedure.next a) (next_of a)
    goes = subst (λ x. Contains (nexts_of x a) (next_of a)) (sym site) (Contains-here (next_of a) [])

    effect_is : {e : Effect Loc Loc} → (action_of pushed stmt).effect location ≡ e → (procedure.action a).effect location ≡ e
    effect_is e = ap (λ x. x.effect location) does ∙ e

    word_is : (word : Loc) {e : WordEffect Loc} → (action_of pushed stmt).word_effect word ≡ e → (procedure.action a).word_effect word ≡ e
    word_is word e = ap (λ x. x.word_effect word) does ∙ e

    call_is : CallChanges (told changed) (action_of pushed stmt).callee location → CallChanges (told changed) (procedure.action a).callee location
    call_is c = subst (λ x. CallChanges (told changed) x.callee location) (sym does) c

    pub met_after : (s : State) → IsMet changed graph location a s → IsMet changed graph location (next_of a) (after changed pushed location stmt s)
    met_after s met = record {
      passed = a ∷ met.passed;
      trail = IsTrail.goes_on met.trail goes;
      written = λ e. elim (or_cases (not (is_left ((action_of pushed stmt).effect location)) || is_told changed (action_of pushed stmt).callee) s.written e) [
        | inl t ↦ elim (or_cases (not (is_left ((action_of pushed stmt).effect location))) (is_told changed (action_of pushed stmt).callee) t) [
          | inl w ↦ (a ∷ met.passed, IsTrail.goes_on met.trail goes, IsWritten.by_point (ap (λ x. is_left (x.effect location)) does ∙ unleft (is_left ((action_of pushed stmt).effect location)) w))
          | inr c ↦ (a ∷ met.passed, IsTrail.goes_on met.trail goes, IsWritten.by_call (call_is (called (action_of pushed stmt).callee c)))
        ]
        | inr w ↦ let on = met.written w in (a ∷ on.0, IsTrail.goes_on on.1 goes, IsWritten.before on.2)
      ];
      lost = λ e. elim (or_cases (is_told changed (action_of pushed stmt).callee) (lost_after (is_pushed pushed) ((action_of pushed stmt).effect location) (is_unsaved s) s.lost) e) [
        | inl c ↦ (a ∷ met.passed, IsTrail.goes_on met.trail goes, Loses.in_call (call_is (called (action_of pushed stmt).callee c)))
        | inr l ↦ loses ((action_of pushed stmt).effect location) refl l
      ];
      unsaved = λ word e. unsaves word ((action_of pushed stmt).word_effect word) refl (sym (unsaved_there changed pushed location stmt s word) ∙ e);
    }
      where
        unleft : (b : Bool) → not b ≡ true → b ≡ false
        unleft true e = absurd (true≢false (sym e))
        unleft false e = refl

        loses : (effect : Effect Loc Loc) → (action_of pushed stmt).effect location ≡ effect → lost_after (is_pushed pushed) effect (is_unsaved s) s.lost ≡ true
            → Does (Loses (told changed) procedure location) (next_of a)
        loses Leaves q e = let on = met.lost e in (a ∷ on.0, IsTrail.goes_on on.1 goes, Loses.left (effect_is q) on.2)
        loses (Copies other) q e = (a ∷ met.passed, IsTrail.goes_on met.trail goes, Loses.copied (effect_is q))
        loses (Pops word) q e = elim (or_cases (not (is_pushed pushed word)) (is_unsaved s word) e) [
          | inl o ↦ (a ∷ met.passed, IsTrail.goes_on met.trail goes, Loses.popped_open (effect_is q) (unleft (is_pushed pushed word) o))
          | inr n ↦ let on = met.unsaved word n in (a ∷ on.0, IsTrail.goes_on on.1 goes, Loses.popped_unsaved (effect_is q) on.2)
        ]
        loses Makes q e = (a ∷ met.passed, IsTrail.goes_on met.trail goes, Loses.made (effect_is q))

        unsaves : (word : Loc) (effect : WordEffect Loc) → (action_of pushed stmt).word_effect word ≡ effect
            → unsaved_after same_location location effect s.written (is_unsaved s word) ≡ true → Does (IsUnsaved (told changed) procedure location word) (next_of a)
        unsaves word LeavesWord q e = let on = met.unsaved word e in (a ∷ on.0, IsTrail.goes_on on.1 goes, IsUnsaved.kept (word_is word q) on.2)
        unsaves word (Pushes other) q e = by (same_location other location) refl
          where
            by : (b : Bool) → same_location other location ≡ b → Does (IsUnsaved (told changed) procedure location word) (next_of a)
            by true is =
                let on = met.written (sym (ap (λ b. if b then s.written else true) is) ∙ e) in
                (a ∷ on.0, IsTrail.goes_on on.1 goes, IsUnsaved.too_late (word_is word (q ∙ ap Pushes (location_same other location is))) on.2)
            by false is = (
              a ∷ met.passed,
              IsTrail.goes_on met.trail goes,
              IsUnsaved.by_other (word_is word q) (λ same. true≢false (sym (ap (λ x. same_location x location) same ∙ location_itself location) ∙ is)),
            )
        unsaves word Overwrites q e = (a ∷ met.passed, IsTrail.goes_on met.trail goes, IsUnsaved.overwritten (word_is word q))

  -- What a trail does, the state tells.
  pub record Tells (passed : List Position) (s : State) : Type 0 where
    pub written : IsWritten (told changed) procedure location passed → s.written ≡ true
    pub lost : Loses (told changed) procedure location passed → s.lost ≡ true
    pub unsaved : (word : Loc) → IsUnsaved (told changed) procedure location word passed → is_unsaved s word ≡ true

  tells_entry : Tells [] at_entry
  tells_entry = record { written = λ w. none_written w; lost = λ l. none_lost l; unsaved = λ word u. refl }
    where
      none_written : IsWritten (told changed) procedure location [] → false ≡ true
      none_written w = elim w [ ]

      none_lost : Loses (told changed) procedure location [] → false ≡ true
      none_lost l = elim l [ ]

  tells_more : {passed : List Position} (s t : State) → IsWithin s t → Tells passed s → Tells passed t
  tells_more s t within tells = record {
    written = λ w. within.written (tells.written w);
    lost = λ l. within.lost (tells.lost l);
    unsaved = λ word u. within.unsaved word (tells.unsaved word u);
  }

  -- the end of a block does nothing
  tells_end : (a : Position) (end : Exit) {passed : List Position} (s : State) → site_of graph a ≡ Ends end → Tells passed s → Tells (a ∷ passed) s
  tells_end a end {passed} s site tells = record { written = written; lost = lost; unsaved = unsaved }
    where
      does : procedure.action a ≡ action_at pushed (Ends end)
      does = ap (action_at pushed) site

      written : IsWritten (told changed) procedure location (a ∷ passed) → s.written ≡ true
      written (IsWritten.by_point e) = absurd (true≢false (sym (ap (λ x. is_left (x.effect location)) does) ∙ e))
      written (IsWritten.by_call c) = absurd (subst (λ x. CallChanges (told changed) x.callee location) does c)
      written (IsWritten.before w) = tells.written w

      leaves : (procedure.action a).effect location ≡ Leaves
      leaves = ap (λ x. x.effect location) does

      is_leaving : Effect Loc Loc → Bool
      is_leaving Leaves = true
      is_leaving e = false

      lost : Loses (told changed) procedure location (a ∷ passed) → s.lost ≡ true
      lost (Loses.in_call c) = absurd (subst (λ x. CallChanges (told changed) x.callee location) does c)
      lost (Loses.made e) = absurd (true≢false (ap is_leaving (sym leaves ∙ e)))
      lost (Loses.copied e) = absurd (true≢false (ap is_leaving (sym leaves ∙ e)))
      lost (Loses.popped_open e o) = absurd (true≢false (ap is_leaving (sym leaves ∙ e)))
      lost (Loses.popped_unsaved e u) = absurd (true≢false (ap is_leaving (sym leaves ∙ e)))
      lost (Loses.left e l) = tells.lost l

      is_kept : WordEffect Loc → Bool
      is_kept LeavesWord = true
      is_kept e = false

      stays : (word : Loc) → (procedure.action a).word_effect word ≡ LeavesWord
      stays word = ap (λ x. x.word_effect word) does

      unsaved : (word : Loc) → IsUnsaved (told changed) procedure location word (a ∷ passed) → is_unsaved s word ≡ true
      unsaved word (IsUnsaved.overwritten e) = absurd (true≢false (ap is_kept (sym (stays word) ∙ e)))
      unsaved word (IsUnsaved.by_other e n) = absurd (true≢false (ap is_kept (sym (stays word) ∙ e)))
      unsaved word (IsUnsaved.too_late e w) = absurd (true≢false (ap is_kept (sym (stays word) ∙ e)))
      unsaved word (IsUnsaved.kept e u) = tells.unsaved word u

  tells_after : (a : Position) (stmt : Stmt) {passed : List Position} (s : State) → site_of graph a ≡ Executes stmt → Tells passed s
      → Tells (a ∷ passed) (after changed pushed location stmt s)
  tells_after a stmt {passed} s site tells = record { written = written; lost = lost; unsaved = λ word u. unsaved_there changed pushed location stmt s word ∙ unsaved word u }
    where
      does : procedure.action a ≡ action_of pushed stmt
      does = ap (action_at pushed) site

      left_is : Bool
      left_is = is_left ((action_of pushed stmt).effect location)

      told_is : Bool
      told_is = is_told changed (action_of pushed stmt).callee

      called_here : CallChanges (told changed) (procedure.action a).callee location → told_is ≡ true
      called_here c = told_call (action_of pushed stmt).callee (subst (λ x. CallChanges (told changed) x.callee location) does c)

      written : IsWritten (told changed) procedure location (a ∷ passed) → (after changed pushed location stmt s).written ≡ true
      written (IsWritten.by_point e) = or_left (not left_is || told_is) s.written (or_left (not left_is) told_is (ap not (sym (ap (λ x. is_left (x.effect location)) does) ∙ e)))
      written (IsWritten.by_call c) = or_left (not left_is || told_is) s.written (or_right (not left_is) told_is (called_here c))
      written (IsWritten.before w) = or_right (not left_is || told_is) s.written (tells.written w)

      effect_here : {e : Effect Loc Loc} → (procedure.action a).effect location ≡ e → (action_of pushed stmt).effect location ≡ e
      effect_here e = sym (ap (λ x. x.effect location) does) ∙ e

      by_effect : {e : Effect Loc Loc} → (procedure.action a).effect location ≡ e → lost_after (is_pushed pushed) e (is_unsaved s) s.lost ≡ true
          → (after changed pushed location stmt s).lost ≡ true
      by_effect e l = or_right told_is (lost_after (is_pushed pushed) ((action_of pushed stmt).effect location) (is_unsaved s) s.lost)
          (ap (λ x. lost_after (is_pushed pushed) x (is_unsaved s) s.lost) (effect_here e) ∙ l)

      lost : Loses (told changed) procedure location (a ∷ passed) → (after changed pushed location stmt s).lost ≡ true
      lost (Loses.in_call c) = or_left told_is (lost_after (is_pushed pushed) ((action_of pushed stmt).effect location) (is_unsaved s) s.lost) (called_here c)
      lost (Loses.made e) = by_effect e refl
      lost (Loses.copied e) = by_effect e refl
      lost (Loses.popped_open {word = word} e o) = by_effect e (or_left (not (is_pushed pushed word)) (is_unsaved s word) (ap not o))
      lost (Loses.popped_unsaved {word = word} e u) = by_effect e (or_right (not (is_pushed pushed word)) (is_unsaved s word) (tells.unsaved word u))
      lost (Loses.left e l) = by_effect e (tells.lost l)

      word_here : (word : Loc) {e : WordEffect Loc} → (procedure.action a).word_effect word ≡ e → (action_of pushed stmt).word_effect word ≡ e
      word_here word e = sym (ap (λ x. x.word_effect word) does) ∙ e

      by_word : (word : Loc) {e : WordEffect Loc} → (procedure.action a).word_effect word ≡ e → unsaved_after same_location location e s.written (is_unsaved s word) ≡ true
          → unsaved_after same_location location ((action_of pushed stmt).word_effect word) s.written (is_unsaved s word) ≡ true
      by_word word e u = ap (λ x. unsaved_after same_location location x s.written (is_unsaved s word)) (word_here word e) ∙ u

      other_pushed : (other : Loc) → ¬ (other ≡ location) → (if same_location other location then s.written else true) ≡ true
      other_pushed other n = by (same_location other location) refl
        where
          by : (b : Bool) → same_location other location ≡ b → (if b then s.written else true) ≡ true
          by true e = absurd (n (location_same other location e))
          by false e = refl

      unsaved : (word : Loc) → IsUnsaved (told changed) procedure location word (a ∷ passed) → unsaved_after same_location location ((action_of pushed stmt).word_effect word) s.written (is_unsaved s word) ≡ true
      unsaved word (IsUnsaved.overwritten e) = by_word word e refl
      unsaved word (IsUnsaved.by_other {other = other} e n) = by_word word e (other_pushed other n)
      unsaved word (IsUnsaved.too_late e w) = by_word word e (ap (λ b. if b then s.written else true) (location_itself location) ∙ tells.written w)
      unsaved word (IsUnsaved.kept e u) = by_word word e (tells.unsaved word u)

  -- The states of blocks that are closed tell of each trail.
  module _ (begins : States) (closed : AreClosed changed graph location begins) where
    -- the state at a point that a trail comes to
    pub record Comes (passed : List Position) (a : Position) : Type 0 where
      pub begin : State
      pub there : get_or begins a.block None ≡ Some begin
      pub tells : Tells passed (after_first changed pushed location a.done (block_in graph a.block).stmts begin)

    begun : (passed : List Position) (block : ℕ) (s : State) → Flows s begins block → Tells passed s → Comes passed (begin_of block)
    begun passed block s flows tells = record { begin = flows.state; there = flows.there; tells = tells_more s flows.state flows.within tells }

    passes_on : {passed : List Position} (a b : Position) → Comes passed a → (site : Site) → site_of graph a ≡ site → Contains (nexts_of site a) b → Comes (a ∷ passed) b
    passes_on {passed} a b comes (Executes stmt) site c =
        Contains-cases (next_of a) [] b (Comes (a ∷ passed) b) (λ e. subst (Comes (a ∷ passed)) e (record {
          begin = comes.begin;
          there = comes.there;
          tells = subst (Tells (a ∷ passed)) (sym (after_next changed pushed location a.done (block_in graph a.block).stmts (block_in graph a.block).exit stmt comes.begin site))
              (tells_after a stmt (after_first changed pushed location a.done (block_in graph a.block).stmts comes.begin) site comes.tells);
        })) (λ d. absurd (Contains-none b d)) c
    passes_on {passed} a b comes (Ends end) site c =
        let at_end = after_end changed pushed location a.done (block_in graph a.block).stmts (block_in graph a.block).exit end comes.begin site in
        let s = after_all changed pushed location (block_in graph a.block).stmts comes.begin in
        let tells = tells_end a end s site (subst (Tells passed) at_end.1 comes.tells) in
        let flows = closed.flowed a.block comes.begin comes.there in
        let found = of_map (targets end) b c in
        subst (Comes (a ∷ passed)) found.2 (begun (a ∷ passed) found.0 s
        (All-contains (Flows s begins) (targets (block_in graph a.block).exit) found.0 flows (subst (λ x. Contains (targets x) found.0) at_end.0 found.1)) tells)
      where
        of_map : (blocks : List ℕ) (b : Position) → Contains (map begin_of blocks) b → (k : ℕ) × Contains blocks k × (begin_of k ≡ b)
        of_map [] b c = absurd (Contains-none b c)
        of_map (k ∷ blocks) b c = Contains-cases (begin_of k) (map begin_of blocks) b ((k' : ℕ) × Contains (k ∷ blocks) k' × (begin_of k' ≡ b))
            (λ e. (k, Contains-here k blocks, e)) (λ d. let on = of_map blocks b d in (on.0, Contains-later k blocks on.0 on.1, on.2)) c
    passes_on a b comes Nowhere site c = absurd (Contains-none b c)

    pub comes_along : {passed : List Position} {a : Position} → IsTrail procedure passed a → Comes passed a
    comes_along IsTrail.enters = begun [] 0 at_entry closed.entered tells_entry
    comes_along (IsTrail.goes_on {a = a} {b = b} trail c) = passes_on a b (comes_along trail) (site_of graph a) refl c
