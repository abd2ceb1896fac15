-- Points of graphs: what comes next there, and what is wanted before it.
use Rattle.std.proofs.Common.{◌≡◌, ℕ, zero, suc, Bool, true, false, cond, ◌&&◌, ◌⊎◌, inl, inr, List, [], ◌∷◌, Some, None, refl, sym, subst, true≢false, map, take, drop}
use Rattle.std.specs.Prelude.{if◌then◌else◌, ◌==◌, Contains}
use Rattle.std.specs.List.{AllZip}
use Rattle.dcc_ir.specs.declared.syntax.Loc.{Loc}
use Rattle.dcc_ir.specs.Tree.{Stmt, Set, Get, Call, Exit, Graph, Program, Summary}
use Rattle.dcc_ir.specs.Use.{writes_of}
use Rattle.dcc_ir.specs.Demand.{uses_of, makes_of}
use Rattle.dcc_ir.specs.Live.{is_among}
use Rattle.dcc_ir.specs.Flow.{targets, graph_or_none}
use Rattle.dcc_ir.specs.Run.{is_call, graph_at}
use Rattle.dcc_ir.specs.WellFormed.{is_stmt}
use Rattle.dcc_ir.proofs.LocationLaws.{Contains-here, Contains-later, Contains-none, Contains-cases, among_contains, contains_among, location_decided}
use Rattle.dcc_ir.proofs.passes.AgreeLaws.{Before}
use Rattle.dcc_demand.specs.Procedures.{Effect, Leaves, Pops, Copies, Procedures, is_left, CallChanges}
use Rattle.dcc_demand.specs.Changes.{Changes, ChangesWithin}
use Rattle.dcc_demand.specs.Wanted.{Wanted, IsWantedBy}
use Rattle.dcc_sums.specs.Points.{Position, begin_of, next_of, Site, Executes, Ends, site_at, site_of, nexts_of}
use Rattle.dcc_sums.specs.Instance.{passes, is_half, is_pushed, used_by, written_by, effect_of, callee_of, action_at, procedures_of}
use Rattle.dcc_sums.specs.Localised.{summary_at}
use Rattle.dcc_sums.proofs.TraceLaws.{written_plain}

-- Statements that are left.

-- the second list is what is left of the first after a number of statements
pub data IsAfter : ℕ → List Stmt → List Stmt → Type 0 where
  none : {stmts : List Stmt} → IsAfter 0 stmts stmts
  some : {n : ℕ} {stmt : Stmt} {stmts rest : List Stmt} → IsAfter n stmts rest → IsAfter (suc n) (stmt ∷ stmts) rest

pub after_next : {n : ℕ} {stmts : List Stmt} {stmt : Stmt} {rest : List Stmt} → IsAfter n stmts (stmt ∷ rest) → IsAfter (suc n) stmts rest
after_next none = some none
after_next (some h) = some (after_next h)

pub after_there : {n : ℕ} {stmts : List Stmt} {stmt : Stmt} {rest : List Stmt} → IsAfter n stmts (stmt ∷ rest) → Contains stmts stmt
after_there {stmt = stmt} {rest = rest} none = Contains-here stmt rest
after_there {stmt = stmt} (some {stmt = x} {stmts = stmts} h) = Contains-later x stmts stmt (after_there h)

pub site_is : {n : ℕ} {stmts rest : List Stmt} (exit : Exit) → IsAfter n stmts rest → site_at n stmts exit ≡ site_at 0 rest exit
site_is exit none = refl
site_is exit (some h) = site_is exit h

-- Lists.

pub contained_map : {A B : Type 0} (f : A → B) (xs : List A) (x : A) → Contains xs x → Contains (map f xs) (f x)
contained_map f [] x c = absurd (Contains-none x c)
contained_map f (y ∷ xs) x c = Contains-cases y xs x (Contains (map f (y ∷ xs)) (f x)) (λ e. subst (λ z. Contains (map f (y ∷ xs)) (f z)) e (Contains-here (f y) (map f xs)))
    (λ d. Contains-later (f y) (map f xs) (f x) (contained_map f xs x d)) c

pub first_or_rest : {A : Type 0} (xs : List A) (x : A) → Contains xs x → Contains (take 1 xs) x ⊎ Contains (drop 1 xs) x
first_or_rest [] x c = absurd (Contains-none x c)
first_or_rest (y ∷ xs) x c = Contains-cases y xs x (Contains (take 1 (y ∷ xs)) x ⊎ Contains (drop 1 (y ∷ xs)) x) (λ e. inl (subst (Contains (y ∷ [])) e (Contains-here y []))) (λ d. inr d) c

-- the summary that stands in the place of the graph with that entry
pub sum_there : (R : Graph → Summary → Type 0) (graphs : List Graph) (sums : List Summary) (entry : ℕ) (g : Graph) → AllZip R graphs sums → graph_at graphs entry ≡ Some g → R g (summary_at graphs sums entry)
sum_there R [] sums entry g all e = absurd (cc)
sum_there R (x ∷ graphs) [] entry g all e = absurd all
sum_there R (x ∷ graphs) (sum ∷ sums) entry g all e = go (x.entry == entry) (λ later. sum_there R graphs sums entry g all.1 later) e
  where
    go : (b : Bool) → (graph_at graphs entry ≡ Some g → R g (summary_at graphs sums entry)) → cond b (Some x) (graph_at graphs entry) ≡ Some g → R g (if b then sum else summary_at graphs sums entry)
    go true later is = let same : x ≡ g = cc in subst (λ y. R y sum) same all.0
    go false later is = later is

-- Statements.

used_plain : (stmt : Stmt) → is_call stmt ≡ false → used_by stmt ≡ uses_of stmt
used_plain (Call results entry arguments depth) plain = absurd (true≢false plain)
used_plain stmt plain = refl

calls_plain : (stmt : Stmt) → is_call stmt ≡ false → callee_of stmt ≡ None
calls_plain (Call results entry arguments depth) plain = absurd (true≢false plain)
calls_plain stmt plain = refl

writes : (pushed : ℕ) (stmt : Stmt) → is_left (effect_of pushed stmt) ≡ false
writes pushed (Set l (Get y)) = go (is_half l && is_pushed pushed y)
  where
    go : (c : Bool) → is_left (if◌then◌else◌ {A = Effect Loc Loc} c (Pops y) (Copies y)) ≡ false
    go true = refl
    go false = refl
writes pushed stmt = refl

module _ (p : Program) where
  abbrev pub P : Procedures Position Loc Loc
  P = procedures_of p

  abbrev pub graph_of : ℕ → Graph
  graph_of entry = graph_or_none (graph_at p.graphs entry)

  -- only what passes is changed
  pub changes_pass : (i : ℕ) (l : Loc) → Changes P i l → passes l ≡ true
  changes_pass i l c = go c.0 c.1
    where
      go : (depth : ℕ) → ChangesWithin P depth i l → passes l ≡ true
      go zero h = absurd h
      go (suc depth) h = h.passes

  module _ (entry : ℕ) (a : Position) where
    abbrev pub here : Site
    here = site_of (graph_of entry) a

    -- the point after a statement
    pub goes_next : (stmt : Stmt) → here ≡ Executes stmt → Contains ((P.procedure entry).next a) (next_of a)
    goes_next stmt site = subst (λ s. Contains (nexts_of s a) (next_of a)) (sym site) (Contains-here (next_of a) [])

    -- the beginning of a block to which the end of one leads
    pub goes_there : (exit : Exit) (place : ℕ) → here ≡ Ends exit → Contains (targets exit) place → Contains ((P.procedure entry).next a) (begin_of place)
    goes_there exit place site c = subst (λ s. Contains (nexts_of s a) (begin_of place)) (sym site) (contained_map begin_of (targets exit) place c)

    -- what is wanted after a statement and not written by it nor changed by its call is wanted before it
    pub wanted_still : (stmt : Stmt) → here ≡ Executes stmt → (l : Loc) → is_among (written_by stmt) l ≡ false → ¬ CallChanges (Changes P) (callee_of stmt) l →
        Wanted P entry (next_of a) l → Wanted P entry a l
    wanted_still stmt site l out unchanged w =
        IsWantedBy.unwritten (goes_next stmt site) (subst (λ s. (action_at (graph_of entry).pushed s).surely l ≡ false) (sym site) out)
        (subst (λ s. ¬ CallChanges (Changes P) (action_at (graph_of entry).pushed s).callee l) (sym site) unchanged) w

    -- what is wanted at the beginning of a block is wanted where one ends that leads there
    pub wanted_there : (exit : Exit) (place : ℕ) → here ≡ Ends exit → Contains (targets exit) place → (l : Loc) → Wanted P entry (begin_of place) l → Wanted P entry a l
    wanted_there exit place site c l w =
        IsWantedBy.unwritten (goes_there exit place site c) (subst (λ s. (action_at (graph_of entry).pushed s).surely l ≡ false) (sym site) refl)
        (subst (λ s. ¬ CallChanges (Changes P) (action_at (graph_of entry).pushed s).callee l) (sym site) (λ no. no)) w

    pub wanted_used : (site : Site) → here ≡ site → (l : Loc) → (action_at (graph_of entry).pushed site).uses l ≡ true → Wanted P entry a l
    wanted_used site is l u = IsWantedBy.used (subst (λ s. (action_at (graph_of entry).pushed s).uses l ≡ true) (sym is) u)

    -- what is wanted before a statement that is no call is what matters before it
    pub before : (bits : List ℕ) (stmt : Stmt) → here ≡ Executes stmt → is_call stmt ≡ false → is_stmt bits stmt ≡ true → Before bits (Wanted P entry a) (Wanted P entry (next_of a)) stmt
    before bits stmt site plain formed = record {
      used = λ l c. wanted_used (Executes stmt) site l (contains_among (used_by stmt) l (subst (λ xs. Contains xs l) (sym (used_plain stmt plain)) c));
      made_of = λ l to c m w. IsWantedBy.made_of (goes_next stmt site)
          (subst (λ s. is_left ((action_at (graph_of entry).pushed s).effect to) ≡ false) (sym site) (written to (is_among (written_by stmt) to) (contains_among (written_by stmt) to (there to c))))
          (subst (λ s. (action_at (graph_of entry).pushed s).made_of to l ≡ true) (sym site) (contains_among (makes_of stmt) l m)) w;
      left = λ l w. location_decided (writes_of stmt) l (Wanted P entry a l ⊎ (Contains (writes_of stmt) l × (is_stmt bits stmt ≡ true))) (λ c. inr (c, formed))
          (λ out. inl (wanted_still stmt site l (apart l out (is_among (written_by stmt) l) refl) (subst (λ o. ¬ CallChanges (Changes P) o l) (sym (calls_plain stmt plain)) (λ no. no)) w));
    }
      where
        there : (l : Loc) → Contains (writes_of stmt) l → Contains (written_by stmt) l
        there l c = subst (λ xs. Contains xs l) (sym (written_plain stmt plain)) c

        written : (to : Loc) (b : Bool) → b ≡ true → is_left (if b then effect_of (graph_of entry).pushed stmt else Leaves) ≡ false
        written to true e = writes (graph_of entry).pushed stmt
        written to false e = absurd (true≢false (sym e))

        apart : (l : Loc) → (Contains (writes_of stmt) l → ⊥) → (b : Bool) → is_among (written_by stmt) l ≡ b → b ≡ false
        apart l out true e = absurd (out (subst (λ xs. Contains xs l) (written_plain stmt plain) (among_contains (written_by stmt) l e)))
        apart l out false e = refl
