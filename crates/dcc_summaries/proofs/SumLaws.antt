-- What is told of what passes between procedures is so.
use Rattle.std.proofs.Common.{◌≡◌, ℕ, suc, ◌<◌, Bool, true, false, ◌&&◌, not, inl, inr, List, [], ◌∷◌, ◌++◌, length, map, get_or, slice_get, refl, sym, ap, ◌∙◌, subst, true≢false, arith, Contains, Some}
use Rattle.std.specs.Prelude.{◌↔◌, ◌==◌, filter, if◌then◌else◌}
use Rattle.std.specs.List.{AllZip}
use Rattle.std.proofs.lemmas.Bool.{not-true, and_parts, and_from, eqb-true, eq-eqb, false_from_ne_true}
use Rattle.std.proofs.lemmas.List.Elements.{Contains-get_or}
use Rattle.dcc_ir.specs.declared.syntax.Loc.{Loc}
use Rattle.dcc_ir.specs.declared.syntax.Put.{Put}
use Rattle.dcc_ir.specs.declared.syntax.Put.TheVariants.{Memory, One, Two}
use Rattle.dcc_ir.specs.declared.syntax.Param.{Param}
use Rattle.dcc_ir.specs.Tree.{Set, Fetch, Store, Div, Call, Dos, Program}
use Rattle.dcc_ir.specs.Flow.{graph_or_none}
use Rattle.dcc_ir.specs.Live.{is_among, block_in}
use Rattle.dcc_ir.specs.Passing.{passed, param_of}
use Rattle.dcc_ir.specs.Run.{graph_at, no_graph}
use Rattle.dcc_ir.specs.WellFormed.{IsProgram}
use Rattle.dcc_ir.proofs.LocationLaws.{location_same, location_itself, Contains-here, Contains-later, Contains-none, Contains-cases, among_contains, contains_among}
use Rattle.dcc_demand.specs.Procedures.{Procedures}
use Rattle.dcc_demand.specs.Changes.{Changes, IsPreserved}
use Rattle.dcc_demand.specs.Wanted.{Wanted, IsParam, IsResult}
use Rattle.dcc_sums.specs.Points.{Position, next_of, Site, Executes, Ends, Nowhere, site_of, nexts_of}
use Rattle.dcc_sums.specs.Instance.{passes, procedures_of}
use Rattle.dcc_sums.specs.Summaries.{AreJust, IsSummary, IsReused, ReusesNone}
use Rattle.dcc_sums.proofs.SiteLaws.{here, goes_next, changes_pass}
use Rattle.dcc_modref.proofs.StateLaws.{among_filter}
use Rattle.dcc_modref.proofs.ProgramLaws.{one_more}
use Rattle.dcc_summaries.specs.declared.points.Point.{Point}
use Rattle.dcc_summaries.specs.declared.ways.Port.{Port}
use Rattle.dcc_summaries.specs.declared.backwards.Found.{Found}
use Rattle.dcc_summaries.specs.Points.{point_at, next_point, position_of, graph_in, site_in, callee_at, IsPoint}
use Rattle.dcc_summaries.specs.Points.{all_points}
use Rattle.dcc_summaries.specs.Ways.{port_at, ports_at, calls_at}
use Rattle.dcc_summaries.specs.Found.{AreFound}
use Rattle.dcc_summaries.specs.Summaries.{IsReusedAt, sets_one, takes, wanted_before, changed_by, wanted_after}
use Rattle.dcc_summaries.specs.Summaries.{is_param, is_result, sum_of, reuses}
use Rattle.dcc_summaries.proofs.ListLaws.{in_flat, in_filter, from_filter, in_any, from_any}
use Rattle.dcc_summaries.proofs.PointLaws.{is_one}
use Rattle.dcc_summaries.proofs.FollowLaws.{changes_told}
use Rattle.dcc_summaries.proofs.SoundLaws.{callee_there, entry_of, site_here, is_call}
use Rattle.dcc_summaries.proofs.CompleteLaws.{real_call, is_real, done_there}

-- The locations that pass which pass a test.

same_filter : (f g : Loc → Bool) (xs : List Loc) → ((x : Loc) → Contains xs x → f x ≡ g x) → filter f xs ≡ filter g xs
same_filter f g [] same = refl
same_filter f g (x ∷ xs) same =
    ap (λ l. if f x then x ∷ l else l) (same_filter f g xs (λ y c. same y (Contains-later x xs y c))) ∙ ap (λ b. if b then x ∷ filter g xs else filter g xs) (same x (Contains-here x xs))

just : (Kind : Loc → Type 0) (f : Loc → Bool) → ((l : Loc) → passes l ≡ true → f l ≡ true → Kind l) → ((l : Loc) → Kind l → (passes l ≡ true) × (f l ≡ true)) → AreJust Kind (filter f passed)
just Kind f kind tells = record {
  order = same_filter f (λ l. is_among (filter f passed) l) passed (λ x c. sym (among_filter f passed x ∙ ap (λ b. b && f x) (contains_among passed x c)));
  exact = λ l. (
    λ c. let kept = from_filter f passed l c in kind l (contains_among passed l kept.0) kept.1,
    λ k. let told = tells l k in in_filter f passed l (among_contains passed l told.0) told.1,
  );
}

-- Params.

sets_is : (l : Loc) (put : Put) → sets_one l put ≡ true → put ≡ One l
sets_is l (One other) e = ap One (sym (location_same l other e))
sets_is l Memory e = absurd (true≢false (sym e))
sets_is l (Two low high) e = absurd (true≢false (sym e))

param_is : (l : Loc) (q : Param) → (not q.stack && sets_one l q.put) ≡ true → q ≡ param_of l
param_is l q e =
    let both = and_parts (not q.stack) (sets_one l q.put) e in
    let stack = not-true q.stack both.0 in
    let put = sets_is l q.put both.1 in
    λ i. record { stack = stack i; put = put i }

taken : (params : List Param) (l : Loc) → takes params l ≡ true → Contains params (param_of l)
taken params l e =
    let found = from_any (λ (q : Param). not q.stack && sets_one l q.put) params e in
    subst (Contains params) (param_is l found.0 found.2) found.1

takes_it : (params : List Param) (l : Loc) → Contains params (param_of l) → takes params l ≡ true
takes_it params l c = in_any (λ (q : Param). not q.stack && sets_one l q.put) params (param_of l) c (location_itself l)

module _ (p : Program) (good : IsProgram p) (found : Found) (are : AreFound p found) where
  abbrev P : Procedures Position Loc Loc
  P = procedures_of p

  abbrev lists : List (List Bool)
  lists = map (λ v. v.items) found.changed.items

  tells : (i : ℕ) (l : Loc) → (changed_by found i l ≡ true) ↔ Changes P i l
  tells i l = changes_told p lists are.changed i l

  -- a call of the procedure, as it is listed
  listed : (at : Point) (entry : ℕ) → IsPoint p at → callee_at (site_in p at) ≡ Some entry → Contains found.calls.items (port_at at entry)
  listed at entry is e =
      let port = port_at at entry in
      subst (λ l. Contains l port) (sym are.calls)
      (in_flat (λ q. calls_at q (site_in p q)) (all_points p) at port (is_one p at is) (subst (λ o. Contains (ports_at at o) port) (sym e) (Contains-here port [])))

  -- Results.

  result_is : (entry : ℕ) (l : Loc) → is_result found entry l ≡ true → IsResult P entry l
  result_is entry l e =
      let both = and_parts (changed_by found entry l) (wanted_after found entry l) e in
      let some = from_any (λ (q : Port). (q.entry == entry) && wanted_before found (next_point q.at) l) found.calls.items both.1 in
      let port = some.0 in
      let told = and_parts (port.entry == entry) (wanted_before found (next_point port.at) l) some.2 in
      let call = is_call p good port (subst (λ l'. Contains l' port) are.calls some.1) in
      let caller = entry_of p good port.at.graph in
      let a = position_of port.at in
      let site = site_here p good port.at call.0.graph in
      let stmt = real_call (site_in p port.at) port.entry call.1 in
      record {
        changes = (tells entry l).0 both.0;
        caller = caller;
        call = a;
        after = next_of a;
        calls = callee_there (graph_or_none (graph_at p.graphs caller)).pushed (here p caller a) ∙ ap callee_at site ∙ call.1 ∙ ap Some (eqb-true port.entry entry told.0);
        goes = goes_next p caller a stmt.0 (site ∙ stmt.1);
        wanted = (are.wants.exact (next_point port.at) l call.0.graph).0 told.1;
      }

  result_told : (entry : ℕ) (l : Loc) → IsResult P entry l → is_result found entry l ≡ true
  result_told entry l r =
      let graph = graph_or_none (graph_at p.graphs r.caller) in
      let stmt = real_call (site_of graph r.call) entry (sym (callee_there graph.pushed (site_of graph r.call)) ∙ r.calls) in
      let at = done_there p good r.caller r.call (ap is_real stmt.1) in
      let point = point_at at.place r.call.block r.call.done in
      let callee : callee_at (site_in p point) ≡ Some entry = ap callee_at (sym at.site ∙ stmt.1) ∙ stmt.2 in
      let one = subst (λ s. Contains (nexts_of s r.call) r.after) stmt.1 r.goes in
      let next = Contains-cases (next_of r.call) [] r.after (r.after ≡ next_of r.call) sym (λ d. absurd (Contains-none r.after d)) one in
      let wanted = subst (λ i. Wanted P i (next_of r.call) l) (sym at.entry) (subst (λ b. Wanted P r.caller b l) next r.wanted) in
      let port = port_at point entry in
      and_from (changed_by found entry l) (wanted_after found entry l) ((tells entry l).1 r.changes)
      (in_any (λ (q : Port). (q.entry == entry) && wanted_before found (next_point q.at) l) found.calls.items port (listed point entry at.is callee)
      (and_from (entry == entry) (wanted_before found (next_point point) l) (eq-eqb entry entry refl) ((are.wants.exact (next_point point) l at.is.graph).1 wanted)))

  -- The summary of a graph.

  pub sum_is : (place : ℕ) → place < length p.graphs → IsSummary p (graph_in p place) (sum_of found place (graph_in p place))
  sum_is place inside =
      let graph = graph_in p place in
      record {
        params = just (λ l. Contains graph.params (param_of l) × IsParam P graph.entry l) (is_param found place graph)
            (λ l passing e. let both = and_parts (takes graph.params l) (wanted_before found (point_at place 0 0) l) e in
            (taken graph.params l both.0, record { passes = passing; wanted = (are.wants.exact (point_at place 0 0) l inside).0 both.1 }))
            (λ l k. (k.1.passes, and_from (takes graph.params l) (wanted_before found (point_at place 0 0) l) (takes_it graph.params l k.0) ((are.wants.exact (point_at place 0 0) l inside).1 k.1.wanted)));
        results = just (IsResult P graph.entry) (is_result found graph.entry) (λ l passing e. result_is graph.entry l e) (λ l r. (changes_pass p graph.entry l r.changes, result_told graph.entry l r));
        preserved = just (IsPreserved P graph.entry) (λ l. not (changed_by found graph.entry l))
            (λ l passing e. (passing, λ c. true≢false (sym e ∙ ap not ((tells graph.entry l).1 c))))
            (λ l k. (k.0, ap not (false_from_ne_true (changed_by found graph.entry l) (λ t. k.1 ((tells graph.entry l).0 t)))));
      }

  -- Arguments that are wanted after their calls.

  reuse_told : (entry : ℕ) (a : Position) (l : Loc) (r : IsReused p entry a l) → ((port : Port) → Contains found.calls.items port → reuses found port.at (site_in p port.at) ≡ false) → ⊥
  reuse_told entry a l r none =
      let at = done_there p good entry a (ap is_real r.calls) in
      let point = point_at at.place a.block a.done in
      let site = sym at.site ∙ r.calls in
      let out = none (port_at point r.callee) (listed point r.callee at.is (ap callee_at site)) in
      let wanted = subst (λ i. Wanted P i (next_of a) l) (sym at.entry) r.wanted in
      let one = in_any (λ x. not (passes x) && wanted_before found (next_point point) x) r.results l r.given
      (and_from (not (passes l)) (wanted_before found (next_point point) l) (ap not r.argument) ((are.wants.exact (next_point point) l at.is.graph).1 wanted)) in
      true≢false (sym (ap (reuses found point) site ∙ one) ∙ out)

  pub none_reused : ((port : Port) → Contains found.calls.items port → reuses found port.at (site_in p port.at) ≡ false) → ReusesNone p
  none_reused none entry a l r = reuse_told entry a l r none

  pub call_point : (port : Port) → Contains found.calls.items port → IsPoint p port.at
  call_point port c = (is_call p good port (subst (λ l. Contains l port) are.calls c)).0

  reuse_is : (at : Point) → IsPoint p at → (site : Site) → site_in p at ≡ site → reuses found at site ≡ true → (l : Loc) × IsReused p (entry_of p good at.graph) (position_of at) l
  reuse_is at is (Executes (Call results callee arguments depth)) e t =
      let some = from_any (λ x. not (passes x) && wanted_before found (next_point at) x) results t in
      let l = some.0 in
      let both = and_parts (not (passes l)) (wanted_before found (next_point at) l) some.2 in (
        l,
        record {
          results = results;
          callee = callee;
          arguments = arguments;
          depth = depth;
          calls = site_here p good at is.graph ∙ e;
          given = some.1;
          argument = not-true (passes l) both.0;
          wanted = (are.wants.exact (next_point at) l is.graph).0 both.1;
        },
      )
  reuse_is at is (Executes (Set x y)) e t = absurd (true≢false (sym t))
  reuse_is at is (Executes (Fetch x y z)) e t = absurd (true≢false (sym t))
  reuse_is at is (Executes (Store x y z)) e t = absurd (true≢false (sym t))
  reuse_is at is (Executes (Div x y)) e t = absurd (true≢false (sym t))
  reuse_is at is (Executes (Dos x y z)) e t = absurd (true≢false (sym t))
  reuse_is at is (Ends exit) e t = absurd (true≢false (sym t))
  reuse_is at is Nowhere e t = absurd (true≢false (sym t))

  pub is_reused : (at : Point) → IsPoint p at → reuses found at (site_in p at) ≡ true → (address : ℕ) → (block_in (graph_in p at.graph) at.block).at ≡ address → IsReusedAt p address
  is_reused at is t address same =
      let reuse = reuse_is at is (site_in p at) refl t in
      record {
        graph = graph_in p at.graph;
        there = Contains-get_or p.graphs at.graph no_graph is.graph;
        position = position_of at;
        location = reuse.0;
        reused = reuse.1;
        stands = same;
      }

-- The summaries of all graphs, one after another.

pub zipped : {A B : Type 0} (R : A → B → Type 0) (d : A) (xs : List A) (ys : List B) → length xs ≡ length ys → ((k : ℕ) (y : B) → slice_get ys k ≡ Some y → R (get_or xs k d) y) → AllZip R xs ys
zipped R d [] [] same each = tt
zipped R d [] (y ∷ ys) same each = absurd (omega (arith, same))
zipped R d (x ∷ xs) [] same each = absurd (omega (arith, same))
zipped R d (x ∷ xs) (y ∷ ys) same each = (each 0 y refl, zipped R d xs ys (omega (arith, same)) (λ k z e. each (suc k) z e))

pub pushed : {A : Type 0} (P : ℕ → A → Type 0) (xs : List A) (x : A) → ((k : ℕ) (y : A) → slice_get xs k ≡ Some y → P k y) → P (length xs) x → (k : ℕ) (y : A) → slice_get (xs ++ x ∷ []) k ≡ Some y → P k y
pushed P xs x old new k y e = elim (one_more xs x y k e) [
  | inl f ↦ old k y f
  | inr f ↦ subst (λ n. P n y) (sym f.0) (subst (P (length xs)) f.1 new)
]
