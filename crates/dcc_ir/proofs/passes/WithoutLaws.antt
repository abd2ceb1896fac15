-- Assignments to locations that don't matter may go: the pass meets what it owes.
use Rattle.std.proofs.Common.{◌≡◌, ℕ, zero, suc, Bool, true, false, ◌⊎◌, inl, inr, List, [], ◌∷◌, length, Option, Some, None, refl, sym, ap, ◌∙◌, subst, true≢false, map, take, slice_get, flat_map, Contains}
use Rattle.std.specs.Prelude.{if◌then◌else◌, ◌==◌, option_map, All}
use Rattle.std.specs.List.{list_all}
use Rattle.std.proofs.lemmas.List.{length-map}
use Rattle.std.proofs.lemmas.List.Elements.{All-contains}
use Rattle.dcc_run.specs.End.{is_over}
use Rattle.dcc_ir.specs.declared.syntax.Loc.{Loc}
use Rattle.dcc_ir.specs.Tree.{Expr, Stmt, Set, Fetch, Store, Div, Call, Dos, Exit, Goto, If, Switch, Ret, Stop, Block, Graph, Program}
use Rattle.dcc_ir.specs.Location.{same_location, location_width, Values, with_value, filled}
use Rattle.dcc_ir.specs.Use.{reads_of, writes_of}
use Rattle.dcc_ir.specs.Demand.{is_assignment, tests_of}
use Rattle.dcc_ir.specs.Families.{Family, IsClosed, IsWithout, done, stays, goes, WritesNone, IsBlockWithout, IsGraphWithout}
use Rattle.dcc_ir.specs.WellFormed.{is_stmt, is_exit, is_block, IsGraph, IsProgram}
use Rattle.dcc_ir.specs.Flow.{targets}
use Rattle.dcc_ir.specs.Run.{State, Activation, setting, passing, stmt_step, value_in, graph_at}
use Rattle.dcc_ir.specs.Local.{Point, Halt, Over, Jumps, after_call, after_calls, switch_halt, exit_halt, local_run}
use Rattle.dcc_ir.specs.Keeps.{KeepsRuns}
use Rattle.dcc_ir.specs.Passes.{Pass, with_values, FitIn, EndAlike, Meet, BlocksStay, BeginAlike, OwesBegin, OwesGo}
use Rattle.dcc_ir.proofs.FitLaws.{both}
use Rattle.dcc_ir.proofs.GraphLaws.{found_entry}
use Rattle.dcc_ir.proofs.LocationLaws.{location_same, location_itself, Contains-here, Contains-later, Contains-none, Contains-cases, location_decided}
use Rattle.dcc_ir.proofs.ReachedLaws.{contained, found_contained, all_at}
use Rattle.dcc_ir.proofs.ListLaws.{all_had, all_parts}
use Rattle.dcc_ir.proofs.ZipLaws.{zip_back}
use Rattle.dcc_ir.proofs.passes.LocalLaws.{some_same, is_running, Frame, stmt-frame}
use Rattle.dcc_ir.proofs.passes.AgreeLaws.{AgreeOn, StillOn, revalued-on, value-on, values-on, stuck-on, weaker-on, stmt-on}
use Rattle.dcc_ir.proofs.passes.SameLaws.{taken_same}
use Rattle.dcc_ir.proofs.passes.FormLaws.{changed, changed_at, same_entries}
use Rattle.dcc_ir.proofs.passes.Theorem.{keeps_runs}

-- What is left after calls.

module _ (Has : List Stmt → Loc → Type 0) where
  without-after_call : (stmts stmts' : List Stmt) → IsWithout Has stmts stmts' → IsWithout Has (after_call stmts) (after_call stmts')
  without-after_call stmts stmts' done = done
  without-after_call stmts stmts' (stays {stmt = stmt} {rest = rest} {rest' = rest'} w) = go stmt (without-after_call rest rest' w)
    where
      go : (stmt : Stmt) → IsWithout Has (after_call rest) (after_call rest') → IsWithout Has (after_call (stmt ∷ rest)) (after_call (stmt ∷ rest'))
      go (Call results entry arguments depth) later = w
      go stmt later = later
  without-after_call stmts stmts' (goes {stmt = stmt} {rest = rest} {rest' = rest'} is none w) = go stmt is (without-after_call rest rest' w)
    where
      go : (stmt : Stmt) → is_assignment stmt ≡ true → IsWithout Has (after_call rest) (after_call rest') → IsWithout Has (after_call (stmt ∷ rest)) (after_call rest')
      go (Call results entry arguments depth) is later = absurd (true≢false (sym is))
      go stmt is later = later

  without-after_calls : (calls : ℕ) (stmts stmts' : List Stmt) → IsWithout Has stmts stmts' → IsWithout Has (after_calls calls stmts) (after_calls calls stmts')
  without-after_calls zero stmts stmts' w = w
  without-after_calls (suc calls) stmts stmts' w = without-after_call (after_calls calls stmts) (after_calls calls stmts') (without-after_calls calls stmts stmts' w)

-- what all statements pass, those after some calls pass
module _ (f : Stmt → Bool) where
  after_call-passes : (stmts : List Stmt) → list_all f stmts ≡ true → list_all f (after_call stmts) ≡ true
  after_call-passes [] h = h
  after_call-passes (Call results entry arguments depth ∷ rest) h = (both (f (Call results entry arguments depth)) (list_all f rest) h).1
  after_call-passes (stmt ∷ rest) h = after_call-passes rest (both (f stmt) (list_all f rest) h).1

  after_calls-passes : (calls : ℕ) (stmts : List Stmt) → list_all f stmts ≡ true → list_all f (after_calls calls stmts) ≡ true
  after_calls-passes zero stmts h = h
  after_calls-passes (suc calls) stmts h = after_call-passes (after_calls calls stmts) (after_calls-passes calls stmts h)

-- Values.

-- values that are given back are the same, and what isn't written was
given-same : (l : Loc) (widths : List ℕ) (results : List Loc) (r : List ℕ) (v v' : Values) → length widths ≡ length results → FitIn widths r → ((Contains results l → ⊥) → v' l ≡ v l) →
    with_values v' results r l ≡ with_values v results r l
given-same l [] [] [] v v' len fit same = same (Contains-none l)
given-same l (w ∷ widths) (x ∷ results) (n ∷ r) v v' len fit same = given-same l widths results r (with_value v x n) (with_value v' x n) (cc) fit.1 (λ out. here out (same_location l x) refl)
  where
    here : (Contains results l → ⊥) → (b : Bool) → same_location l x ≡ b → (if b then n else v' l) ≡ (if b then n else v l)
    here out true e = refl
    here out false e = same (λ c. Contains-cases x results l ⊥ (λ same. true≢false (sym (subst (λ y. same_location l y ≡ true) (sym same) (location_itself l)) ∙ e)) out c)
given-same l [] [] (n ∷ r) v v' len fit same = absurd fit
given-same l (w ∷ widths) (x ∷ results) [] v v' len fit same = absurd fit
given-same l [] (x ∷ results) r v v' len fit same = absurd (cc)
given-same l (w ∷ widths) [] r v v' len fit same = absurd (cc)

-- The pass.

module _ (p : Program) (change : Graph → Graph) (family : ℕ → Family) where
  abbrev after : Program
  after = changed p change

  -- each block stays in its place, arguments and values given back stay the same, and what matters holds the same
  abbrev pass : Pass
  pass = record {
    place = λ entry n. n;
    Enter = λ entry a a'. a' ≡ a;
    Leave = λ entry a r r'. r' ≡ r;
    Inv = λ a point v v'. (g : Graph) (block : Block) → graph_at p.graphs point.entry ≡ Some g → slice_get g.blocks point.place ≡ Some block
        → (l : Loc) → family point.entry block (after_calls point.calls block.stmts) l → v' l ≡ v l;
  }

  -- From a point of a block.
  module _ (a : List ℕ) (point : Point) (g : Graph) (found : graph_at p.graphs point.entry ≡ Some g) (closed : IsClosed g (family point.entry))
      (block : Block) (placed : slice_get g.blocks point.place ≡ Some block) where
    abbrev Has : List Stmt → Loc → Type 0
    Has stmts l = family point.entry block stmts l

    jump-meets : (place place' : ℕ) (s t : State) → place' ≡ place → Contains (targets block.exit) place → AgreeOn (Has []) s t → Meet pass a point 0 (Jumps place s) (Jumps place' t)
    jump-meets place place' s t same to h = record {
      stands = sym same;
      outside = h.outside;
      holds = λ graph next found' placed' l m.
          let one : graph ≡ g = some_same graph g (sym found' ∙ found) in
          h.values l (closed.goes block next place l to (ap (λ n. slice_get g.blocks n) (sym same) ∙ subst (λ (x : Graph). slice_get x.blocks place' ≡ Some next) one placed') m);
    }

    one_of : (b : Bool) (one other : ℕ) → Contains (one ∷ other ∷ []) (if b then one else other)
    one_of true one other = Contains-here one (other ∷ [])
    one_of false one other = Contains-later one (other ∷ []) other (Contains-here other [])

    exit-meets : (exit : Exit) → block.exit ≡ exit → (s t : State) → AgreeOn (Has []) s t → Meet pass a point 0 (exit_halt exit s) (exit_halt exit t)
    exit-meets exit is s t h = go exit is
      where
        tests : (exit : Exit) → block.exit ≡ exit → All (Has []) (tests_of exit)
        tests exit is = all_had (Has []) (tests_of exit) (λ l c. closed.tested block l (subst (λ x. Contains (tests_of x) l) (sym is) c))

        going : (exit : Exit) (place : ℕ) → block.exit ≡ exit → Contains (targets exit) place → Contains (targets block.exit) place
        going exit place is c = subst (λ x. Contains (targets x) place) (sym is) c

        switched : (e : Expr) (places : List ℕ) → block.exit ≡ Switch e places → (n : ℕ) (place : Option ℕ) → slice_get places n ≡ place → Meet pass a point 0 (switch_halt place s) (switch_halt place t)
        switched e places is n (Some place) found = jump-meets place place s t refl (going (Switch e places) place is (contained places n place found)) h
        switched e places is n None found = let over = stuck-on (Has []) s t h in record { end = over.end; events = over.outside.events }

        go : (exit : Exit) → block.exit ≡ exit → Meet pass a point 0 (exit_halt exit s) (exit_halt exit t)
        go (Goto place) is = jump-meets place place s t refl (going (Goto place) place is (Contains-here place [])) h
        go (If test one other) is =
            jump-meets _ _ s t (ap (λ n. if n == 1 then one else other) (value-on (Has []) s t h test (tests (If test one other) is)))
            (going (If test one other) _ is (one_of (value_in s test == 1) one other)) h
        go (Switch e places) is =
            subst (λ n. Meet pass a point 0 (switch_halt (slice_get places (value_in s e)) s) (switch_halt (slice_get places n) t))
            (sym (value-on (Has []) s t h e (tests (Switch e places) is))) (switched e places is (value_in s e) (slice_get places (value_in s e)) refl)
        go (Ret values) is = record {
          outside = h.outside;
          leaves = values-on (Has []) s t h values (all_parts (Has []) reads_of values (tests (Ret values) is));
        }
        go Stop is = let over = stuck-on (Has []) s t h in record { end = over.end; events = over.outside.events }

    -- either both are over, or what follows meets
    both_go : (s t : State) (halt halt' : Halt) (b : Bool) → EndAlike s t → (is_over s.end ≡ false → Meet pass a point 0 halt halt') → is_over s.end ≡ b →
        Meet pass a point 0 (if b then Over s else halt) (if b then Over t else halt')
    both_go s t halt halt' true over on e = over
    both_go s t halt halt' false over on e = on e

    -- where the states stand, in the blocks without and with the assignments that go
    record Stand (stmts : List Stmt) (s t : State) : Type 0 where
      running : is_over s.end ≡ false
      graph : s.running.graph ≡ g
      here : s.running.block ≡ block
      there : t.running.block.exit ≡ block.exit
      formed : list_all (is_stmt g.bits) stmts ≡ true
      follows : after_call stmts ≡ after_calls (suc point.calls) block.stmts

    -- an assignment that doesn't matter goes
    left_out : (x : Loc) (n : ℕ) (stmt : Stmt) (rest : List Stmt) (s t : State) → writes_of stmt ≡ x ∷ [] → WritesNone (Has rest) stmt → AgreeOn (Has (stmt ∷ rest)) s t → AgreeOn (Has rest) (setting x n s) t
    left_out x n stmt rest s t writes none h =
        revalued-on (Has (stmt ∷ rest)) (Has rest) (with_value s.running.values x n) t.running.values s t (λ l m. differs l m (same_location l x) refl) h
      where
        writes_it : Contains (writes_of stmt) x
        writes_it = subst (λ xs. Contains xs x) (sym writes) (Contains-here x [])

        differs : (l : Loc) → Has rest l → (b : Bool) → same_location l x ≡ b → t.running.values l ≡ (if b then n else s.running.values l)
        differs l m true e = absurd (none x writes_it (subst (Has rest) (location_same l x e) m))
        differs l m false e = h.values l (closed.left block stmt rest l (λ c. none l c m) m)

    block-meets : (stmts stmts' : List Stmt) → IsWithout Has stmts stmts' → (s t : State) → Stand stmts s t → AgreeOn (Has stmts) s t → Meet pass a point 0 (local_run stmts s) (local_run stmts' t)
    block-meets stmts stmts' done s t at h =
        subst (λ exit. Meet pass a point 0 (exit_halt s.running.block.exit s) (exit_halt exit t)) (ap (λ (b : Block). b.exit) at.here ∙ sym at.there)
        (exit-meets s.running.block.exit (ap (λ (b : Block). b.exit) (sym at.here)) s t h)
    block-meets stmts stmts' (stays {stmt = stmt} {rest = rest} {rest' = rest'} w) s t at h = go stmt (λ s t at h. block-meets rest rest' w s t at h) at h
      where
        go : (stmt : Stmt) → ((s t : State) → Stand rest s t → AgreeOn (Has rest) s t → Meet pass a point 0 (local_run rest s) (local_run rest' t)) → Stand (stmt ∷ rest) s t → AgreeOn (Has (stmt ∷ rest)) s t → Meet pass a point 0 (local_run (stmt ∷ rest) s) (local_run (stmt ∷ rest') t)
        go (Call results entry arguments depth) later at h = record {
          at_once = refl;
          entry = refl;
          depth = refl;
          outside = record { memory = h.outside.memory; input = h.outside.input; events = h.outside.events; base = h.outside.base };
          enters =
              let Before = Has (Call results entry arguments depth ∷ rest) in
              values-on Before s t h arguments (all_parts Before reads_of arguments (all_had Before (flat_map reads_of arguments) (λ l c. closed.used block (Call results entry arguments depth) rest l c)));
          resumes = λ r r' fit fit' leaves graph next found' placed' l m.
              let one : graph ≡ g = some_same graph g (sym found' ∙ found) in
              let same : next ≡ block = some_same next block (sym (subst (λ (x : Graph). slice_get x.blocks point.place ≡ Some next) one placed') ∙ placed) in
              let m' = subst (λ stmts. family point.entry block stmts l) (sym at.follows) (subst (λ (b : Block). family point.entry b (after_calls (suc point.calls) b.stmts) l) same m) in
              subst (λ r'. with_values t.running.values results r' l ≡ with_values s.running.values results r l) (sym leaves)
              (given-same l (map (location_width s.running.graph.bits) results) results r s.running.values t.running.values (length-map results (location_width s.running.graph.bits)) fit
              (λ out. h.values l (closed.left block (Call results entry arguments depth) rest l out m')));
        }
        go stmt later at h =
            let next = stmt-on (Has (stmt ∷ rest)) (Has rest) stmt s t refl (record {
              used = λ l c. closed.used block stmt rest l c;
              made_of = λ l to writes c m. closed.made_of block stmt rest l to writes c m;
              left = λ l m. location_decided (writes_of stmt) l (Has (stmt ∷ rest) l ⊎ (Contains (writes_of stmt) l × (is_stmt s.running.graph.bits stmt ≡ true)))
                  (λ c. inr (c, subst (λ (x : Graph). is_stmt x.bits stmt ≡ true) (sym at.graph) (both (is_stmt g.bits stmt) (list_all (is_stmt g.bits) rest) at.formed).0))
                  (λ out. inl (closed.left block stmt rest l out m));
            }) h in
            let on = λ (e : is_over (stmt_step stmt s).end ≡ false). later (stmt_step stmt s) (stmt_step stmt t) (record {
              running = e;
              graph = ap (λ (f : Frame). f.graph) (stmt-frame stmt s) ∙ at.graph;
              here = ap (λ (f : Frame). f.block) (stmt-frame stmt s) ∙ at.here;
              there = ap (λ (f : Frame). f.block.exit) (stmt-frame stmt t) ∙ at.there;
              formed = (both (is_stmt g.bits stmt) (list_all (is_stmt g.bits) rest) at.formed).1;
              follows = at.follows;
            }) (weaker-on (StillOn (Has rest) (stmt_step stmt s)) (Has rest) (stmt_step stmt s) (stmt_step stmt t) (λ l m. (e, m)) next) in
            subst (λ b. Meet pass a point 0 (if is_over (stmt_step stmt s).end then Over (stmt_step stmt s) else local_run rest (stmt_step stmt s))
            (if b then Over (stmt_step stmt t) else local_run rest' (stmt_step stmt t)))
            (sym (ap is_over next.end))
            (both_go (stmt_step stmt s) (stmt_step stmt t) (local_run rest (stmt_step stmt s)) (local_run rest' (stmt_step stmt t)) (is_over (stmt_step stmt s).end)
            (record { end = next.end; events = next.outside.events }) on refl)
    block-meets stmts stmts' (goes {stmt = stmt} {rest = rest} {rest' = rest'} is none w) s t at h = go stmt (λ s t at h. block-meets rest rest' w s t at h) is none at h
      where
        -- the first run goes on after the assignment
        gone : (x : Loc) (n : ℕ) (stmt : Stmt) → ((s t : State) → Stand rest s t → AgreeOn (Has rest) s t → Meet pass a point 0 (local_run rest s) (local_run rest' t)) → writes_of stmt ≡ x ∷ [] → after_call (stmt ∷ rest) ≡ after_call rest → WritesNone (Has rest) stmt → Stand (stmt ∷ rest) s t → AgreeOn (Has (stmt ∷ rest)) s t →
            Meet pass a point 0 (if is_over s.end then Over (setting x n s) else local_run rest (setting x n s)) (local_run rest' t)
        gone x n stmt later writes follows none at h =
            subst (λ b. Meet pass a point 0 (if b then Over (setting x n s) else local_run rest (setting x n s)) (local_run rest' t)) (sym at.running)
            (later (setting x n s) t (record {
              running = at.running;
              graph = at.graph;
              here = at.here;
              there = at.there;
              formed = (both (is_stmt g.bits stmt) (list_all (is_stmt g.bits) rest) at.formed).1;
              follows = sym follows ∙ at.follows;
            }) (left_out x n stmt rest s t writes none h))

        go : (stmt : Stmt) → ((s t : State) → Stand rest s t → AgreeOn (Has rest) s t → Meet pass a point 0 (local_run rest s) (local_run rest' t)) → is_assignment stmt ≡ true → WritesNone (Has rest) stmt → Stand (stmt ∷ rest) s t → AgreeOn (Has (stmt ∷ rest)) s t →
            Meet pass a point 0 (local_run (stmt ∷ rest) s) (local_run rest' t)
        go (Set x e) later is none at h = gone x _ (Set x e) later refl refl none at h
        go (Fetch x width address) later is none at h = gone x _ (Fetch x width address) later refl refl none at h
        go (Store width address e) later is none at h = absurd (true≢false (sym is))
        go (Div x e) later is none at h = absurd (true≢false (sym is))
        go (Call results entry arguments depth) later is none at h = absurd (true≢false (sym is))
        go (Dos number place argument) later is none at h = absurd (true≢false (sym is))

  -- The whole.
  module _ (formed : IsProgram p) (closed : (g : Graph) → Contains p.graphs g → IsClosed g (family g.entry))
      (without : (g : Graph) → Contains p.graphs g → IsGraphWithout (family g.entry) g (change g)) where
    there_is : (entry : ℕ) (g g' : Graph) → graph_at p.graphs entry ≡ Some g → graph_at after.graphs entry ≡ Some g' → g' ≡ change g
    there_is entry g g' found found' =
        some_same g' (change g) (sym found' ∙ changed_at change p.graphs entry (λ h c. (without h c).entry) ∙ ap (option_map change) found)

    known : (entry : ℕ) (g : Graph) → graph_at p.graphs entry ≡ Some g → Contains p.graphs g
    known entry g found = found_contained (λ x. x.entry == entry) p.graphs g found

    -- the graphs with that entry
    related : (entry : ℕ) (g g' : Graph) → graph_at p.graphs entry ≡ Some g → graph_at after.graphs entry ≡ Some g' → IsGraphWithout (family entry) g g'
    related entry g g' found found' =
        subst (λ n. IsGraphWithout (family n) g g') (found_entry p.graphs entry g found) (subst (IsGraphWithout (family g.entry) g) (sym (there_is entry g g' found found')) (without g (known entry g found)))

    -- what matters is closed in the graph with that entry
    closed_at : (entry : ℕ) (g : Graph) → graph_at p.graphs entry ≡ Some g → IsClosed g (family entry)
    closed_at entry g found = subst (λ n. IsClosed g (family n)) (found_entry p.graphs entry g found) (closed g (known entry g found))

    goes_on : OwesGo p after pass
    goes_on a point s t together =
        let g = s.running.graph in
        let block = s.running.block in
        let F = family point.entry in
        let found = together.first.at.graph in
        let placed = together.first.at.block in
        let graphs = related point.entry g t.running.graph found together.second.at.graph in
        let back = zip_back (IsBlockWithout F) g.blocks t.running.graph.blocks point.place t.running.block graphs.blocks together.second.at.block in
        let it = subst (λ b. IsBlockWithout F b t.running.block) (some_same back.0 block (sym back.1 ∙ placed)) back.2 in
        let all = without-after_calls (F block) point.calls block.stmts t.running.block.stmts it.stmts in
        let rests = subst (λ r. IsWithout (F block) r t.running.rest) (sym together.first.at.rest)
        (subst (λ r. IsWithout (F block) (after_calls point.calls block.stmts) r) (sym together.second.at.rest) all) in
        let is = All-contains IsGraph p.graphs g formed.graphs (known point.entry g found) in
        let fine = all_at (is_block g.bits (length g.blocks)) g.blocks block is.blocks (contained g.blocks point.place block placed) in
        let stmts = (both (list_all (is_stmt g.bits) block.stmts) (is_exit g.bits (length g.blocks) block.exit) fine).0 in (
          0,
          block-meets a point g found (closed_at point.entry g found) block placed s.running.rest t.running.rest rests s t (record {
            running = together.first.running;
            graph = refl;
            here = refl;
            there = it.exit;
            formed = subst (λ r. list_all (is_stmt g.bits) r ≡ true) (sym together.first.at.rest) (after_calls-passes (is_stmt g.bits) point.calls block.stmts stmts);
            follows = ap after_call together.first.at.rest;
          }) (record {
            values = λ l m. together.holds g block found placed l (subst (λ stmts. F block stmts l) together.first.at.rest m);
            outside = together.outside;
            end = is_running t.end together.second.running ∙ sym (is_running s.end together.first.running);
            bits = graphs.bits;
            entry = graphs.entry;
          }),
        )

    begins : (entry : ℕ) (old new : Graph) → graph_at p.graphs entry ≡ Some old → graph_at after.graphs entry ≡ Some new → OwesBegin pass entry old new
    begins entry old new found found' = record {
      begin = λ fill base a a' s t small fit fit' enters outside opened opened'.
          let graphs = related entry old new found found' in
          let o = taken_same 0 old.params a s t (record {
            values = λ l. ap (λ (x : Activation). x.values l) opened' ∙ ap (λ bits. filled bits fill l) graphs.bits ∙ sym (ap (λ (x : Activation). x.values l) opened);
            memory = outside.memory;
            base = outside.base;
          }) in
          subst (λ params. BeginAlike pass entry a (passing 0 old.params a s) (passing 0 params a' t)) (sym graphs.params)
          (subst (λ a'. BeginAlike pass entry a (passing 0 old.params a s) (passing 0 old.params a' t)) (sym enters)
          (record { memory = o.memory; holds = λ g block there placed l m. o.values l }));
    }

    stay : (entry : ℕ) (old new : Graph) → graph_at p.graphs entry ≡ Some old → graph_at after.graphs entry ≡ Some new → BlocksStay old new (λ n. n)
    stay entry old new found found' = record {
      first = refl;
      stays = λ n block placed.
          let back = zip_back (IsBlockWithout (family entry)) old.blocks new.blocks n block (related entry old new found found').blocks placed in
          (back.0, back.1, sym back.2.at);
    }

    -- Assignments that don't matter may go.
    pub runs_kept_without : IsProgram (changed p change) → KeepsRuns p (changed p change)
    runs_kept_without formed' = keeps_runs p after pass (record {
      before = formed;
      after = formed';
      image = refl;
      lo = refl;
      hi = refl;
      entries = same_entries change p.graphs (λ g c. (without g c).entry);
      blocks = stay;
      begin = begins;
      go = goes_on;
      start = all_had (λ (g : Graph). ◌≡◌ {A = List ℕ} [] []) (take 1 p.graphs) (λ g c. refl);
    })
