-- What each state has that a run of a well-formed program reaches: all numbers fit, the activations stand in blocks of the
-- program, and each caller that waits has places for what its callee gives back.
use Rattle.std.proofs.Common.{◌≡◌, ℕ, zero, suc, ◌+◌, ◌*◌, ◌/◌, ◌%◌, ◌^◌, ◌<◌, Bool, true, false, cond, ◌&&◌, ◌||◌, not, ◌⊎◌, inl, inr, List, [], ◌∷◌, length, map, drop, take, Option, Some, None, refl, sym, ap, ◌∙◌, subst, true≢false, eqb-true, eq-eqb, lit<, arith}
use Rattle.std.specs.Prelude.{if◌then◌else◌, ◌==◌, slice_get, slice_index, slice_index_or, get_or, find, nat_le, nat_lt, All, Contains}
use Rattle.std.specs.List.{list_any, list_all, range_with_len}
use Rattle.std.proofs.lemmas.Nat.{mod_below}
use Rattle.std.proofs.lemmas.List.FromFn.{length-map-range_with_len}
use Rattle.std.proofs.lemmas.List.Elements.{All-nil, All-cons, All-head, All-tail, All-map, All-contains}
use Rattle.std.proofs.lemmas.Option.{slice_get_within, get_or_from_slice_get}
use Rattle.dcc_run.specs.End.{is_over}
use Rattle.dcc_run.specs.System.{after}
use Rattle.dcc_ir.specs.declared.syntax.Loc.{Loc}
use Rattle.dcc_ir.specs.declared.syntax.Put.{Put}
use Rattle.dcc_ir.specs.declared.syntax.Put.TheVariants.{Memory, One, Two}
use Rattle.dcc_ir.specs.declared.syntax.Param.{Param}
use Rattle.dcc_ir.specs.Tree.{Expr, Stmt, Call, Exit, Goto, If, Switch, Ret, Stop, Block, Graph, Program}
use Rattle.dcc_ir.specs.Location.{location_width, filled}
use Rattle.dcc_ir.specs.Value.{width_of, Fits}
use Rattle.dcc_ir.specs.WellFormed.{is_expr, is_stmt, is_exit, is_block, is_jump, jumps_after_call, is_put, put_width, all_differ, ret_widths, all_ret_widths, IsGraph, IsCall, IsCalling, IsProgram}
use Rattle.dcc_ir.specs.Run.{Activation, Waiting, State, scene_of, value_in, setting, stmt_step, is_call, activation, entering, going_to, putting, passing, callee_base, calling, graph_at, giving, returning, switching, exit_step, block_step, step, no_graph, first_memory, first_state, reached}
use Rattle.dcc_ir.specs.Fitting.{scene_in, AreBytes, StateFits}
use Rattle.dcc_ir.proofs.FitLaws.{both, value_fits}
use Rattle.dcc_ir.proofs.ListLaws.{all_parts}
use Rattle.dcc_ir.proofs.StepLaws.{stmt-within, passing-alike}
use Rattle.dcc_ir.proofs.GraphLaws.{or_there}
use Rattle.dcc_ir.proofs.FitStates.{AreValues, filled-are, IsMemory, IsFit, scene-fits, setting-fit, storing-fit, stmt-fit}

-- Elements of lists.

pub contained : {X : Type 0} (xs : List X) (k : ℕ) (x : X) → slice_get xs k ≡ Some x → Contains xs x
contained xs k x e = (k, slice_get_within xs k x e, get_or_from_slice_get xs k x x e)

contained_first : {X : Type 0} (x : X) (xs : List X) → Contains (x ∷ xs) x
contained_first x xs = (0, first_below (length xs), refl)
  where
    first_below : (n : ℕ) → 0 < suc n
    first_below n = omega arith

contained_later : {X : Type 0} (y : X) (xs : List X) (x : X) → Contains xs x → Contains (y ∷ xs) x
contained_later y xs x c = (suc c.0, (let less = c.1 in omega (arith, less)), c.2)

pub found_contained : {X : Type 0} (f : X → Bool) (xs : List X) (x : X) → find f xs ≡ Some x → Contains xs x
found_contained f [] x e = absurd (cc)
found_contained f (y ∷ ys) x e = go (f y) (found_contained f ys x) e
  where
    go : (b : Bool) → (find f ys ≡ Some x → Contains ys x) → cond b (Some y) (find f ys) ≡ Some x → Contains (y ∷ ys) x
    go true later o = let same : y ≡ x = cc in subst (Contains (y ∷ ys)) same (contained_first y ys)
    go false later o = contained_later y ys x (later o)

all_at_place : {X : Type 0} (f : X → Bool) (xs : List X) (x : X) (k : ℕ) → k < length xs → slice_index_or xs k x ≡ x → list_all f xs ≡ true → f x ≡ true
all_at_place f [] x k less same e = absurd (omega (arith, less))
all_at_place f (y ∷ ys) x zero less same e = ap f (sym same) ∙ (both (f y) (list_all f ys) e).0
all_at_place f (y ∷ ys) x (suc k) less same e = all_at_place f ys x k (omega (arith, less)) same (both (f y) (list_all f ys) e).1

pub all_at : {X : Type 0} (f : X → Bool) (xs : List X) (x : X) → list_all f xs ≡ true → Contains xs x → f x ≡ true
all_at f xs x e c = all_at_place f xs x c.0 c.1 c.2 e

-- the graph that a call names is the one that the run finds
any_entry : (entry : ℕ) (graphs : List Graph) (callee : Graph) → graph_at graphs entry ≡ Some callee → list_any (λ m. entry == m) (map (λ g. g.entry) graphs) ≡ true
any_entry entry [] callee e = absurd (cc)
any_entry entry (g ∷ graphs) callee e = go (g.entry == entry) refl (any_entry entry graphs callee) e
  where
    go : (b : Bool) → (g.entry == entry) ≡ b → (graph_at graphs entry ≡ Some callee → list_any (λ m. entry == m) (map (λ x. x.entry) graphs) ≡ true) →
        cond b (Some g) (graph_at graphs entry) ≡ Some callee → ((entry == g.entry) || list_any (λ m. entry == m) (map (λ x. x.entry) graphs)) ≡ true
    go true same later o = let e : entry ≡ g.entry = sym (eqb-true g.entry entry same) in ap (λ b. b || list_any (λ m. entry == m) (map (λ x. x.entry) graphs)) (eq-eqb entry g.entry e)
    go false other later o = or_there (entry == g.entry) (list_any (λ m. entry == m) (map (λ x. x.entry) graphs)) (later o)

pub named_again : (graphs : List Graph) (entry : ℕ) (callee : Graph) → all_differ (map (λ g. g.entry) graphs) ≡ true → graph_at (drop 1 graphs) entry ≡ Some callee
    → graph_at graphs entry ≡ Some callee
named_again [] entry callee differ e = e
named_again (g ∷ graphs) entry callee differ e = go (g.entry == entry) refl
  where
    go : (b : Bool) → (g.entry == entry) ≡ b → cond b (Some g) (graph_at graphs entry) ≡ Some callee
    go false other = e
    go true same =
        let there : list_any (λ m. g.entry == m) (map (λ x. x.entry) graphs) ≡ true =
        any_entry g.entry graphs callee (subst (λ n. graph_at graphs n ≡ Some callee) (sym (eqb-true g.entry entry same)) e) in
        let none : not (list_any (λ m. g.entry == m) (map (λ x. x.entry) graphs)) ≡ true =
        (both (not (list_any (λ m. g.entry == m) (map (λ x. x.entry) graphs))) (all_differ (map (λ x. x.entry) graphs)) differ).0 in
        absurd (true≢false (sym none ∙ ap not there))

-- Where a state stands.

-- the graph is the program's, the block the graph's, and the statements that are left are well formed; either all are left,
-- or the block ends in a jump
pub record IsPlaced (p : Program) (graph : Graph) (block : Block) (rest : List Stmt) : Type 0 where
  pub known : Contains p.graphs graph
  pub stands : Contains graph.blocks block
  pub stmts : list_all (is_stmt graph.bits) rest ≡ true
  pub calls : All (IsCalling p graph) rest
  pub whole : (rest ≡ block.stmts) ⊎ (is_jump block.exit ≡ true)

abbrev pub IsActive : Program → Activation → Type 0
IsActive p a = IsPlaced p a.graph a.block a.rest

-- the results have places of the widths of what the callee gives back
abbrev TakesResults : Graph → Waiting → Type 0
TakesResults callee w = All (λ widths. widths ≡ map (location_width w.caller.graph.bits) w.results) (all_ret_widths callee)

-- the callers of a running graph; where none waits, the graph is the first
pub record IsWaiting (p : Program) (callee : Graph) (w : Waiting) : Type 0 where
  pub active : IsActive p w.caller
  pub values : AreValues w.caller.graph.bits w.caller.values
  pub results : TakesResults callee w

abbrev pub AreCallers : Program → Graph → List Waiting → Type 0
AreCallers p graph [] = Contains (take 1 p.graphs) graph
AreCallers p graph (w ∷ waiting) = IsWaiting p graph w × AreCallers p w.caller.graph waiting

-- numbers fit, and callers wait
pub record IsSafe (p : Program) (s : State) : Type 0 where
  pub fit : IsFit s
  pub callers : AreCallers p s.running.graph s.waiting

-- where the run is not over, it stands in a block
pub record IsGood (p : Program) (s : State) : Type 0 where
  pub safe : IsSafe p s
  pub active : is_over s.end ≡ false → IsActive p s.running

-- Within a block: the statements that are to come are well formed, and so on.
pub record IsWithin (p : Program) (coming : List Stmt) (graph : Graph) (block : Block) (waiting : List Waiting) : Type 0 where
  pub known : Contains p.graphs graph
  pub stands : Contains graph.blocks block
  pub stmts : list_all (is_stmt graph.bits) coming ≡ true
  pub calls : All (IsCalling p graph) coming
  pub jumps : (jumps_after_call coming block.exit ≡ true) ⊎ (is_jump block.exit ≡ true)
  pub callers : AreCallers p graph waiting

abbrev pub IsWithinAt : Program → List Stmt → State → Type 0
IsWithinAt p stmts s = IsWithin p stmts s.running.graph s.running.block s.waiting

same_within : (p : Program) (stmts : List Stmt) (s t : State) → t.running.graph ≡ s.running.graph → t.running.block ≡ s.running.block → t.waiting ≡ s.waiting → IsWithinAt p stmts s
    → IsWithinAt p stmts t
same_within p stmts s t g b w h =
    subst (λ x. IsWithin p stmts x t.running.block t.waiting) (sym g)
    (subst (λ x. IsWithin p stmts s.running.graph x t.waiting) (sym b)
    (subst (λ x. IsWithin p stmts s.running.graph s.running.block x) (sym w) h))

same_callers : (p : Program) (s t : State) → t.running.graph ≡ s.running.graph → t.waiting ≡ s.waiting → AreCallers p s.running.graph s.waiting → AreCallers p t.running.graph t.waiting
same_callers p s t g w h = subst (λ x. AreCallers p x t.waiting) (sym g) (subst (λ x. AreCallers p s.running.graph x) (sym w) h)

module _ (p : Program) (well : IsProgram p) where
  -- what a well-formed program says of one of its graphs, and of a block of it
  pub graph_of : (graph : Graph) → Contains p.graphs graph → IsGraph graph
  graph_of graph c = All-contains IsGraph p.graphs graph well.graphs c

  block_of : (graph : Graph) (block : Block) → Contains p.graphs graph → Contains graph.blocks block → is_block graph.bits (length graph.blocks) block ≡ true
  block_of graph block g b = all_at (is_block graph.bits (length graph.blocks)) graph.blocks block (graph_of graph g).blocks b

  pub exit_of : (graph : Graph) (block : Block) → Contains p.graphs graph → Contains graph.blocks block → is_exit graph.bits (length graph.blocks) block.exit ≡ true
  exit_of graph block g b = (both (list_all (is_stmt graph.bits) block.stmts) (is_exit graph.bits (length graph.blocks) block.exit) (block_of graph block g b)).1

  placed-in : (graph : Graph) (block : Block) → Contains p.graphs graph → Contains graph.blocks block → IsPlaced p graph block block.stmts
  placed-in graph block g b = record {
    known = g;
    stands = b;
    stmts = (both (list_all (is_stmt graph.bits) block.stmts) (is_exit graph.bits (length graph.blocks) block.exit) (block_of graph block g b)).0;
    calls = All-contains (λ x. All (IsCalling p graph) x.stmts) graph.blocks block (All-contains (λ x. All (λ y. All (IsCalling p x) y.stmts) x.blocks) p.graphs graph well.calls g) b;
    whole = inl refl;
  }

  pub within-of : (s : State) → IsActive p s.running → IsSafe p s → IsWithinAt p s.running.rest s
  within-of s a h = record {
    known = a.known;
    stands = a.stands;
    stmts = a.stmts;
    calls = a.calls;
    jumps = elim a.whole [
      | inl e ↦ inl (subst (λ l. jumps_after_call l s.running.block.exit ≡ true) (sym e)
          (All-contains (λ b. jumps_after_call b.stmts b.exit ≡ true) s.running.graph.blocks s.running.block (graph_of s.running.graph a.known).jumps a.stands))
      | inr j ↦ inr j
    ];
    callers = h.callers;
  }

  -- Blocks are entered.

  over-good : (s : State) → is_over s.end ≡ true → IsSafe p s → IsGood p s
  over-good s over h = record { safe = h; active = λ on. absurd (true≢false (sym over ∙ on)) }

  entering-good : (place : ℕ) (block : Option Block) (s : State) → slice_get s.running.graph.blocks place ≡ block → Contains p.graphs s.running.graph → IsSafe p s → IsGood p (entering block s)
  entering-good place (Some block) s e g h = record {
    safe = record { fit = record { values = h.fit.values; memory = h.fit.memory; console = h.fit.console }; callers = h.callers };
    active = λ on. placed-in s.running.graph block g (contained s.running.graph.blocks place block e);
  }
  entering-good place None s e g h = over-good (entering None s) refl (record { fit = record { values = h.fit.values; memory = h.fit.memory; console = h.fit.console }; callers = h.callers })

  pub going-good : (place : ℕ) (s : State) → Contains p.graphs s.running.graph → IsSafe p s → IsGood p (going_to place s)
  going-good place s g h = entering-good place (slice_get s.running.graph.blocks place) s refl g h

  -- Arguments and results.

  setting-safe : (location : Loc) (n : ℕ) (s : State) → n < 2 ^ location_width s.running.graph.bits location → IsSafe p s → IsSafe p (setting location n s)
  setting-safe location n s small h = record { fit = setting-fit location n s small h.fit; callers = h.callers }

  putting-safe : (j : ℕ) (put : Put) (n : ℕ) (s : State) → is_put s.running.graph.bits put ≡ true → n < 2 ^ put_width s.running.graph.bits put → IsSafe p s → IsSafe p (putting j put n s)
  putting-safe j Memory n s ok small h = record { fit = storing-fit 16 (s.running.base + 2 * j) n s h.fit; callers = h.callers }
  putting-safe j (One location) n s ok small h = setting-safe location n s small h
  putting-safe j (Two low high) n s ok small h =
      let bits = s.running.graph.bits in
      let three = both _ (location_width bits high == 8) ok in
      let two = both _ (location_width bits low == 8) three.0 in
      let low_is : location_width bits low ≡ 8 = eqb-true (location_width bits low) 8 two.1 in
      let high_is : location_width bits high ≡ 8 = eqb-true (location_width bits high) 8 three.1 in
      let word : n < 65536 = small in
      let upper : n / 256 < 256 = omega (arith, word) in
      setting-safe high (n / 256) (setting low (n % 256) s) (subst (λ k. n / 256 < 2 ^ k) (sym high_is) upper)
      (setting-safe low (n % 256) s (subst (λ k. n % 256 < 2 ^ k) (sym low_is) (mod_below n 256 (lit< tt))) h)

  -- the values of well-formed expressions of the widths of the params
  passing-safe : (s : State) (j : ℕ) (params : List Param) (es : List Expr) (t : State) → IsFit s → list_all (is_expr s.running.graph.bits) es ≡ true
      → map (width_of s.running.graph.bits) es ≡ map (λ q. put_width t.running.graph.bits q.put) params → list_all (λ q. is_put t.running.graph.bits q.put) params ≡ true
      → IsSafe p t → IsSafe p (passing j params (map (value_in s) es) t)
  passing-safe s j [] es t fit ok widths puts h = h
  passing-safe s j (param ∷ params) [] t fit ok widths puts h = absurd (cc)
  passing-safe s j (param ∷ params) (e ∷ es) t fit ok widths puts h =
      let first = both (is_expr s.running.graph.bits e) (list_all (is_expr s.running.graph.bits) es) ok in
      let put = both (is_put t.running.graph.bits param.put) (list_all (λ q. is_put t.running.graph.bits q.put) params) puts in
      let width : width_of s.running.graph.bits e ≡ put_width t.running.graph.bits param.put = cc in
      let later : map (width_of s.running.graph.bits) es ≡ map (λ q. put_width t.running.graph.bits q.put) params = cc in
      let small = value_fits (scene_of s) (scene-fits s fit) e first.0 in
      let next = putting j param.put (value_in s e) t in
      let here = putting-safe j param.put (value_in s e) t put.0 (subst (λ k. value_in s e < 2 ^ k) width small) h in
      let same : next.running.graph ≡ t.running.graph = putting-graph j param.put (value_in s e) t in
      passing-safe s (j + 1) params es next fit first.1
      (subst (λ g. map (width_of s.running.graph.bits) es ≡ map (λ q. put_width g.bits q.put) params) (sym same) later)
      (subst (λ g. list_all (λ q. is_put g.bits q.put) params ≡ true) (sym same) put.1) here
    where
      putting-graph : (j : ℕ) (put : Put) (n : ℕ) (t : State) → (putting j put n t).running.graph ≡ t.running.graph
      putting-graph j Memory n t = refl
      putting-graph j (One location) n t = refl
      putting-graph j (Two low high) n t = refl

  giving-good : (s : State) (results : List Loc) (es : List Expr) (t : State) → IsFit s → list_all (is_expr s.running.graph.bits) es ≡ true
      → map (width_of s.running.graph.bits) es ≡ map (location_width t.running.graph.bits) results → IsActive p t.running → IsSafe p t → IsGood p (giving results (map (value_in s) es) t)
  giving-good s [] es t fit ok widths a h = record { safe = h; active = λ on. a }
  giving-good s (location ∷ results) [] t fit ok widths a h = absurd (cc)
  giving-good s (location ∷ results) (e ∷ es) t fit ok widths a h =
      let first = both (is_expr s.running.graph.bits e) (list_all (is_expr s.running.graph.bits) es) ok in
      let width : width_of s.running.graph.bits e ≡ location_width t.running.graph.bits location = cc in
      let later : map (width_of s.running.graph.bits) es ≡ map (location_width t.running.graph.bits) results = cc in
      let small = value_fits (scene_of s) (scene-fits s fit) e first.0 in
      giving-good s results es (setting location (value_in s e) t) fit first.1 later a (setting-safe location (value_in s e) t (subst (λ k. value_in s e < 2 ^ k) width small) h)

  returning-good : (s : State) (es : List Expr) (waiting : List Waiting) → IsFit s → list_all (is_expr s.running.graph.bits) es ≡ true
      → Contains s.running.graph.blocks s.running.block → s.running.block.exit ≡ Ret es → waiting ≡ s.waiting → AreCallers p s.running.graph waiting →
      IsGood p (returning (map (value_in s) es) waiting s)
  returning-good s es [] fit ok b e same callers =
      over-good _ refl (record { fit = record { values = fit.values; memory = fit.memory; console = fit.console }; callers = subst (AreCallers p s.running.graph) same callers })
  returning-good s es (w ∷ waiting) fit ok b e same callers =
      let back : State = record s { running = w.caller; waiting = waiting } in
      let fits = λ (widths : List ℕ). widths ≡ map (location_width w.caller.graph.bits) w.results in
      let rets = λ (x : Block). ret_widths s.running.graph.bits x.exit in
      let given = All-contains (λ x. All fits (rets x)) s.running.graph.blocks s.running.block (all_parts fits rets s.running.graph.blocks callers.0.results) b in
      let one : All (λ widths. widths ≡ map (location_width w.caller.graph.bits) w.results) (map (width_of s.running.graph.bits) es ∷ []) =
      subst (λ x. All (λ widths. widths ≡ map (location_width w.caller.graph.bits) w.results) (ret_widths s.running.graph.bits x)) e given in
      let widths = All-head (λ l. l ≡ map (location_width w.caller.graph.bits) w.results) (map (width_of s.running.graph.bits) es) [] one in
      giving-good s w.results es back fit ok widths callers.0.active (record { fit = record { values = callers.0.values; memory = fit.memory; console = fit.console }; callers = callers.1 })

  -- Ends of blocks.

  exit-good : (exit : Exit) (s : State) → s.running.block.exit ≡ exit → IsWithinAt p [] s → IsFit s → IsGood p (exit_step exit s)
  exit-good (Goto place) s e w h = going-good place s w.known (record { fit = h; callers = w.callers })
  exit-good (If test one other) s e w h = going-good (if value_in s test == 1 then one else other) s w.known (record { fit = h; callers = w.callers })
  exit-good (Switch x places) s e w h = switching-good (slice_get places (value_in s x))
    where
      switching-good : (place : Option ℕ) → IsGood p (switching place s)
      switching-good (Some place) = going-good place s w.known (record { fit = h; callers = w.callers })
      switching-good None = over-good _ refl (record { fit = record { values = h.values; memory = h.memory; console = h.console }; callers = w.callers })
  exit-good (Ret es) s e w h =
      let ok : list_all (is_expr s.running.graph.bits) es ≡ true =
      subst (λ x. is_exit s.running.graph.bits (length s.running.graph.blocks) x ≡ true) e (exit_of s.running.graph s.running.block w.known w.stands) in
      returning-good s es s.waiting h ok w.stands e refl w.callers
  exit-good Stop s e w h = over-good _ refl (record { fit = record { values = h.values; memory = h.memory; console = h.console }; callers = w.callers })

  -- Calls.

  -- the state in which a callee takes its arguments
  called : ℕ → List Loc → ℕ → Graph → State → State
  called fill results depth callee s = record s {
    running = activation callee (filled callee.bits fill) (callee_base s.running.base depth);
    waiting = record { caller = s.running; results = results } ∷ s.waiting;
  }

  calling-good : (fill : ℕ) (results : List Loc) (entry : ℕ) (es : List Expr) (depth : ℕ) (rest : List Stmt) (s : State) → IsWithinAt p (Call results entry es depth ∷ rest) s → IsFit s
      → IsGood p (calling fill results depth (map (value_in s) es) (graph_at p.graphs entry) (record s { running = record s.running { rest = rest; begins = false } }))
  unfolding called
  calling-good fill results entry es depth rest s w h =
      let bits = s.running.graph.bits in
      let stmts = both (is_stmt bits (Call results entry es depth)) (list_all (is_stmt bits) rest) w.stmts in
      let exprs = (both (list_all _ results) (list_all (is_expr bits) es) (both (list_all _ results && list_all (is_expr bits) es) (nat_lt depth 65536) stmts.0).0).1 in
      let call : IsCall p s.running.graph results entry es = All-head (IsCalling p s.running.graph) (Call results entry es depth) rest w.calls in
      let named = named_again p.graphs entry call.callee well.entries call.named in
      let known = found_contained (λ g. g.entry == entry) p.graphs call.callee named in
      let waits : State = record s { running = record s.running { rest = rest; begins = false } } in
      let jump : is_jump s.running.block.exit ≡ true = elim w.jumps [
        | inl j ↦ (both (not (list_any is_call rest)) (is_jump s.running.block.exit) j).1
        | inr j ↦ j
      ]
      in
      let begun = called fill results depth call.callee waits in
      let safe : IsSafe p begun = record {
        fit = record { values = filled-are call.callee.bits fill; memory = h.memory; console = h.console };
        callers = (
          record {
            active = record { known = w.known; stands = w.stands; stmts = stmts.1; calls = All-tail (IsCalling p s.running.graph) (Call results entry es depth) rest w.calls; whole = inr jump };
            values = h.values;
            results = call.given;
          },
          w.callers,
        );
      }
      in
      let given : State = passing 0 call.callee.params (map (value_in s) es) begun in
      let same = passing-alike 0 call.callee.params (map (value_in s) es) begun in
      let passed = passing-safe s 0 call.callee.params es begun h exprs call.taken (graph_of call.callee known).params safe in
      subst (λ o. IsGood p (calling fill results depth (map (value_in s) es) o waits)) (sym named)
      (going-good 0 given (subst (Contains p.graphs) (sym same.graph) known) passed)

  -- Blocks and steps.

  jumps_later : (stmt : Stmt) (rest : List Stmt) (exit : Exit) → is_call stmt ≡ false → (jumps_after_call (stmt ∷ rest) exit ≡ true) ⊎ (is_jump exit ≡ true) →
      (jumps_after_call rest exit ≡ true) ⊎ (is_jump exit ≡ true)
  jumps_later stmt rest exit none (inr j) = inr j
  jumps_later stmt rest exit none (inl j) = inl (sym (ap (λ b. if b then not (list_any is_call rest) && is_jump exit else jumps_after_call rest exit) none) ∙ j)

  -- the block goes on after a statement that is no Call
  pub within-next : (stmt : Stmt) (rest : List Stmt) (s : State) → is_call stmt ≡ false → IsWithinAt p (stmt ∷ rest) s → IsWithinAt p rest (stmt_step stmt s)
  within-next stmt rest s none w =
      let same = stmt-within stmt s in
      same_within p rest s (stmt_step stmt s) same.graph same.block same.waiting (record {
        known = w.known;
        stands = w.stands;
        stmts = (both (is_stmt s.running.graph.bits stmt) (list_all (is_stmt s.running.graph.bits) rest) w.stmts).1;
        calls = All-tail (IsCalling p s.running.graph) stmt rest w.calls;
        jumps = jumps_later stmt rest s.running.block.exit none w.jumps;
        callers = w.callers;
      })

  pub first-fit : (stmt : Stmt) (rest : List Stmt) (s : State) → IsWithinAt p (stmt ∷ rest) s → IsFit s → IsFit (stmt_step stmt s)
  first-fit stmt rest s w h = stmt-fit stmt s (both (is_stmt s.running.graph.bits stmt) (list_all (is_stmt s.running.graph.bits) rest) w.stmts).0 h

  stmt-good : (fill : ℕ) (stmt : Stmt) (rest : List Stmt) (s : State) → is_call stmt ≡ false → IsWithinAt p (stmt ∷ rest) s → IsFit s
      → (IsWithinAt p rest (stmt_step stmt s) → IsFit (stmt_step stmt s) → IsGood p (block_step p.graphs fill rest (stmt_step stmt s)))
      → IsGood p (if is_over (stmt_step stmt s).end then stmt_step stmt s else block_step p.graphs fill rest (stmt_step stmt s))
  stmt-good fill stmt rest s none w h later =
      let next = stmt_step stmt s in
      let there = within-next stmt rest s none w in
      let fit = first-fit stmt rest s w h in
      go (is_over next.end) refl there fit later
    where
      go : (b : Bool) → is_over (stmt_step stmt s).end ≡ b → IsWithinAt p rest (stmt_step stmt s) → IsFit (stmt_step stmt s)
          → (IsWithinAt p rest (stmt_step stmt s) → IsFit (stmt_step stmt s) → IsGood p (block_step p.graphs fill rest (stmt_step stmt s)))
          → IsGood p (if b then stmt_step stmt s else block_step p.graphs fill rest (stmt_step stmt s))
      go true over there fit later = over-good (stmt_step stmt s) over (record { fit = fit; callers = there.callers })
      go false on there fit later = later there fit

  block-good : (fill : ℕ) (stmts : List Stmt) (s : State) → IsWithinAt p stmts s → IsFit s → IsGood p (block_step p.graphs fill stmts s)
  block-good fill [] s w h = exit-good s.running.block.exit s refl w h
  block-good fill (Call results entry es depth ∷ rest) s w h = calling-good fill results entry es depth rest s w h
  block-good fill (stmt ∷ rest) s w h = stmt-good fill stmt rest s refl w h (block-good fill rest (stmt_step stmt s))

  pub step-good : (fill : ℕ) (s : State) → IsGood p s → IsGood p (step p fill s)
  step-good fill s h = go (is_over s.end) refl
    where
      go : (b : Bool) → is_over s.end ≡ b → IsGood p (if b then s else block_step p.graphs fill s.running.rest s)
      go true over = h
      go false on = block-good fill s.running.rest s (within-of s (h.active on) h.safe) h.safe.fit

  -- The start.

  bytes_everywhere : (xs : List ℕ) → AreBytes xs → (i : ℕ) → slice_index xs i < 256
  bytes_everywhere [] h i = lit< tt
  bytes_everywhere (x ∷ xs) h zero = All-head (λ n. n < 256) x xs h
  bytes_everywhere (x ∷ xs) h (suc i) = bytes_everywhere xs (All-tail (λ n. n < 256) x xs h) i

  first_byte : ℕ → ℕ → ℕ
  first_byte fill at = if nat_le p.lo at && nat_lt at p.hi then fill % 256 else slice_index p.image at

  first_byte-is : (fill at : ℕ) → first_byte fill at < 256
  unfolding first_byte
  first_byte-is fill at = elim (nat_le p.lo at && nat_lt at p.hi) as
      (λ b. (if b then fill % 256 else slice_index p.image at) < 256) [ true ↦ mod_below fill 256 (lit< tt) | false ↦ bytes_everywhere p.image well.image at ]

  first_memory-is : (fill : ℕ) → IsMemory (first_memory p fill)
  unfolding first_memory first_byte
  first_memory-is fill =
      let all : AreBytes (map (first_byte fill) (range_with_len 0 65536)) =
      All-map (λ n. n < 256) (first_byte fill) (range_with_len 0 65536) (λ k d less. first_byte-is fill (slice_index_or (range_with_len 0 65536) k d)) in
      record { len = length-map-range_with_len (first_byte fill) 0 65536; bytes = bytes_everywhere (map (first_byte fill) (range_with_len 0 65536)) all }

  first_contained : (graphs : List Graph) → 0 < length graphs → Contains graphs (get_or graphs 0 no_graph) × Contains (take 1 graphs) (get_or graphs 0 no_graph)
  first_contained [] some = absurd (omega (arith, some))
  first_contained (g ∷ graphs) some = (contained_first g graphs, contained_first g [])

  pub first-good : (fill : ℕ) (input : List ℕ) → AreBytes input → IsGood p (first_state p fill input)
  first-good fill input bytes =
      let at_start = first_contained p.graphs well.begins in
      going-good 0 _ at_start.0 (record {
        fit = record {
          values = filled-are (get_or p.graphs 0 no_graph).bits fill;
          memory = first_memory-is fill;
          console = record { left = bytes; written = All-nil (λ n. n < 256); taken = All-nil (λ n. n < 256) };
        };
        callers = at_start.1;
      })

  after-good : (fill n : ℕ) (s : State) → IsGood p s → IsGood p (after (step p fill) n s)
  after-good fill zero s h = h
  after-good fill (suc n) s h = after-good fill n (step p fill s) (step-good fill s h)

  pub reached-good : (fill : ℕ) (input : List ℕ) → AreBytes input → (n : ℕ) → IsGood p (reached p fill input n)
  reached-good fill input bytes n = after-good fill n (first_state p fill input) (first-good fill input bytes)

  callers-fit : (memory : List ℕ) (graph : Graph) (waiting : List Waiting) → IsMemory memory → AreCallers p graph waiting → All (λ w. Fits (scene_in w.caller memory)) waiting
  callers-fit memory graph [] m h = All-nil (λ w. Fits (scene_in w.caller memory))
  callers-fit memory graph (w ∷ waiting) m h = All-cons (λ x. Fits (scene_in x.caller memory)) w waiting (record { values = h.0.values; len = m.len; bytes = m.bytes })
      (callers-fit memory w.caller.graph waiting m h.1)

  pub good-fits : (s : State) → IsGood p s → StateFits s
  good-fits s good = record {
    running = scene-fits s good.safe.fit;
    waiting = callers-fit s.memory s.running.graph s.waiting good.safe.fit.memory good.safe.callers;
    input = good.safe.fit.console.left;
    written = good.safe.fit.console.written;
    taken = good.safe.fit.console.taken;
  }

-- each state that a well-formed program reaches fits its widths
pub states-fit : (p : Program) → IsProgram p → (fill : ℕ) (input : List ℕ) → AreBytes input → (n : ℕ) → StateFits (reached p fill input n)
states-fit p well fill input bytes n = good-fits p well (reached p fill input n) (reached-good p well fill input bytes n)
