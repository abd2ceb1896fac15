-- A run stands at blocks of its program alone.
use Rattle.std.proofs.Common.{◌≡◌, ℕ, Bool, true, false, cond, ◌⊎◌, inl, inr, List, [], ◌∷◌, Option, Some, None, refl, sym, ap, ◌∙◌, subst, true≢false, map, find, slice_get, get_or, eq-eqb}
use Rattle.std.specs.Prelude.{if◌then◌else◌, ◌==◌}
use Rattle.std.specs.List.{list_any}
use Rattle.dcc_run.specs.End.{is_over}
use Rattle.dcc_run.specs.ProgramPoint.{ProgramPoint}
use Rattle.dcc_ir.specs.declared.syntax.Loc.{Loc}
use Rattle.dcc_ir.specs.Tree.{Stmt, Call, Exit, Goto, If, Switch, Ret, Stop, Block, Graph, Program}
use Rattle.dcc_ir.specs.Location.{filled}
use Rattle.dcc_ir.specs.Run.{State, Waiting, activation, value_in, stmt_step, entering, going_to, passing, callee_base, calling, graph_at, giving, returning, switching, exit_step, block_step, step, no_graph, opened, first_state, block_mark}
use Rattle.dcc_ir.specs.Flow.{graph_or_none}
use Rattle.dcc_ir.specs.Keeps.{has_block}
use Rattle.dcc_ir.proofs.StepLaws.{stmt-within, passing-alike, giving-alike}
use Rattle.dcc_ir.proofs.GraphLaws.{any_at, found_again}

-- the callers that wait are activations of the program's graphs, and none is about to begin a block
abbrev Known : List Graph → List Waiting → Type 0
Known graphs [] = Unit {0}
Known graphs (w ∷ waiting) = (graph_at graphs w.caller.graph.entry ≡ Some w.caller.graph) × (w.caller.begins ≡ false) × Known graphs waiting

-- the graph is the program's, and the block, where it is about to begin, is one of the graph's
pub record Stands (graphs : List Graph) (graph : Graph) (block : Block) (begins : Bool) (waiting : List Waiting) : Type 0 where
  pub graph_known : graph_at graphs graph.entry ≡ Some graph
  pub block_known : begins ≡ true → list_any (λ b. b.at == block.at) graph.blocks ≡ true
  pub callers : Known graphs waiting

abbrev pub StandsAt : List Graph → State → Type 0
StandsAt graphs s = Stands graphs s.running.graph s.running.block s.running.begins s.waiting

same_stand : (graphs : List Graph) (s t : State) → t.running.graph ≡ s.running.graph → t.running.block ≡ s.running.block → t.running.begins ≡ s.running.begins → t.waiting ≡ s.waiting → StandsAt graphs s → StandsAt graphs t
same_stand graphs s t g b n w h =
    subst (λ x. Stands graphs x t.running.block t.running.begins t.waiting) (sym g)
    (subst (λ x. Stands graphs s.running.graph x t.running.begins t.waiting) (sym b)
    (subst (λ x. Stands graphs s.running.graph s.running.block x t.waiting) (sym n)
    (subst (λ x. Stands graphs s.running.graph s.running.block s.running.begins x) (sym w) h)))

entering-stands : (graphs : List Graph) (place : ℕ) (block : Option Block) (s : State) → slice_get s.running.graph.blocks place ≡ block → StandsAt graphs s → StandsAt graphs (entering block s)
entering-stands graphs place (Some block) s e h = record {
  graph_known = h.graph_known;
  block_known = λ b. any_at (λ x. x.at == block.at) s.running.graph.blocks place block e (eq-eqb block.at block.at refl);
  callers = h.callers;
}
entering-stands graphs place None s e h = h

going-stands : (graphs : List Graph) (place : ℕ) (s : State) → StandsAt graphs s → StandsAt graphs (going_to place s)
going-stands graphs place s h = entering-stands graphs place (slice_get s.running.graph.blocks place) s refl h

switching-stands : (graphs : List Graph) (place : Option ℕ) (s : State) → StandsAt graphs s → StandsAt graphs (switching place s)
switching-stands graphs (Some place) s h = going-stands graphs place s h
switching-stands graphs None s h = h

returning-stands : (graphs : List Graph) (values : List ℕ) (waiting : List Waiting) (s : State) → Known graphs waiting → StandsAt graphs s → StandsAt graphs (returning values waiting s)
returning-stands graphs values [] s k h = h
returning-stands graphs values (w ∷ waiting) s k h =
    let back : State = record s { running = w.caller; waiting = waiting } in
    let same = giving-alike w.results values back in
    same_stand graphs back (giving w.results values back) same.graph same.block same.begins same.waiting
    (record { graph_known = k.0; block_known = λ b. absurd (true≢false (sym b ∙ k.1)); callers = k.2 })

exit-stands : (graphs : List Graph) (exit : Exit) (s : State) → StandsAt graphs s → StandsAt graphs (exit_step exit s)
exit-stands graphs (Goto place) s h = going-stands graphs place s h
exit-stands graphs (If test one other) s h = going-stands graphs (if value_in s test == 1 then one else other) s h
exit-stands graphs (Switch e places) s h = switching-stands graphs (slice_get places (value_in s e)) s h
exit-stands graphs (Ret values) s h = returning-stands graphs (map (value_in s) values) s.waiting s h.callers h
exit-stands graphs Stop s h = h

calling-stands : (graphs : List Graph) (fill : ℕ) (results : List Loc) (depth : ℕ) (arguments : List ℕ) (entry : ℕ) (graph : Option Graph) (s : State) →
    graph_at graphs entry ≡ graph → s.running.begins ≡ false → StandsAt graphs s → StandsAt graphs (calling fill results depth arguments graph s)
calling-stands graphs fill results depth arguments entry None s e b h = h
calling-stands graphs fill results depth arguments entry (Some graph) s e b h =
    let called : State = record s { running = activation graph (filled graph.bits fill) (callee_base s.running.base depth); waiting = record { caller = s.running; results = results } ∷ s.waiting } in
    let passed : State = passing 0 graph.params arguments called in
    let same = passing-alike 0 graph.params arguments called in
    let at_start : StandsAt graphs called = record { graph_known = found_again graphs entry graph e; block_known = λ n. absurd (true≢false (sym n)); callers = (h.graph_known, b, h.callers) } in
    going-stands graphs 0 passed (same_stand graphs called passed same.graph same.block same.begins same.waiting at_start)

block-stands : (graphs : List Graph) (fill : ℕ) (stmts : List Stmt) (s : State) → StandsAt graphs s → StandsAt graphs (block_step graphs fill stmts s)
block-stands graphs fill [] s h = exit-stands graphs s.running.block.exit s h
block-stands graphs fill (Call results entry arguments depth ∷ rest) s h =
    calling-stands graphs fill results depth (map (value_in s) arguments) entry (graph_at graphs entry) (record s { running = record s.running { rest = rest; begins = false } }) refl refl
    (record { graph_known = h.graph_known; block_known = λ n. absurd (true≢false (sym n)); callers = h.callers })
block-stands graphs fill (stmt ∷ rest) s h =
    let next = stmt_step stmt s in
    let same = stmt-within stmt s in
    let there : StandsAt graphs next = same_stand graphs s next same.graph same.block same.begins same.waiting h in
    elim (is_over next.end) as (λ b. StandsAt graphs (if b then next else block_step graphs fill rest next)) [
      | true ↦ there
      | false ↦ block-stands graphs fill rest next there
    ]

-- A run stands at the program's blocks, or it is over and no block is about to begin.
abbrev pub Holds : Program → State → Type 0
Holds p s = StandsAt p.graphs s ⊎ ((s.running.begins ≡ false) × (is_over s.end ≡ true))

pub holds_still : (p : Program) (fill : ℕ) (s : State) → Holds p s → Holds p (step p fill s)
holds_still p fill s (inl h) = inl (elim (is_over s.end) as (λ b. StandsAt p.graphs (if b then s else block_step p.graphs fill s.running.rest s)) [
  | true ↦ h
  | false ↦ block-stands p.graphs fill s.running.rest s h
])
holds_still p fill s (inr o) = inr (subst (λ t. (t.running.begins ≡ false) × (is_over t.end ≡ true)) (sym (ap (λ b. if b then s else block_step p.graphs fill s.running.rest s) o.1)) o)

-- the state in which the first of the graphs begins
opening : List Graph → Program → ℕ → List ℕ → State
opening graphs p fill input = opened (get_or graphs 0 no_graph) p fill input

opening-holds : (graphs : List Graph) (p : Program) (fill : ℕ) (input : List ℕ) → StandsAt graphs (opening graphs p fill input) ⊎ (((opening graphs p fill input).running.begins ≡ false) × (is_over (opening graphs p fill input).end ≡ true))
unfolding opening
opening-holds [] p fill input = inr (refl, refl)
opening-holds (graph ∷ graphs) p fill input = inl (going-stands (graph ∷ graphs) 0 _ (record {
  graph_known = ap (λ b. cond b (Some graph) (find (λ g. g.entry == graph.entry) graphs)) (eq-eqb graph.entry graph.entry refl);
  block_known = λ n. absurd (true≢false (sym n));
  callers = tt;
}))

pub first_holds : (p : Program) (fill : ℕ) (input : List ℕ) → Holds p (first_state p fill input)
unfolding opening
first_holds p fill input = opening-holds p.graphs p fill input

-- where the running activation stands
abbrev stand : State → ProgramPoint
stand s = record { entry = s.running.graph.entry; at = s.running.block.at }

stand_known : (p : Program) (s : State) → StandsAt p.graphs s → s.running.begins ≡ true → has_block p (stand s) ≡ true
stand_known p s h b = subst (λ o. list_any (λ x. x.at == s.running.block.at) (graph_or_none o).blocks ≡ true) (sym h.graph_known) (h.block_known b)

mark_at : (p : Program) (s : State) (place : ProgramPoint) (b : Bool) → s.running.begins ≡ b → Holds p s → (if b then Some (stand s) else None) ≡ Some place → has_block p place ≡ true
mark_at p s place true b (inl h) o = let same : stand s ≡ place = cc in subst (λ x. has_block p x ≡ true) same (stand_known p s h b)
mark_at p s place true b (inr f) o = absurd (true≢false (sym b ∙ f.0))
mark_at p s place false b h o = absurd (cc)

-- the block that is about to begin is one of the program's
pub mark_known : (p : Program) (s : State) → Holds p s → (place : ProgramPoint) → block_mark s ≡ Some place → has_block p place ≡ true
mark_known p s holds place e = mark_at p s place s.running.begins refl holds e
