-- Laws of the runs of programs: they are lawful, and they come to blocks of the program alone.
use Rattle.std.proofs.Common.{◌≡◌, ℕ, true, false, List, [], ◌∷◌, Option, Some, None, refl, sym, ap, ◌∙◌, subst, map, slice_get, ◌≤◌, ◌⊎◌, inl, inr, true≢false}
use Rattle.std.specs.Prelude.{if◌then◌else◌, ◌==◌}
use Rattle.dcc_run.specs.End.{is_over}
use Rattle.dcc_run.specs.Event.{Event}
use Rattle.dcc_run.specs.Prefix.{IsPrefix}
use Rattle.dcc_run.specs.System.{IsLawful, after}
use Rattle.dcc_run.specs.Watched.{IsWatchable}
use Rattle.dcc_run.proofs.RunLaws.{over_stays}
use Rattle.dcc_run.proofs.PrefixLaws.{prefix_refl, prefix_trans}
use Rattle.dcc_ir.specs.declared.syntax.Loc.{Loc}
use Rattle.dcc_ir.specs.Tree.{Stmt, Call, Exit, Goto, If, Switch, Ret, Stop, Block, Graph, Program}
use Rattle.dcc_ir.specs.Location.{filled}
use Rattle.dcc_ir.specs.Run.{State, Waiting, activation, value_in, stmt_step, entering, passing, callee_base, calling, graph_at, returning, switching, exit_step, block_step, step, inner_system, watched_inner}
use Rattle.dcc_ir.proofs.StepLaws.{stmt-within, passing-alike, giving-alike}

-- Events only grow.

same_prefix : {s t : List Event} → t ≡ s → IsPrefix s t
same_prefix {s} e = subst (IsPrefix s) (sym e) (prefix_refl s)

entering-events : (block : Option Block) (s : State) → (entering block s).events ≡ s.events
entering-events (Some block) s = refl
entering-events None s = refl

switching-events : (place : Option ℕ) (s : State) → (switching place s).events ≡ s.events
switching-events (Some place) s = entering-events (slice_get s.running.graph.blocks place) s
switching-events None s = refl

returning-events : (values : List ℕ) (waiting : List Waiting) (s : State) → (returning values waiting s).events ≡ s.events
returning-events values [] s = refl
returning-events values (w ∷ waiting) s = (giving-alike w.results values (record s { running = w.caller; waiting = waiting })).events

exit-events : (exit : Exit) (s : State) → (exit_step exit s).events ≡ s.events
exit-events (Goto place) s = entering-events (slice_get s.running.graph.blocks place) s
exit-events (If test one other) s = entering-events (slice_get s.running.graph.blocks (if value_in s test == 1 then one else other)) s
exit-events (Switch e places) s = switching-events (slice_get places (value_in s e)) s
exit-events (Ret values) s = returning-events (map (value_in s) values) s.waiting s
exit-events Stop s = refl

calling-events : (fill : ℕ) (results : List Loc) (depth : ℕ) (arguments : List ℕ) (graph : Option Graph) (s : State) →
    (calling fill results depth arguments graph s).events ≡ s.events
calling-events fill results depth arguments None s = refl
calling-events fill results depth arguments (Some graph) s =
    let called : State = record s { running = activation graph (filled graph.bits fill) (callee_base s.running.base depth); waiting = record { caller = s.running; results = results } ∷ s.waiting } in
    let passed : State = passing 0 graph.params arguments called in
    entering-events (slice_get passed.running.graph.blocks 0) passed ∙ (passing-alike 0 graph.params arguments called).events

block-grows : (graphs : List Graph) (fill : ℕ) (stmts : List Stmt) (s : State) → IsPrefix s.events (block_step graphs fill stmts s).events
block-grows graphs fill [] s = same_prefix (exit-events s.running.block.exit s)
block-grows graphs fill (Call results entry arguments depth ∷ rest) s =
    same_prefix (calling-events fill results depth (map (value_in s) arguments) (graph_at graphs entry) (record s { running = record s.running { rest = rest; begins = false } }))
block-grows graphs fill (stmt ∷ rest) s =
    let next = stmt_step stmt s in
    let here = (stmt-within stmt s).events in
    elim (is_over next.end) as (λ b. IsPrefix s.events (if b then next else block_step graphs fill rest next).events) [
      | true ↦ here
      | false ↦ prefix_trans here (block-grows graphs fill rest next)
    ]

-- a state that has ended stays, and no step takes events back
pub inner_lawful : (p : Program) (fill : ℕ) → IsLawful (inner_system p fill)
inner_lawful p fill = record {
  stays = λ s over. ap (λ b. if b then s else block_step p.graphs fill s.running.rest s) over;
  grows = λ s. elim (is_over s.end) as (λ b. IsPrefix s.events (if b then s else block_step p.graphs fill s.running.rest s).events) [
    | true ↦ prefix_refl s.events
    | false ↦ block-grows p.graphs fill s.running.rest s
  ];
}

-- A run that has made all steps, or is over before, stands where all steps lead.
pub stands_at_last : (p : Program) (fill steps done : ℕ) (s first : State) → done ≤ steps → s ≡ after (step p fill) done first → (done ≡ steps) ⊎ (is_over s.end ≡ true) → s ≡ after (step p fill) steps first
stands_at_last p fill steps done s first within stands (inl all) = stands ∙ ap (λ n. after (step p fill) n first) all
stands_at_last p fill steps done s first within stands (inr over) =
    stands ∙ sym (over_stays (inner_system p fill) (inner_lawful p fill) done steps first within (ap (λ t. is_over t.end) (sym stands) ∙ over))

-- the runs of the inner language are watchable: no state is foul
pub inner_watchable : (p : Program) (fill : ℕ) → IsWatchable (watched_inner p fill)
inner_watchable p fill = record {
  lawful = inner_lawful p fill;
  stays = λ s foul. absurd (true≢false (sym foul));
  unmarked = λ s foul. absurd (true≢false (sym foul));
}
