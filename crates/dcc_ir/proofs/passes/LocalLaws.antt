-- Laws of local runs: a step is a local run and what it leads to; what a local run leaves.
use Rattle.std.proofs.Common.{◌≡◌, ℕ, ◌<◌, Bool, true, false, ◌&&◌, List, [], ◌∷◌, length, Option, Some, None, refl, ap, ◌∙◌, subst, true≢false, map, slice_get, ltb-true}
use Rattle.std.specs.Prelude.{if◌then◌else◌, ◌==◌, nat_lt, nat_le, All, Contains}
use Rattle.std.specs.List.{list_all}
use Rattle.std.proofs.lemmas.List.Elements.{All-head, All-contains, All-contains_itself}
use Rattle.dcc_run.specs.End.{End, Running, Exit as ExitWith, Divide, Outside, Stuck, is_over}
use Rattle.dcc_ir.specs.Tree.{Expr, Stmt, Call, Exit, Goto, If, Switch, Ret, Stop, Block, Graph, Program}
use Rattle.dcc_ir.specs.Value.{width_of}
use Rattle.dcc_ir.specs.WellFormed.{is_location, is_expr, is_expr_of, is_stmt, is_exit, ret_widths, all_ret_widths, IsCall, IsCalling, IsProgram}
use Rattle.dcc_ir.specs.Run.{State, Waiting, scene_of, value_in, switching, stmt_step, graph_at, exit_step, block_step, step}
use Rattle.dcc_ir.specs.Local.{Request, Halt, Over, Calls, Jumps, Returns, after_call, switch_halt, exit_halt, local_run, halt_of, led_to}
use Rattle.dcc_ir.specs.Passes.{FitIn, param_widths}
use Rattle.dcc_ir.proofs.StepLaws.{stmt-within}
use Rattle.dcc_ir.proofs.FitLaws.{both, value_fits}
use Rattle.dcc_ir.proofs.FitStates.{IsFit, scene-fits}
use Rattle.dcc_ir.proofs.ReachedLaws.{contained, all_at, named_again, IsWithinAt, exit_of, within-next, first-fit}
use Rattle.dcc_ir.proofs.ListLaws.{all_parts}

pub some_same : {A : Type 0} (x y : A) → Some x ≡ Some y → x ≡ y
some_same x y e = cc

pub is_running : (e : End) → is_over e ≡ false → e ≡ Running
is_running Running on = refl
is_running (ExitWith code) on = absurd (true≢false on)
is_running Divide on = absurd (true≢false on)
is_running (Outside at) on = absurd (true≢false on)
is_running (Stuck line) on = absurd (true≢false on)

-- A step is a local run, and what it leads to.

exit-leads : (graphs : List Graph) (fill : ℕ) (exit : Exit) (s : State) → exit_step exit s ≡ led_to graphs fill (exit_halt exit s)
exit-leads graphs fill (Goto place) s = refl
exit-leads graphs fill (If test one other) s = refl
exit-leads graphs fill (Switch e places) s = elim (slice_get places (value_in s e)) as (λ place. switching place s ≡ led_to graphs fill (switch_halt place s)) [ Some place ↦ refl | None ↦ refl ]
exit-leads graphs fill (Ret values) s = refl
exit-leads graphs fill Stop s = refl

block-leads : (graphs : List Graph) (fill : ℕ) (stmts : List Stmt) (s : State) → block_step graphs fill stmts s ≡ led_to graphs fill (local_run stmts s)
block-leads graphs fill [] s = exit-leads graphs fill s.running.block.exit s
block-leads graphs fill (Call results entry arguments depth ∷ rest) s = refl
block-leads graphs fill (stmt ∷ rest) s =
    let next = stmt_step stmt s in
    elim (is_over next.end) as (λ b. (if b then next else block_step graphs fill rest next) ≡ led_to graphs fill (if b then Over next else local_run rest next)) [
      | true ↦ refl
      | false ↦ block-leads graphs fill rest next
    ]

pub step-leads : (p : Program) (fill : ℕ) (s : State) → is_over s.end ≡ false → step p fill s ≡ led_to p.graphs fill (halt_of s)
step-leads p fill s running = ap (λ b. if b then s else block_step p.graphs fill s.running.rest s) running ∙ block-leads p.graphs fill s.running.rest s

-- Statements stay in their place.

-- where a state stands, and who waits for it
pub record Frame : Type 0 where
  pub graph : Graph
  pub block : Block
  pub rest : List Stmt
  pub begins : Bool
  pub base : ℕ
  pub waiting : List Waiting

abbrev pub frame_of : State → Frame
frame_of s = record { graph = s.running.graph; block = s.running.block; rest = s.running.rest; begins = s.running.begins; base = s.running.base; waiting = s.waiting }

pub stmt-frame : (stmt : Stmt) (s : State) → frame_of (stmt_step stmt s) ≡ frame_of s
stmt-frame stmt s = let same = stmt-within stmt s in cc

-- What a local run leaves.

-- the state has that frame, and goes on
pub record Left (frame : Frame) (u : State) : Type 0 where
  pub same : frame_of u ≡ frame
  pub running : is_over u.end ≡ false

-- the arguments fit the callee's params
pub record CallFits (p : Program) (call : Request) : Type 0 where
  pub callee : Graph
  pub named : graph_at p.graphs call.entry ≡ Some callee
  pub arguments : FitIn (param_widths callee) call.arguments

-- the values fit the widths that a return of the graph gives
pub record ReturnFits (graph : Graph) (values : List ℕ) : Type 0 where
  pub widths : List ℕ
  pub given : Contains (all_ret_widths graph) widths
  pub fit : FitIn widths values

abbrev pub Leaves : Program → List Stmt → Frame → Halt → Type 0
Leaves p after frame (Over u) = is_over u.end ≡ true
Leaves p after frame (Calls call u) = Left (record frame { rest = after; begins = false }) u × CallFits p call
Leaves p after frame (Jumps place u) = Left frame u × (place < length u.running.graph.blocks)
Leaves p after frame (Returns values u) = Left frame u × ReturnFits u.running.graph values

values-fit : (s : State) (es : List Expr) → IsFit s → list_all (is_expr s.running.graph.bits) es ≡ true → FitIn (map (width_of s.running.graph.bits) es) (map (value_in s) es)
values-fit s [] fit ok = tt
values-fit s (e ∷ es) fit ok = let parts = both (is_expr s.running.graph.bits e) _ ok in (value_fits (scene_of s) (scene-fits s fit) e parts.0, values-fit s es fit parts.1)

module _ (p : Program) (well : IsProgram p) where
  exit-leaves : (after : List Stmt) (exit : Exit) (s : State) → is_over s.end ≡ false → IsFit s → is_exit s.running.graph.bits (length s.running.graph.blocks) exit ≡ true →
      All (Contains (all_ret_widths s.running.graph)) (ret_widths s.running.graph.bits exit) → Leaves p after (frame_of s) (exit_halt exit s)
  exit-leaves after (Goto place) s running fit ok rets = (record { same = refl; running = running }, ltb-true _ _ ok)
  exit-leaves after (If test one other) s running fit ok rets =
      let two = both _ (nat_lt other (length s.running.graph.blocks)) ok in
      let first = both (is_expr_of s.running.graph.bits 1 test) _ two.0 in (
        record { same = refl; running = running },
        elim (value_in s test == 1) as (λ b. (if b then one else other) < length s.running.graph.blocks) [ true ↦ ltb-true _ _ first.1 | false ↦ ltb-true _ _ two.1 ],
      )
  exit-leaves after (Switch e places) s running fit ok rets = go (slice_get places (value_in s e)) refl
    where
      go : (place : Option ℕ) → slice_get places (value_in s e) ≡ place → Leaves p after (frame_of s) (switch_halt place s)
      go (Some place) found = (
        record { same = refl; running = running },
        ltb-true _ _ (all_at (λ x. nat_lt x (length s.running.graph.blocks)) places place (both (is_expr_of s.running.graph.bits 16 e && nat_le (length places) 65536) _ ok).1
            (contained places (value_in s e) place found)),
      )
      go None found = refl
  exit-leaves after (Ret values) s running fit ok rets = (
    record { same = refl; running = running },
    record { widths = map (width_of s.running.graph.bits) values; given = All-head (Contains (all_ret_widths s.running.graph)) _ [] rets; fit = values-fit s values fit ok },
  )
  exit-leaves after Stop s running fit ok rets = refl

  pub local-leaves : (stmts : List Stmt) (s : State) → is_over s.end ≡ false → IsWithinAt p stmts s → IsFit s → Leaves p (after_call stmts) (frame_of s) (local_run stmts s)
  local-leaves [] s running within fit =
      let graph = s.running.graph in
      let all = all_ret_widths graph in
      let given = All-contains (λ b. All (Contains all) (ret_widths graph.bits b.exit)) graph.blocks s.running.block
      (all_parts (Contains all) (λ b. ret_widths graph.bits b.exit) graph.blocks (All-contains_itself all)) within.stands in
      exit-leaves [] s.running.block.exit s running fit (exit_of p well graph s.running.block within.known within.stands) given
  local-leaves (Call results entry arguments depth ∷ rest) s running within fit =
      let bits = s.running.graph.bits in
      let call : IsCall p s.running.graph results entry arguments = All-head (IsCalling p s.running.graph) (Call results entry arguments depth) rest within.calls in
      let formed = both (is_stmt bits (Call results entry arguments depth)) _ within.stmts in
      let ok = (both (list_all (is_location bits) results) _ (both (list_all (is_location bits) results && list_all (is_expr bits) arguments) _ formed.0).0).1 in (
        record { same = refl; running = running },
        record {
          callee = call.callee;
          named = named_again p.graphs entry call.callee well.entries call.named;
          arguments = subst (λ widths. FitIn widths (map (value_in s) arguments)) call.taken (values-fit s arguments fit ok);
        },
      )
  local-leaves (stmt ∷ rest) s running within fit =
      go (is_over (stmt_step stmt s).end) refl (λ on. local-leaves rest (stmt_step stmt s) on (within-next p well stmt rest s refl within) (first-fit p well stmt rest s within fit))
    where
      go : (b : Bool) → is_over (stmt_step stmt s).end ≡ b → (is_over (stmt_step stmt s).end ≡ false → Leaves p (after_call rest) (frame_of (stmt_step stmt s)) (local_run rest (stmt_step stmt s))) →
          Leaves p (after_call rest) (frame_of s) (if b then Over (stmt_step stmt s) else local_run rest (stmt_step stmt s))
      go true over later = over
      go false on later = subst (λ frame. Leaves p (after_call rest) frame (local_run rest (stmt_step stmt s))) (stmt-frame stmt s) (later on)
