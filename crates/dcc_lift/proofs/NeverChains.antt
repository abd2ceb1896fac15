-- The inner run through the instructions of a block, one after another, each with its mirror; and where it leads then.
use Rattle.std.proofs.Common.{◌≡◌, ℕ, Bool, true, false, ◌||◌, List, [], ◌∷◌, ◌++◌, flat_map, Some, None, refl, sym, ap, ◌∙◌, subst, true≢false, arith}
use Rattle.std.specs.Prelude.{if◌then◌else◌, Contains}
use Rattle.std.specs.List.{list_any}
use Rattle.std.proofs.lemmas.List.{append-nil}
use Rattle.std.proofs.lemmas.List.Folds.{list_any-append}
use Rattle.dcc_run.specs.End.{End, Running, is_over}
use Rattle.dcc_machine.specs.declared.image.Image.{Image}
use Rattle.dcc_prog.specs.declared.procedure.Node.{Node}
use Rattle.dcc_prog.specs.declared.frame.Program.{Program as Analysed}
use Rattle.dcc_machine.specs.declared.instr.Op.{Op}
use Rattle.dcc_machine.specs.declared.instr.Op.TheVariants.{Alu as AluOp, Shift as ShiftOp, Mov, Branch}
use Rattle.dcc_prog.specs.Trail.{IsTrail, IsEntry}
use Rattle.dcc_stack.specs.Accepted.{IsProgramOfFile}
use Rattle.dcc_ir.specs.Tree.{Expr, Stmt, Exit, Goto, If, Switch, Ret as RetTo, Stop, Program}
use Rattle.dcc_ir.specs.WellFormed.{IsProgram}
use Rattle.dcc_ir.specs.Run.{State as Inner, stmt_step, is_call, execute, switching, exit_step}
use Rattle.dcc_ir.proofs.ExecuteLaws.{execute_over, execute-append, execute-within}
use Rattle.dcc_ir.proofs.FitStates.{IsFit, scene-fits}
use Rattle.dcc_ir.proofs.ReachedLaws.{IsWithinAt, within-next, first-fit}
use Rattle.dcc_ops.specs.Temporaries.{temporary_bits}
use Rattle.dcc_simulation.specs.Nodes.{leads_to}
use Rattle.dcc_simulation.specs.Passed.{exit_of}
use Rattle.dcc_simulation.specs.Procedures.{Procedure}
use Rattle.dcc_lift.specs.Blocks.{Nodes, successors_in, IsChain, last_of, BlockSource, nodes_in, entry_in, stmts_at}
use Rattle.dcc_lift.specs.Sound.{AreSound, GoesOnAt}
use Rattle.dcc_lift.specs.Translation.{IsTranslation}
use Rattle.dcc_lift.proofs.CallFree.{IsCallFree}
use Rattle.dcc_lift.proofs.NodeLaws.{node_in_holds}
use Rattle.dcc_lift.proofs.ChainLaws.{onward_tells}
use Rattle.dcc_lift.proofs.Lifting.{Located, procedure_of, scene_of, sound}
use Rattle.dcc_lift.proofs.NeverForms.{is_followed}
use Rattle.dcc_lift.proofs.NeverSteps.{IsHere, here, Followed, IsRunning, goes-on}

-- Statements.

-- a run that isn't over goes on
pub is-running : (end : End) → is_over end ≡ false → end ≡ Running
is-running Running on = refl
is-running end on = cc

or_left : (a b : Bool) → (a || b) ≡ false → a ≡ false
or_left true b e = cc
or_left false b e = refl

or_right : (a b : Bool) → (a || b) ≡ false → b ≡ false
or_right true b e = cc
or_right false b e = e

-- parts of statements without Calls
pub free-first : (stmts more : List Stmt) → IsCallFree (stmts ++ more) → IsCallFree stmts
free-first stmts more free =
    or_left (list_any is_call stmts) (list_any is_call more) (sym (list_any-append is_call stmts more) ∙ free)

pub free-later : (stmts more : List Stmt) → IsCallFree (stmts ++ more) → IsCallFree more
free-later stmts more free =
    or_right (list_any is_call stmts) (list_any is_call more) (sym (list_any-append is_call stmts more) ∙ free)

-- where statements are executed to their end, the first ones are
pub on-before : (more : List Stmt) (t : Inner) → is_over (execute more t).end ≡ false → is_over t.end ≡ false
on-before more t on = by (is_over t.end) refl
  where
    by : (b : Bool) → is_over t.end ≡ b → is_over t.end ≡ false
    by false e = e
    by true e = absurd (true≢false (sym e ∙ sym (ap (λ (u : Inner). is_over u.end) (execute_over more t e)) ∙ on))

-- a state within a block, with statements of it to come
pub record IsGoing (p : Program) (stmts : List Stmt) (t : Inner) : Type 0 where
  pub within : IsWithinAt p stmts t
  pub fit : IsFit t

pub going-later : (p : Program) → IsProgram p → (stmts more : List Stmt) (t : Inner) → IsCallFree stmts
    → IsGoing p (stmts ++ more) t → is_over (execute stmts t).end ≡ false → IsGoing p more (execute stmts t)
going-later p well [] more t free going on = going
going-later p well (stmt ∷ stmts) more t free going on =
    by (is_over t.end) refl on
    (λ later. going-later p well stmts more (stmt_step stmt t)
    (or_right (is_call stmt) (list_any is_call stmts) free) (record {
      within =
          within-next p well stmt (stmts ++ more) t (or_left (is_call stmt) (list_any is_call stmts) free) going.within;
      fit = first-fit p well stmt (stmts ++ more) t going.within going.fit;
    }) later)
  where
    by : (b : Bool) → is_over t.end ≡ b
        → is_over (if b then t else execute stmts (stmt_step stmt t)).end ≡ false
        → (is_over (execute stmts (stmt_step stmt t)).end ≡ false → IsGoing p more (execute stmts (stmt_step stmt t)))
        → IsGoing p more (if b then t else execute stmts (stmt_step stmt t))
    by true over still later = absurd (true≢false (sym over ∙ still))
    by false e still later = later still

-- An operation that is followed has a test where it has two successors.
one-successor : (p : Procedure) (op : Op) (next : ℕ) (u : Inner) → is_followed op ≡ true → GoesOnAt op (next ∷ [])
    → leads_to (exit_of p op (next ∷ [])) u ≡ Some next
one-successor p (AluOp operation a b) next u e goes = refl
one-successor p (ShiftOp operation a count) next u e goes = refl
one-successor p (Mov to from) next u e goes = refl
one-successor p (Branch tested target) next u e goes = absurd goes
one-successor p op next u e goes = cc

-- Blocks.

module _ (image : Image) (program : Analysed) (p : Program) (well : IsProgram p)
    (of_file : IsProgramOfFile program.layout.cpu image program)
    (translation : IsTranslation image program.layout program.procs.items program.heights program.cells p) (entry : ℕ)
    (is_entry : IsEntry image program.layout entry) (x : Located image program p entry) where
  abbrev procedure : Procedure
  procedure = procedure_of image program p entry x

  abbrev scene : BlockSource
  scene = scene_of image program p entry x

  abbrev nodes : Nodes
  nodes = nodes_in scene

  abbrev Here : ℕ → List ℕ → Type 0
  Here at before = IsHere image program p of_file translation entry is_entry x at before

  abbrev Follows : ℕ → List ℕ → Inner → Type 0
  Follows at before t = Followed image program p of_file translation entry is_entry x at before t

  abbrev Runs : Inner → Type 0
  Runs t = IsRunning image program p of_file translation entry is_entry x t

  sound_here : AreSound nodes (entry_in scene) image.ip
  sound_here = sound image program p of_file translation entry is_entry x

  pub runs-on : (stmts : List Stmt) (t : Inner) → IsGoing p stmts t → t.running.graph.bits ≡ temporary_bits
      → is_over t.end ≡ false → Runs t
  runs-on stmts t going bits on = record {
    running = is-running t.end on;
    bits = bits;
    fits = scene-fits t going.fit;
  }

  -- the last instruction of a block, in the state before its statements
  pub record IsThrough (last : ℕ) (u : Inner) : Type 0 where
    pub before : List ℕ
    pub is_here : Here last before
    pub from : Inner
    pub follows : Follows last before from
    pub is : u ≡ execute (stmts_at scene last) from

  trail-on : (at next : ℕ) (before : List ℕ) → (h : Here at before) → Contains h.node.succ.items next
      → IsTrail image program.layout entry (next ∷ at ∷ before)
  trail-on at next before h has =
      (subst (λ l. Contains l next) (h.is_node.succ before h.trail) has, h.trail)

  pub through : (rest : List ℕ) (at : ℕ) (before : List ℕ) (t : Inner)
      → IsTrail image program.layout entry (at ∷ before) → IsChain nodes (entry_in scene) at rest
      → Follows at before t → t.running.graph.bits ≡ temporary_bits
      → IsGoing p (flat_map (stmts_at scene) (at ∷ rest)) t → IsCallFree (flat_map (stmts_at scene) (at ∷ rest))
      → is_over (execute (flat_map (stmts_at scene) (at ∷ rest)) t).end ≡ false
      → IsThrough (last_of at rest) (execute (flat_map (stmts_at scene) (at ∷ rest)) t)
  through [] at before t trail chain follows bits going free on = record {
    before = before;
    is_here = here image program p of_file translation entry is_entry x at before trail;
    from = t;
    follows = follows;
    is = ap (λ l. execute l t) (append-nil (stmts_at scene at));
  }
  through (next ∷ rest) at before t trail chain follows bits going free on =
      let stmts = stmts_at scene at in
      let more = flat_map (stmts_at scene) (next ∷ rest) in
      let after : Inner = execute stmts t in
      let h = here image program p of_file translation entry is_entry x at before trail in
      let tells = onward_tells nodes (entry_in scene) image.ip sound_here at next chain.0 in
      let succ : h.node.succ.items ≡ next ∷ [] = sym (ap successors_in h.found) ∙ tells.succ in
      let goes : GoesOnAt h.node.instr.op h.node.succ.items =
      node_in_holds (λ (found : ℕ × Node). GoesOnAt found.1.instr.op found.1.succ.items) nodes at h.node
      sound_here.agree h.found in
      let still : is_over (execute more after).end ≡ false =
      sym (ap (λ (u : Inner). is_over u.end) (execute-append stmts more t)) ∙ on in
      let on_after : is_over after.end ≡ false = on-before more after still in
      let going_after : IsGoing p more after =
      going-later p well stmts more t (free-first stmts more free) going on_after in
      let bits_after : after.running.graph.bits ≡ temporary_bits =
      ap (λ g. g.bits) (execute-within stmts t).graph ∙ bits in
      let follows_after : Follows next (at ∷ before) after =
      goes-on image program p of_file translation entry is_entry x at before h next t follows
      (runs-on more after going_after bits_after on_after)
      (λ e. subst (λ l. leads_to (exit_of procedure h.node.instr.op l) after ≡ Some next) (sym succ)
      (one-successor procedure h.node.instr.op next after e (subst (GoesOnAt h.node.instr.op) succ goes))) in
      let has : Contains h.node.succ.items next = subst (λ l. Contains l next) (sym succ) (0, omega arith, refl) in
      subst (IsThrough (last_of next rest)) (sym (execute-append stmts more t))
      (through rest next (at ∷ before) after (trail-on at next before h has) chain.1 follows_after bits_after
      going_after (free-later stmts more free) still)

-- Ends.

-- an end that leads nowhere gives values back, or the run is stuck
pub data LeadsNowhere (u : Inner) : Exit → Type 0 where
  gives_back : (values : List Expr) → LeadsNowhere u (RetTo values)
  is_stuck : {exit : Exit} → is_over (exit_step exit u).end ≡ true → LeadsNowhere u exit

pub leads-nowhere : (exit : Exit) (u : Inner) → leads_to exit u ≡ None → LeadsNowhere u exit
leads-nowhere (Goto place) u none = cc
leads-nowhere (If test one other) u none = cc
leads-nowhere (Switch e places) u none = is_stuck (ap (λ o. is_over (switching o u).end) none)
leads-nowhere (RetTo values) u none = gives_back values
leads-nowhere Stop u none = is_stuck refl
