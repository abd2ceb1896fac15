-- Instructions that use the stack but CALL and RET: after their statements the runs agree.
use Rattle.std.proofs.Common.{◌≡◌, ◌⊎◌, inl, inr, ℕ, Bool, true, false, true≢false, ◌||◌, [], Some, refl, sym, ap, ◌∙◌, subst}
use Rattle.std.specs.Prelude.{if◌then◌else◌}
use Rattle.dcc_num.specs.declared.Reg.TheVariants.{Sp}
use Rattle.dcc_prog.specs.declared.procedure.Node.{Node}
use Rattle.dcc_machine.specs.declared.instr.Op.{Op}
use Rattle.dcc_machine.specs.declared.instr.Op.TheVariants.{Lea, Push, Pop}
use Rattle.dcc_machine.specs.declared.instr.Instr.{Instr}
use Rattle.dcc_machine.specs.Machine.{State as Machine}
use Rattle.dcc_machine.specs.Step.{step}
use Rattle.dcc_machine.specs.SpAndBp.{is_push_bp, is_mov_bp_sp, is_enter, leaves_frame, is_sp_move}
use Rattle.dcc_prog.specs.Clean.{Stack, stack_after}
use Rattle.dcc_stack.proofs.FormOps.{FormOf}
use Rattle.dcc_ir.specs.Run.{State, execute}
use Rattle.dcc_simulation.specs.Coupled.{Setting, AreCoupled}
use Rattle.dcc_simulation.specs.Laws.{IsCleanInstruction, Within}
use Rattle.dcc_simulation.specs.Procedures.{Procedure}
use Rattle.dcc_simulation.specs.Statements.{moves_frame, working_stmts, node_stmts}
use Rattle.dcc_simulation.specs.Nodes.{procedures_in, IsNodeHere, StepAgrees, agree}
use Rattle.dcc_simulation.specs.StackNodes.{uses_stack, StackNodesAgree}
use Rattle.dcc_simulation.proofs.NodeFound.{stmts-told}
use Rattle.dcc_simulation.proofs.NodesHere.{form-here}
use Rattle.dcc_simulation.proofs.OperationNodes.{neither, only}
use Rattle.dcc_simulation.proofs.PointersSet.{pointers-set}
use Rattle.dcc_simulation.proofs.StackMoves.{move-agrees}
use Rattle.dcc_simulation.proofs.StackPops.{pop-agrees}
use Rattle.dcc_simulation.proofs.StackPushes.{push-agrees}
use Rattle.dcc_simulation.proofs.StackSaves.{saves-agree}

-- what sets a frame up or gives it up saves BP, or sets SP and BP alone
saves-or-sets : (a b c d : Bool) → (a || b || c || d) ≡ true → ((a || c) ≡ true) ⊎ ((b || d) ≡ true)
saves-or-sets true b c d so = inl refl
saves-or-sets false true c d so = inr refl
saves-or-sets false false true d so = inl refl
saves-or-sets false false false true so = inr refl
saves-or-sets false false false false so = cc

left-of : (a b : Bool) → (a || b) ≡ true → b ≡ false → a ≡ true
left-of true b so none = refl
left-of false b so none = absurd (true≢false (sym so ∙ none))

module _ (e : Setting) (s : Machine) (stack : Stack) (instr : Instr) (t : State) (p : Procedure) (node : Node)
    (height : ℕ) (is : IsCleanInstruction e s stack instr) (node-here : IsNodeHere e s stack instr is p node height)
    (before : Within is stack.written s t) where
  open is.stands use {newest as a}

  -- the runs agree after the step
  abbrev Agree : State → Type 0
  Agree u =
      AreCoupled e (step e.program.layout.cpu s)
      (stack_after e.program.layout (Some instr) s (step e.program.layout.cpu s) stack) u

  abbrev worked : Op → State
  worked op = execute (working_stmts e.cpu (procedures_in e.program) p height op node.number) t

  -- nothing is done in the inner run
  frame-agrees : moves_frame instr.op ≡ true → Agree t
  frame-agrees so = elim (saves-or-sets (is_push_bp instr.op) (is_mov_bp_sp instr.op) (is_enter instr.op)
      (leaves_frame instr.op) so) as (λ _. Agree t) [
        | inl saves ↦ saves-agree e s stack instr t p node height is node-here saves before
        | inr sets ↦ pointers-set e s stack instr t is sets before
      ]

  -- a word or the flags are set
  work-agrees : (op : Op) → instr.op ≡ op → uses_stack op ≡ true → moves_frame op ≡ false
      → FormOf e.image e.program.layout a.frame.entry a.at op → Agree (worked op)
  work-agrees (Push x) is-op so stays form =
      push-agrees e s stack instr t p node height is node-here before x is-op
      (only (neither e.image e.program.layout a.frame.entry a.at (Push x) refl stays form))
  work-agrees (Pop x) is-op so stays form =
      pop-agrees e s stack instr t p node height is node-here before x is-op
      (only (neither e.image e.program.layout a.frame.entry a.at (Pop x) refl stays form))
  work-agrees (Lea Sp ea) is-op so stays form =
      absurd (true≢false (only (neither e.image e.program.layout a.frame.entry a.at (Lea Sp ea) refl stays form)))
  work-agrees op is-op so stays form =
      subst (λ o. Agree (worked o)) is-op
      (move-agrees e s stack instr t p node height is node-here
      (ap is_sp_move is-op ∙ left-of (is_sp_move op) (moves_frame op) so stays) before)

  pub stack-node : uses_stack instr.op ≡ true
      → StepAgrees e s stack instr (execute (node_stmts e.cpu (procedures_in e.program) p height node) t)
  stack-node so =
      subst (λ l. StepAgrees e s stack instr (execute l t)) (sym (stmts-told e s stack instr p node height is node-here))
      (agree (by (moves_frame instr.op) refl))
    where
      by : (b : Bool) → moves_frame instr.op ≡ b
          → Agree (execute (if b then [] else
          working_stmts e.cpu (procedures_in e.program) p height instr.op node.number) t)
      by true moves = frame-agrees moves
      by false stays =
          work-agrees instr.op refl so stays (form-here e s stack instr p node height is node-here)

pub stack-nodes : StackNodesAgree
stack-nodes e s stack instr t p node height is node-here so before =
    stack-node e s stack instr t p node height is node-here before so
