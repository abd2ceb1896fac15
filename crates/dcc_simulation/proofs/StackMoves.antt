-- ADD and SUB of a constant to SP, INC and DEC of SP: the flags are set in both runs, and SP moves in the machine alone.
use Rattle.std.proofs.Common.{◌≡◌, ◌≤◌, ◌<◌, inl, inr, ℕ, ◌+◌, ◌-◌, true, false, true≢false, List, [], filter, Some, refl, sym, ap, ◌∙◌, subst, arith}
use Rattle.std.specs.Prelude.{not}
use Rattle.std.specs.List.{range_with_len}
use Rattle.std.proofs.lemmas.Bool.{cases_lt}
use Rattle.dcc_run.specs.End.{Running}
use Rattle.dcc_num.specs.declared.Width.TheVariants.{Word as word_width}
use Rattle.dcc_num.specs.declared.Reg.TheVariants.{Sp}
use Rattle.dcc_machine.specs.declared.cpu.Cpu.{Cpu}
use Rattle.dcc_prog.specs.declared.procedure.Node.{Node}
use Rattle.dcc_machine.specs.declared.instr.Alu.TheVariants.{Add, Sub}
use Rattle.dcc_machine.specs.declared.instr.Unary.TheVariants.{Inc, Dec}
use Rattle.dcc_machine.specs.declared.instr.Operand.TheVariants.{Word, Const}
use Rattle.dcc_machine.specs.declared.instr.Op.{Op}
use Rattle.dcc_machine.specs.declared.instr.Op.TheVariants.{Alu, Unary}
use Rattle.dcc_machine.specs.declared.instr.Instr.{Instr}
use Rattle.dcc_machine.specs.Machine.{State as Machine, word_in, with_word_in}
use Rattle.dcc_machine.specs.Operations.{with_flags}
use Rattle.dcc_machine.specs.Step.{op_step, step}
use Rattle.dcc_machine.specs.WellFormed.{IsOperation}
use Rattle.dcc_machine.specs.Successors.{next_of}
use Rattle.dcc_machine.specs.SpAndBp.{is_sp_move}
use Rattle.dcc_machine.specs.Access.{accesses}
use Rattle.dcc_prog.specs.CleanLaws.{moves_frames}
use Rattle.dcc_prog.specs.Clean.{Stack, top_in, is_reading, with_marks, stack_bytes, stack_after}
use Rattle.dcc_machine.proofs.LocationKept.{word-taken}
use Rattle.dcc_stack.specs.Standing.{StackStands}
use Rattle.dcc_stack.proofs.TableSteps.{IsStepOf}
use Rattle.dcc_ir.specs.Run.{State, execute}
use Rattle.dcc_ops.specs.OperandPlace.{computed}
use Rattle.dcc_ops.specs.Computed.{computed_expr}
use Rattle.dcc_ops.specs.Coupling.{IsCoupling, IsRead}
use Rattle.dcc_ops.specs.Held.{IsHeld}
use Rattle.dcc_ops.proofs.CouplingLaws.{held_below}
use Rattle.dcc_ops.proofs.HeldLaws.{results_held}
use Rattle.dcc_ops.proofs.PerformedLaws.{registers_stand}
use Rattle.dcc_simulation.specs.Coupled.{Setting, AreCoupled}
use Rattle.dcc_simulation.specs.Laws.{IsCleanInstruction, Within}
use Rattle.dcc_simulation.specs.Procedures.{Procedure}
use Rattle.dcc_simulation.specs.Operands.{stack_pointer, no_place}
use Rattle.dcc_simulation.specs.Statements.{working_stmts}
use Rattle.dcc_simulation.specs.Nodes.{procedures_in, IsNodeHere}
use Rattle.dcc_simulation.proofs.Coupling.{coupled}
use Rattle.dcc_simulation.proofs.FoundOperands.{sp-read}
use Rattle.dcc_simulation.proofs.Next.{next-stands}
use Rattle.dcc_simulation.proofs.NodesHere.{found-at, taken-here}
use Rattle.dcc_simulation.proofs.StepsAgree.{none-rises, pointers-move, steps-agree}

move-stores : (op : Op) (u : Machine) → is_sp_move op ≡ true
    → filter (λ access. not (is_reading access)) (accesses op u) ≡ []
move-stores (Alu Add (Word Sp) (Const width number)) u so = refl
move-stores (Alu Sub (Word Sp) (Const width number)) u so = refl
move-stores (Unary Inc (Word Sp)) u so = refl
move-stores (Unary Dec (Word Sp)) u so = refl
move-stores op u so = absurd (true≢false (sym so))

move-stays : (op : Op) → is_sp_move op ≡ true → moves_frames op ≡ false
move-stays (Alu operation a b) so = refl
move-stays (Unary operation a) so = refl
move-stays op so = absurd (true≢false (sym so))

module _ (e : Setting) (s : Machine) (stack : Stack) (instr : Instr) (t : State) (p : Procedure) (node : Node)
    (height : ℕ) (is : IsCleanInstruction e s stack instr) (node-here : IsNodeHere e s stack instr is p node height)
    (so : is_sp_move instr.op ≡ true) (before : Within is stack.written s t) where
  open e.program use {layout}
  open is.stands use {newest as a}

  abbrev here : Machine
  here = record s { ip = next_of s.ip instr }

  coupling : IsCoupling (Within is stack.written)
  coupling = coupled e a is.stands.callers stack.written

  begun : Within is stack.written here t
  begun = coupling.anywhere s t (next_of s.ip instr) before

  taken : IsStepOf e.image layout is.of_file.loaded s.ip instr s
  taken = taken-here e s stack instr p node height is node-here before.goes

  -- the statements

  sp-there : IsRead (Within is stack.written) here (Word Sp) (computed (computed_expr (stack_pointer p height)))
  sp-there =
      sp-read e s stack instr is p (found-at e s stack instr p node height is node-here) height node-here.stands
      node-here.height_is

  abbrev stmts_of : Cpu → Op → State
  stmts_of cpu op = execute (working_stmts cpu (procedures_in e.program) p height op node.number) t

  -- the flags are set, and a temporary has what SP takes
  held-by : (op : Op) → is_sp_move op ≡ true → IsOperation op
      → IsHeld (Within is stack.written) here (Word Sp) (op_step layout.cpu op s.ip here) (stmts_of layout.cpu op)
  held-by (Alu Add (Word Sp) (Const width number)) move good =
      (results_held _ coupling).alu layout.cpu Add (Word Sp) (Const width number) node.number s.ip here t _ _ good refl
      sp-there ((registers_stand _ coupling).read here (Const width number) refl good.second) begun
  held-by (Alu Sub (Word Sp) (Const width number)) move good =
      (results_held _ coupling).alu layout.cpu Sub (Word Sp) (Const width number) node.number s.ip here t _ _ good refl
      sp-there ((registers_stand _ coupling).read here (Const width number) refl good.second) begun
  held-by (Unary Inc (Word Sp)) move good =
      (results_held _ coupling).unary layout.cpu Inc (Word Sp) node.number s.ip here t _ no_place refl refl sp-there
      begun
  held-by (Unary Dec (Word Sp)) move good =
      (results_held _ coupling).unary layout.cpu Dec (Word Sp) node.number s.ip here t _ no_place refl refl sp-there
      begun
  held-by op move good = absurd (true≢false (sym move))

  abbrev u : State
  u = stmts_of layout.cpu instr.op

  held : IsHeld (Within is stack.written) here (Word Sp) (op_step layout.cpu instr.op s.ip here) u
  held = held-by instr.op so taken.good

  -- SP

  abbrev sp : ℕ
  sp = u.running.values held.temporary

  small : sp < 65536
  small = held_below _ coupling (with_flags held.flags here) u word_width held.temporary held.width held.stands

  after-is : step layout.cpu s ≡ with_word_in (with_flags held.flags here) Sp sp
  after-is = taken.is ∙ held.taken

  goes-on : (step layout.cpu s).end ≡ Running
  goes-on = ap (λ (v : Machine). v.end) after-is ∙ before.goes

  next : StackStands e.image layout (step layout.cpu s)
      (stack_after layout (Some instr) s (step layout.cpu s) stack)
  next = (next-stands e s stack instr is before.goes goes-on).0

  next-top : top_in layout (step layout.cpu s) ≡ sp + layout.delta
  next-top =
      ap (top_in layout) after-is
      ∙ ap (λ n. n + layout.delta)
      (word-taken (with_flags held.flags here) Sp Sp sp is.stands.segments.state.registers.count refl)

  abbrev top : ℕ
  top = top_in layout s

  abbrev passed : List ℕ
  passed = range_with_len top (top_in layout (step layout.cpu s) - top)

  marks-are : with_marks false passed stack.written ≡ (stack_after layout (Some instr) s (step layout.cpu s) stack).written
  marks-are =
      ap (λ list. with_marks false passed (with_marks true (stack_bytes layout list) stack.written))
      (sym (move-stores instr.op here so))

  moved : Within is (with_marks false passed stack.written) (with_word_in (with_flags held.flags here) Sp sp) u
  moved = elim (cases_lt sp (word_in s Sp)) as (λ _. Within is (with_marks false passed stack.written)
      (with_word_in (with_flags held.flags here) Sp sp) u) [
        | inl less ↦
            let low : layout.lo ≤ sp + layout.delta = subst (λ n. layout.lo ≤ n) next-top next.low in
            let same = next-top in
            let le : top_in layout (step layout.cpu s) ≤ top = omega (arith, less, same) in
            subst (λ m. Within is m (with_word_in (with_flags held.flags here) Sp sp) u)
            (sym (none-rises top (top_in layout (step layout.cpu s)) stack.written le))
            (pointers-move.falls e a is.stands.callers stack.written (with_flags held.flags here) u sp held.stands small
            low (omega (arith, less)) is.stands.written)
        | inr le ↦
            pointers-move.rises e a is.stands.callers stack.written (with_flags held.flags here) u sp passed held.stands
            small le
      ]

  stmts-agree : AreCoupled e (step layout.cpu s) (stack_after layout (Some instr) s (step layout.cpu s) stack) u
  stmts-agree =
      steps-agree e s stack instr t u is (move-stays instr.op so) before
      (subst (λ m. Within is m (step layout.cpu s) u) marks-are
      (subst (λ v. Within is (with_marks false passed stack.written) v u) (sym after-is) moved))

  pub move-agrees :
      AreCoupled e (step e.program.layout.cpu s)
      (stack_after e.program.layout (Some instr) s (step e.program.layout.cpu s) stack)
      (execute (working_stmts e.cpu (procedures_in e.program) p height instr.op node.number) t)
  move-agrees =
      subst (λ cpu. AreCoupled e (step e.program.layout.cpu s)
      (stack_after e.program.layout (Some instr) s (step e.program.layout.cpu s) stack) (stmts_of cpu instr.op))
      is.of_file.is_program.runs_on stmts-agree
