-- Instructions that do what their statements do together.
use Rattle.std.proofs.Common.{◌≡◌, ℕ, ℤ, Bool, true, false, ◌&&◌, inl, inr, if◌then◌else◌, List, [], ◌∷◌, Option, Some, None, refl, sym, ap, ◌∙◌, subst, true≢false}
use Rattle.std.specs.Prelude.{Contains}
use Rattle.dcc_machine.specs.declared.image.Image.{Image}
use Rattle.dcc_prog.specs.declared.frame.Program.{Program as Analysed}
use Rattle.dcc_prog.specs.declared.procedure.Node.{Node}
use Rattle.dcc_machine.specs.declared.instr.Op.{Op}
use Rattle.dcc_machine.specs.declared.instr.Op.TheVariants.{Alu as AluOp, Unary as UnaryOp, Shift as ShiftOp, Mov, Lea, Imul3, Xchg, Push, Pop, Call, Int21}
use Rattle.dcc_machine.specs.declared.instr.Alu.{Alu}
use Rattle.dcc_machine.specs.declared.instr.Shift.{Shift}
use Rattle.dcc_machine.specs.declared.instr.Count.{Count}
use Rattle.dcc_machine.specs.declared.instr.Unary.{Unary}
use Rattle.dcc_machine.specs.declared.instr.Unary.TheVariants.{Inc, Dec, Neg, Not, Mul, Imul, Div as DivOf, Idiv}
use Rattle.dcc_machine.specs.declared.instr.Operand.{Operand}
use Rattle.dcc_machine.specs.declared.instr.Operand.TheVariants.{Word, Byte, Seg, Mem, Const}
use Rattle.dcc_num.specs.declared.Width.{Width}
use Rattle.dcc_machine.specs.declared.instr.Ea.{Ea}
use Rattle.dcc_machine.specs.Machine.{operand_width, is_general}
use Rattle.dcc_machine.specs.SpAndBp.{is_by_bp}
use Rattle.dcc_stack.specs.Slots.{is_memory}
use Rattle.dcc_simulation.proofs.TabledOperands.{HavePlaces, source-of}
use Rattle.dcc_machine.specs.Successors.{op_successors, next_of}
use Rattle.dcc_prog.specs.Trail.{instr_successors, known_ah, targets_of}
use Rattle.dcc_machine.specs.Wanted.{is_in_memory, is_zeroing}
use Rattle.dcc_ir.specs.declared.syntax.Loc.{Loc}
use Rattle.dcc_ir.proofs.LocationLaws.{Contains-here}
use Rattle.dcc_simulation.specs.Operands.{operand_place}
use Rattle.dcc_lift.proofs.ListTests.{and_left, and_right, or_here, or_there}
use Rattle.dcc_demand.specs.Procedures.{Procedures}
use Rattle.dcc_machine_demand.specs.Holders.{Holder}
use Rattle.dcc_sums.specs.Points.{Position}
use Rattle.dcc_lifted_demand.proofs.EdgeLaws.{next_is}
use Rattle.dcc_instruction_demand.proofs.NodeOperands.{first_named, second_named, have_places, operand_there}
use Rattle.dcc_instruction_demand.proofs.NodeOperands.{decoded_there}
use Rattle.dcc_instruction_demand.proofs.DecodedLaws.{is_named, is_shiftable, is_decoded}
use Rattle.dcc_instruction_demand.proofs.AluLaws.{alu_agrees}
use Rattle.dcc_instruction_demand.proofs.OperandLaws.{IsOperandAt}
use Rattle.dcc_instruction_demand.proofs.OperationLaws.{IsValueOperation}
use Rattle.dcc_num.specs.declared.Width.TheVariants.{Word as word_width}
use Rattle.dcc_num.specs.declared.Reg.{Reg}
use Rattle.dcc_num.specs.declared.Reg.TheVariants.{Ax, Cx, Dx, Bx, Sp, Bp, Si, Di}
use Rattle.dcc_ops.specs.OperandPlace.{computed}
use Rattle.dcc_ops.specs.Computed.{computed_expr}
use Rattle.dcc_ops.specs.Registers.{register_place}
use Rattle.dcc_ops.specs.Statements.{alu_stmts, zeroing, mov_stmts}
use Rattle.dcc_simulation.specs.Operands.{address_of}
use Rattle.dcc_simulation.specs.Statements.{moves_frame}
use Rattle.dcc_instruction_demand.proofs.LeaLaws.{lea_agrees}
use Rattle.dcc_instruction_demand.proofs.IdleLaws.{same_once, IsIdle, idle_agrees}
use Rattle.dcc_instruction_demand.proofs.FrameMoves.{is_frame_move, moves_idle}
use Rattle.dcc_instruction_demand.proofs.ShiftNodes.{shift_agrees}
use Rattle.dcc_instruction_demand.proofs.UnaryLaws.{inc_agrees, dec_agrees, neg_agrees, not_agrees}
use Rattle.dcc_instruction_demand.proofs.ProductLaws.{mul_agrees, imul_agrees, div_agrees, idiv_agrees, triple_agrees}
use Rattle.dcc_ir.specs.Tree.{Program}
use Rattle.dcc_simulation.specs.Procedures.{Procedure, pushed_of}
use Rattle.dcc_simulation.specs.Statements.{node_stmts}
use Rattle.dcc_lift.specs.Blocks.{node_in, successors_in, BlockSource, nodes_in, height_in}
use Rattle.dcc_lift.specs.Translated.{IsTranslated}
use Rattle.dcc_machine_demand.specs.Bodies.{Body, bodies_of}
use Rattle.dcc_machine_demand.specs.Values.{moves_or_calls}
use Rattle.dcc_lifted_demand.specs.LiftedRefinement.{lifted_refinement}
use Rattle.dcc_lifted_demand.proofs.LinkLaws.{Standing}
use Rattle.dcc_lifted_demand.proofs.RefinedLaws as refined
use Rattle.dcc_instruction_demand.specs.Agreement.{ending, Agrees}
use Rattle.dcc_instruction_demand.specs.Laws.{AgreesWithItsStatements, InstructionsAgreeWithTheirStatements}
use Rattle.dcc_instruction_demand.proofs.ClosedLaws.{closed_agrees}
use Rattle.dcc_instruction_demand.proofs.TableLaws.{is_table_told, closed_op, closed_lea, ClosedCall, closed_call}
use Rattle.dcc_machine.specs.declared.instr.Instr.{Instr}
use Rattle.dcc_prog.specs.declared.refusal.ConstructKind.TheVariants.{DosNumber}
use Rattle.dcc_prog.specs.Construct.{is_dos_number, HasAh, HasNoNumber, dos_number}
use Rattle.dcc_prog.specs.Found.{IsNodeFound}
use Rattle.dcc_ir.proofs.PathLaws.{decided}
use Rattle.dcc_instruction_demand.proofs.ZeroLaws.{closed_zeroing}
use Rattle.dcc_instruction_demand.proofs.CallNodes.{call_there}
use Rattle.dcc_instruction_demand.proofs.MoveNodes.{mov_there, xchg_there, push_there, pop_there}
use Rattle.dcc_instruction_demand.proofs.SettingLaws as setting

moves_nothing : (op : Op) → is_table_told op ≡ true → moves_or_calls op ≡ false
moves_nothing (Mov to from) e = absurd (true≢false (sym e))
moves_nothing (Xchg a b) e = absurd (true≢false (sym e))
moves_nothing (Push a) e = absurd (true≢false (sym e))
moves_nothing (Pop a) e = absurd (true≢false (sym e))
moves_nothing (Call target) e = absurd (true≢false (sym e))
moves_nothing op e = refl

-- Operands.

same_memory : (a : Operand) → is_in_memory a ≡ is_memory a
same_memory (Word r) = refl
same_memory (Byte r h) = refl
same_memory (Seg n) = refl
same_memory (Mem v ea) = refl
same_memory (Const v n) = refl

-- LEA of a general register moves no frame
lea_moves_none : (r : Reg) (ea : Ea) → is_general r ≡ true → moves_frame (Lea r ea) ≡ false
lea_moves_none Ax ea t = refl
lea_moves_none Cx ea t = refl
lea_moves_none Dx ea t = refl
lea_moves_none Bx ea t = refl
lea_moves_none Si ea t = refl
lea_moves_none Di ea t = refl
lea_moves_none Sp ea t = absurd (true≢false (sym t))
lea_moves_none Bp ea t = absurd (true≢false (sym t))

-- the instruction with that operation in the place of its own
abbrev with_op : Node → Op → Node
with_op node op = record node { instr = record (node.instr) { op = op } }

abbrev node_instr : Node → Instr
node_instr node = record (node.instr) { op = Int21 }

-- the operation goes on at the next instruction, whatever its trail is
abbrev GoesOn : Op → Type 0
GoesOn op = (next : ℕ) (ah : Option ℕ) (targets : List ℕ) → op_successors op next ah targets ≡ next ∷ []

module _ (image : Image) (program : Analysed) (p : Program) (is : IsTranslated image program p) (entry : ℕ) (x : refined.Link image program p is entry) (at height : ℕ) (high : height_in x.own at ≡ Some height) where
  abbrev scene : BlockSource
  scene = refined.scene image program p is entry x

  abbrev Shown : Node → Type 0
  Shown node = AgreesWithItsStatements image program p entry at scene node height

  abbrev body : Body
  body = setting.body image program p is entry x

  abbrev fine : Procedures Position Loc Loc
  fine = setting.fine image program p is entry x

  abbrev coarse : Procedures ℕ Holder ℤ
  coarse = setting.coarse image program p is entry x

  abbrev found_procedure : Option Procedure
  found_procedure = setting.found_procedure image program p is entry x

  abbrev StandsHere : Node → Type 0
  StandsHere node = node_in x.proc.nodes.entries at ≡ Some node

  decoded_here : (node : Node) → StandsHere node → is_decoded node.instr.op ≡ true
  decoded_here node found = decoded_there image program p is entry x at node found

  told_agrees : (node : Node) → StandsHere node → is_table_told node.instr.op ≡ true → Shown node
  told_agrees node found told =
      closed_agrees coarse fine (lifted_refinement program) entry at (pushed_of scene.procedure)
      (node_stmts scene.cpu scene.procedures scene.procedure height node) (ending node.instr.op)
      found_procedure (bodies_of program) body (setting.point image program p is entry x at node height found high)
      (setting.value_operation image program p is entry x at node height found high (moves_nothing node.instr.op told))
      (closed_op scene.cpu scene.procedures scene.procedure height body node.number node.instr.op told (decoded_here node found))

  -- one goes on after it
  next_there : (node : Node) → StandsHere node → GoesOn node.instr.op → (b : ℕ) × Contains ((coarse.procedure entry).next at) b
  next_there node found goes =
      let there = refined.found_there image program p is entry x at node found in
      let next = next_of at node.instr in
      let succ : node.succ.items ≡ next ∷ [] =
      there.succ there.node.before there.node.trail ∙ ap (instr_successors image program.layout at there.node.before) there.instr
      ∙ goes next (known_ah image program.layout there.node.before) (targets_of image program.layout node.instr.op there.node.before) in (
        next,
        subst (λ xs. Contains xs next)
            (sym (ap (λ g. g.next at) (refined.coarse_is image program p is entry x) ∙ next_is body x.are_heights.nodes at ∙ ap successors_in found ∙ succ)) (Contains-here next []),
      )

  alu_there : (node : Node) (operation : Alu) (a b : Operand) → StandsHere (with_op node (AluOp operation a b)) → (is_named a && is_named b) ≡ true → Shown (with_op node (AluOp operation a b))
  alu_there node operation a b found t = by (is_zeroing operation a b) refl
    where
      here : Node
      here = with_op node (AluOp operation a b)

      have : HavePlaces (AluOp operation a b)
      have = have_places image program p is entry x at here found

      value : IsValueOperation coarse fine (lifted_refinement program) entry at found_procedure (bodies_of program) body (record { node = here; height = height })
      value = setting.value_operation image program p is entry x at here height found high refl

      w : Width
      w = operand_width a

      by : (zero : Bool) → is_zeroing operation a b ≡ zero
          → Agrees coarse fine (lifted_refinement program) entry at (pushed_of scene.procedure)
          (if zero then zeroing w (operand_place scene.procedure height a) else alu_stmts operation w (operand_place scene.procedure height a) (operand_place scene.procedure height b)) []
      by true zero =
          closed_agrees coarse fine (lifted_refinement program) entry at (pushed_of scene.procedure) (zeroing w (operand_place scene.procedure height a)) [] found_procedure (bodies_of program) body
          (setting.point image program p is entry x at here height found high) value (closed_zeroing body node.number scene.procedure height operation a b zero)
      by false other =
          alu_agrees coarse fine (lifted_refinement program) entry at (pushed_of scene.procedure) found_procedure (bodies_of program) body node height operation a b value
          (operand_place scene.procedure height a) (operand_place scene.procedure height b)
          (operand_there image program p is entry x at here found height a (first_named a b) (λ u. or_here (is_by_bp a) (is_by_bp b) u) (and_left (is_named a) (is_named b) t) (source-of a have.target))
          (operand_there image program p is entry x at here found height b (second_named a b have.one) (λ u. or_there (is_by_bp a) (is_by_bp b) u) (and_right (is_named a) (is_named b) t) have.source)
          (ap (λ c. c && is_in_memory b) (same_memory a) ∙ ap (λ c. is_memory a && c) (same_memory b) ∙ have.one) (next_there here found (λ next ah targets. refl)) other

  -- an operation on one operand has it at its place
  one_there : (node : Node) (operation : Unary) (a : Operand) → StandsHere (with_op node (UnaryOp operation a)) → is_named a ≡ true
      → IsOperandAt found_procedure body (coarse.procedure entry).is_exposed a (operand_place scene.procedure height a)
  one_there node operation a found t =
      let here = with_op node (UnaryOp operation a) in
      operand_there image program p is entry x at here found height a (λ v ea e. e) (λ u. u) t (source-of a (have_places image program p is entry x at here found))

  value_there : (node : Node) (operation : Unary) (a : Operand) → StandsHere (with_op node (UnaryOp operation a))
      → IsValueOperation coarse fine (lifted_refinement program) entry at found_procedure (bodies_of program) body (record { node = with_op node (UnaryOp operation a); height = height })
  value_there node operation a found = setting.value_operation image program p is entry x at (with_op node (UnaryOp operation a)) height found high refl

  unary_there : (node : Node) (operation : Unary) (a : Operand) → StandsHere (with_op node (UnaryOp operation a)) → is_named a ≡ true → Shown (with_op node (UnaryOp operation a))
  unary_there node Inc a found t =
      inc_agrees coarse fine (lifted_refinement program) entry at (pushed_of scene.procedure) found_procedure (bodies_of program) body node height a (operand_place scene.procedure height a)
      (one_there node Inc a found t) (next_there (with_op node (UnaryOp Inc a)) found (λ next ah targets. refl)) (value_there node Inc a found)
  unary_there node Dec a found t =
      dec_agrees coarse fine (lifted_refinement program) entry at (pushed_of scene.procedure) found_procedure (bodies_of program) body node height a (operand_place scene.procedure height a)
      (one_there node Dec a found t) (next_there (with_op node (UnaryOp Dec a)) found (λ next ah targets. refl)) (value_there node Dec a found)
  unary_there node Neg a found t =
      neg_agrees coarse fine (lifted_refinement program) entry at (pushed_of scene.procedure) found_procedure (bodies_of program) body node height a (operand_place scene.procedure height a)
      (one_there node Neg a found t) (next_there (with_op node (UnaryOp Neg a)) found (λ next ah targets. refl)) (value_there node Neg a found)
  unary_there node Mul a found t =
      mul_agrees coarse fine (lifted_refinement program) entry at (pushed_of scene.procedure) found_procedure (bodies_of program) body node height a (operand_place scene.procedure height a)
      (one_there node Mul a found t) (value_there node Mul a found)
  unary_there node Imul a found t =
      imul_agrees coarse fine (lifted_refinement program) entry at (pushed_of scene.procedure) found_procedure (bodies_of program) body node height a (operand_place scene.procedure height a)
      (one_there node Imul a found t) (value_there node Imul a found)
  unary_there node DivOf a found t =
      div_agrees coarse fine (lifted_refinement program) entry at (pushed_of scene.procedure) found_procedure (bodies_of program) body node height a (operand_place scene.procedure height a)
      (one_there node DivOf a found t) (value_there node DivOf a found)
  unary_there node Idiv a found t =
      idiv_agrees coarse fine (lifted_refinement program) entry at (pushed_of scene.procedure) found_procedure (bodies_of program) body node height a (operand_place scene.procedure height a)
      (one_there node Idiv a found t) (value_there node Idiv a found)
  unary_there node Not a found t =
      not_agrees coarse fine (lifted_refinement program) entry at (pushed_of scene.procedure) found_procedure (bodies_of program) body node height a (operand_place scene.procedure height a)
      (one_there node Not a found t) (next_there (with_op node (UnaryOp Not a)) found (λ next ah targets. refl)) (value_there node Not a found)

  triple_there : (node : Node) (r : Reg) (a : Operand) (factor : ℕ) → StandsHere (with_op node (Imul3 r a factor)) → is_named a ≡ true → Shown (with_op node (Imul3 r a factor))
  triple_there node r a factor found t =
      let here = with_op node (Imul3 r a factor) in
      triple_agrees coarse fine (lifted_refinement program) entry at (pushed_of scene.procedure) found_procedure (bodies_of program) body node height a (operand_place scene.procedure height a)
      (operand_there image program p is entry x at here found height a (λ v ea e. e) (λ u. u) t (source-of a (have_places image program p is entry x at here found)))
      r factor (setting.value_operation image program p is entry x at here height found high refl)

  -- the number of a DOS call is one of the five
  number_there : (node : Node) → StandsHere (with_op node Int21) → (n : ℕ) × (node.number ≡ Some n) × (is_dos_number n ≡ true)
  number_there node found = by node.number refl
    where
      there : IsNodeFound image program.layout x.proc.entry (at, with_op node Int21)
      there = refined.found_there image program p is entry x at (with_op node Int21) found

      ah : HasAh image program.layout x.proc.entry at node.number
      ah = record { before = there.node.before; trail = there.node.trail; stands = (node_instr node, there.instr, refl); ah_is = there.number refl there.node.before there.node.trail }

      no_number : ¬ HasNoNumber image program.layout x.proc.entry at
      no_number none = is.of_file.is_program.procs.no_construct DosNumber at (record { entry = x.proc.entry; is_entry = x.reached; node = there.node; stands = dos_number none })

      by : (number : Option ℕ) → node.number ≡ number → (n : ℕ) × (node.number ≡ Some n) × (is_dos_number n ≡ true)
      by None e = absurd (no_number (HasNoNumber.not_known (subst (HasAh image program.layout x.proc.entry at) e ah)))
      by (Some n) e = elim (decided (is_dos_number n)) [
        | inl t ↦ (n, e, t)
        | inr f ↦ absurd (no_number (HasNoNumber.other_number (subst (HasAh image program.layout x.proc.entry at) e ah) f))
      ]

  dos_there : (node : Node) → StandsHere (with_op node Int21) → Shown (with_op node Int21)
  dos_there node found =
      let here = with_op node Int21 in
      let known = number_there node found in
      closed_agrees coarse fine (lifted_refinement program) entry at (pushed_of scene.procedure)
      (node_stmts scene.cpu scene.procedures scene.procedure height here) (ending Int21)
      found_procedure (bodies_of program) body (setting.point image program p is entry x at here height found high)
      (setting.value_operation image program p is entry x at here height found high refl)
      (subst (λ number. ClosedCall scene.cpu scene.procedures scene.procedure height body number) (sym known.1) (closed_call scene.cpu scene.procedures scene.procedure height body known.0 known.2))

  shift_there : (node : Node) (operation : Shift) (a : Operand) (count : Count) → StandsHere (with_op node (ShiftOp operation a count)) → (is_named a && is_shiftable operation count) ≡ true
      → Shown (with_op node (ShiftOp operation a count))
  shift_there node operation a count found t =
      let here = with_op node (ShiftOp operation a count) in
      shift_agrees coarse fine (lifted_refinement program) entry at (pushed_of scene.procedure) found_procedure (bodies_of program) body node height scene.cpu operation a count
      (setting.value_operation image program p is entry x at here height found high refl) (operand_place scene.procedure height a)
      (operand_there image program p is entry x at here found height a (λ v ea e. e) (λ u. u) (and_left (is_named a) (is_shiftable operation count) t) (source-of a (have_places image program p is entry x at here found)))
      (and_right (is_named a) (is_shiftable operation count) t) (next_there here found (λ next ah targets. refl))

  idle_there : (node : Node) (op : Op) → StandsHere (with_op node op) → is_frame_move op ≡ true → (pushed : ℕ) → Agrees coarse fine (lifted_refinement program) entry at pushed [] []
  idle_there node op found t pushed =
      idle_agrees coarse fine (lifted_refinement program) entry at pushed (λ L l m s t. same_once s t)
      (subst IsIdle (sym (setting.action_is image program p is entry x at (with_op node op) height found high)) (moves_idle (bodies_of program) body node height op t))

  frame_move_there : (op : Op) (node : Node) → StandsHere (with_op node op) → is_frame_move op ≡ true → Shown (with_op node op)
  frame_move_there (Mov (Word Bp) (Word Sp)) node found t = idle_there node (Mov (Word Bp) (Word Sp)) found t (pushed_of scene.procedure)
  frame_move_there (Mov (Word Sp) (Word Bp)) node found t = idle_there node (Mov (Word Sp) (Word Bp)) found t (pushed_of scene.procedure)
  frame_move_there (Pop (Word Bp)) node found t = idle_there node (Pop (Word Bp)) found t (pushed_of scene.procedure)
  frame_move_there op node found t = absurd (true≢false (sym t))

  lea_there : (node : Node) (r : Reg) (ea : Ea) → StandsHere (with_op node (Lea r ea)) → is_general r ≡ true → Shown (with_op node (Lea r ea))
  lea_there node r ea found t =
      let here = with_op node (Lea r ea) in
      subst (λ ss. Agrees coarse fine (lifted_refinement program) entry at (pushed_of scene.procedure) ss [])
      (sym (ap (λ b. if b then [] else mov_stmts word_width (register_place (Word r)) (computed (computed_expr (address_of ea)))) (lea_moves_none r ea t)))
      (lea_agrees coarse fine (lifted_refinement program) entry at (pushed_of scene.procedure) found_procedure (bodies_of program) body node height r ea
      (setting.value_operation image program p is entry x at here height found high refl) t (have_places image program p is entry x at here found).plain)

  -- of SP or BP it writes no place
  pointer_there : (node : Node) (r : Reg) (ea : Ea) → StandsHere (with_op node (Lea r ea)) → is_general r ≡ false → Shown (with_op node (Lea r ea))
  pointer_there node r ea found e =
      let here = with_op node (Lea r ea) in
      closed_agrees coarse fine (lifted_refinement program) entry at (pushed_of scene.procedure) (node_stmts scene.cpu scene.procedures scene.procedure height here) [] found_procedure (bodies_of program) body
      (setting.point image program p is entry x at here height found high) (setting.value_operation image program p is entry x at here height found high refl)
      (closed_lea scene.cpu scene.procedures scene.procedure height body node.number r ea e)

  by_operation : (op : Op) (node : Node) → StandsHere (with_op node op) → Shown (with_op node op)
  by_operation (Call target) node found = call_there image program p is entry x at height target node found high (pushed_of scene.procedure)
  by_operation (AluOp operation a b) node found = alu_there node operation a b found (decoded_here (with_op node (AluOp operation a b)) found)
  by_operation (ShiftOp operation a count) node found = shift_there node operation a count found (decoded_here (with_op node (ShiftOp operation a count)) found)
  by_operation (Mov to from) node found = elim (decided (is_frame_move (Mov to from))) [
    | inl moves ↦ frame_move_there (Mov to from) node found moves
    | inr e ↦ mov_there image program p is entry x at height high node (next_there (with_op node (Mov to from)) found (λ next ah targets. refl)) to from found e
  ]
  by_operation (Xchg a b) node found = xchg_there image program p is entry x at height high node (next_there (with_op node (Xchg a b)) found (λ next ah targets. refl)) a b found
  by_operation (Push a) node found = push_there image program p is entry x at height high node (next_there (with_op node (Push a)) found (λ next ah targets. refl)) a found
  by_operation (Pop a) node found = elim (decided (is_frame_move (Pop a))) [
    | inl moves ↦ frame_move_there (Pop a) node found moves
    | inr e ↦ pop_there image program p is entry x at height high node (next_there (with_op node (Pop a)) found (λ next ah targets. refl)) a found e
  ]
  by_operation (Lea r ea) node found = elim (decided (is_general r)) [
    | inl general ↦ lea_there node r ea found general
    | inr e ↦ pointer_there node r ea found e
  ]
  by_operation Int21 node found = dos_there node found
  by_operation (UnaryOp operation a) node found = unary_there node operation a found (decoded_here (with_op node (UnaryOp operation a)) found)
  by_operation (Imul3 r a factor) node found = triple_there node r a factor found (decoded_here (with_op node (Imul3 r a factor)) found)
  by_operation op node found = told_agrees (with_op node op) found refl

pub instructions-agree_with_their_statements : InstructionsAgreeWithTheirStatements
instructions-agree_with_their_statements image program p is entry at scene node height there = elim (refined.stands image program p is entry) [
  | Standing.linked x ↦
      let same : refined.scene image program p is entry x ≡ scene = cc (x.scene_found, there.scene_is) in
      subst (λ s. AgreesWithItsStatements image program p entry at s node height) same
      (by_operation image program p is entry x at height (subst (λ (s : BlockSource). height_in s.heights at ≡ Some height) (sym same) there.height_is) node.instr.op node
      (subst (λ s. node_in (nodes_in s) at ≡ Some node) (sym same) there.node_is))
  | Standing.missing x ↦ absurd (cc (x.scene_none, there.scene_is))
]
