-- LEA of a general register: it takes an address that is told.
use Rattle.std.proofs.Common.{◌≡◌, ◌≢◌, ◌<◌, ℕ, true, refl, sym, ap, ◌∙◌, subst, arith}
use Rattle.std.specs.Prelude.{◌||◌}
use Rattle.dcc_num.specs.declared.Width.TheVariants.{Word as word_width}
use Rattle.dcc_num.specs.declared.Reg.{Reg}
use Rattle.dcc_num.specs.declared.Reg.TheVariants.{Sp}
use Rattle.dcc_prog.specs.declared.procedure.Node.{Node}
use Rattle.dcc_machine.specs.declared.instr.Ea.{Ea}
use Rattle.dcc_machine.specs.declared.instr.Operand.TheVariants.{Word, Const}
use Rattle.dcc_machine.specs.declared.instr.Op.TheVariants.{Lea}
use Rattle.dcc_machine.specs.declared.instr.Instr.{Instr}
use Rattle.dcc_machine.specs.Machine.{State as Machine, is_bp, offset_of, is_general}
use Rattle.dcc_prog.specs.Frame.{by_lea}
use Rattle.dcc_machine.specs.Step.{op_step}
use Rattle.dcc_machine.specs.Successors.{next_of}
use Rattle.dcc_prog.specs.Clean.{Stack}
use Rattle.dcc_ir.specs.Run.{State, execute}
use Rattle.dcc_ops.specs.OperandPlace.{computed}
use Rattle.dcc_ops.specs.Computed.{computed_expr}
use Rattle.dcc_ops.specs.Registers.{register_place}
use Rattle.dcc_ops.specs.Statements.{mov_stmts}
use Rattle.dcc_ops.proofs.CouplingLaws.{register_written}
use Rattle.dcc_ops.proofs.MovePerformed.{mov_performed}
use Rattle.dcc_simulation.specs.Coupled.{Setting}
use Rattle.dcc_simulation.specs.Laws.{IsCleanInstruction, Within}
use Rattle.dcc_simulation.specs.Places.{IsOffset}
use Rattle.dcc_simulation.specs.Operands.{address_of}
use Rattle.dcc_simulation.specs.Procedures.{Procedure}
use Rattle.dcc_simulation.specs.Nodes.{IsNodeHere}
use Rattle.dcc_simulation.proofs.Addresses.{sum-told}
use Rattle.dcc_simulation.proofs.AddressValues.{address-value}
use Rattle.dcc_simulation.proofs.Coupling.{coupled}
use Rattle.dcc_simulation.proofs.FoundOperands.{words-small}
use Rattle.dcc_simulation.proofs.NodeFound.{found-here}
use Rattle.dcc_simulation.proofs.NodesHere.{found-at, placed-here}
use Rattle.dcc_simulation.proofs.TabledOperands.{IsAddress, HavePlaces}

module _ (e : Setting) (s : Machine) (stack : Stack) (instr : Instr) (p : Procedure) (node : Node) (height : ℕ)
    (is : IsCleanInstruction e s stack instr) (here : IsNodeHere e s stack instr is p node height) (r : Reg) (ea : Ea)
    (op_is : instr.op ≡ Lea r ea) (general : is_general r ≡ true) where
  abbrev R : Machine → State → Type 0
  R = Within is stack.written

  abbrev onward : Machine
  onward = record s { ip = next_of s.ip instr }

  not-sp : r ≢ Sp
  not-sp same = let none = sym general ∙ ap is_general same in cc

  -- the address is told
  offset : IsOffset R onward ea (computed_expr (address_of ea))
  offset flags t c =
      let told : IsAddress ea = subst HavePlaces op_is (placed-here e s stack instr p node height is here) in
      address-value t
      (words-small e s stack instr is p (found-at e s stack instr p node height is here) flags t c) ea told.small
      ∙ sum-told e s stack instr (next_of s.ip instr) is flags t c ea told.plain
      (λ by_bp. by_lea (instr, found-here e s stack instr p node height is here, op_is) not-sp
      (ap (λ b. b || is_bp ea.index) by_bp))

  pub address-agrees : (t : State) → R onward t
      → R (op_step e.program.layout.cpu (Lea r ea) s.ip onward)
      (execute (mov_stmts word_width (register_place (Word r)) (computed (computed_expr (address_of ea)))) t)
  address-agrees t c =
      let both = coupled e is.stands.newest is.stands.callers stack.written in
      let small : offset_of s ea < 65536 = omega arith in
      mov_performed R R both both (Word r) (Const word_width (offset_of s ea)) onward t
      (record { first = tt; second = small; widths = refl }) c (register_place (Word r))
      (computed (computed_expr (address_of ea)))
      (record { width = refl; value = λ flags u rel. offset flags u rel; small = λ flags u rel. small }) refl
      (register_written R both onward (Word r) general)
