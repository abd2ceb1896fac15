-- The statements of an operation do to the run what the operation does to the machine.
use Rattle.std.specs.Prelude.{◌≡◌, ℕ, ◌==◌, Bool, true, false, [], ◌∷◌, if◌then◌else◌, Option, Some}
use Rattle.dcc_machine.specs.declared.cpu.Cpu.{Cpu}
use Rattle.dcc_machine.specs.declared.instr.Plain.{Plain}
use Rattle.dcc_machine.specs.declared.instr.Plain.TheVariants.{Xlat}
use Rattle.dcc_machine.specs.declared.instr.Operand.{Operand}
use Rattle.dcc_machine.specs.declared.instr.Op.{Op}
use Rattle.dcc_machine.specs.declared.instr.Op.TheVariants.{Alu as AluOp, Unary as UnaryOp, Shift as ShiftOp, Mov, Xchg}
use Rattle.dcc_machine.specs.declared.instr.Op.TheVariants.{Imul3, Plain as PlainOp, Jump, Branch, Loop, LoopE, LoopNe}
use Rattle.dcc_machine.specs.declared.instr.Op.TheVariants.{Jcxz}
use Rattle.dcc_machine.specs.Machine.{State as Machine, is_general}
use Rattle.dcc_machine.specs.Operations.{is_division}
use Rattle.dcc_machine.specs.Step.{op_step}
use Rattle.dcc_machine.specs.Successors.{op_successors}
use Rattle.dcc_machine.specs.Wanted.{stores_back}
use Rattle.dcc_machine.specs.WellFormed.{IsOperand, IsOperation}
use Rattle.dcc_machine.specs.Writes.{writes_operand}
use Rattle.dcc_ir.specs.Tree.{Expr}
use Rattle.dcc_ir.specs.Run.{State, value_in, execute}
use Rattle.dcc_ops.specs.OperandPlace.{OperandPlace, is_sound_place}
use Rattle.dcc_ops.specs.Registers.{is_register, is_source, register_place}
use Rattle.dcc_ops.specs.Statements.{op_stmts, op_test}
use Rattle.dcc_ops.specs.Coupling.{Relation, IsRead, IsWritten, Follows, IsWrittenIf}

-- XLAT reads memory by an address of its own
abbrev pub is_xlat : Plain → Bool
is_xlat Xlat = true
is_xlat operation = false

-- The operands of an operation stand at the places, and its destination may be written there; XCHG has a register as
-- its second operand. The last clause is of operations that have no place here.
abbrev pub Stands : Relation → Relation → Machine → Op → OperandPlace → OperandPlace → Type 0
Stands R After s (AluOp operation a b) p q =
    IsRead R s a p × IsRead R s b q × IsWrittenIf (writes_operand operation) R After s a p
Stands R After s (UnaryOp operation a) p q =
    (is_division operation ≡ false) × IsRead R s a p × IsWrittenIf (stores_back operation) R After s a p
Stands R After s (ShiftOp operation a count) p q = IsRead R s a p × IsWritten R After s a p
Stands R After s (Mov to from) p q = IsRead R s from q × (is_sound_place q ≡ true) × IsWritten R After s to p
Stands R After s (Xchg a b) p q =
    IsRead R s a p × IsWritten R After s a p × (is_register b ≡ true) × (q ≡ register_place b)
Stands R After s (Imul3 r a constant) p q = IsRead R s a p × (is_general r ≡ true) × Follows R After
Stands R After s (PlainOp operation) p q = (is_xlat operation ≡ false) × Follows R After
Stands R After s (Jump target) p q = Follows R After
Stands R After s (Branch condition target) p q = Follows R After
Stands R After s (Loop target) p q = Follows R After
Stands R After s (LoopE target) p q = Follows R After
Stands R After s (LoopNe target) p q = Follows R After
Stands R After s (Jcxz target) p q = Follows R After
Stands R After s op p q = ⊥

-- after the statements of an operation whose operands stand at their places the relation for afterwards holds
abbrev pub OperationsArePerformed : Relation → Relation → Type 0
OperationsArePerformed R After =
    (cpu : Cpu) (op : Op) (number : Option ℕ) (at : ℕ) (s : Machine) (t : State) (p q : OperandPlace) → IsOperation op
    → Stands R After s op p q → R s t → After (op_step cpu op at s) (execute (op_stmts cpu op number p q) t)

-- An operation with a test goes on at the first of its two successors where the test has the value 1 after the
-- statements, else at the second, which is the next instruction.
abbrev pub TestsDecide : Relation → Type 0
TestsDecide R =
    (cpu : Cpu) (op : Op) (number : Option ℕ) (at : ℕ) (s : Machine) (t : State) (p q : OperandPlace) (ah : Option ℕ)
    (test : Expr) → op_test op ≡ Some test → R s t
    → (target : ℕ) × (op_successors op s.ip ah [] ≡ target ∷ s.ip ∷ [])
    × ((op_step cpu op at s).ip
    ≡ (if value_in (execute (op_stmts cpu op number p q) t) test == 1 then target else s.ip))

-- registers and constants stand at their places
pub record RegistersStand (R : Relation) : Type 0 where
  pub read : (s : Machine) (x : Operand) → is_source x ≡ true → IsOperand x → IsRead R s x (register_place x)
  pub written : (s : Machine) (x : Operand) → is_register x ≡ true → IsWritten R R s x (register_place x)
