-- Operations of a form that a step makes on a short path, and what a step without the console does.
use Rattle.std.specs.Prelude.{◌≡◌, ℕ, Bool, false, List}
use Rattle.dcc_run.specs.End.{Running}
use Rattle.dcc_run.specs.Event.{Event}
use Rattle.dcc_num.specs.declared.Width.{Width}
use Rattle.dcc_num.specs.declared.Width.TheVariants.{Word as word_width}
use Rattle.dcc_num.specs.declared.Flags.{Flags}
use Rattle.dcc_num.specs.Sum.{sum_of, difference_of}
use Rattle.dcc_num.specs.Logic.{conjunction_of, disjunction_of, exclusive_of}
use Rattle.dcc_machine.specs.declared.instr.Alu.{Alu}
use Rattle.dcc_machine.specs.declared.instr.Alu.TheVariants.{Add, Or as OrKind, Adc, Sbb, And, Sub, Xor, Cmp, Test}
use Rattle.dcc_machine.specs.declared.instr.Unary.TheVariants.{Inc as inc_kind, Dec as dec_kind}
use Rattle.dcc_machine.specs.declared.instr.Operand.TheVariants.{Word, Mem, Const}
use Rattle.dcc_machine.specs.declared.instr.Op.{Op}
use Rattle.dcc_machine.specs.declared.instr.Op.TheVariants.{Alu as AluOp, Unary as UnaryOp, Mov, Jump as JumpOp}
use Rattle.dcc_machine.specs.declared.instr.Op.TheVariants.{Branch as BranchOp, Int21}
use Rattle.dcc_machine.specs.Step.{step}
use Rattle.dcc_step.specs.Core.{Core, with_console}
use Rattle.dcc_step.specs.declared.form.Form.{Form}
use Rattle.dcc_step.specs.declared.form.Form.TheVariants.{Registers, Constant, Memory, Inc, Dec, Move, Set, Load, Store}
use Rattle.dcc_step.specs.declared.form.Form.TheVariants.{Jump, Branch, Other}

-- The operation of a form. Nothing is said of the form Other: INT 21h stands there, which has no form.
abbrev pub op_of : Form → Op
op_of (Registers kind a b) = AluOp kind (Word a) (Word b)
op_of (Constant kind a constant) = AluOp kind (Word a) (Const word_width constant)
op_of (Memory kind a ea) = AluOp kind (Word a) (Mem word_width ea)
op_of (Inc r) = UnaryOp inc_kind (Word r)
op_of (Dec r) = UnaryOp dec_kind (Word r)
op_of (Move a b) = Mov (Word a) (Word b)
op_of (Set r constant) = Mov (Word r) (Const word_width constant)
op_of (Load r ea) = Mov (Word r) (Mem word_width ea)
op_of (Store ea r) = Mov (Mem word_width ea) (Word r)
op_of (Jump target) = JumpOp target
op_of (Branch condition target) = BranchOp condition target
op_of Other = Int21

-- the result of an operation on two operands and its flags; of CMP and TEST the flags alone count
abbrev pub combined_of : Alu → Width → ℕ → ℕ → Bool → ℕ × Flags
combined_of Add w a b carry = sum_of w a b false
combined_of OrKind w a b carry = disjunction_of w a b
combined_of Adc w a b carry = sum_of w a b carry
combined_of Sbb w a b carry = difference_of w a b carry
combined_of And w a b carry = conjunction_of w a b
combined_of Sub w a b carry = difference_of w a b false
combined_of Xor w a b carry = exclusive_of w a b
combined_of Cmp w a b carry = difference_of w a b false
combined_of Test w a b carry = conjunction_of w a b

-- the machine's step leads from one state of the machine to another; both runs go on, and nothing changes of a console
-- beside them
pub record IsQuietStep (before now : Core) : Type 0 where
  pub runs : before.end ≡ Running
  pub goes_on : now.end ≡ Running
  pub cpu : now.cpu ≡ before.cpu
  pub leads :
      (input : List ℕ) (events : List Event)
      → step before.cpu (with_console before input events) ≡ with_console now input events
