-- XCHG's second operand is a register: no instruction of the table exchanges with memory as the second one.
use Rattle.std.proofs.Common.{◌≡◌, ℕ, false, List, Some, refl}
use Rattle.std.specs.Prelude.{is_some}
use Rattle.dcc_num.specs.declared.Width.{Width}
use Rattle.dcc_num.specs.declared.Width.TheVariants.{Byte as byte_width, Word as word_width}
use Rattle.dcc_machine.specs.declared.cpu.Cpu.{Cpu}
use Rattle.dcc_machine.specs.declared.instr.Op.{Op}
use Rattle.dcc_machine.specs.declared.instr.Instr.{Instr}
use Rattle.dcc_machine.specs.Operands.{register}
use Rattle.dcc_machine.specs.Table.{instruction_at}
use Rattle.dcc_prog.specs.Frame.{memory_of}
use Rattle.dcc_stack.proofs.Rows.{each-instruction}
use Rattle.dcc_stack.proofs.ApartAccesses.{exchanges_second}

abbrev IsGood : Op → Type 0
IsGood op = exchanges_second op ≡ false

register-none : (w : Width) (number : ℕ) → is_some (memory_of (register w number)) ≡ false
register-none byte_width number = refl
register-none word_width number = refl

pub second-register : (cpu : Cpu) (offset : ℕ) (bytes : List ℕ) (instr : Instr)
    → instruction_at cpu offset bytes ≡ Some instr → exchanges_second instr.op ≡ false
second-register = each-instruction IsGood (record {
  arithmetic = search tt;
  unary = search tt;
  stack = search tt;
  move = search register-none;
  control = search tt;
  plain = search tt;
  later = search tt;
})
