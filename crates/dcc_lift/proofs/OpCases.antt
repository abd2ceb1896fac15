-- Operations that are none of some.
use Rattle.std.proofs.Common.{◌≡◌, refl, ℕ, List, Option}
use Rattle.dcc_num.specs.declared.Reg.{Reg}
use Rattle.dcc_machine.specs.declared.cpu.Cpu.{Cpu}
use Rattle.dcc_machine.specs.declared.instr.Ea.{Ea}
use Rattle.dcc_machine.specs.declared.instr.Operand.{Operand}
use Rattle.dcc_machine.specs.declared.instr.Op.{Op}
use Rattle.dcc_machine.specs.declared.instr.Op.TheVariants.{Lea, Push, Pop, Table, Call, Ret}
use Rattle.dcc_ops.specs.Statements.{op_test, exit_to, op_stmts}
use Rattle.dcc_simulation.specs.Procedures.{Procedure}
use Rattle.dcc_simulation.specs.Operands.{first_place, second_place}
use Rattle.dcc_simulation.specs.Statements.{working_stmts}
use Rattle.dcc_simulation.specs.Passed.{exit_of}

pub exit_by_test : (p : Procedure) (op : Op) (places : List ℕ) → ((r : Reg) (offset : ℕ) → op ≡ Table r offset → ⊥)
    → ((count : ℕ) → op ≡ Ret count → ⊥)
    → exit_of p op places ≡ exit_to (op_test op) places
exit_by_test p (Table r offset) places no_table no_ret = absurd (no_table r offset refl)
exit_by_test p (Ret count) places no_table no_ret = absurd (no_ret count refl)
exit_by_test p op places no_table no_ret = refl

pub stmts_by_places : (cpu : Cpu) (procedures : List Procedure) (p : Procedure) (height : ℕ) (op : Op)
    (number : Option ℕ) → ((a : Operand) → op ≡ Push a → ⊥) → ((a : Operand) → op ≡ Pop a → ⊥)
    → ((r : Reg) (ea : Ea) → op ≡ Lea r ea → ⊥) → ((target : ℕ) → op ≡ Call target → ⊥)
    → working_stmts cpu procedures p height op number ≡ op_stmts cpu op number (first_place p height op)
    (second_place p height op)
stmts_by_places cpu procedures p height (Push a) number no_push no_pop no_lea no_call = absurd (no_push a refl)
stmts_by_places cpu procedures p height (Pop a) number no_push no_pop no_lea no_call = absurd (no_pop a refl)
stmts_by_places cpu procedures p height (Lea r ea) number no_push no_pop no_lea no_call = absurd (no_lea r ea refl)
stmts_by_places cpu procedures p height (Call target) number no_push no_pop no_lea no_call =
    absurd (no_call target refl)
stmts_by_places cpu procedures p height op number no_push no_pop no_lea no_call = refl
