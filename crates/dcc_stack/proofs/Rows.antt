-- What holds of the operation of each row of the table holds of each instruction.
use Rattle.std.proofs.Common.{◌≡◌, ℕ, zero, suc, List, [], ◌∷◌, ◌++◌, Some, subst}
use Rattle.std.specs.Prelude.{slice_get}
use Rattle.dcc_machine.specs.declared.cpu.Cpu.{Cpu}
use Rattle.dcc_machine.specs.declared.cpu.Cpu.TheVariants.{I8086, I186}
use Rattle.dcc_machine.specs.declared.instr.Op.{Op}
use Rattle.dcc_machine.specs.declared.instr.Instr.{Instr}
use Rattle.dcc_machine.specs.Table.{Row, Parts, row_parts, row_instruction, table, instruction_at, arithmetic_rows, unary_rows, stack_rows, move_rows, control_rows, plain_rows, later_rows, rows_besides}
use Rattle.dcc_machine.proofs.TableLaws.{instruction-row}

abbrev IsRowOf : (Op → Type 0) → Row → Type 0
IsRowOf P row = (parts : Parts) → P (row.operation parts)

-- the predicate holds of the operation of each row of a list, whatever its parts
abbrev pub EachRow : (Op → Type 0) → List Row → Type 0
EachRow P [] = Unit {0}
EachRow P (row ∷ rows) = IsRowOf P row × EachRow P rows

-- the predicate holds of the operation of each row of the table
pub record EachOfTable (P : Op → Type 0) : Type 0 where
  pub arithmetic : EachRow P arithmetic_rows
  pub unary : EachRow P unary_rows
  pub stack : EachRow P stack_rows
  pub move : EachRow P move_rows
  pub control : EachRow P control_rows
  pub plain : EachRow P plain_rows
  pub later : EachRow P later_rows

module _ (P : Op → Type 0) where
  append : (rows others : List Row) → EachRow P rows → EachRow P others → EachRow P (rows ++ others)
  append [] others p q = q
  append (row ∷ rows) others p q = (p.0, append rows others p.1 q)

  at : (rows : List Row) (k : ℕ) (row : Row) → EachRow P rows → slice_get rows k ≡ Some row → IsRowOf P row
  at [] k row each found = cc
  at (r ∷ rows) zero row each found = let same : r ≡ row = cc in subst (IsRowOf P) same each.0
  at (r ∷ rows) (suc k) row each found = at rows k row each.1 found

  besides : EachOfTable P → (cpu : Cpu) → EachRow P (rows_besides cpu)
  besides each I8086 = tt
  besides each I186 = each.later

  of_table : EachOfTable P → (cpu : Cpu) → EachRow P (table cpu)
  unfolding table
  of_table each cpu =
      let later : List Row = rows_besides cpu in
      let from_plain = append plain_rows later each.plain (besides each cpu) in
      let from_control = append control_rows (plain_rows ++ later) each.control from_plain in
      let from_move = append move_rows (control_rows ++ plain_rows ++ later) each.move from_control in
      let from_stack = append stack_rows (move_rows ++ control_rows ++ plain_rows ++ later) each.stack from_move in
      let from_unary =
      append unary_rows (stack_rows ++ move_rows ++ control_rows ++ plain_rows ++ later) each.unary from_stack in
      append arithmetic_rows (unary_rows ++ stack_rows ++ move_rows ++ control_rows ++ plain_rows ++ later)
      each.arithmetic from_unary

  pub each-instruction :
      EachOfTable P → (cpu : Cpu) (offset : ℕ) (bytes : List ℕ) (instr : Instr)
      → instruction_at cpu offset bytes ≡ Some instr → P instr.op
  each-instruction each cpu offset bytes instr e =
      let found = instruction-row cpu offset bytes instr e in
      let row = found.0 in
      let holds : P (row_instruction row offset bytes).op =
      at (table cpu) found.1.0 row (of_table each cpu) found.1.1 (row_parts row offset bytes) in
      subst (λ (i : Instr). P i.op) found.3 holds
