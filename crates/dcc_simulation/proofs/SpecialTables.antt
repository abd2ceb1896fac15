-- XLAT, and jumps through tables, which have no statement.
use Rattle.std.proofs.Common.{◌≡◌, ℕ, ◌+◌, ◌*◌, ◌%◌, refl, sym, ap, ◌∙◌, subst, arith}
use Rattle.std.specs.Prelude.{slice_index, Contains}
use Rattle.dcc_num.specs.declared.Reg.{Reg}
use Rattle.dcc_machine.specs.declared.instr.Plain.TheVariants.{Xlat}
use Rattle.dcc_machine.specs.declared.instr.Op.TheVariants.{Plain, Table}
use Rattle.dcc_machine.specs.declared.instr.Instr.{Instr}
use Rattle.dcc_machine.specs.Machine.{State as Machine, physical, data_segment}
use Rattle.dcc_machine.specs.Step.{op_step}
use Rattle.dcc_machine.specs.Successors.{next_of}
use Rattle.dcc_machine.specs.Access.{Access, other_read, accesses}
use Rattle.dcc_prog.specs.Clean.{Stack}
use Rattle.dcc_ir.specs.Run.{State, execute}
use Rattle.dcc_ops.specs.Statements.{plain_stmts}
use Rattle.dcc_ops.specs.Tables.{table_offset, IsTableByte}
use Rattle.dcc_ops.proofs.TableLaws.{tables_read}
use Rattle.dcc_simulation.specs.Coupled.{Setting}
use Rattle.dcc_simulation.specs.Laws.{IsCleanInstruction, Within}
use Rattle.dcc_simulation.proofs.Coupling.{coupled}
use Rattle.dcc_simulation.proofs.SpecialReads.{other-read}

module _ (e : Setting) (s : Machine) (stack : Stack) (instr : Instr) (is : IsCleanInstruction e s stack instr) where
  abbrev R : Machine → State → Type 0
  R = Within is stack.written

  abbrev onward : Machine
  onward = record s { ip = next_of s.ip instr }

  -- where the instruction pointer is doesn't matter
  pub back : (t : State) → R onward t → R s t
  back t c = (coupled e is.stands.newest is.stands.callers stack.written).anywhere onward t s.ip c

  module _ (op_is : instr.op ≡ Plain Xlat) where
    -- the byte of the table is read there
    byte-same : (t : State) → R onward t
        → slice_index t.memory ((table_offset s + 0) % 65536)
        ≡ slice_index s.memory (physical (data_segment s) ((table_offset s + 0) % 65536))
    byte-same t c =
        let access : Access = other_read (data_segment s) (table_offset s) 1 in
        other-read e s stack instr is (table_offset s) 1
        (subst (λ op. Contains (accesses op onward) access) (sym op_is) (0, omega arith, refl)) t (back t c) 0
        (omega arith)

    table-byte : IsTableByte R onward
    table-byte = record {
      value = λ t c.
          let both = coupled e is.stands.newest is.stands.callers stack.written in
          let address = (tables_read R both).address onward t c in
          let same : (table_offset s + 0) % 65536 ≡ table_offset s = omega arith in
          let whole : table_offset s % 65536 ≡ table_offset s = omega arith in
          let once : slice_index t.memory (table_offset s % 65536) + 256 * 0
          ≡ slice_index t.memory (table_offset s % 65536) = omega arith in
          ap (λ n. slice_index t.memory (n % 65536) + 256 * 0) address
          ∙ once
          ∙ ap (slice_index t.memory) (whole ∙ sym same)
          ∙ byte-same t c
          ∙ ap (λ n. slice_index s.memory (physical (data_segment s) n)) same;
      small = λ t c. is.stands.segments.state.memory (physical (data_segment s) (table_offset s));
    }

    pub xlat-agrees : (t : State) → R onward t
        → R (op_step e.program.layout.cpu (Plain Xlat) s.ip onward) (execute (plain_stmts Xlat) t)
    xlat-agrees t c =
        (tables_read R (coupled e is.stands.newest is.stands.callers stack.written)).translated onward t table-byte c

  -- a jump goes anywhere
  pub table-agrees : (r : Reg) (offset : ℕ) (t : State) → R onward t
      → R (op_step e.program.layout.cpu (Table r offset) s.ip onward) t
  table-agrees r offset t c = (coupled e is.stands.newest is.stands.callers stack.written).anywhere onward t _ c
