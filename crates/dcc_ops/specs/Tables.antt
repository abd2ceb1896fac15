-- What XLAT does, which takes a byte of a table in memory.
use Rattle.std.specs.Prelude.{◌≡◌, ℕ, ◌+◌, ◌%◌, ◌<◌}
use Rattle.dcc_num.specs.declared.Width.TheVariants.{Byte as byte_width}
use Rattle.dcc_num.specs.declared.Reg.TheVariants.{Ax, Bx}
use Rattle.dcc_num.specs.declared.Half.TheVariants.{Low}
use Rattle.dcc_machine.specs.declared.instr.Plain.TheVariants.{Xlat}
use Rattle.dcc_machine.specs.Machine.{State as Machine, word_in, half_of_word, data_segment, byte_in}
use Rattle.dcc_machine.specs.Operations.{plain_step}
use Rattle.dcc_ir.specs.Run.{State, value_in, execute}
use Rattle.dcc_ops.specs.OperandPlace.{OperandPlace, memory, place_value}
use Rattle.dcc_ops.specs.Statements.{xlat_address, plain_stmts}
use Rattle.dcc_ops.specs.Coupling.{Relation}

-- the offset of the byte that XLAT takes: the table begins at BX, and AL counts
abbrev pub table_offset : Machine → ℕ
table_offset s = (word_in s Bx + half_of_word Low (word_in s Ax)) % 65536

abbrev pub table_byte : Machine → ℕ
table_byte s = byte_in s (data_segment s) (table_offset s)

-- the place where the byte that XLAT takes stands
abbrev pub table_place : OperandPlace
table_place = memory byte_width xlat_address

-- the run has the byte that XLAT takes at its place
pub record IsTableByte (R : Relation) (s : Machine) : Type 0 where
  pub value : (t : State) → R s t → value_in t (place_value table_place) ≡ table_byte s
  pub small : (t : State) → R s t → table_byte s < 256

-- the address of XLAT's byte is its offset, and where the run has the byte, the statements do what XLAT does
pub record TablesAreRead (R : Relation) : Type 0 where
  pub address : (s : Machine) (t : State) → R s t → value_in t xlat_address ≡ table_offset s
  pub translated :
      (s : Machine) (t : State) → IsTableByte R s → R s t → R (plain_step Xlat s) (execute (plain_stmts Xlat) t)
