-- XLAT's statements do to the run what it does to the machine.
use Rattle.std.proofs.Common.{◌≡◌, ◌∙◌, refl, sym, ap, ap₂, subst, ◌+◌, ◌%◌, [], ◌∷◌}
use Rattle.dcc_num.specs.declared.Width.TheVariants.{Byte as byte_width}
use Rattle.dcc_num.specs.declared.Reg.TheVariants.{Ax, Bx}
use Rattle.dcc_num.specs.declared.Half.TheVariants.{Low}
use Rattle.dcc_machine.specs.declared.instr.Operand.TheVariants.{Word, Byte}
use Rattle.dcc_machine.specs.declared.instr.Plain.TheVariants.{Xlat}
use Rattle.dcc_machine.specs.Machine.{State as Machine, with_operand}
use Rattle.dcc_machine.specs.Operations.{plain_step}
use Rattle.dcc_ir.specs.declared.syntax.Loc.TheVariants.{Half, Temp}
use Rattle.dcc_ir.specs.Run.{State, value_in, setting, execute}
use Rattle.dcc_ir.proofs.ExecuteLaws.{execute-append}
use Rattle.dcc_ops.specs.Temporaries.{left_place}
use Rattle.dcc_ops.specs.OperandPlace.{byte, taking, storing}
use Rattle.dcc_ops.specs.Expressions.{left}
use Rattle.dcc_ops.specs.Coupling.{Relation, IsCoupling}
use Rattle.dcc_ops.specs.Statements.{xlat_address, plain_stmts}
use Rattle.dcc_ops.specs.Tables.{table_byte, table_offset, table_place, IsTableByte, TablesAreRead}
use Rattle.dcc_ops.proofs.CouplingLaws.{taking_is, temporary_set, register_value, register_written}

module _ (R : Relation) (coupling : IsCoupling R) where
  address_is : (s : Machine) (t : State) → R s t → value_in t xlat_address ≡ table_offset s
  address_is s t rel = ap₂ (λ m n. (m + n) % 65536) (register_value R coupling s t (Word Bx) refl rel)
      (register_value R coupling s t (Byte Ax Low) refl rel)

  translated : (s : Machine) (t : State) → IsTableByte R s → R s t
      → R (plain_step Xlat s) (execute (plain_stmts Xlat) t)
  translated s t holds rel =
      let v = table_byte s in
      let t1 = setting (Temp 0) v t in
      let store = storing (byte (Half Ax Low)) (left byte_width) in
      let run : execute (taking (left_place byte_width) table_place ∷ []) t ≡ t1
      = taking_is (left_place byte_width) table_place t (coupling.running s t rel)
      ∙ ap (λ n. setting (Temp 0) n t) (holds.value t rel) in
      let one : R s t1 = temporary_set R coupling s t byte_width (Temp 0) v refl (holds.small t rel) rel in
      let taken : R (with_operand s (Byte Ax Low) v) (execute store t1) =
      (register_written R coupling s (Byte Ax Low) refl).taken s.flags t1 (Temp 0) one refl in
      subst (R (plain_step Xlat s))
      (sym (execute-append (taking (left_place byte_width) table_place ∷ []) store t ∙ ap (execute store) run)) taken

  pub tables_read : TablesAreRead R
  tables_read = record { address = address_is; translated = translated }
