-- Sums, differences, comparisons and logic do what their statements do.
use Rattle.std.proofs.Common.{◌≡◌, ℕ, ℤ, Bool, true, false, not, ◌&&◌, ◌||◌, if◌then◌else◌, inl, inr, List, [], ◌∷◌, ◌++◌, map, Option, refl, sym, ap, ◌∙◌, subst, true≢false}
use Rattle.std.specs.Prelude.{Contains}
use Rattle.std.specs.List.{list_any}
use Rattle.dcc_num.specs.declared.Width.{Width}
use Rattle.dcc_num.specs.declared.Width.TheVariants.{Byte as byte_width, Word as word_width}
use Rattle.dcc_num.specs.declared.Reg.{Reg}
use Rattle.dcc_num.specs.declared.Half.{Half as HalfName}
use Rattle.dcc_num.specs.declared.FlagName.{FlagName}
use Rattle.dcc_num.specs.declared.FlagName.TheVariants.{Cf}
use Rattle.dcc_prog.specs.declared.procedure.Node.{Node}
use Rattle.dcc_machine.specs.declared.instr.Alu.{Alu}
use Rattle.dcc_machine.specs.declared.instr.Alu.TheVariants.{Add, Or, Adc, Sbb, And, Sub, Xor, Cmp, Test}
use Rattle.dcc_machine.specs.declared.instr.Operand.{Operand}
use Rattle.dcc_machine.specs.declared.instr.Operand.TheVariants.{Mem}
use Rattle.dcc_machine.specs.declared.instr.Op.{Op}
use Rattle.dcc_machine.specs.declared.instr.Op.TheVariants.{Alu as AluOp}
use Rattle.dcc_machine.specs.Machine.{operand_width}
use Rattle.dcc_prog.specs.Frame.{memory_of_two}
use Rattle.dcc_machine.specs.Writes.{writes_operand, is_half_of, is_carry_or_overflow}
use Rattle.dcc_machine.specs.Wanted.{Location, half_of, flag_of, is_flag, is_read, is_in_memory, is_logic, is_zeroing, takes_carry}
use Rattle.dcc_stack.specs.Slots.{is_memory}
use Rattle.dcc_ir.specs.declared.syntax.Loc.{Loc}
use Rattle.dcc_ir.specs.declared.syntax.Loc.TheVariants.{Flag}
use Rattle.dcc_ir.proofs.LocationLaws.{Contains-here}
use Rattle.dcc_ops.specs.OperandPlace.{OperandPlace, taking, storing}
use Rattle.dcc_ops.specs.Expressions.{result}
use Rattle.dcc_ops.specs.Temporaries.{left_place, right_place, result_place}
use Rattle.dcc_ops.specs.Statements.{alu_working, alu_storing, alu_stmts}
use Rattle.dcc_lift.proofs.ListTests.{and_left, and_right, and_false, or_here, or_none}
use Rattle.dcc_simulation.specs.Procedures.{Procedure}
use Rattle.dcc_demand.specs.Procedures.{Procedures}
use Rattle.dcc_machine_demand.specs.Bodies.{Body, Point}
use Rattle.dcc_machine_demand.specs.Holders.{Holder, held, in_frame, is_placed, spots_of_memory}
use Rattle.dcc_machine_demand.specs.Values.{value_made_of, value_uses}
use Rattle.dcc_sums.specs.Points.{Position}
use Rattle.dcc_refinement.specs.Refinement.{Refinement}
use Rattle.dcc_lifted_demand.proofs.ListLaws.{in_flat}
use Rattle.dcc_instruction_demand.specs.Agreement.{Agrees}
use Rattle.dcc_instruction_demand.proofs.ValueLaws.{is_written}
use Rattle.dcc_instruction_demand.proofs.OperationLaws.{IsValueOperation}
use Rattle.dcc_instruction_demand.proofs.StageLaws.{before_both, both_left}
use Rattle.dcc_instruction_demand.proofs.ClosedLaws.{same_test}
use Rattle.dcc_instruction_demand.proofs.FormLaws.{Input, first, second, input_location, has_itself, made_by, IsWork}
use Rattle.dcc_instruction_demand.proofs.OperandLaws.{frame_read, in_cells, reads_by, IsOperandAt}
use Rattle.dcc_instruction_demand.proofs.WorkLaws.{point_with_op, all_flags, worked, flags_written, and_true, and_again}
use Rattle.dcc_instruction_demand.proofs.WorkLaws.{and_moved, carry_if, carry_held, carry_framed, unread_frame}
use Rattle.dcc_instruction_demand.proofs.WorkLaws.{read_in_memory, two_read, two_are_read, first_of_two}
use Rattle.dcc_instruction_demand.proofs.StoredLaws.{storing_agrees}

-- what the result is made of, and each flag
abbrev alu_inputs : Alu → List Input
alu_inputs operation = first ∷ second ∷ carry_if (takes_carry operation)

abbrev inputs_unless : Bool → Alu → List Input
inputs_unless cleared operation = if cleared then [] else alu_inputs operation

abbrev alu_flags : Alu → FlagName → List Input
alu_flags operation f = inputs_unless (is_logic operation && is_carry_or_overflow f) operation

alu_work : (operation : Alu) (w : Width) → IsWork w (alu_working operation w) (alu_inputs operation) (alu_flags operation)
alu_work Add byte_width = worked byte_width (alu_working Add byte_width) (alu_inputs Add) (alu_flags Add) refl (λ r h. refl) (λ n h. refl) (λ r h. refl) (λ n h. refl)
alu_work Add word_width = worked word_width (alu_working Add word_width) (alu_inputs Add) (alu_flags Add) refl (λ r h. refl) (λ n h. refl) (λ r h. refl) (λ n h. refl)
alu_work Or byte_width = worked byte_width (alu_working Or byte_width) (alu_inputs Or) (alu_flags Or) refl (λ r h. refl) (λ n h. refl) (λ r h. refl) (λ n h. refl)
alu_work Or word_width = worked word_width (alu_working Or word_width) (alu_inputs Or) (alu_flags Or) refl (λ r h. refl) (λ n h. refl) (λ r h. refl) (λ n h. refl)
alu_work Adc byte_width = worked byte_width (alu_working Adc byte_width) (alu_inputs Adc) (alu_flags Adc) refl (λ r h. refl) (λ n h. refl) (λ r h. refl) (λ n h. refl)
alu_work Adc word_width = worked word_width (alu_working Adc word_width) (alu_inputs Adc) (alu_flags Adc) refl (λ r h. refl) (λ n h. refl) (λ r h. refl) (λ n h. refl)
alu_work Sbb byte_width = worked byte_width (alu_working Sbb byte_width) (alu_inputs Sbb) (alu_flags Sbb) refl (λ r h. refl) (λ n h. refl) (λ r h. refl) (λ n h. refl)
alu_work Sbb word_width = worked word_width (alu_working Sbb word_width) (alu_inputs Sbb) (alu_flags Sbb) refl (λ r h. refl) (λ n h. refl) (λ r h. refl) (λ n h. refl)
alu_work And byte_width = worked byte_width (alu_working And byte_width) (alu_inputs And) (alu_flags And) refl (λ r h. refl) (λ n h. refl) (λ r h. refl) (λ n h. refl)
alu_work And word_width = worked word_width (alu_working And word_width) (alu_inputs And) (alu_flags And) refl (λ r h. refl) (λ n h. refl) (λ r h. refl) (λ n h. refl)
alu_work Sub byte_width = worked byte_width (alu_working Sub byte_width) (alu_inputs Sub) (alu_flags Sub) refl (λ r h. refl) (λ n h. refl) (λ r h. refl) (λ n h. refl)
alu_work Sub word_width = worked word_width (alu_working Sub word_width) (alu_inputs Sub) (alu_flags Sub) refl (λ r h. refl) (λ n h. refl) (λ r h. refl) (λ n h. refl)
alu_work Xor byte_width = worked byte_width (alu_working Xor byte_width) (alu_inputs Xor) (alu_flags Xor) refl (λ r h. refl) (λ n h. refl) (λ r h. refl) (λ n h. refl)
alu_work Xor word_width = worked word_width (alu_working Xor word_width) (alu_inputs Xor) (alu_flags Xor) refl (λ r h. refl) (λ n h. refl) (λ r h. refl) (λ n h. refl)
alu_work Cmp byte_width = worked byte_width (alu_working Cmp byte_width) (alu_inputs Cmp) (alu_flags Cmp) refl (λ r h. refl) (λ n h. refl) (λ r h. refl) (λ n h. refl)
alu_work Cmp word_width = worked word_width (alu_working Cmp word_width) (alu_inputs Cmp) (alu_flags Cmp) refl (λ r h. refl) (λ n h. refl) (λ r h. refl) (λ n h. refl)
alu_work Test byte_width = worked byte_width (alu_working Test byte_width) (alu_inputs Test) (alu_flags Test) refl (λ r h. refl) (λ n h. refl) (λ r h. refl) (λ n h. refl)
alu_work Test word_width = worked word_width (alu_working Test word_width) (alu_inputs Test) (alu_flags Test) refl (λ r h. refl) (λ n h. refl) (λ r h. refl) (λ n h. refl)

-- the statements of an operation on two operands write all flags
alu_writes : (operation : Alu) (w : Width) → all_flags (λ f. same_test true (is_written (alu_working operation w) (Flag f))) ≡ true
alu_writes Add byte_width = refl
alu_writes Add word_width = refl
alu_writes Or byte_width = refl
alu_writes Or word_width = refl
alu_writes Adc byte_width = refl
alu_writes Adc word_width = refl
alu_writes Sbb byte_width = refl
alu_writes Sbb word_width = refl
alu_writes And byte_width = refl
alu_writes And word_width = refl
alu_writes Sub byte_width = refl
alu_writes Sub word_width = refl
alu_writes Xor byte_width = refl
alu_writes Xor word_width = refl
alu_writes Cmp byte_width = refl
alu_writes Cmp word_width = refl
alu_writes Test byte_width = refl
alu_writes Test word_width = refl

storing_is : (operation : Alu) (w : Width) (P : OperandPlace) → alu_storing operation w P ≡ (if writes_operand operation then storing P (result w) else [])
storing_is Add w P = refl
storing_is Or w P = refl
storing_is Adc w P = refl
storing_is Sbb w P = refl
storing_is And w P = refl
storing_is Sub w P = refl
storing_is Xor w P = refl
storing_is Cmp w P = refl
storing_is Test w P = refl

none_itself : (cleared carried : Bool) → has_itself (if cleared then [] else first ∷ second ∷ carry_if carried) ≡ false
none_itself true carried = refl
none_itself false true = refl
none_itself false false = refl

module _ (coarse : Procedures ℕ Holder ℤ) (fine : Procedures Position Loc Loc) (r : Refinement ℕ Holder ℤ Position Loc Loc) (entry at pushed : ℕ)
    (o : Option Procedure) (bodies : List Body) (body : Body) (node : Node) (height : ℕ) (operation : Alu) (a b : Operand) where
  abbrev op : Op
  op = AluOp operation a b

  abbrev pub alu_point : Point
  alu_point = point_with_op node height (AluOp operation a b)

  abbrev w : Width
  w = operand_width a

  abbrev ra : Holder → Bool
  ra L = reads_by body a L

  abbrev rb : Holder → Bool
  rb L = reads_by body b L

  abbrev made_so : List Input → Holder → Bool
  made_so inputs L = made_by ra rb inputs L

  abbrev all_read : Location → Bool
  all_read l = is_read l a || (is_read l b || (takes_carry operation && is_flag Cf l))

  module _ (v : IsValueOperation coarse fine r entry at o bodies body alu_point) (P G : OperandPlace) (x : IsOperandAt o body (coarse.procedure entry).is_exposed a P) (y : IsOperandAt o body (coarse.procedure entry).is_exposed b G)
      (one : (is_in_memory a && is_in_memory b) ≡ false) (next : (b : ℕ) × Contains ((coarse.procedure entry).next at) b) (other : is_zeroing operation a b ≡ false) where
    all_made : (l : Location) → all_read l ≡ made_so (alu_inputs operation) (held l)
    all_made l = ap (λ c. is_read l a || (is_read l b || c)) (carry_held ra rb (takes_carry operation) l)

    frame_made : (k : ℤ) → two_read body a b k ≡ made_so (alu_inputs operation) (in_frame k)
    frame_made k =
        two_are_read body a b k one
        ∙ ap (λ c. frame_read body a k || c) (sym (or_none (frame_read body b k)) ∙ ap (λ c. frame_read body b k || c) (sym (carry_framed ra rb (takes_carry operation) k)))

    makes_half : (q : Reg) (h : HalfName) → (writes_operand operation && is_half_of q h a) ≡ true → (L : Holder) → value_made_of body op (held (half_of q h)) L ≡ made_so (alu_inputs operation) L
    makes_half q h t (held l) =
        ap (λ z. (not z && ((writes_operand operation && is_half_of q h a) && all_read l)) && true) other
        ∙ ap (λ c. (c && all_read l) && true) t ∙ and_true (all_read l) ∙ all_made l
    makes_half q h t (in_frame k) = ap (λ c. (c && true) && two_read body a b k) t ∙ frame_made k

    makes_unless : (cleared : Bool) (L : Holder) → (made_at : Bool) → made_at ≡ made_so (alu_inputs operation) L → (not cleared && made_at) ≡ made_so (inputs_unless cleared operation) L
    makes_unless true L made_at e = refl
    makes_unless false L made_at e = e

    makes_flag : (f : FlagName) (L : Holder) → value_made_of body op (held (flag_of f)) L ≡ made_so (alu_flags operation f) L
    makes_flag f (held l) =
        ap (λ z. (not z && (not (is_logic operation && is_carry_or_overflow f) && all_read l)) && true) other
        ∙ and_true (not (is_logic operation && is_carry_or_overflow f) && all_read l)
        ∙ makes_unless (is_logic operation && is_carry_or_overflow f) (held l) (all_read l) (all_made l)
    makes_flag f (in_frame k) =
        ap (λ c. c && two_read body a b k) (and_true (not (is_logic operation && is_carry_or_overflow f)))
        ∙ makes_unless (is_logic operation && is_carry_or_overflow f) (in_frame k) (two_read body a b k) (frame_made k)

    -- a byte of the operand that is written
    written_read : (k : ℤ) → (writes_operand operation && frame_read body a k) ≡ true → two_read body a b k ≡ true
    written_read k t =
        two_are_read body a b k one ∙ or_here (frame_read body a k) (frame_read body b k) (and_right (writes_operand operation) (frame_read body a k) t)

    makes_frame : (k : ℤ) → (writes_operand operation && frame_read body a k) ≡ true → (L : Holder) → value_made_of body op (in_frame k) L ≡ made_so (alu_inputs operation) L
    makes_frame k t (held l) =
        ap (λ c. c && ((is_in_memory a && writes_operand operation) && all_read l)) (written_read k t)
        ∙ ap (λ c. (c && writes_operand operation) && all_read l) (read_in_memory body a k (and_right (writes_operand operation) (frame_read body a k) t))
        ∙ ap (λ c. c && all_read l) (and_left (writes_operand operation) (frame_read body a k) t) ∙ all_made l
    makes_frame k t (in_frame j) = ap (λ c. c && two_read body a b j) (written_read k t) ∙ frame_made j

    uses_held : (l : Location) → value_uses body op node.number (held l) ≡ ((writes_operand operation && (is_in_memory a && not (in_cells body a))) && made_so (alu_inputs operation) (held l))
    uses_held l = by a ∙ ap (λ c. (writes_operand operation && (is_in_memory a && not (in_cells body a))) && c) (all_made l)
      where
        by : (a : Operand) → (not (list_any is_placed (spots_of_memory body (memory_of_two a b))) && ((is_in_memory a && writes_operand operation) && all_read l))
            ≡ ((writes_operand operation && (is_in_memory a && not (in_cells body a))) && all_read l)
        by (Mem v ea) = and_moved (not (in_cells body (Mem v ea))) (writes_operand operation) (all_read l)
        by a = and_false (not (list_any is_placed (spots_of_memory body (memory_of_two a b)))) ∙ sym (ap (λ c. c && all_read l) (and_false (writes_operand operation)))

    pub alu_agrees : Agrees coarse fine r entry at pushed (alu_stmts operation w P G) []
    alu_agrees =
        subst (λ ss. Agrees coarse fine r entry at pushed (taking (left_place w) P ∷ taking (right_place w) G ∷ (alu_working operation w ++ ss)) []) (sym (storing_is operation w P))
        (storing_agrees coarse fine r entry at pushed o bodies body alu_point v w a P P G ra rb (alu_working operation w) (writes_operand operation) (alu_inputs operation) (alu_flags operation) (record {
          operand = x;
          work = alu_work operation w;
          firsts = x.reads;
          seconds = y.reads;
          second_kept = y.reads_kept;
          address = λ l c. in_flat (before_both w P G) (map (input_location w (result_place w)) (alu_inputs operation)) (left_place w) l
              (Contains-here (left_place w) (map (input_location w (result_place w)) (second ∷ carry_if (takes_carry operation))))
              (subst (λ ls. Contains ls l) (sym (both_left w P G)) c);
          frame_alone = λ t k e. elim e [
            | inl e ↦ e
            | inr e ↦ absurd (true≢false (sym e ∙ unread_frame body b k (sym (ap (λ c. c && is_in_memory b) t) ∙ one)))
          ];
          writes_half = λ q h. refl;
          writes_flag = λ f. flags_written (alu_working operation w) (λ f. true) (alu_writes operation w) f;
          writes_frame = λ k. and_again (writes_operand operation) (is_memory a) (two_read body a b k) ∙ ap (λ c. writes_operand operation && c) (first_of_two body a b k);
          makes_half = makes_half;
          makes_flag = λ f e L. makes_flag f L;
          makes_frame = makes_frame;
          sure_half = λ q h. refl;
          sure_frame = λ k. refl;
          sure_flag = λ f. sym (ap not (none_itself (is_logic operation && is_carry_or_overflow f) (takes_carry operation)));
          left_flag = λ f e L. absurd (true≢false e);
          uses_held = uses_held;
          uses_frame = λ k. refl;
          next = next;
        }))
