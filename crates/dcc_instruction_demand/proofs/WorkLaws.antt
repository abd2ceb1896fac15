-- What is done between taking and storing, told by tables; and tests that several operations share.
use Rattle.std.proofs.Common.{◌≡◌, ℕ, ℤ, Bool, true, false, not, ◌&&◌, ◌||◌, if◌then◌else◌, List, [], ◌∷◌, map, refl, sym, ap, ◌∙◌, true≢false}
use Rattle.std.specs.List.{list_any, list_all}
use Rattle.dcc_num.specs.declared.Width.{Width}
use Rattle.dcc_num.specs.declared.Reg.{Reg}
use Rattle.dcc_num.specs.declared.Half.{Half as HalfName}
use Rattle.dcc_num.specs.declared.FlagName.{FlagName}
use Rattle.dcc_num.specs.declared.FlagName.TheVariants.{Cf, Zf, Sf, Of}
use Rattle.dcc_prog.specs.declared.procedure.Node.{Node}
use Rattle.dcc_machine.specs.declared.instr.Op.{Op}
use Rattle.dcc_machine.specs.declared.instr.Operand.{Operand}
use Rattle.dcc_machine.specs.declared.instr.Operand.TheVariants.{Word, Byte, Seg, Mem, Const}
use Rattle.dcc_prog.specs.Frame.{memory_of_two}
use Rattle.dcc_machine.specs.Wanted.{Location, is_flag, is_in_memory}
use Rattle.dcc_stack.specs.Slots.{is_memory}
use Rattle.dcc_ir.specs.declared.syntax.Loc.TheVariants.{Half, Flag, Cell}
use Rattle.dcc_ir.specs.Tree.{Stmt}
use Rattle.dcc_ops.specs.Temporaries.{result_place}
use Rattle.dcc_lift.proofs.ListTests.{and_left, and_right, or_none, not_true}
use Rattle.dcc_machine_demand.specs.Bodies.{Body, Point}
use Rattle.dcc_machine_demand.specs.Holders.{Holder, held, in_frame, is_at, spots_of_memory}
use Rattle.dcc_lifted_demand.specs.Sources.{sources}
use Rattle.dcc_instruction_demand.proofs.ValueLaws.{is_value, is_written}
use Rattle.dcc_instruction_demand.proofs.StageLaws.{have_same, is_useless}
use Rattle.dcc_instruction_demand.proofs.ClosedLaws.{same_test, tests_same}
use Rattle.dcc_instruction_demand.proofs.FormLaws.{Input, carry, input_location, has_itself, made_by, IsWork}
use Rattle.dcc_instruction_demand.proofs.OperandLaws.{frame_read}

-- the instruction with that operation in the place of its own, at a height of the stack
abbrev pub point_with_op : Node → ℕ → Op → Point
point_with_op node height op = record { node = record node { instr = record (node.instr) { op = op } }; height = height }

-- Tests of flags.

abbrev pub all_flags : (FlagName → Bool) → Bool
all_flags test = test Cf && (test Zf && (test Sf && test Of))

pub every_flag : (test : FlagName → Bool) → all_flags test ≡ true → (f : FlagName) → test f ≡ true
every_flag test t Cf = and_left (test Cf) (test Zf && (test Sf && test Of)) t
every_flag test t Zf = and_left (test Zf) (test Sf && test Of) (and_right (test Cf) (test Zf && (test Sf && test Of)) t)
every_flag test t Sf = and_left (test Sf) (test Of) (and_right (test Zf) (test Sf && test Of) (and_right (test Cf) (test Zf && (test Sf && test Of)) t))
every_flag test t Of = and_right (test Sf) (test Of) (and_right (test Zf) (test Sf && test Of) (and_right (test Cf) (test Zf && (test Sf && test Of)) t))

-- The table of some work.

module _ (w : Width) (working : List Stmt) (result_inputs : List Input) (flag_inputs : FlagName → List Input) where
  abbrev flag_told : FlagName → Bool
  flag_told f = have_same (sources working (Flag f)) (map (input_location w (Flag f)) (flag_inputs f))

  abbrev result_told : Bool
  result_told = have_same (sources working (result_place w)) (map (input_location w (result_place w)) result_inputs)

  abbrev pub is_worked : Bool
  is_worked = list_all is_value working && (list_all is_useless working && (result_told && (all_flags flag_told && not (has_itself result_inputs))))

  pub worked : is_worked ≡ true → ((r : Reg) (h : HalfName) → sources working (Half r h) ≡ Half r h ∷ []) → ((n : ℕ) (h : HalfName) → sources working (Cell n h) ≡ Cell n h ∷ [])
      → ((r : Reg) (h : HalfName) → is_written working (Half r h) ≡ false) → ((n : ℕ) (h : HalfName) → is_written working (Cell n h) ≡ false) → IsWork w working result_inputs flag_inputs
  worked t half cell half_left cell_left =
      let last = all_flags flag_told && not (has_itself result_inputs) in
      let second_told = and_right (list_all is_value working) (list_all is_useless working && (result_told && last)) t in
      let third_told = and_right (list_all is_useless working) (result_told && last) second_told in
      let last_told = and_right result_told last third_told in
      record {
        values = and_left (list_all is_value working) (list_all is_useless working && (result_told && last)) t;
        useless = and_left (list_all is_useless working) (result_told && last) second_told;
        result_is = and_left result_told last third_told;
        flag_is = every_flag flag_told (and_left (all_flags flag_told) (not (has_itself result_inputs)) last_told);
        half_is = half;
        cell_is = cell;
        half_left = half_left;
        cell_left = cell_left;
        new = not_true (has_itself result_inputs) (and_right (all_flags flag_told) (not (has_itself result_inputs)) last_told);
      }

-- which flags are written
pub flags_written : (working : List Stmt) (writes : FlagName → Bool) → all_flags (λ f. same_test (writes f) (is_written working (Flag f))) ≡ true → (f : FlagName) → writes f ≡ is_written working (Flag f)
flags_written working writes t f = tests_same (writes f) (is_written working (Flag f)) (every_flag (λ f. same_test (writes f) (is_written working (Flag f))) t f)

-- Conjunctions.

pub and_true : (b : Bool) → (b && true) ≡ b
and_true true = refl
and_true false = refl

pub and_again : (a b c : Bool) → ((a && b) && c) ≡ (a && (b && c))
and_again true b c = refl
and_again false b c = refl

pub and_moved : (a b c : Bool) → (a && (b && c)) ≡ ((b && a) && c)
and_moved true true c = refl
and_moved true false c = refl
and_moved false true c = refl
and_moved false false c = refl

-- CF as it comes in, where it does.

abbrev pub carry_if : Bool → List Input
carry_if b = if b then carry ∷ [] else []

pub carry_held : (first_reads second_reads : Holder → Bool) (b : Bool) (location : Location) → (b && is_flag Cf location) ≡ made_by first_reads second_reads (carry_if b) (held location)
carry_held first_reads second_reads true location = sym (or_none (is_flag Cf location))
carry_held first_reads second_reads false location = refl

pub carry_framed : (first_reads second_reads : Holder → Bool) (b : Bool) (k : ℤ) → made_by first_reads second_reads (carry_if b) (in_frame k) ≡ false
carry_framed first_reads second_reads true k = refl
carry_framed first_reads second_reads false k = refl

-- Operands in memory.

pub unread_frame : (body : Body) (a : Operand) (k : ℤ) → is_in_memory a ≡ false → frame_read body a k ≡ false
unread_frame body (Word r) k e = refl
unread_frame body (Byte r h) k e = refl
unread_frame body (Seg n) k e = refl
unread_frame body (Const v n) k e = refl
unread_frame body (Mem v ea) k e = absurd (true≢false e)

pub read_in_memory : (body : Body) (a : Operand) (k : ℤ) → frame_read body a k ≡ true → is_in_memory a ≡ true
read_in_memory body (Mem v ea) k t = refl
read_in_memory body (Word r) k t = absurd (true≢false (sym t))
read_in_memory body (Byte r h) k t = absurd (true≢false (sym t))
read_in_memory body (Seg n) k t = absurd (true≢false (sym t))
read_in_memory body (Const v n) k t = absurd (true≢false (sym t))

-- a byte of one of two operands
abbrev pub two_read : Body → Operand → Operand → ℤ → Bool
two_read body a b k = list_any (λ spot. is_at spot (in_frame k)) (spots_of_memory body (memory_of_two a b))

pub two_are_read : (body : Body) (a b : Operand) (k : ℤ) → (is_in_memory a && is_in_memory b) ≡ false → two_read body a b k ≡ (frame_read body a k || frame_read body b k)
two_are_read body (Mem v ea) b k e = sym (ap (λ c. frame_read body (Mem v ea) k || c) (unread_frame body b k e) ∙ or_none (frame_read body (Mem v ea) k))
two_are_read body (Word r) b k e = refl
two_are_read body (Byte r h) b k e = refl
two_are_read body (Seg n) b k e = refl
two_are_read body (Const v n) b k e = refl

pub first_of_two : (body : Body) (a b : Operand) (k : ℤ) → (is_memory a && two_read body a b k) ≡ frame_read body a k
first_of_two body (Mem v ea) b k = refl
first_of_two body (Word r) b k = refl
first_of_two body (Byte r h) b k = refl
first_of_two body (Seg n) b k = refl
first_of_two body (Const v n) b k = refl
