-- Shifts and rotates do what their statements do.
use Rattle.std.proofs.Common.{◌≡◌, ℕ, ℤ, Bool, true, false, not, ◌&&◌, ◌||◌, ◌==◌, if◌then◌else◌, inl, inr, List, [], ◌∷◌, ◌++◌, map, Option, refl, sym, ap, ◌∙◌, subst, true≢false}
use Rattle.std.specs.Prelude.{Contains, ◌%◌}
use Rattle.std.specs.List.{list_all}
use Rattle.dcc_num.specs.declared.Width.{Width}
use Rattle.dcc_num.specs.declared.Width.TheVariants.{Byte as byte_width, Word as word_width}
use Rattle.dcc_num.specs.declared.Reg.{Reg}
use Rattle.dcc_num.specs.declared.Reg.TheVariants.{Cx}
use Rattle.dcc_num.specs.declared.Half.{Half as HalfName}
use Rattle.dcc_num.specs.declared.Half.TheVariants.{Low}
use Rattle.dcc_num.specs.declared.FlagName.{FlagName}
use Rattle.dcc_num.specs.declared.FlagName.TheVariants.{Cf, Zf, Sf, Of}
use Rattle.dcc_machine.specs.declared.cpu.Cpu.{Cpu}
use Rattle.dcc_machine.specs.declared.cpu.Cpu.TheVariants.{I8086, I186}
use Rattle.dcc_prog.specs.declared.procedure.Node.{Node}
use Rattle.dcc_machine.specs.declared.instr.Shift.{Shift}
use Rattle.dcc_machine.specs.declared.instr.Shift.TheVariants.{Rol, Ror, Rcl, Rcr, Shl, Shr, Sar}
use Rattle.dcc_machine.specs.declared.instr.Count.{Count}
use Rattle.dcc_machine.specs.declared.instr.Count.TheVariants.{One, Cl, Const as ConstCount}
use Rattle.dcc_machine.specs.declared.instr.Operand.{Operand}
use Rattle.dcc_machine.specs.declared.instr.Operand.TheVariants.{Byte}
use Rattle.dcc_machine.specs.declared.instr.Op.{Op}
use Rattle.dcc_machine.specs.declared.instr.Op.TheVariants.{Shift as ShiftOp}
use Rattle.dcc_machine.specs.Machine.{operand_width}
use Rattle.dcc_machine.specs.Writes.{is_same_register, is_same_half, is_half_of, never_shifts, shift_writes_flag}
use Rattle.dcc_machine.specs.Wanted.{Location, half_of, flag_of, is_flag, is_read, is_in_memory, is_cl, is_through_carry, is_in_cl, is_constant_flag, brings_carry}
use Rattle.dcc_ir.specs.declared.syntax.Loc.{Loc}
use Rattle.dcc_ir.specs.declared.syntax.Loc.TheVariants.{Half, Flag}
use Rattle.dcc_ir.specs.Tree.{Stmt}
use Rattle.dcc_ir.proofs.LocationLaws.{Contains-here}
use Rattle.dcc_ops.specs.OperandPlace.{OperandPlace, computed, taking, storing}
use Rattle.dcc_ops.specs.Expressions.{result, sum, count_expr}
use Rattle.dcc_ops.specs.Temporaries.{left_place, right_place, result_place}
use Rattle.dcc_ops.specs.Statements.{result_taking, shift_working, shifting, staying, shift_stmts}
use Rattle.dcc_lift.proofs.ListTests.{and_left, and_false, or_none, not_true}
use Rattle.dcc_simulation.specs.Procedures.{Procedure}
use Rattle.dcc_demand.specs.Procedures.{Procedures}
use Rattle.dcc_machine_demand.specs.Bodies.{Body, Point}
use Rattle.dcc_machine_demand.specs.Holders.{Holder, held, in_frame, is_holder}
use Rattle.dcc_machine_demand.specs.Values.{is_cleared, value_made_of, value_uses}
use Rattle.dcc_sums.specs.Points.{Position}
use Rattle.dcc_refinement.specs.Refinement.{Refinement}
use Rattle.dcc_lifted_demand.proofs.ListLaws.{in_flat}
use Rattle.dcc_lifted_demand.specs.LiftedRefinement.{IsSame}
use Rattle.dcc_instruction_demand.specs.Agreement.{Agrees}
use Rattle.dcc_instruction_demand.proofs.DecodedLaws.{is_shiftable}
use Rattle.dcc_instruction_demand.proofs.ShownLaws.{Shows, shows_none, shows_alike}
use Rattle.dcc_instruction_demand.proofs.ValueLaws.{is_written}
use Rattle.dcc_instruction_demand.proofs.OperationLaws.{IsValueOperation, callee_there}
use Rattle.dcc_instruction_demand.proofs.StageLaws.{is_kept_place, reads_at, before_both, both_left}
use Rattle.dcc_instruction_demand.proofs.FormLaws.{Input, first, second, carry, itself, input_location, has_itself}
use Rattle.dcc_instruction_demand.proofs.FormLaws.{made_by, IsWork}
use Rattle.dcc_instruction_demand.proofs.AlikeLaws.{same_lasts, word_lasts, set_unwritten, prepared_agrees, two_prepare}
use Rattle.dcc_instruction_demand.proofs.AlikeLaws.{result_prepares}
use Rattle.dcc_instruction_demand.proofs.OperandLaws.{frame_read, in_cells, reads_by, IsOperandAt, byte_at}
use Rattle.dcc_instruction_demand.proofs.WorkLaws.{point_with_op, and_true, and_moved, read_in_memory}
use Rattle.dcc_instruction_demand.proofs.StoredLaws.{storing_agrees}
use Rattle.dcc_instruction_demand.proofs.UnaryLaws.{both_inputs, one_works, sum_makes, one_written}
use Rattle.dcc_instruction_demand.proofs.ShiftLaws.{shift_inputs, unwritten_inputs, shift_flags, is_overflow, Works}
use Rattle.dcc_instruction_demand.proofs.ShiftLaws.{one_work, cl_work, const_work, result_made, made_value, may_be}
use Rattle.dcc_instruction_demand.proofs.ShiftLaws.{result_is_told, flag_is_told, sure_is_told, made_held, made_framed}

-- Counts.

-- OF is 0 for the count
abbrev pub cleared_of : Count → Bool
cleared_of (ConstCount n) = not (n % 32 == 1)
cleared_of count = false

half_uncleared : (operation : Shift) (a : Operand) (count : Count) (q : Reg) (h : HalfName) → is_cleared (ShiftOp operation a count) (half_of q h) ≡ false
half_uncleared operation a One q h = refl
half_uncleared operation a Cl q h = refl
half_uncleared operation a (ConstCount n) q h = refl

flag_cleared : (operation : Shift) (a : Operand) (count : Count) (f : FlagName) → is_cleared (ShiftOp operation a count) (flag_of f) ≡ (cleared_of count && is_overflow f)
flag_cleared operation a One f = refl
flag_cleared operation a Cl f = refl
flag_cleared operation a (ConstCount n) Of = sym (and_true (not (n % 32 == 1)))
flag_cleared operation a (ConstCount n) Cf = sym (and_false (not (n % 32 == 1)))
flag_cleared operation a (ConstCount n) Zf = sym (and_false (not (n % 32 == 1)))
flag_cleared operation a (ConstCount n) Sf = sym (and_false (not (n % 32 == 1)))

-- by a constant it is no RCL or RCR
turns_never : (operation : Shift) (count : Count) → is_shiftable operation count ≡ true → never_shifts count ≡ true → is_through_carry operation ≡ false
turns_never operation (ConstCount n) t never = not_true (is_through_carry operation) t
turns_never operation One t never = absurd (true≢false (sym never))
turns_never operation Cl t never = absurd (true≢false (sym never))

-- the count of a shift that never shifts reads nothing
unread_count : (cpu : Cpu) (w : Width) (count : Count) → never_shifts count ≡ true → reads_at (computed (count_expr cpu w count)) ≡ []
unread_count cpu w (ConstCount n) never = refl
unread_count cpu w One never = absurd (true≢false (sym never))
unread_count cpu w Cl never = absurd (true≢false (sym never))

may_count : (operation : Shift) (count : Count) → is_shiftable operation count ≡ true → may_be operation (is_in_cl count) (cleared_of count) ≡ true
may_count operation One t = refl
may_count operation Cl t = refl
may_count operation (ConstCount n) t = by (n % 32 == 1) t
  where
    by : (b : Bool) → not (is_through_carry operation) ≡ true → may_be operation false (not b) ≡ true
    by true e = refl
    by false e = e

const_works : (operation : Shift) (w : Width) (n : ℕ) → is_through_carry operation ≡ false → Works operation w (shift_working operation w (ConstCount n)) false (not (n % 32 == 1))
const_works Shl w n e = const_work (n % 32 == 1) Shl w e
const_works Shr w n e = const_work (n % 32 == 1) Shr w e
const_works Sar w n e = const_work (n % 32 == 1) Sar w e
const_works Rol w n e = const_work (n % 32 == 1) Rol w e
const_works Ror w n e = const_work (n % 32 == 1) Ror w e
const_works Rcl w n e = absurd (true≢false e)
const_works Rcr w n e = absurd (true≢false e)

count_works : (operation : Shift) (w : Width) (count : Count) → is_shiftable operation count ≡ true → Works operation w (shift_working operation w count) (is_in_cl count) (cleared_of count)
count_works operation w One t = one_work operation w
count_works operation w Cl t = cl_work operation w
count_works operation w (ConstCount n) t = const_works operation w n (not_true (is_through_carry operation) t)

-- Tests.

nothing_more : (r x y : Bool) → (r || ((x && false) || (y && false))) ≡ r
nothing_more r x y = ap (λ b. r || (b || (y && false))) (and_false x) ∙ ap (λ b. r || b) (and_false y) ∙ or_none r

flag_framed : (s n r x y : Bool) → ((s && n) && r) ≡ (((s && r) || ((x && false) || (y && false))) && n)
flag_framed s n r x y = swapped s n r ∙ sym (ap (λ b. b && n) (nothing_more (s && r) x y))
  where
    swapped : (s n r : Bool) → ((s && n) && r) ≡ ((s && r) && n)
    swapped true true true = refl
    swapped true true false = refl
    swapped true false true = refl
    swapped true false false = refl
    swapped false n r = refl

-- What the count reads.

abbrev pub count_reads : Count → Holder → Bool
count_reads count (held l) = is_in_cl count && is_cl l
count_reads count (in_frame k) = false

module _ (o : Option Procedure) (body : Body) (exposed : Holder → Bool) where
  abbrev Reads : (Holder → Bool) → Holder → Type 0
  Reads reads L = (is_holder body L ≡ true) × (reads L ≡ true)

  cl_read : (l : Location) → is_read l (Byte Cx Low) ≡ is_cl l
  cl_read (half_of q h) = or_none (is_same_register q Cx && is_same_half h Low)
  cl_read (flag_of f) = refl

  cl_shown : Shows (IsSame o) (Reads (count_reads Cl)) (Half Cx Low ∷ [])
  cl_shown =
      shows_alike (IsSame o) (Reads (reads_by body (Byte Cx Low))) (Reads (count_reads Cl)) (Half Cx Low ∷ []) (Half Cx Low ∷ []) (byte_at o body exposed Cx Low refl).reads to from (λ l c. c) (λ l c. c)
    where
      to : (L : Holder) (l : Loc) → IsSame o L l → Reads (reads_by body (Byte Cx Low)) L → Reads (count_reads Cl) L
      to (held l) m s t = (t.0, sym (cl_read l) ∙ t.1)
      to (in_frame k) m s t = absurd (true≢false (sym t.1))

      from : (L : Holder) (l : Loc) → IsSame o L l → Reads (count_reads Cl) L → Reads (reads_by body (Byte Cx Low)) L
      from (held l) m s t = (t.0, cl_read l ∙ t.1)
      from (in_frame k) m s t = absurd (true≢false (sym t.1))

  nothing_shown : (count : Count) → is_in_cl count ≡ false → Shows (IsSame o) (Reads (count_reads count)) []
  nothing_shown count e =
      shows_alike (IsSame o) (λ L. ⊥) (Reads (count_reads count)) [] [] (shows_none (IsSame o)) (λ L l s t. absurd t) (λ L l s t. none L t.1) (λ l c. c) (λ l c. c)
    where
      none : (L : Holder) → count_reads count L ≡ true → ⊥
      none (held l) t = true≢false (sym (and_left (is_in_cl count) (is_cl l) t) ∙ e)
      none (in_frame k) t = true≢false (sym t)

  count_shown : (cpu : Cpu) (w : Width) (count : Count) → Shows (IsSame o) (Reads (count_reads count)) (reads_at (computed (count_expr cpu w count)))
  count_shown cpu w One = nothing_shown One refl
  count_shown cpu w (ConstCount n) = nothing_shown (ConstCount n) refl
  count_shown I8086 byte_width Cl = cl_shown
  count_shown I8086 word_width Cl = cl_shown
  count_shown I186 byte_width Cl = cl_shown
  count_shown I186 word_width Cl = cl_shown

count_kept : (cpu : Cpu) (w : Width) (count : Count) → list_all is_kept_place (reads_at (computed (count_expr cpu w count))) ≡ true
count_kept cpu w One = refl
count_kept cpu w (ConstCount n) = refl
count_kept I8086 byte_width Cl = refl
count_kept I8086 word_width Cl = refl
count_kept I186 byte_width Cl = refl
count_kept I186 word_width Cl = refl

module _ (coarse : Procedures ℕ Holder ℤ) (fine : Procedures Position Loc Loc) (r : Refinement ℕ Holder ℤ Position Loc Loc) (entry at pushed : ℕ)
    (o : Option Procedure) (bodies : List Body) (body : Body) (node : Node) (height : ℕ) (cpu : Cpu) (operation : Shift) (a : Operand) (count : Count) where
  abbrev op : Op
  op = ShiftOp operation a count

  abbrev pub shift_point : Point
  shift_point = point_with_op node height (ShiftOp operation a count)

  abbrev w : Width
  w = operand_width a

  abbrev rb : Holder → Bool
  rb L = count_reads count L

  abbrev cl : Bool
  cl = is_in_cl count

  abbrev cleared : Bool
  cleared = cleared_of count

  abbrev flags : FlagName → List Input
  flags f = shift_flags operation (is_in_cl count) (cleared_of count) f

  abbrev made_so : List Input → Holder → Bool
  made_so inputs L = made_by (reads_by body a) rb inputs L

  abbrev G : OperandPlace
  G = computed (count_expr cpu w count)

  module _ (v : IsValueOperation coarse fine r entry at o bodies body shift_point) (P : OperandPlace) (x : IsOperandAt o body (coarse.procedure entry).is_exposed a P) (able : is_shiftable operation count ≡ true)
      (next : (b : ℕ) × Contains ((coarse.procedure entry).next at) b) where
    may : may_be operation cl cleared ≡ true
    may = may_count operation count able

    all_made : (l : Location) → result_made operation cl (is_read l a) (is_cl l) (is_flag Cf l) ≡ made_so (shift_inputs operation) (held l)
    all_made l = result_is_told operation cl cleared may (is_read l a) (is_cl l) (is_flag Cf l) ∙ sym (made_held (reads_by body a) rb (shift_inputs operation) l)

    frame_made : (k : ℤ) → frame_read body a k ≡ made_so (shift_inputs operation) (in_frame k)
    frame_made k =
        sym (nothing_more (frame_read body a k) (cl && not (is_through_carry operation)) (is_through_carry operation)) ∙ result_is_told operation cl cleared may (frame_read body a k) false false
        ∙ ap (λ c. made_value (shift_inputs operation) (frame_read body a k) c false) (and_false cl) ∙ sym (made_framed (reads_by body a) rb (shift_inputs operation) k)

    makes_half : (q : Reg) (h : HalfName) → is_half_of q h a ≡ true → (L : Holder) → value_made_of body op (held (half_of q h)) L ≡ made_so (shift_inputs operation) L
    makes_half q h t (held l) =
        ap (λ c. (c && result_made operation cl (is_read l a) (is_cl l) (is_flag Cf l)) && not (is_cleared op (half_of q h))) t
        ∙ ap (λ c. result_made operation cl (is_read l a) (is_cl l) (is_flag Cf l) && not c) (half_uncleared operation a count q h)
        ∙ and_true (result_made operation cl (is_read l a) (is_cl l) (is_flag Cf l)) ∙ all_made l
    makes_half q h t (in_frame k) =
        ap (λ c. ((c && true) && not (is_cleared op (half_of q h))) && frame_read body a k) t ∙ ap (λ c. not c && frame_read body a k) (half_uncleared operation a count q h) ∙ frame_made k

    makes_frame : (k : ℤ) → frame_read body a k ≡ true → (L : Holder) → value_made_of body op (in_frame k) L ≡ made_so (shift_inputs operation) L
    makes_frame k t (held l) =
        ap (λ c. c && (is_in_memory a && result_made operation cl (is_read l a) (is_cl l) (is_flag Cf l))) t
        ∙ ap (λ c. c && result_made operation cl (is_read l a) (is_cl l) (is_flag Cf l)) (read_in_memory body a k t) ∙ all_made l
    makes_frame k t (in_frame j) = ap (λ c. c && frame_read body a j) t ∙ frame_made j

    uses_held : (l : Location) → value_uses body op node.number (held l) ≡ ((is_in_memory a && not (in_cells body a)) && made_so (shift_inputs operation) (held l))
    uses_held l =
        and_moved (not (in_cells body a)) (is_in_memory a) (result_made operation cl (is_read l a) (is_cl l) (is_flag Cf l))
        ∙ ap (λ c. (is_in_memory a && not (in_cells body a)) && c) (all_made l)

    first_there : (b : Bool) → Contains (map (input_location w (result_place w)) (if b then first ∷ carry ∷ [] else first ∷ second ∷ [])) (left_place w)
    first_there true = Contains-here (left_place w) (Flag Cf ∷ [])
    first_there false = Contains-here (left_place w) (right_place w ∷ [])

    -- where this is done to the operand and the count, and the flags are made of these
    stored_agrees : (working : List Stmt) (flag_inputs : FlagName → List Input) → IsWork w working (shift_inputs operation) flag_inputs
        → ((f : FlagName) → (shift_writes_flag operation f && not (never_shifts count)) ≡ is_written working (Flag f))
        → ((f : FlagName) → (shift_writes_flag operation f && not (never_shifts count)) ≡ true → (L : Holder) → value_made_of body op (held (flag_of f)) L ≡ made_so (flag_inputs f) L)
        → ((f : FlagName) → ((shift_writes_flag operation f && not (never_shifts count)) && ((shift_writes_flag operation f && not (never_shifts count)) && not (cl && not (is_through_carry operation)))) ≡ not (has_itself (flag_inputs f)))
        → ((f : FlagName) → (shift_writes_flag operation f && not (never_shifts count)) ≡ false → (L : Holder) → made_so (flag_inputs f) L ≡ false)
        → Agrees coarse fine r entry at pushed (taking (left_place w) P ∷ taking (right_place w) G ∷ (working ++ storing P (result w))) []
    stored_agrees working flag_inputs work writes_flag makes_flag sure_flag left_flag =
        storing_agrees coarse fine r entry at pushed o bodies body shift_point v w a P P G (reads_by body a) rb working true (shift_inputs operation) flag_inputs (record {
          operand = x;
          work = work;
          firsts = x.reads;
          seconds = count_shown o body (coarse.procedure entry).is_exposed cpu w count;
          second_kept = count_kept cpu w count;
          address = λ l c. in_flat (before_both w P G) (map (input_location w (result_place w)) (shift_inputs operation)) (left_place w) l (first_there (is_through_carry operation))
              (subst (λ ls. Contains ls l) (sym (both_left w P G)) c);
          frame_alone = λ t k e. elim e [
            | inl e ↦ e
            | inr e ↦ absurd (true≢false (sym e))
          ];
          writes_half = λ q h. refl;
          writes_flag = writes_flag;
          writes_frame = λ k. one_written body a k;
          makes_half = makes_half;
          makes_flag = makes_flag;
          makes_frame = makes_frame;
          sure_half = λ q h. refl;
          sure_frame = λ k. refl;
          sure_flag = sure_flag;
          left_flag = left_flag;
          uses_held = uses_held;
          uses_frame = λ k. refl;
          next = next;
        })

    -- where the operation shifts
    module _ (moves : not (never_shifts count) ≡ true) where
      writes_one : (f : FlagName) → (shift_writes_flag operation f && not (never_shifts count)) ≡ shift_writes_flag operation f
      writes_one f = ap (λ c. shift_writes_flag operation f && c) moves ∙ and_true (shift_writes_flag operation f)

      makes_flag : (f : FlagName) → (shift_writes_flag operation f && not (never_shifts count)) ≡ true → (L : Holder) → value_made_of body op (held (flag_of f)) L ≡ made_so (flags f) L
      makes_flag f t (held l) =
          ap (λ c. (c && ((not (is_constant_flag operation f) && is_read l a) || (((cl && not (is_through_carry operation)) && is_cl l) || (brings_carry operation (flag_of f) && is_flag Cf l)))) && not (is_cleared op (flag_of f))) t
          ∙ ap (λ c. ((not (is_constant_flag operation f) && is_read l a) || (((cl && not (is_through_carry operation)) && is_cl l) || (brings_carry operation (flag_of f) && is_flag Cf l))) && not c) (flag_cleared operation a count f)
          ∙ flag_is_told operation cl cleared may f (sym (writes_one f) ∙ t) (is_read l a) (is_cl l) (is_flag Cf l) ∙ sym (made_held (reads_by body a) rb (flags f) l)
      makes_flag f t (in_frame k) =
          ap (λ c. ((c && not (is_constant_flag operation f)) && not (is_cleared op (flag_of f))) && frame_read body a k) t
          ∙ ap (λ c. (not (is_constant_flag operation f) && not c) && frame_read body a k) (flag_cleared operation a count f)
          ∙ flag_framed (not (is_constant_flag operation f)) (not (cleared && is_overflow f)) (frame_read body a k) (cl && not (is_through_carry operation)) (brings_carry operation (flag_of f))
          ∙ flag_is_told operation cl cleared may f (sym (writes_one f) ∙ t) (frame_read body a k) false false
          ∙ ap (λ c. made_value (flags f) (frame_read body a k) c false) (and_false cl) ∙ sym (made_framed (reads_by body a) rb (flags f) k)

      left_flag : (f : FlagName) → (shift_writes_flag operation f && not (never_shifts count)) ≡ false → (L : Holder) → made_so (flags f) L ≡ false
      left_flag f t L = ap (λ inputs. made_so inputs L) (unwritten_inputs operation cl cleared f (sym (writes_one f) ∙ t))

      moving_agrees : Agrees coarse fine r entry at pushed (shifting cpu operation w P count) []
      moving_agrees =
          stored_agrees (shift_working operation w count) flags (count_works operation w count able).0 (λ f. writes_one f ∙ (count_works operation w count able).1 f) makes_flag
          (λ f. ap (λ s. s && (s && not (cl && not (is_through_carry operation)))) (writes_one f) ∙ sure_is_told operation cl cleared may f) left_flag

    -- where the operation shifts nothing
    module _ (never : never_shifts count ≡ true) where
      abbrev keeping : List Stmt
      keeping = result_taking w (sum w)

      turnless : is_through_carry operation ≡ false
      turnless = turns_never operation count able never

      flag_left : (f : FlagName) → (shift_writes_flag operation f && not (never_shifts count)) ≡ false
      flag_left f = ap (λ c. shift_writes_flag operation f && not c) never ∙ and_false (shift_writes_flag operation f)

      inputs_are : shift_inputs operation ≡ both_inputs
      inputs_are = ap (λ b. if b then first ∷ carry ∷ [] else first ∷ second ∷ []) turnless

      summed_agrees : Agrees coarse fine r entry at pushed (taking (left_place w) P ∷ taking (right_place w) G ∷ (keeping ++ storing P (result w))) []
      summed_agrees =
          stored_agrees keeping (λ f. itself ∷ []) (subst (λ inputs. IsWork w keeping inputs (λ f. itself ∷ [])) (sym inputs_are) (one_works w).0)
          (λ f. flag_left f ∙ sym (set_unwritten w (sum w) (Flag f) refl)) (λ f t L. absurd (true≢false (sym t ∙ flag_left f)))
          (λ f. ap (λ s. s && (s && not (cl && not (is_through_carry operation)))) (flag_left f)) (λ f e L. refl)

      staying_agrees : Agrees coarse fine r entry at pushed (staying w P) []
      staying_agrees =
          prepared_agrees w P x.kept x.reads_kept (taking (left_place w) P ∷ taking (right_place w) G ∷ keeping) (taking (result_place w) P ∷ [])
          (two_prepare w P G (unread_count cpu w count never) (sum w) (sum_makes w)) (result_prepares w P)
          coarse fine r entry at pushed (λ L l s. same_lasts o L l (v.same L l s)) (λ k l s. word_lasts o k l (v.same_word k l s))
          (callee_there coarse fine r entry at o bodies body shift_point v) summed_agrees

    pub shift_agrees : Agrees coarse fine r entry at pushed (shift_stmts cpu operation w P count) []
    shift_agrees = by (never_shifts count) refl
      where
        by : (b : Bool) → never_shifts count ≡ b → Agrees coarse fine r entry at pushed (if b then staying w P else shifting cpu operation w P count) []
        by true never = staying_agrees never
        by false moving = moving_agrees (ap not moving)
