-- Which addresses the statements of an instruction take where the procedure exposes no local byte: those of arguments in
-- memory alone, and if the instruction moves SP, that of SP, to which a temporary is set.
use Rattle.std.proofs.Common.{◌≡◌, ℕ, zero, suc, ◌+◌, ◌*◌, ◌<◌, ◌≤◌, Bool, true, false, ◌==◌, ◌&&◌, ◌||◌, inl, inr, List, [], ◌∷◌, ◌++◌, map, Option, Some, None, refl, sym, ap, ◌∙◌, subst, true≢false}
use Rattle.std.specs.Prelude.{ℤ, pos, ◌+ℤ◌, ◌-ℤ◌, ◌⊎◌, if◌then◌else◌}
use Rattle.std.specs.List.{list_all, range_with_len}
use Rattle.std.proofs.lemmas.Bool.{or_parts, or_right, and_parts}
use Rattle.std.proofs.lemmas.List.Folds.{list_all-append}
use Rattle.dcc_num.specs.declared.Width.{Width}
use Rattle.dcc_num.specs.declared.Width.TheVariants.{Byte as byte_width, Word as word_width}
use Rattle.dcc_num.specs.declared.Reg.{Reg}
use Rattle.dcc_num.specs.declared.Reg.TheVariants.{Sp, Bp}
use Rattle.dcc_machine.specs.declared.cpu.Cpu.{Cpu}
use Rattle.dcc_machine.specs.declared.image.Image.{Image}
use Rattle.dcc_prog.specs.declared.procedure.Layout.{Layout}
use Rattle.dcc_prog.specs.declared.procedure.Node.{Node}
use Rattle.dcc_prog.specs.declared.frame.Program.{Program as Analysed}
use Rattle.dcc_machine.specs.declared.instr.Ea.{Ea}
use Rattle.dcc_machine.specs.declared.instr.Operand.{Operand}
use Rattle.dcc_machine.specs.declared.instr.Operand.TheVariants.{Word, Byte, Seg, Mem, Const as Constant}
use Rattle.dcc_machine.specs.declared.instr.Alu.TheVariants.{Add, Sub}
use Rattle.dcc_machine.specs.declared.instr.Unary.TheVariants.{Inc, Dec}
use Rattle.dcc_machine.specs.declared.instr.Op.{Op}
use Rattle.dcc_machine.specs.declared.instr.Op.TheVariants.{Alu, Unary, Shift, Mov, Xchg, Lea, Imul3, Push, Pop, Call as CallOp}
use Rattle.dcc_machine.specs.Machine.{is_bp, is_general}
use Rattle.dcc_machine.specs.Access.{is_direct}
use Rattle.dcc_prog.specs.Trail.{StandsAt}
use Rattle.dcc_machine.specs.SpAndBp.{is_push_bp, is_mov_bp_sp, is_enter, leaves_frame, is_sp_or_bp, names_sp_or_bp}
use Rattle.dcc_machine.specs.SpAndBp.{is_sp_move, copies_bp}
use Rattle.dcc_prog.specs.Frame.{argument_word, memory_of, memory_of_two, memory_operand, offset_in_frame, StartsExposure, by_lea, by_index, by_copy}
use Rattle.dcc_stack.specs.Accepted.{IsAt, IsFrameFor, IsProgramOfFile}
use Rattle.dcc_stack.specs.Slots.{is_memory, exposes_of}
use Rattle.dcc_stack.proofs.FormHeights.{form-there, has-height}
use Rattle.dcc_stack.proofs.FormOps.{FormOf, moves, unnamed, leaves, copies, saves, points, enters}
use Rattle.dcc_ir.specs.declared.syntax.BinOp.TheVariants.{Add as AddOp}
use Rattle.dcc_ir.specs.Tree.{Const, Get, Binary, Address, Stmt, Set}
use Rattle.dcc_ir.specs.Passing.{passed}
use Rattle.dcc_ir.specs.Use.{addresses_of}
use Rattle.dcc_flags.specs.Accesses.{reads_halves, loads_by_halves}
use Rattle.dcc_flags.specs.Kinds.{is_frame_sum}
use Rattle.dcc_ops.specs.declared.operand_place.Computed.{Computed}
use Rattle.dcc_ops.specs.Computed.{computed_expr}
use Rattle.dcc_ops.specs.Registers.{register_place}
use Rattle.dcc_ops.specs.Expressions.{sum, difference}
use Rattle.dcc_ops.specs.Statements.{result_taking, sum_flags, difference_flags, alu_working}
use Rattle.dcc_ops.specs.Temporaries.{left_place, right_place, returned_place}
use Rattle.dcc_ops.specs.OperandPlace.{OperandPlace, constant, byte, word, memory, address, computed, place_value}
use Rattle.dcc_ops.specs.OperandPlace.{taking}
use Rattle.dcc_ops.specs.OperandPlace.{storing}
use Rattle.dcc_simulation.specs.Operands.{from_frame, stack_pointer, address_of, memory_place, operand_place, first_place}
use Rattle.dcc_simulation.specs.Operands.{second_place}
use Rattle.dcc_simulation.specs.Procedures.{Procedure, procedure_at, frame_place, distance_of, given_back}
use Rattle.dcc_simulation.specs.Statements.{argument_offset, argument_value, arguments_of, taking_back, taking_all_back}
use Rattle.dcc_simulation.specs.Statements.{calling, moves_frame, working_stmts, node_stmts}
use Rattle.dcc_simulation.proofs.FoundOperands.{register-named}
use Rattle.dcc_simulation.proofs.TabledOperands.{IsRegister, HavePlaces}
use Rattle.dcc_pipe.proofs.OperationAddresses.{passes, stmt_passes, all_pass, stmt_told, all_told, pass-told, place_passes, appended, stored, mov_passes, op_passes}
use Rattle.dcc_pipe.proofs.FrameAddresses.{computed-passes, computed-halves, frame-passes, start-passes}

both : (a b : Bool) → a ≡ true → b ≡ true → (a && b) ≡ true
both true b e f = f
both false b e f = e

-- Forms.

four-none : (p q r s : Bool) → (p || q || r || s) ≡ false → (p ≡ false) × (q ≡ false) × (r ≡ false) × (s ≡ false)
four-none true q r s e = absurd (true≢false e)
four-none false true r s e = absurd (true≢false e)
four-none false false true s e = absurd (true≢false e)
four-none false false false true e = absurd (true≢false e)
four-none false false false false e = (refl, refl, refl, refl)

-- an operation that moves neither SP nor the frame names neither SP nor BP, or copies BP
named-or-copied : (image : Image) (layout : Layout) (entry at : ℕ) (op : Op) → is_sp_move op ≡ false → moves_frame op ≡ false
    → FormOf image layout entry at op → (names_sp_or_bp op ≡ false) ⊎ (copies_bp op ≡ true)
named-or-copied image layout entry at op still stays (moves is) = absurd (true≢false (sym is ∙ still))
named-or-copied image layout entry at op still stays (unnamed none uses) = inl none
named-or-copied image layout entry at op still stays (leaves framed is) =
    absurd (true≢false (sym is ∙ (four-none (is_push_bp op) (is_mov_bp_sp op) (is_enter op) (leaves_frame op) stays).3))
named-or-copied image layout entry at op still stays (copies framed is) = inr is
named-or-copied image layout entry at op still stays (saves framed is here) =
    absurd (true≢false (sym is ∙ (four-none (is_push_bp op) (is_mov_bp_sp op) (is_enter op) (leaves_frame op) stays).0))
named-or-copied image layout entry at op still stays (points framed is here) =
    absurd (true≢false (sym is ∙ (four-none (is_push_bp op) (is_mov_bp_sp op) (is_enter op) (leaves_frame op) stays).1))
named-or-copied image layout entry at op still stays (enters framed is here) =
    absurd (true≢false (sym is ∙ (four-none (is_push_bp op) (is_mov_bp_sp op) (is_enter op) (leaves_frame op) stays).2))

-- The memory of two operands.

first-memory : (a b : Operand) {w : Width} {ea : Ea} → memory_of a ≡ Some (w, ea) → memory_of_two a b ≡ Some (w, ea)
first-memory (Mem v other) b is = is
first-memory (Word r) b is = cc
first-memory (Byte r half) b is = cc
first-memory (Seg number) b is = cc
first-memory (Constant v number) b is = cc

second-memory : (a b : Operand) {w : Width} {ea : Ea} → (is_memory a && is_memory b) ≡ false
    → memory_of b ≡ Some (w, ea) → memory_of_two a b ≡ Some (w, ea)
second-memory (Mem v other) (Mem w ea) one is = absurd (true≢false one)
second-memory (Mem v other) (Word r) one is = cc
second-memory (Mem v other) (Byte r half) one is = cc
second-memory (Mem v other) (Seg number) one is = cc
second-memory (Mem v other) (Constant w number) one is = cc
second-memory (Word r) b one is = is
second-memory (Byte r half) b one is = is
second-memory (Seg number) b one is = is
second-memory (Constant v number) b one is = is

-- Effective addresses.

abbrev sum_in_frame : Ea → Computed
sum_in_frame ea = record { frame = Some (distance_of (offset_in_frame ea)); base = None; index = ea.index; number = 0 }

abbrev sum_of_registers : Ea → Computed
sum_of_registers ea = record { frame = None; base = ea.base; index = ea.index; number = ea.disp }

-- `mov r,bp`
record IsCopy (op : Op) : Type 0 where
  to : Reg
  general : is_general to ≡ true
  same : op ≡ Mov (Word to) (Word Bp)

copy-is : (op : Op) → copies_bp op ≡ true → IsCopy op
copy-is (Mov (Word r) (Word Bp)) is = record { to = r; general = is; same = refl }
copy-is op is = cc

-- A move of SP sets a temporary to SP's address, from which it makes a result and flags.

module _ (test : ℕ → Bool) (q : Procedure) (height : ℕ) (cpu : Cpu) (procedures : List Procedure) (number : Option ℕ) where
  pointer-sum : is_frame_sum (computed_expr (stack_pointer q height)) ≡ true
  pointer-sum = by (distance_of (pos 0)) (stack_pointer q height).number ((stack_pointer q height).number == 0)
    where
      by : (distance n : ℕ) (none : Bool)
          → is_frame_sum (if none then Address distance else Binary AddOp 16 (Address distance) (Const 16 n)) ≡ true
      by distance n true = refl
      by distance n false = refl

  pointer-taken : (rest : List Stmt) → all_told test true rest ≡ true
      → all_told test true (Set (left_place word_width) (computed_expr (stack_pointer q height)) ∷ rest) ≡ true
  pointer-taken rest is =
      let stmt = Set (left_place word_width) (computed_expr (stack_pointer q height)) in
      both (stmt_told test true stmt) (all_told test true rest) (or_right (stmt_passes test stmt) _ pointer-sum) is

  move-told : (op : Op) → is_sp_move op ≡ true
      → all_told test true (if moves_frame op then [] else working_stmts cpu procedures q height op number) ≡ true
  move-told (Alu Add (Word Sp) (Constant w n)) is =
      pointer-taken (taking (right_place word_width) (constant w n) ∷ (alu_working Add word_width ++ [])) refl
  move-told (Alu Sub (Word Sp) (Constant w n)) is =
      pointer-taken (taking (right_place word_width) (constant w n) ∷ (alu_working Sub word_width ++ [])) refl
  move-told (Unary Inc (Word Sp)) is =
      pointer-taken (taking (right_place word_width) (constant word_width 1)
      ∷ ((result_taking word_width (sum word_width) ++ sum_flags word_width) ++ [])) refl
  move-told (Unary Dec (Word Sp)) is =
      pointer-taken (taking (right_place word_width) (constant word_width 1)
      ∷ ((result_taking word_width (difference word_width) ++ difference_flags word_width) ++ [])) refl
  move-told op is = absurd (true≢false (sym is))

module _ (image : Image) (program : Analysed) (entry : ℕ) (q : Procedure) (f : IsFrameFor image program entry q.frame)
    (none : q.frame.exposed.local ≡ 0) (few : q.frame.args ≤ 32) (test : ℕ → Bool)
    (tested : (n : ℕ) → n < q.frame.args → exposes_of q.frame (argument_word n) ≡ true → (d : ℕ) → 2 * n ≤ d
    → d < 32768 → test d ≡ true) where
  framed : (w : Width) (k : ℤ) → place_passes test (frame_place q w k) ≡ true
  framed w k = frame-passes image program entry q f none few test tested w k

  value-passes : (p : OperandPlace) → place_passes test p ≡ true → passes test (place_value p) ≡ true
  value-passes (constant w n) is = refl
  value-passes (byte location) is = refl
  value-passes (word low high) is = refl
  value-passes (memory w at) is = is
  value-passes (address distance) is = is
  value-passes (computed e) is = is

  -- Calls.

  arguments-pass : (height a n : ℕ)
      → list_all (passes test) (map (argument_value q height) (range_with_len a n)) ≡ true
  arguments-pass height a zero = refl
  arguments-pass height a (suc n) =
      both (passes test (argument_value q height a)) _
      (value-passes (frame_place q word_width (argument_offset height a)) (framed word_width (argument_offset height a)))
      (arguments-pass height (a + 1) n)

  back-passes : (height index : ℕ) (numbers : List ℕ) → all_pass test (taking_all_back q height index numbers) ≡ true
  back-passes height index [] = refl
  back-passes height index (number ∷ numbers) =
      let low = argument_offset height number in
      let high = argument_offset height number +ℤ pos 1 in
      appended test (taking_back q height index number) (taking_all_back q height (suc index) numbers)
      (appended test (storing (frame_place q byte_width low) (Get (returned_place (2 * index))))
      (storing (frame_place q byte_width high) (Get (returned_place (2 * index + 1))))
      (stored test (frame_place q byte_width low) (Get (returned_place (2 * index))) (framed byte_width low) refl)
      (stored test (frame_place q byte_width high) (Get (returned_place (2 * index + 1))) (framed byte_width high) refl))
      (back-passes height (suc index) numbers)

  calling-passes : (height : ℕ) (callee : Option Procedure) → all_pass test (calling q height callee) ≡ true
  calling-passes height None = refl
  calling-passes height (Some callee) =
      both (list_all (passes test) (arguments_of q height callee)) _
      (list_all-append (passes test) (map (argument_value q height) (range_with_len 0 callee.frame.args)) (map Get passed)
      ∙ both _ (list_all (passes test) (map Get passed)) (arguments-pass height 0 callee.frame.args) refl)
      (back-passes height 0 (given_back callee))

  -- An instruction.

  module _ (at height : ℕ) (before : List ℕ) (file : IsProgramOfFile program.layout.cpu image program)
      (here : IsAt image program.layout entry at before (pos height)) (op : Op)
      (stands : StandsAt image program.layout at op) where
    address-passes : (ea : Ea) → (is_bp ea.base ≡ true → test (distance_of (offset_in_frame ea)) ≡ true)
        → passes test (computed_expr (address_of ea)) ≡ true
    address-passes ea told = by (is_bp ea.base) refl
      where
        by : (b : Bool) → is_bp ea.base ≡ b
            → passes test (computed_expr (if b then sum_in_frame ea else sum_of_registers ea)) ≡ true
        by true is =
            computed-passes test (sum_in_frame ea)
            (both (test (distance_of (offset_in_frame ea)) && true) true
            (both (test (distance_of (offset_in_frame ea))) true (told is) refl) refl)
        by false is = computed-passes test (sum_of_registers ea) refl

    started : (k : ℤ) → StartsExposure image program.layout entry at k → test (distance_of k) ≡ true
    started k starts = start-passes image program entry q f none few test tested at height before file here k starts

    memory-passes : (w : Width) (ea : Ea) → memory_operand op ≡ Some (w, ea) → place_passes test (memory_place q w ea) ≡ true
    memory-passes w ea operand = by (is_direct ea) refl
      where
        by : (b : Bool) → is_direct ea ≡ b → place_passes test (
            if b then frame_place q w (offset_in_frame ea) else memory w (computed_expr (address_of ea))) ≡ true
        by true is = framed w (offset_in_frame ea)
        by false indirect =
            let e = computed_expr (address_of ea) in
            both (list_all test (addresses_of e)) (reads_halves e)
            (and_parts (list_all test (addresses_of e)) (loads_by_halves e)
            (address-passes ea (λ base. started (offset_in_frame ea)
            (by_index stands operand (ap (λ b. b || is_bp ea.index) base) indirect)))).0
            (computed-halves (address_of ea))

    operand-passes : (a : Operand) → is_sp_or_bp a ≡ false
        → ((w : Width) (ea : Ea) → memory_of a ≡ Some (w, ea) → memory_operand op ≡ Some (w, ea))
        → place_passes test (operand_place q height a) ≡ true
    operand-passes (Word Sp) other named = absurd (true≢false other)
    operand-passes (Word Bp) other named = absurd (true≢false other)
    operand-passes (Word r) other named = refl
    operand-passes (Byte r half) other named = refl
    operand-passes (Seg number) other named = refl
    operand-passes (Mem w ea) other named = memory-passes w ea (named w ea refl)
    operand-passes (Constant w n) other named = refl

    -- the first place of an operation that names neither SP nor BP passes
    first-passes : names_sp_or_bp op ≡ false → HavePlaces op → (o : Op) → op ≡ o
        → place_passes test (first_place q height o) ≡ true
    first-passes other have (Alu operation a b) same =
        operand-passes a (or_parts (is_sp_or_bp a) (is_sp_or_bp b) (sym (ap names_sp_or_bp same) ∙ other)).0
        (λ w ea is. ap memory_operand same ∙ first-memory a b is)
    first-passes other have (Unary operation a) same =
        operand-passes a (sym (ap names_sp_or_bp same) ∙ other) (λ w ea is. ap memory_operand same ∙ is)
    first-passes other have (Shift operation a count) same =
        operand-passes a (sym (ap names_sp_or_bp same) ∙ other) (λ w ea is. ap memory_operand same ∙ is)
    first-passes other have (Mov to from) same =
        operand-passes to (or_parts (is_sp_or_bp to) (is_sp_or_bp from) (sym (ap names_sp_or_bp same) ∙ other)).0
        (λ w ea is. ap memory_operand same ∙ first-memory to from is)
    first-passes other have (Xchg a b) same =
        operand-passes a (or_parts (is_sp_or_bp a) (is_sp_or_bp b) (sym (ap names_sp_or_bp same) ∙ other)).0
        (λ w ea is. ap memory_operand same ∙ first-memory a b is)
    first-passes other have (Imul3 r a factor) same =
        operand-passes a (or_parts (is_sp_or_bp (Word r)) (is_sp_or_bp a) (sym (ap names_sp_or_bp same) ∙ other)).1
        (λ w ea is. ap memory_operand same ∙ is)
    first-passes other have o same = refl

    register-passes : (a : Operand) → is_sp_or_bp a ≡ false → IsRegister a → place_passes test (operand_place q height a) ≡ true
    register-passes (Word Sp) other is = absurd (true≢false other)
    register-passes (Word Bp) other is = absurd (true≢false other)
    register-passes (Word r) other is = refl
    register-passes (Byte r half) other is = refl
    register-passes (Seg number) other is = absurd is
    register-passes (Mem w ea) other is = absurd is
    register-passes (Constant w n) other is = absurd is

    second-passes : names_sp_or_bp op ≡ false → (o : Op) → HavePlaces o → op ≡ o
        → place_passes test (second_place q height o) ≡ true
    second-passes other (Alu operation a b) have same =
        operand-passes b (or_parts (is_sp_or_bp a) (is_sp_or_bp b) (sym (ap names_sp_or_bp same) ∙ other)).1
        (λ w ea is. ap memory_operand same ∙ second-memory a b have.one is)
    second-passes other (Mov to from) have same =
        operand-passes from (or_parts (is_sp_or_bp to) (is_sp_or_bp from) (sym (ap names_sp_or_bp same) ∙ other)).1
        (λ w ea is. ap memory_operand same ∙ second-memory to from have.one is)
    second-passes other (Xchg a b) have same =
        register-passes b (or_parts (is_sp_or_bp a) (is_sp_or_bp b) (sym (ap names_sp_or_bp same) ∙ other)).1 have.register
    second-passes other o have same = refl

    lea-passes : (r : Reg) (ea : Ea) → op ≡ Lea r ea → names_sp_or_bp op ≡ false
        → passes test (computed_expr (address_of ea)) ≡ true
    lea-passes r ea same other =
        address-passes ea (λ base. started (offset_in_frame ea)
        (by_lea (stands.0, stands.1, stands.2 ∙ same)
        (λ sp. true≢false (sym (ap (λ r. is_sp_or_bp (Word r)) sp) ∙ sym (ap names_sp_or_bp same) ∙ other))
        (ap (λ b. b || is_bp ea.index) base)))

    working-passes : (cpu : Cpu) (procedures : List Procedure) (number : Option ℕ) → names_sp_or_bp op ≡ false
        → HavePlaces op → (o : Op) → op ≡ o → all_pass test (working_stmts cpu procedures q height o number) ≡ true
    working-passes cpu procedures number other have (Push a) same =
        mov_passes test word_width _ (operand_place q height a) (framed word_width _)
        (operand-passes a (sym (ap names_sp_or_bp same) ∙ other) (λ w ea is. ap memory_operand same ∙ is))
    working-passes cpu procedures number other have (Pop a) same =
        mov_passes test word_width (operand_place q height a) _
        (operand-passes a (sym (ap names_sp_or_bp same) ∙ other) (λ w ea is. ap memory_operand same ∙ is))
        (framed word_width _)
    working-passes cpu procedures number other have (Lea r ea) same =
        mov_passes test word_width (register_place (Word r)) (computed (computed_expr (address_of ea))) refl
        (lea-passes r ea same other)
    working-passes cpu procedures number other have (CallOp target) same =
        calling-passes height (procedure_at procedures target)
    working-passes cpu procedures number other have o same =
        op_passes test cpu o number (first_place q height o) (second_place q height o) (first-passes other have o same)
        (second-passes other o (subst HavePlaces same have) same)

    -- `mov r,bp` takes the address of all local bytes; there are none, so it doesn't stand there
    copied-passes : (cpu : Cpu) (procedures : List Procedure) (number : Option ℕ) → copies_bp op ≡ true
        → all_pass test (working_stmts cpu procedures q height op number) ≡ true
    copied-passes cpu procedures number copied =
        let is = copy-is op copied in
        subst (λ o. all_pass test (working_stmts cpu procedures q height o number) ≡ true) (sym is.same)
        (op_passes test cpu (Mov (Word is.to) (Word Bp)) number (operand_place q height (Word is.to))
        (operand_place q height (Word Bp))
        (ap (place_passes test) (sym (register-named q height is.to is.general)))
        (computed-passes test (from_frame (pos 2 -ℤ pos height) (pos height -ℤ pos 2))
        (both (test (distance_of (pos 2 -ℤ pos height)) && true) true
        (both (test (distance_of (pos 2 -ℤ pos height))) true (started (pos 2 -ℤ pos height)
        (by_copy stands copied (has-height program.layout.cpu image program file entry at before (pos height) here))) refl) refl)))

    still-passes : (cpu : Cpu) (procedures : List Procedure) (node : Node) → node.instr.op ≡ op → is_sp_move op ≡ false
        → HavePlaces op → all_pass test (node_stmts cpu procedures q height node) ≡ true
    still-passes cpu procedures node same still have =
        subst (λ o. all_pass test (if moves_frame o then [] else working_stmts cpu procedures q height o node.number) ≡ true)
        (sym same) (by (moves_frame op) refl)
      where
        by : (b : Bool) → moves_frame op ≡ b
            → all_pass test (if b then [] else working_stmts cpu procedures q height op node.number) ≡ true
        by true is = refl
        by false stays = elim (named-or-copied image program.layout entry at op still stays
            (form-there program.layout.cpu image program file entry at before (pos height) here op stands)) [
              | inl other ↦ working-passes cpu procedures node.number other have op refl
              | inr copied ↦ copied-passes cpu procedures node.number copied
            ]

    -- Where sums of the frame may be set if it moves SP: a move of SP sets one to SP's address.
    pub op-told : (sums : Bool) (cpu : Cpu) (procedures : List Procedure) (node : Node) → node.instr.op ≡ op
        → (is_sp_move op ≡ true → sums ≡ true) → HavePlaces op
        → all_told test sums (node_stmts cpu procedures q height node) ≡ true
    op-told sums cpu procedures node same where_moves have = by (is_sp_move op) refl
      where
        by : (b : Bool) → is_sp_move op ≡ b → all_told test sums (node_stmts cpu procedures q height node) ≡ true
        by true moved =
            subst (λ sums. all_told test sums (node_stmts cpu procedures q height node) ≡ true) (sym (where_moves moved))
            (subst (λ o. all_told test true (if moves_frame o then [] else working_stmts cpu procedures q height o node.number) ≡ true)
            (sym same) (move-told test q height cpu procedures node.number op moved))
        by false still =
            pass-told test sums (node_stmts cpu procedures q height node) (still-passes cpu procedures node same still have)
