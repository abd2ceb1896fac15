-- The statements of an instruction that takes operands from their places and puts its result there lead to the next one.
use Rattle.std.proofs.Common.{◌≡◌, ◌⊎◌, inl, inr, ℕ, ◌+◌, Bool, true, false, true≢false, not, ◌||◌, List, [], Option, Some, None, refl, sym, ap, ◌∙◌, subst}
use Rattle.std.specs.Prelude.{if◌then◌else◌}
use Rattle.std.proofs.lemmas.Bool.{and_parts, and_from}
use Rattle.dcc_num.specs.declared.Half.{Half as HalfName}
use Rattle.dcc_num.specs.declared.Half.TheVariants.{Low, High}
use Rattle.dcc_num.specs.declared.Reg.{Reg}
use Rattle.dcc_num.specs.declared.Reg.TheVariants.{Sp, Bp}
use Rattle.dcc_machine.specs.declared.cpu.Cpu.{Cpu}
use Rattle.dcc_machine.specs.declared.image.Image.{Image}
use Rattle.dcc_prog.specs.declared.procedure.Layout.{Layout}
use Rattle.dcc_prog.specs.declared.procedure.Node.{Node}
use Rattle.dcc_machine.specs.declared.instr.Operand.{Operand}
use Rattle.dcc_machine.specs.declared.instr.Operand.TheVariants.{Word, Byte, Seg, Mem, Const}
use Rattle.dcc_machine.specs.declared.instr.Op.{Op}
use Rattle.dcc_machine.specs.declared.instr.Op.TheVariants.{Alu, Unary, Shift, Mov, Xchg, Lea, Imul3, Push, Pop, Plain, Jump, Branch, Loop, LoopE, LoopNe, Jcxz, Call, Ret}
use Rattle.dcc_machine.specs.declared.instr.Instr.{Instr}
use Rattle.dcc_machine.specs.Machine.{State as Machine, is_general}
use Rattle.dcc_machine.specs.Step.{op_step, step}
use Rattle.dcc_machine.specs.WellFormed.{IsOperation}
use Rattle.dcc_machine.specs.StateForm.{IsState}
use Rattle.dcc_machine.specs.Successors.{next_of}
use Rattle.dcc_prog.specs.Trail.{StandsAt}
use Rattle.dcc_machine.specs.Operations.{is_division}
use Rattle.dcc_machine.specs.Writes.{writes_operand, writes_half}
use Rattle.dcc_machine.specs.SpAndBp.{is_push_bp, is_mov_bp_sp, is_enter, is_sp_or_bp, names_sp_or_bp, is_sp_move}
use Rattle.dcc_machine.specs.SpAndBp.{leaves_frame, copies_bp}
use Rattle.dcc_machine.specs.Access.{Writing, writes_back, found_accesses}
use Rattle.dcc_prog.specs.Frame.{by_copy}
use Rattle.dcc_prog.specs.Clean.{Stack, top_in, with_marks, stack_bytes, stored_bytes}
use Rattle.dcc_prog.specs.CleanLaws.{moves_frames}
use Rattle.dcc_machine.proofs.LocationKept.{or-none, op-half}
use Rattle.dcc_prog.proofs.SpLaws.{by_halves}
use Rattle.dcc_stack.specs.Slots.{is_memory, writes_memory}
use Rattle.dcc_stack.proofs.FormOps.{FormOf, is_stack_op, unnamed-still, copied-still}
use Rattle.dcc_stack.proofs.TableSteps.{IsStepOf}
use Rattle.dcc_ir.specs.Run.{State, execute}
use Rattle.dcc_ops.specs.Registers.{is_register, register_place}
use Rattle.dcc_ops.specs.Coupling.{Relation, Follows, IsWritten, IsWrittenIf}
use Rattle.dcc_ops.specs.Performed.{is_xlat, Stands}
use Rattle.dcc_ops.specs.Statements.{op_stmts}
use Rattle.dcc_simulation.specs.Coupled.{Setting}
use Rattle.dcc_simulation.specs.Laws.{IsCleanInstruction, Within}
use Rattle.dcc_simulation.specs.Procedures.{Procedure}
use Rattle.dcc_simulation.specs.Operands.{operand_place, first_place, second_place}
use Rattle.dcc_simulation.specs.Statements.{moves_frame, working_stmts, node_stmts}
use Rattle.dcc_simulation.specs.Nodes.{procedures_in, IsNodeHere, StepAgrees, agree}
use Rattle.dcc_simulation.specs.FoundPlaces.{IsFoundAt}
use Rattle.dcc_simulation.specs.Operation.{is_performed, is_plain_operation, OperationNodesAgree}
use Rattle.dcc_simulation.proofs.OperandBytes.{there}
use Rattle.dcc_simulation.proofs.NodesHere.{at-height, found-at, form-here, placed-here, taken-here, state-here}
use Rattle.dcc_simulation.proofs.OperationsAgree.{operations-agree}
use Rattle.dcc_simulation.proofs.TabledOperands.{IsRegister, IsTarget, HavePlaces, source-of}
use Rattle.dcc_simulation.proofs.FoundOperands.{IsOperandIn, general-of, half-general, register-named, operand-read}
use Rattle.dcc_simulation.proofs.FoundOperands.{operand-sound, operand-written, bp-read}
use Rattle.dcc_simulation.proofs.OperandAccesses.{alu-first, alu-second, alu-written, unary-read, unary-written}
use Rattle.dcc_simulation.proofs.OperandAccesses.{shift-read, shift-written, mov-read, mov-written, xchg-read}
use Rattle.dcc_simulation.proofs.OperandAccesses.{xchg-written, imul-read, written_if, written_operand, accesses_to}
use Rattle.dcc_simulation.proofs.OperandAccesses.{stores-are, back-same}

-- Forms.

-- the operation names neither SP nor BP, or copies BP
abbrev NamesNeither : Op → Type 0
NamesNeither op = (names_sp_or_bp op ≡ false) ⊎ (copies_bp op ≡ true)

all-false : (a b c d : Bool) → (a || b || c || d) ≡ false
    → (a ≡ false) × (b ≡ false) × (c ≡ false) × (d ≡ false)
all-false false false false false none = (refl, refl, refl, refl)
all-false true b c d none = cc
all-false false true c d none = cc
all-false false false true d none = cc
all-false false false false true none = cc

not-true : (b : Bool) → not b ≡ true → b ≡ false
not-true true so = cc
not-true false so = refl

record LeavesPointers (op : Op) : Type 0 where
  performed : is_performed op ≡ true
  no_move : is_sp_move op ≡ false
  no_frame : moves_frame op ≡ false

leaves-pointers : (op : Op) → is_plain_operation op ≡ true → LeavesPointers op
leaves-pointers op plain =
    let both = and_parts (is_performed op) (not (is_sp_move op || moves_frame op)) plain in
    let none = or-none (is_sp_move op) (moves_frame op) (not-true (is_sp_move op || moves_frame op) both.1) in
    record { performed = both.0; no_move = none.0; no_frame = none.1 }

pub neither : (image : Image) (layout : Layout) (entry at : ℕ) (op : Op) → is_sp_move op ≡ false
    → moves_frame op ≡ false → FormOf image layout entry at op
    → (names_sp_or_bp op ≡ false) ⊎ (copies_bp op ≡ true)
neither image layout entry at op no_move no_frame form = by form
  where
    none : (is_push_bp op ≡ false) × (is_mov_bp_sp op ≡ false) × (is_enter op ≡ false) × (leaves_frame op ≡ false)
    none = all-false (is_push_bp op) (is_mov_bp_sp op) (is_enter op) (leaves_frame op) no_frame

    by : FormOf image layout entry at op → NamesNeither op
    by (FormOf.moves so) = absurd (true≢false (sym so ∙ no_move))
    by (FormOf.unnamed so uses) = inl so
    by (FormOf.leaves framed so) = absurd (true≢false (sym so ∙ none.3))
    by (FormOf.copies framed so) = inr so
    by (FormOf.saves framed so at_entry) = absurd (true≢false (sym so ∙ none.0))
    by (FormOf.points begins so second) = absurd (true≢false (sym so ∙ none.1))
    by (FormOf.enters framed so at_entry) = absurd (true≢false (sym so ∙ none.2))

-- where the operation copies nothing
pub only : {b : Bool} → (b ≡ false) ⊎ (false ≡ true) → b ≡ false
only (inl none) = none
only (inr so) = absurd (true≢false (sym so))

no-stack : (op : Op) → is_performed op ≡ true → is_stack_op op ≡ false
no-stack (Push a) so = cc
no-stack (Pop a) so = cc
no-stack (Call target) so = cc
no-stack (Ret count) so = cc
no-stack op so = refl

register-told : (p : Procedure) (height : ℕ) (x : Operand) → IsRegister x → is_sp_or_bp x ≡ false
    → (is_register x ≡ true) × (operand_place p height x ≡ register_place x)
register-told p height (Word r) is other =
    (general-of r other, sym (register-named p height r (general-of r other)))
register-told p height (Byte r half) is other = (half-general r half other, refl)
register-told p height (Seg number) is other = absurd is
register-told p height (Mem w ea) is other = absurd is
register-told p height (Const w number) is other = absurd is

-- Statements.

working-same : (cpu : Cpu) (procedures : List Procedure) (p : Procedure) (height : ℕ) (op : Op) (number : Option ℕ)
    → is_performed op ≡ true
    → working_stmts cpu procedures p height op number
    ≡ op_stmts cpu op number (first_place p height op) (second_place p height op)
working-same cpu procedures p height (Push a) number so = cc
working-same cpu procedures p height (Pop a) number so = cc
working-same cpu procedures p height (Lea r ea) number so = cc
working-same cpu procedures p height (Call target) number so = cc
working-same cpu procedures p height op number so = refl

stmts-same : (cpu : Cpu) (procedures : List Procedure) (p : Procedure) (height : ℕ) (node : Node) (instr : Instr)
    → node.instr ≡ instr → LeavesPointers instr.op
    → node_stmts cpu procedures p height node
    ≡ op_stmts cpu instr.op node.number (first_place p height instr.op) (second_place p height instr.op)
stmts-same cpu procedures p height node instr same is =
    ap (λ (i : Instr).
    if moves_frame i.op then [] else working_stmts cpu procedures p height i.op node.number) same
    ∙ ap (λ b. if b then [] else working_stmts cpu procedures p height instr.op node.number) is.no_frame
    ∙ working-same cpu procedures p height instr.op node.number is.performed

-- One instruction.

module _ (e : Setting) (s : Machine) (stack : Stack) (instr : Instr) (t : State) (p : Procedure) (node : Node)
    (height : ℕ) (is : IsCleanInstruction e s stack instr) (node-here : IsNodeHere e s stack instr is p node height)
    (plain : is_plain_operation instr.op ≡ true) (before : Within is stack.written s t) where
  open e.program use {layout}
  open is.stands use {newest as a}

  abbrev here : Machine
  here = record s { ip = next_of s.ip instr }

  abbrev R : Relation
  R = Within is stack.written

  abbrev marks : List Bool
  marks = with_marks true (stored_bytes layout (found_accesses (Some instr) s)) stack.written

  abbrev After : Relation
  After = Within is marks

  abbrev at : IsFoundAt e a.frame.entry p
  at = found-at e s stack instr p node height is node-here

  leaves : LeavesPointers instr.op
  leaves = leaves-pointers instr.op plain

  named : NamesNeither instr.op
  named =
      neither e.image layout a.frame.entry a.at instr.op leaves.no_move leaves.no_frame
      (form-here e s stack instr p node height is node-here)

  placed : HavePlaces instr.op
  placed = placed-here e s stack instr p node height is node-here

  taken : IsStepOf e.image layout is.of_file.loaded s.ip instr s
  taken = taken-here e s stack instr p node height is node-here before.goes

  -- What is written.

  marks-are : marks
      ≡ with_marks true (stack_bytes layout (accesses_to (written_operand instr.op) here)) stack.written
  marks-are =
      ap (λ l. with_marks true (stack_bytes layout l) stack.written)
      (stores-are instr.op here leaves.performed placed)

  module _ (op : Op) (is-op : instr.op ≡ op) where
    -- an operand of the operation is one of the instruction
    of : {x : Operand} {direction : _} → IsOperandIn op here direction x → IsOperandIn instr.op here direction x
    of {x} {direction} one = subst (λ o. IsOperandIn o here direction x) (sym is-op) one

    abbrev WritesTo : Option Operand → Type 0
    WritesTo target = marks ≡ with_marks true (stack_bytes layout (accesses_to target here)) stack.written

    writes-to : WritesTo (written_operand op)
    writes-to =
        marks-are
        ∙ ap (λ o. with_marks true (stack_bytes layout (accesses_to (written_operand o) here)) stack.written) is-op

    memory-written : writes_memory op ≡ true → writes_memory instr.op ≡ true
    memory-written so = ap writes_memory is-op ∙ so

    -- where nothing is stored, what holds goes on to hold
    follows : WritesTo None → Follows R After
    follows none u v c = subst (λ m. Within is m u v) (sym none) c

    -- an operand is written where the operation writes it
    put : (x : Operand) → WritesTo (Some x) → IsTarget x → is_sp_or_bp x ≡ false
        → (is_memory x ≡ true → writes_memory op ≡ true) → IsOperandIn op here Writing x
        → IsWritten R After here x (operand_place p height x)
    put x to target other writes one =
        subst (λ m. IsWritten R (Within is m) here x (operand_place p height x)) (sym to)
        (operand-written e s stack instr is p at height x target other (λ m. memory-written (writes m)) (of one))

    put-if : (so : Bool) (x : Operand) → WritesTo (written_if so x) → IsTarget x → is_sp_or_bp x ≡ false
        → (so ≡ true → is_memory x ≡ true → writes_memory op ≡ true)
        → (so ≡ true → IsOperandIn op here Writing x)
        → IsWrittenIf so R After here x (operand_place p height x)
    put-if true x to target other writes one = put x to target other (writes refl) (one refl)
    put-if false x to target other writes one = follows to

  -- a copy of BP
  copied : (to from : Operand) → instr.op ≡ Mov to from → HavePlaces (Mov to from) → copies_bp (Mov to from) ≡ true
      → Stands R After here (Mov to from) (operand_place p height to) (operand_place p height from)
  copied (Word r) (Word Bp) is-op pair general = (
    bp-read e s stack instr is p at height (by_copy (subst (StandsAt e.image layout a.at) is-op
        (there e s stack instr is)) general
        (at-height e s stack instr p node height is node-here)),
    refl,
    put (Mov (Word r) (Word Bp)) is-op (Word r) (writes-to (Mov (Word r) (Word Bp)) is-op) tt (not-pointer r general)
        (λ memory. cc) (mov-written here (Word r) (Word Bp)),
  )
    where
      not-pointer : (q : Reg) → is_general q ≡ true → is_sp_or_bp (Word q) ≡ false
      not-pointer Sp so = absurd (true≢false (sym so))
      not-pointer Bp so = absurd (true≢false (sym so))
      not-pointer q so = refl
  copied to from is-op pair other = absurd (true≢false (sym other))

  stands-by : (op : Op) → instr.op ≡ op → is_performed op ≡ true → HavePlaces op → IsOperation op → NamesNeither op
      → Stands R After here op (first_place p height op) (second_place p height op)
  stands-by (Alu operation x y) is-op so pair good names =
      let op = Alu operation x y in
      let none = or-none (is_sp_or_bp x) (is_sp_or_bp y) (only names) in (
        operand-read e s stack instr is p at height x (source-of x pair.target) good.first none.0
            (of op is-op (alu-first here operation x y)),
        operand-read e s stack instr is p at height y pair.source good.second none.1
            (of op is-op (alu-second here operation x y pair.one)),
        put-if op is-op (writes_operand operation) x (writes-to op is-op) pair.target none.0
            (λ writes memory. and_from (writes_operand operation) (is_memory x) writes memory)
            (λ writes. alu-written here operation x y writes),
      )
  stands-by (Unary operation x) is-op so target good names =
      let op = Unary operation x in
      let undivided = not-true (is_division operation) so in
      let back = back-same operation undivided in (
        undivided,
        operand-read e s stack instr is p at height x (source-of x target) good (only names)
            (of op is-op (unary-read here operation x)),
        subst (λ b. IsWrittenIf b R After here x (operand_place p height x)) back
            (put-if op is-op (writes_back operation) x (writes-to op is-op) target (only names)
            (λ writes memory. and_from (writes_back operation) (is_memory x) writes memory)
            (λ writes. unary-written here operation x writes)),
      )
  stands-by (Shift operation x count) is-op so target good names =
      let op = Shift operation x count in (
        operand-read e s stack instr is p at height x (source-of x target) good.operand (only names)
            (of op is-op (shift-read here operation x count)),
        put op is-op x (writes-to op is-op) target (only names) (λ memory. memory)
            (shift-written here operation x count),
      )
  stands-by (Mov to from) is-op so pair good (inr copies) = copied to from is-op pair copies
  stands-by (Mov to from) is-op so pair good (inl names) =
      let op = Mov to from in
      let none = or-none (is_sp_or_bp to) (is_sp_or_bp from) names in
      let reads = of op is-op (mov-read here to from pair.one) in (
        operand-read e s stack instr is p at height from pair.source good.second none.1 reads,
        operand-sound e s stack instr is p at height from pair.source none.1 reads,
        put op is-op to (writes-to op is-op) pair.target none.0 (λ memory. memory) (mov-written here to from),
      )
  stands-by (Xchg x y) is-op so pair good names =
      let op = Xchg x y in
      let none = or-none (is_sp_or_bp x) (is_sp_or_bp y) (only names) in
      let register = register-told p height y pair.register none.1 in (
        operand-read e s stack instr is p at height x (source-of x pair.target) good.first none.0
            (of op is-op (xchg-read here x y)),
        put op is-op x (writes-to op is-op) pair.target none.0 (λ memory. refl) (xchg-written here x y),
        register.0,
        register.1,
      )
  stands-by (Imul3 r x factor) is-op so target good names =
      let op = Imul3 r x factor in
      let none = or-none (is_sp_or_bp (Word r)) (is_sp_or_bp x) (only names) in (
        operand-read e s stack instr is p at height x (source-of x target) good.operand none.1
            (of op is-op (imul-read here r x factor)),
        general-of r none.0,
        follows op is-op (writes-to op is-op),
      )
  stands-by (Plain operation) is-op so _ good names =
      (not-true (is_xlat operation) so, follows (Plain operation) is-op (writes-to (Plain operation) is-op))
  stands-by (Jump target) is-op so _ good names = follows (Jump target) is-op (writes-to (Jump target) is-op)
  stands-by (Branch condition target) is-op so _ good names =
      follows (Branch condition target) is-op (writes-to (Branch condition target) is-op)
  stands-by (Loop target) is-op so _ good names = follows (Loop target) is-op (writes-to (Loop target) is-op)
  stands-by (LoopE target) is-op so _ good names = follows (LoopE target) is-op (writes-to (LoopE target) is-op)
  stands-by (LoopNe target) is-op so _ good names =
      follows (LoopNe target) is-op (writes-to (LoopNe target) is-op)
  stands-by (Jcxz target) is-op so _ good names = follows (Jcxz target) is-op (writes-to (Jcxz target) is-op)
  stands-by op is-op so _ good names = absurd (true≢false (sym so))

  -- SP

  after-ip : IsState here
  after-ip = state-here e s stack instr p node height is node-here

  still : (half : HalfName) → writes_half instr.op Sp half ≡ false
  still half = elim named [
    | inl none ↦ unnamed-still Sp half refl instr.op none (no-stack instr.op leaves.performed)
    | inr copies ↦ copied-still Sp half refl instr.op copies
  ]

  stays : top_in layout (step layout.cpu s) ≡ top_in layout s
  stays =
      ap (top_in layout) taken.is
      ∙ ap (λ n. n + layout.delta)
      (by_halves here (op_step layout.cpu instr.op s.ip here) Sp
      (op-half layout.cpu instr.op s.ip here Sp Low taken.good after-ip (still Low))
      (op-half layout.cpu instr.op s.ip here Sp High taken.good after-ip (still High)))

  no-frames : moves_frames instr.op ≡ false
  no-frames = by instr.op leaves.performed
    where
      by : (op : Op) → is_performed op ≡ true → moves_frames op ≡ false
      by (Call target) so = cc
      by (Ret count) so = cc
      by op so = refl

  pub operation-agrees : StepAgrees e s stack instr
      (execute (node_stmts e.cpu (procedures_in e.program) p height node) t)
  operation-agrees =
      subst (λ stmts. StepAgrees e s stack instr (execute stmts t))
      (ap (λ cpu. op_stmts cpu instr.op node.number (first_place p height instr.op) (second_place p height instr.op))
      is.of_file.is_program.runs_on
      ∙ sym (stmts-same e.cpu (procedures_in e.program) p height node instr node-here.instr_is leaves))
      (agree (operations-agree e s stack instr t node.number (first_place p height instr.op)
      (second_place p height instr.op) is no-frames stays
      (stands-by instr.op refl leaves.performed placed taken.good named) before))

pub operation-nodes : OperationNodesAgree
operation-nodes e s stack instr t p node height is node-here plain before =
    operation-agrees e s stack instr t p node height is node-here plain before
