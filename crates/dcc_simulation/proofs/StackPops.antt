-- POP of an operand other than SP and BP: its statements move the word of the frame at SP to the operand, before SP
-- rises.
use Rattle.std.proofs.Common.{◌≡◌, ◌≢◌, ◌<◌, ℕ, zero, suc, ◌+◌, ◌-◌, ◌%◌, ◌||◌, Bool, true, false, true≢false, List, [], ◌∷◌, Contains, Option, Some, None, refl, sym, ap, ap₂, ◌∙◌, subst, arith}
use Rattle.std.specs.Prelude.{pos, ◌-ℤ◌, slice_set}
use Rattle.std.specs.List.{range_with_len}
use Rattle.std.proofs.lemmas.List.Elements.{Contains-append_right}
use Rattle.std.proofs.Math.Nat.{mod-eq_of_lt}
use Rattle.dcc_num.specs.declared.Width.TheVariants.{Byte as byte_width, Word as word_width}
use Rattle.dcc_num.specs.declared.Reg.{Reg}
use Rattle.dcc_num.specs.declared.Reg.TheVariants.{Ax, Cx, Dx, Bx, Sp, Bp, Si, Di}
use Rattle.dcc_prog.specs.declared.procedure.Node.{Node}
use Rattle.dcc_machine.specs.declared.instr.Ea.{Ea}
use Rattle.dcc_machine.specs.declared.instr.Operand.{Operand}
use Rattle.dcc_machine.specs.declared.instr.Operand.TheVariants.{Word, Byte, Seg, Mem, Const}
use Rattle.dcc_machine.specs.declared.instr.Op.TheVariants.{Pop}
use Rattle.dcc_machine.specs.declared.instr.Instr.{Instr}
use Rattle.dcc_machine.specs.Machine.{State as Machine, word_in, with_word_in, is_bp, part_of, offset_of, segment_of, with_word_at_offset, with_operand, operand_width}
use Rattle.dcc_machine.specs.Operations.{with_sp_raised, top_word}
use Rattle.dcc_machine.specs.Step.{op_step, step}
use Rattle.dcc_machine.specs.WellFormed.{IsWordOperand, IsOperation}
use Rattle.dcc_machine.specs.Successors.{next_of}
use Rattle.dcc_prog.specs.Trail.{StandsAt}
use Rattle.dcc_machine.specs.SpAndBp.{is_sp_or_bp}
use Rattle.dcc_machine.specs.Access.{Reading, Writing, bytes_in, kind_of, operand_accesses, stack_access, accesses}
use Rattle.dcc_prog.specs.CleanLaws.{moves_frames}
use Rattle.dcc_prog.specs.Clean.{Stack, top_in, with_marks, stack_bytes, stored_bytes, stack_after}
use Rattle.dcc_machine.proofs.LocationKept.{word-other}
use Rattle.dcc_stack.specs.Slots.{writes_memory}
use Rattle.dcc_stack.proofs.TableSteps.{IsStepOf}
use Rattle.dcc_ir.specs.Run.{State, execute}
use Rattle.dcc_ops.specs.Statements.{mov_stmts}
use Rattle.dcc_ops.specs.Coupling.{Relation, IsRead, IsWritten}
use Rattle.dcc_ops.proofs.MovePerformed.{mov_performed}
use Rattle.dcc_simulation.specs.Coupled.{Setting, AreCoupled}
use Rattle.dcc_simulation.specs.Places.{IsFramePlace, is_plain, IsPlainAddress}
use Rattle.dcc_simulation.specs.Laws.{IsCleanInstruction, Within}
use Rattle.dcc_simulation.specs.Procedures.{Procedure}
use Rattle.dcc_simulation.specs.Operands.{operand_place}
use Rattle.dcc_simulation.specs.Statements.{top_place}
use Rattle.dcc_simulation.specs.Nodes.{IsNodeHere}
use Rattle.dcc_simulation.specs.FoundPlaces.{IsFoundAt}
use Rattle.dcc_simulation.proofs.Coupling.{coupled}
use Rattle.dcc_simulation.proofs.FoundOperands.{IsOperandIn, operand-written}
use Rattle.dcc_simulation.proofs.FoundPlaces.{popped-place}
use Rattle.dcc_simulation.proofs.NodesHere.{is-at, found-at, placed-here, taken-here}
use Rattle.dcc_simulation.proofs.OperandAccesses.{all-stores}
use Rattle.dcc_simulation.proofs.OperandBytes.{there}
use Rattle.dcc_simulation.proofs.PlacesRead.{frame-wide}
use Rattle.dcc_simulation.proofs.PlacesWritten.{frame-sound}
use Rattle.dcc_simulation.proofs.StepsAgree.{pointers-move, steps-agree}
use Rattle.dcc_simulation.proofs.TabledOperands.{IsTarget, HavePlaces}
use Rattle.dcc_simulation.proofs.TopWords.{top-read, top-small, top-wide}

-- SP apart from operands.

-- two elements are set, in either order
sets-swap : (xs : List ℕ) (i j v w : ℕ) → i ≢ j
    → slice_set (slice_set xs i v) j w ≡ slice_set (slice_set xs j w) i v
sets-swap [] i j v w apart = refl
sets-swap (x ∷ xs) zero zero v w apart = absurd (apart refl)
sets-swap (x ∷ xs) zero (suc j) v w apart = refl
sets-swap (x ∷ xs) (suc i) zero v w apart = refl
sets-swap (x ∷ xs) (suc i) (suc j) v w apart = ap (λ l. x ∷ l) (sets-swap xs i j v w (λ same. apart (ap suc same)))

register-swap : (u : Machine) (r : Reg) (n v : ℕ) → is_sp_or_bp (Word r) ≡ false
    → with_word_in (with_word_in u Sp n) r v ≡ with_word_in (with_word_in u r v) Sp n
register-swap u Ax n v other = ap (λ l. record u { regs = l }) (sets-swap u.regs 4 0 n v (λ same. omega (arith, same)))
register-swap u Cx n v other = ap (λ l. record u { regs = l }) (sets-swap u.regs 4 1 n v (λ same. omega (arith, same)))
register-swap u Dx n v other = ap (λ l. record u { regs = l }) (sets-swap u.regs 4 2 n v (λ same. omega (arith, same)))
register-swap u Bx n v other = ap (λ l. record u { regs = l }) (sets-swap u.regs 4 3 n v (λ same. omega (arith, same)))
register-swap u Sp n v other = absurd (true≢false other)
register-swap u Bp n v other = absurd (true≢false other)
register-swap u Si n v other = ap (λ l. record u { regs = l }) (sets-swap u.regs 4 6 n v (λ same. omega (arith, same)))
register-swap u Di n v other = ap (λ l. record u { regs = l }) (sets-swap u.regs 4 7 n v (λ same. omega (arith, same)))

-- an address has no part of SP
part-apart : (u : Machine) (n : ℕ) (part : Option Reg) → (is_bp part || is_plain part) ≡ true
    → part_of (with_word_in u Sp n) part ≡ part_of u part
part-apart u n None so = refl
part-apart u n (Some Sp) so = absurd (true≢false (sym so))
part-apart u n (Some r) so = word-other u Sp r n refl

plain-part : (part : Option Reg) → is_plain part ≡ true → (is_bp part || is_plain part) ≡ true
plain-part None so = refl
plain-part (Some Bp) so = refl
plain-part (Some r) so = so

offset-apart : (u : Machine) (n : ℕ) (ea : Ea) → IsPlainAddress ea → offset_of (with_word_in u Sp n) ea ≡ offset_of u ea
offset-apart u n ea plain =
    ap₂ (λ base index. (base + index + ea.disp) % 65536) (part-apart u n ea.base plain.base)
    (part-apart u n ea.index (plain-part ea.index plain.index))

-- an operand is the same wherever SP stands
accesses-apart : (u : Machine) (n : ℕ) (x : Operand) → IsTarget x
    → operand_accesses Writing x (with_word_in u Sp n) ≡ operand_accesses Writing x u
accesses-apart u n (Word r) target = refl
accesses-apart u n (Byte r half) target = refl
accesses-apart u n (Seg number) target = refl
accesses-apart u n (Mem w ea) target =
    ap (λ (offset : ℕ).
    (record {
      direction = Writing;
      kind = kind_of ea;
      segment = segment_of u ea;
      offset = offset;
      size = bytes_in w;
    })
    ∷ []) (offset-apart u n ea target.plain)
accesses-apart u n (Const w number) target = refl

-- a word operand takes a value before SP moves or after
operand-swap : (u : Machine) (n v : ℕ) (x : Operand) → IsTarget x → is_sp_or_bp x ≡ false
    → operand_width x ≡ word_width
    → with_operand (with_word_in u Sp n) x v ≡ with_word_in (with_operand u x v) Sp n
operand-swap u n v (Word r) target other wide = register-swap u r n v other
operand-swap u n v (Byte r half) target other wide = cc
operand-swap u n v (Seg number) target other wide = absurd target
operand-swap u n v (Mem byte_width ea) target other wide = cc
operand-swap u n v (Mem word_width ea) target other wide =
    ap (λ offset. with_word_at_offset (with_word_in u Sp n) (segment_of u ea) offset v)
    (offset-apart u n ea target.plain)
operand-swap u n v (Const w number) target other wide = absurd target

-- SP stays where a word operand other than SP takes a value
sp-stays : (u : Machine) (v : ℕ) (x : Operand) → IsTarget x → is_sp_or_bp x ≡ false
    → operand_width x ≡ word_width
    → word_in (with_operand u x v) Sp ≡ word_in u Sp
sp-stays u v (Word Sp) target other wide = absurd (true≢false other)
sp-stays u v (Word Bp) target other wide = absurd (true≢false other)
sp-stays u v (Word r) target other wide = word-other u r Sp v refl
sp-stays u v (Byte r half) target other wide = cc
sp-stays u v (Seg number) target other wide = absurd target
sp-stays u v (Mem byte_width ea) target other wide = refl
sp-stays u v (Mem word_width ea) target other wide = refl
sp-stays u v (Const w number) target other wide = absurd target

-- One instruction.

module _ (e : Setting) (s : Machine) (stack : Stack) (instr : Instr) (t : State) (p : Procedure) (node : Node)
    (height : ℕ) (is : IsCleanInstruction e s stack instr) (node-here : IsNodeHere e s stack instr is p node height)
    (before : Within is stack.written s t) (x : Operand) (pop : instr.op ≡ Pop x) (other : is_sp_or_bp x ≡ false)
  where
    open e.program use {layout}
    open is.stands use {newest as a}

    abbrev here : Machine
    here = record s { ip = next_of s.ip instr }

    at : IsFoundAt e a.frame.entry p
    at = found-at e s stack instr p node height is node-here

    target : IsTarget x
    target = subst HavePlaces pop (placed-here e s stack instr p node height is node-here)

    taken : IsStepOf e.image layout is.of_file.loaded s.ip instr s
    taken = taken-here e s stack instr p node height is node-here before.goes

    word-operand : IsWordOperand x
    word-operand = subst IsOperation pop taken.good

    abbrev marks : List Bool
    marks = with_marks true (stack_bytes layout (operand_accesses Writing x here)) stack.written

    abbrev After : Relation
    After = Within is marks

    -- the operand

    pop-written : IsOperandIn (Pop x) here Writing x
    pop-written = record {
      named = λ named. named;
      among = λ access among.
          Contains-append_right (stack_access Reading (word_in s Sp) here ∷ [])
          (operand_accesses Writing x (with_sp_raised 2 here)) access
          (subst (λ l. Contains l access) (sym (accesses-apart here _ x target)) among);
    }

    written : IsWritten (Within is stack.written) After here x (operand_place p height x)
    written =
        operand-written e s stack instr is p at height x target other (λ memory. ap writes_memory pop ∙ memory)
        (subst (λ o. IsOperandIn o here Writing x) (sym pop) pop-written)

    -- the word

    abbrev word : ℕ
    word = top_word here

    popped : IsFramePlace e a.frame.entry (pos 2 -ℤ pos height) word_width (top_place p height)
    popped =
        popped-place e a.frame.entry p at a.at height a.before (is-at e s stack instr p node height is node-here) x other
        (subst (StandsAt e.image layout a.at) pop (there e s stack instr is))

    small : top_word here < 65536
    small = top-small e s stack instr x is node-here.stands pop other

    read : IsRead (Within is stack.written) here (Const word_width word) (top_place p height)
    read = record {
      width = frame-wide e a.frame.entry (pos 2 -ℤ pos height) word_width (top_place p height) popped;
      value = λ flags u c.
          top-read e s stack instr x is node-here.stands pop other flags u (top_place p height) c
          (subst (λ n. IsFramePlace e a.frame.entry (pos 2 -ℤ pos n) word_width (top_place p height))
          (sym node-here.height_is) popped);
      small = λ flags u c. small;
    }

    -- the statements

    abbrev u : State
    u = execute (mov_stmts word_width (operand_place p height x) (top_place p height)) t

    moved : After (with_operand here x word) u
    moved =
        subst (λ w. After (with_operand here x word)
        (execute (mov_stmts w (operand_place p height x) (top_place p height)) t)) word-operand.width
        (mov_performed (Within is stack.written) After (coupled e a is.stands.callers stack.written) (coupled e a is.stands.callers marks) x (Const word_width word) here t
        (record { first = word-operand.operand; second = small; widths = word-operand.width })
        ((coupled e a is.stands.callers stack.written).anywhere s t (next_of s.ip instr) before) (operand_place p height x) (top_place p height) read
        (frame-sound e a.frame.entry (pos 2 -ℤ pos height) word_width (top_place p height) popped) written)

    -- the step

    wide : word_in s Sp + 2 < 65536
    wide = top-wide e s stack instr x is node-here.stands pop other

    step-is : step layout.cpu s ≡ with_word_in (with_operand here x word) Sp (word_in s Sp + 2)
    step-is =
        taken.is ∙ ap (λ o. op_step layout.cpu o s.ip here) pop
        ∙ ap (λ n. with_operand (with_word_in here Sp n) x word) (mod-eq_of_lt wide)
        ∙ operand-swap here (word_in s Sp + 2) word x target other word-operand.width

    abbrev top : ℕ
    top = top_in e.program.layout s

    abbrev passed : List ℕ
    passed = range_with_len top (top_in layout (step layout.cpu s) - top)

    marks-are : with_marks false passed marks ≡ (stack_after layout (Some instr) s (step layout.cpu s) stack).written
    marks-are =
        ap (λ l. with_marks false passed (with_marks true (stack_bytes layout l) stack.written))
        (sym (all-stores x (with_sp_raised 2 here) ∙ accesses-apart here _ x target))
        ∙ ap (λ o. with_marks false passed (with_marks true (stored_bytes layout (accesses o here)) stack.written))
        (sym pop)

    risen : Within is (with_marks false passed marks) (with_word_in (with_operand here x word) Sp (word_in s Sp + 2)) u
    risen =
        let same = sp-stays here word x target other word-operand.width in
        pointers-move.rises e a is.stands.callers marks (with_operand here x word) u (word_in s Sp + 2) passed moved wide
        (omega (arith, same))

    pub pop-agrees :
        AreCoupled e (step e.program.layout.cpu s)
        (stack_after e.program.layout (Some instr) s (step e.program.layout.cpu s) stack)
        (execute (mov_stmts word_width (operand_place p height x) (top_place p height)) t)
    pop-agrees =
        steps-agree e s stack instr t u is (ap moves_frames pop) before
        (subst (λ m. Within is m (step layout.cpu s) u) marks-are
        (subst (λ v. Within is (with_marks false passed marks) v u) (sym step-is) risen))
