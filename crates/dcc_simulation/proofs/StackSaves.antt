-- `push bp` and ENTER: the machine saves BP below the return address, and the inner run stays as it is.
use Rattle.std.proofs.Common.{◌≡◌, ◌≤◌, ◌<◌, inl, inr, ℕ, ◌+◌, ◌-◌, ◌%◌, Bool, true, false, true≢false, ◌||◌, List, [], ◌∷◌, filter, Some, refl, sym, ap, ◌∙◌, subst, arith}
use Rattle.std.specs.Prelude.{not, pos, ◌-ℤ◌, if◌then◌else◌}
use Rattle.dcc_run.specs.End.{Running}
use Rattle.dcc_num.specs.declared.Width.TheVariants.{Word as word_width}
use Rattle.dcc_num.specs.declared.Reg.TheVariants.{Sp, Bp}
use Rattle.dcc_num.specs.declared.Half.TheVariants.{Low}
use Rattle.dcc_machine.specs.declared.cpu.Cpu.{Cpu}
use Rattle.dcc_machine.specs.declared.image.Image.{Image}
use Rattle.dcc_prog.specs.declared.procedure.Layout.{Layout}
use Rattle.dcc_prog.specs.declared.procedure.Node.{Node}
use Rattle.dcc_machine.specs.declared.instr.Operand.TheVariants.{Word}
use Rattle.dcc_machine.specs.declared.instr.Op.{Op}
use Rattle.dcc_machine.specs.declared.instr.Op.TheVariants.{Push, Enter}
use Rattle.dcc_machine.specs.declared.instr.Instr.{Instr}
use Rattle.dcc_machine.specs.Machine.{State as Machine, word_in, with_word_in, stack_segment, physical}
use Rattle.dcc_machine.specs.Operations.{after_push, with_sp_raised}
use Rattle.dcc_machine.specs.Step.{op_step, step}
use Rattle.dcc_machine.specs.StateForm.{IsState}
use Rattle.dcc_machine.specs.Successors.{next_of}
use Rattle.dcc_machine.specs.SpAndBp.{is_push_bp, is_enter}
use Rattle.dcc_prog.specs.FrameForm.{is_framed}
use Rattle.dcc_machine.specs.Access.{push_access, accesses}
use Rattle.dcc_prog.specs.CleanLaws.{moves_frames}
use Rattle.dcc_prog.specs.Clean.{Stack, top_in, is_reading, with_marks, stack_bytes, stack_after, sp_after}
use Rattle.dcc_machine.proofs.LocationKept.{word-taken, word-other}
use Rattle.dcc_machine.proofs.StateKept.{word-state, pushed-state}
use Rattle.dcc_stack.specs.Accepted.{IsForm, saves, enters, pushes, moves, keeps}
use Rattle.dcc_stack.specs.Apart.{control_size, IsApart}
use Rattle.dcc_stack.specs.SlotLaws.{AreCarried}
use Rattle.dcc_stack.specs.Slots.{Typed}
use Rattle.dcc_stack.specs.Standing.{StackStands}
use Rattle.dcc_stack.proofs.TableSteps.{IsStepOf}
use Rattle.dcc_ir.specs.Run.{State}
use Rattle.dcc_simulation.specs.Coupled.{Setting, typed_by, typed_waiting, AreCoupled}
use Rattle.dcc_simulation.specs.Laws.{IsCleanInstruction, Within}
use Rattle.dcc_simulation.specs.Procedures.{Procedure}
use Rattle.dcc_simulation.specs.Nodes.{IsNodeHere}
use Rattle.dcc_simulation.proofs.ControlWords.{control_marks, control-stored, control-marked}
use Rattle.dcc_simulation.proofs.Coupling.{carried_laws}
use Rattle.dcc_simulation.proofs.Lowered.{stored_below, word-falls, word-room, word-above, high-top, word-lies}
use Rattle.dcc_simulation.proofs.Lowered.{word-wraps, word-stored}
use Rattle.dcc_simulation.proofs.Next.{next-stands}
use Rattle.dcc_simulation.proofs.NodeFound.{node-of, node-is}
use Rattle.dcc_simulation.proofs.NodesHere.{taken-here, state-here}
use Rattle.dcc_simulation.proofs.PlacesWritten.{marks-same}
use Rattle.dcc_simulation.proofs.LikeStates.{IsLike, like-both, jumped, stays-itself, coupled-after, sp-set, bp-set}
use Rattle.dcc_simulation.proofs.StepsAgree.{none-rises, steps-agree}

abbrev pub saves_bp : Op → Bool
saves_bp op = is_push_bp op || is_enter op

-- Forms.

-- operations that save BP stand where a framed procedure begins
saved-first : (image : Image) (layout : Layout) (entry at height : ℕ) (op : Op) → saves_bp op ≡ true
    → IsForm image layout entry at height op
    → (is_framed image layout entry ≡ true) × (height ≡ 0)
saved-first image layout entry at height (Push (Word Bp)) so (saves framed first none) = (framed, none)
saved-first image layout entry at height (Push (Word Bp)) so (pushes plain) = absurd (true≢false plain.other)
saved-first image layout entry at height (Push (Word Bp)) so (moves lowers) = cc
saved-first image layout entry at height (Push (Word Bp)) so (keeps stays sp bp) = absurd (true≢false (sp Low))
saved-first image layout entry at height (Enter count) so (enters framed first none small) = (framed, none)
saved-first image layout entry at height (Enter count) so (moves lowers) = cc
saved-first image layout entry at height (Enter count) so (keeps stays sp bp) = absurd (true≢false (sp Low))
saved-first image layout entry at height op so form = absurd (true≢false (sym so))

-- SP falls by so many bytes more
abbrev more_of : Op → ℕ
more_of (Enter count) = count
more_of op = 0

more-lowers : (op : Op) (s : Machine) → saves_bp op ≡ true
    → sp_after op s ≡ (pos (word_in s Sp) -ℤ pos (2 + more_of op))
more-lowers (Push (Word Bp)) s so = refl
more-lowers (Enter count) s so = refl
more-lowers op s so = absurd (true≢false (sym so))

-- What the operation does to the state in which BP is saved, where SP stands at or below the word.
record Saves (cpu : Cpu) (op : Op) (at : ℕ) (s saved : Machine) : Type 0 where
  like : IsLike saved (op_step cpu op at s)
  falls : word_in (op_step cpu op at s) Sp ≤ word_in saved Sp
  stays : moves_frames op ≡ false
  stores : filter (λ access. not (is_reading access)) (accesses op s) ≡ push_access s ∷ []

entered-like : (s : Machine) (count : ℕ)
    → IsLike s (with_sp_raised (65536 - count) (with_word_in s Bp (word_in s Sp)))
entered-like s count =
    like-both s (with_word_in s Bp (word_in s Sp))
    (with_sp_raised (65536 - count) (with_word_in s Bp (word_in s Sp))) (bp-set s (word_in s Sp))
    (sp-set (with_word_in s Bp (word_in s Sp)) _)

entered-falls : (s : Machine) (count : ℕ) → IsState s → count ≤ word_in s Sp
    → word_in (with_sp_raised (65536 - count) (with_word_in s Bp (word_in s Sp))) Sp ≤ word_in s Sp
entered-falls s count form room =
    let small = form.registers.words Sp in
    let other : word_in (with_word_in s Bp (word_in s Sp)) Sp ≡ word_in s Sp = word-other s Bp Sp (word_in s Sp) refl in
    let taken =
    word-taken (with_word_in s Bp (word_in s Sp)) Sp Sp
    ((word_in (with_word_in s Bp (word_in s Sp)) Sp + (65536 - count)) % 65536)
    (word-state s Bp (word_in s Sp) small form).registers.count refl in
    omega (arith, taken, other, small, room)

saves-of : (cpu : Cpu) (op : Op) (at : ℕ) (s : Machine) → saves_bp op ≡ true
    → IsState (after_push (word_in s Bp) s) → more_of op ≤ word_in (after_push (word_in s Bp) s) Sp
    → Saves cpu op at s (after_push (word_in s Bp) s)
saves-of cpu (Push (Word Bp)) at s so form room = record {
  like = record { end = refl; memory = refl; flags = refl; input = refl; events = refl; words = λ r g. refl };
  falls = omega arith;
  stays = refl;
  stores = refl;
}
saves-of cpu (Enter count) at s so form room = record {
  like = entered-like (after_push (word_in s Bp) s) count;
  falls = entered-falls (after_push (word_in s Bp) s) count form room;
  stays = refl;
  stores = refl;
}
saves-of cpu op at s so form room = absurd (true≢false (sym so))

-- One instruction.

module _ (e : Setting) (s : Machine) (stack : Stack) (instr : Instr) (t : State) (p : Procedure) (node : Node)
    (height : ℕ) (is : IsCleanInstruction e s stack instr) (node-here : IsNodeHere e s stack instr is p node height)
    (so : saves_bp instr.op ≡ true) (before : Within is stack.written s t) where
  open e.program use {layout}
  open is.stands use {newest as a}

  abbrev here : Machine
  here = record s { ip = next_of s.ip instr }

  abbrev top : ℕ
  top = top_in e.program.layout s

  abbrev first : ℕ
  first = word_in s Sp - 2 + e.program.layout.delta

  -- the word

  form : (is_framed e.image layout a.frame.entry ≡ true) × (node-here.stands.height ≡ 0)
  form =
      saved-first e.image layout a.frame.entry a.at node-here.stands.height instr.op so
      (subst (λ (i : Instr). IsForm e.image layout a.frame.entry a.at node-here.stands.height i.op)
      (node-is e s stack instr p node height is node-here) (node-of e s stack instr p node height is node-here).form)

  lowers : sp_after instr.op s ≡ (pos (word_in s Sp) -ℤ pos (2 + more_of instr.op))
  lowers = more-lowers instr.op s so

  falls : word_in s Sp - 2 + 2 ≡ word_in s Sp
  falls = word-falls e s stack instr is (more_of instr.op) lowers

  not-apart : (index : ℕ) → index < 2 → ¬ IsApart e.image layout (first + index) a
  not-apart index less apart =
      let four : control_size e.image layout a ≡ 4 = ap (λ b. if b then 4 else 2) form.0 in
      let on_top = node-here.stands.top_is in
      let none = form.1 in
      let down = falls in
      elim apart as (λ _. ⊥) [
        | inl below ↦ omega (arith, below, four, on_top, none, down)
        | inr above ↦ omega (arith, above, less, on_top, none, down)
      ]

  high : first + 1 < layout.hi
  high =
      let below = high-top e s stack instr is (more_of instr.op) lowers in
      let down = falls in
      omega (arith, below, down)

  -- the step

  taken : IsStepOf e.image layout is.of_file.loaded s.ip instr s
  taken = taken-here e s stack instr p node height is node-here before.goes

  abbrev pushed : Machine
  pushed = after_push (word_in s Bp) here

  abbrev stored_memory : List ℕ
  stored_memory = stored_below e s (word_in s Bp)

  abbrev saved : Machine
  saved = record (with_word_in here Sp (word_in s Sp - 2)) { memory = stored_memory }

  pushed-is : pushed ≡ saved
  pushed-is = word-stored e s stack instr is (more_of instr.op) lowers (word_in s Bp)

  pushed-sp : word_in pushed Sp ≡ word_in s Sp - 2
  pushed-sp =
      ap (λ (u : Machine). word_in u Sp) pushed-is
      ∙ word-taken here Sp Sp (word_in s Sp - 2) is.stands.segments.state.registers.count refl

  did : Saves layout.cpu instr.op s.ip here pushed
  did =
      let same = pushed-sp in
      let room = word-room e s stack instr is (more_of instr.op) lowers in
      saves-of layout.cpu instr.op s.ip here so
      (pushed-state (word_in s Bp) here (is.stands.segments.state.registers.words Bp)
      (state-here e s stack instr p node height is node-here)) (omega (arith, same, room))

  like : IsLike saved (step layout.cpu s)
  like = subst (IsLike saved) (sym taken.is) (subst (λ u. IsLike u (op_step layout.cpu instr.op s.ip here)) pushed-is
      did.like)

  sp-falls : word_in (step layout.cpu s) Sp ≤ word_in s Sp - 2
  sp-falls =
      let fell = did.falls in
      let same = pushed-sp in
      let stepped = ap (λ (u : Machine). word_in u Sp) taken.is in
      omega (arith, fell, same, stepped)

  goes-on : (step layout.cpu s).end ≡ Running
  goes-on = like.end ∙ before.goes

  next : StackStands e.image layout (step layout.cpu s)
      (stack_after layout (Some instr) s (step layout.cpu s) stack)
  next = (next-stands e s stack instr is before.goes goes-on).0

  -- what is written

  marks-are : control_marks first stack.written
      ≡ (stack_after layout (Some instr) s (step layout.cpu s) stack).written
  marks-are =
      control-marked e first stack.written (word-above e s stack instr is (more_of instr.op) lowers) high
      ∙ marks-same layout (push_access here) word_width (λ index. first + index) stack.written refl
      (λ index less.
      ap (λ n. physical (stack_segment s) ((n + index) % 65536))
      (word-wraps e s stack instr is (more_of instr.op) lowers)
      ∙ word-lies e s stack instr is (more_of instr.op) lowers index less)
      ∙ ap (λ l. with_marks true (stack_bytes layout l) stack.written) (sym did.stores)
      ∙ sym (none-rises top (top_in layout (step layout.cpu s))
      (with_marks true (stack_bytes layout (filter (λ access. not (is_reading access)) (accesses instr.op here)))
      stack.written)
      (let fell = sp-falls in let down = falls in omega (arith, fell, down)))

  -- both runs

  abbrev older : List Typed
  older = typed_waiting e is.stands.callers t.waiting

  carried : AreCarried e.cpu e.image e.program stored_memory t.memory (control_marks first stack.written)
      (top_in layout (step layout.cpu s)) (typed_by e a t.running ∷ older)
  carried =
      let fell = sp-falls in
      let down = falls in
      control-stored e first (word_in s Bp) (typed_by e a t.running) older
      (carried_laws.lowers (top_in layout (step layout.cpu s)) before.carried next.low (omega (arith, fell, down))
      is.stands.written) (omega (arith, fell)) high not-apart

  agree : Within is (control_marks first stack.written) (step layout.cpu s) t
  agree =
      coupled-after e a a is.stands.callers is.stands.callers stack.written (control_marks first stack.written) s
      (step layout.cpu s) stored_memory t t
      (like-both (record s { memory = stored_memory }) saved (step layout.cpu s)
      (jumped s (next_of s.ip instr) (word_in s Sp - 2) (next_of s.ip instr) stored_memory) like) (stays-itself t) before
      before.running before.newest before.waiting next.segments carried

  pub saves-agree :
      AreCoupled e (step e.program.layout.cpu s)
      (stack_after e.program.layout (Some instr) s (step e.program.layout.cpu s) stack) t
  saves-agree =
      steps-agree e s stack instr t t is did.stays before
      (subst (λ m. Within is m (step layout.cpu s) t) marks-are agree)
