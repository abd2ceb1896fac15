-- A CALL: the return address is stored below SP, in the machine alone, and the frame that begins holds its arguments.
use Rattle.std.proofs.Common.{◌≡◌, ◌≤◌, ◌<◌, inl, inr, ℕ, ◌+◌, ◌-◌, ◌%◌, Bool, true, List, ◌∷◌, Some, refl, sym, ap, ◌∙◌, subst, arith}
use Rattle.std.specs.Prelude.{pos, ◌-ℤ◌}
use Rattle.dcc_run.specs.End.{is_over}
use Rattle.dcc_num.specs.declared.Width.TheVariants.{Word as word_width}
use Rattle.dcc_num.specs.declared.Reg.TheVariants.{Sp, Bp}
use Rattle.dcc_machine.specs.declared.instr.Op.TheVariants.{Call}
use Rattle.dcc_machine.specs.declared.instr.Instr.{Instr}
use Rattle.dcc_machine.specs.Machine.{State as Machine, word_in, with_word_in, stack_segment, physical}
use Rattle.dcc_machine.specs.Step.{op_step, step}
use Rattle.dcc_machine.specs.Operations.{after_jump}
use Rattle.dcc_machine.specs.Successors.{next_of}
use Rattle.dcc_machine.specs.Access.{push_access, accesses}
use Rattle.dcc_prog.specs.Clean.{Stack, top_in, with_marks, stored_bytes, stack_after, sp_after}
use Rattle.dcc_machine.proofs.LocationKept.{word-taken}
use Rattle.dcc_stack.specs.Standing.{Activation, StackStands}
use Rattle.dcc_stack.specs.Apart.{IsApart}
use Rattle.dcc_stack.specs.Slots.{Typed, AreNested}
use Rattle.dcc_stack.specs.SlotLaws.{AreCarried}
use Rattle.dcc_stack.proofs.SlotFrames.{control-some}
use Rattle.dcc_stack.proofs.TableSteps.{IsStepOf, step-of}
use Rattle.dcc_ir.specs.Location.{Values}
use Rattle.dcc_ir.specs.Run.{State}
use Rattle.dcc_simulation.specs.Coupled.{Setting, slots_in, typed_by, typed_waiting, AreWaiting, Coupled, AreCoupled}
use Rattle.dcc_simulation.specs.Calls.{begun, Begins}
use Rattle.dcc_simulation.specs.Laws.{IsCleanInstruction, Within, CallsBegin}
use Rattle.dcc_simulation.proofs.Next.{AgreeOn, next-with}
use Rattle.dcc_simulation.proofs.LikeStates.{IsLike, jumped, coupled-after}
use Rattle.dcc_simulation.proofs.ControlWords.{control_marks, control-stored, control-marked}
use Rattle.dcc_simulation.proofs.Coupling.{carried_laws}
use Rattle.dcc_simulation.proofs.PlacesWritten.{marks-same}
use Rattle.dcc_simulation.proofs.Lowered.{stored_below, word-falls, word-above, high-top, word-lies, word-wraps}
use Rattle.dcc_simulation.proofs.Lowered.{word-stored}
use Rattle.dcc_simulation.proofs.StepsAgree.{none-rises}

-- frames that stand, with the newest one
abbrev NestedOn : Setting → List Activation → Type 0
NestedOn e activations = AreNested e.program e.image activations

module _ (e : Setting) (s : Machine) (stack : Stack) (instr : Instr) (target : ℕ) (t u : State)
    (is : IsCleanInstruction e s stack instr) (call : instr.op ≡ Call target) (before : Within is stack.written s t)
    (b :
    Begins e (begun target (top_in e.program.layout s) (word_in s Bp)) is.stands.newest is.stands.callers stack.written
    s t u) where
  open e.program use {layout}
  open is.stands use {newest as a}

  abbrev top : ℕ
  top = top_in e.program.layout s

  abbrev callee : Activation
  callee = begun target (top_in e.program.layout s) (word_in s Bp)

  abbrev first : ℕ
  first = word_in s Sp - 2 + e.program.layout.delta

  abbrev here : Machine
  here = record s { ip = next_of s.ip instr }

  -- SP

  lowers : sp_after instr.op s ≡ (pos (word_in s Sp) -ℤ pos 2)
  lowers = ap (λ o. sp_after o s) call

  falls : word_in s Sp - 2 + 2 ≡ word_in s Sp
  falls = word-falls e s stack instr is 0 lowers

  above-low : layout.lo ≤ first
  above-low = word-above e s stack instr is 0 lowers

  below-high : top ≤ layout.hi
  below-high = high-top e s stack instr is 0 lowers

  -- the step

  taken-step : IsStepOf e.image layout is.of_file.loaded s.ip instr s
  taken-step =
      step-of e.image layout is.of_file.loaded s.ip s instr is.stands.segments.state refl (ap is_over before.goes)
      is.stands.segments.code is.found

  abbrev stored_memory : List ℕ
  stored_memory = stored_below e s (next_of s.ip instr)

  step-is : step layout.cpu s
      ≡ after_jump target (record (with_word_in here Sp (word_in s Sp - 2)) { memory = stored_memory })
  step-is =
      taken-step.is ∙ ap (λ o. op_step layout.cpu o s.ip here) call
      ∙ ap (after_jump target)
      (word-stored e s stack instr is 0 lowers (next_of s.ip instr))

  abbrev after : Machine
  after = step e.program.layout.cpu s

  next-top : top_in layout after ≡ first
  next-top =
      ap (top_in layout) step-is
      ∙ ap (λ n. n + layout.delta)
      (word-taken here Sp Sp (word_in s Sp - 2) is.stands.segments.state.registers.count refl)

  -- the stack after it

  like : IsLike (record s { memory = stored_memory }) after
  like =
      subst (IsLike (record s { memory = stored_memory })) (sym step-is)
      (jumped s (next_of s.ip instr) (word_in s Sp - 2) target stored_memory)

  both :
      (v : StackStands e.image layout after (stack_after layout (Some instr) s after stack))
      × (v.newest ∷ v.callers ≡ callee ∷ a ∷ is.stands.callers)
  both = next-with e s stack instr is before.goes (like.end ∙ before.goes) (Call target) call

  -- the frames

  abbrev older : List Typed
  older = typed_by e a t.running ∷ typed_waiting e is.stands.callers t.waiting

  nested : AreNested e.program e.image (callee ∷ a ∷ is.stands.callers)
  nested =
      subst (NestedOn e) both.1 (carried_laws.nested is.of_file both.0.stand both.0.low)

  begins : AreCarried e.cpu e.image e.program s.memory u.memory stack.written top (typed_by e callee u.running ∷ older)
  begins =
      carried_laws.calls (typed_by e callee u.running) u.memory before.carried
      (nested.0, nested.1, nested.2, before.carried.nested) b.size b.bytes b.held b.others

  not-apart : (index : ℕ) → index < 2 → ¬ IsApart e.image layout (first + index) callee
  not-apart index less (inl below) =
      let some = control-some e.image e.program callee in
      let down = falls in
      omega (arith, below, some, down)
  not-apart index less (inr above) = let down = falls in omega (arith, above, less, down)

  high : (index : ℕ) → index < 2 → first + index < layout.hi
  high index less = let top' = below-high in let down = falls in omega (arith, less, top', down)

  abbrev marks_after : List Bool
  marks_after = control_marks (word_in s Sp - 2 + e.program.layout.delta) stack.written

  carried : AreCarried e.cpu e.image e.program stored_memory u.memory marks_after first
      (typed_by e callee u.running ∷ older)
  carried =
      control-stored e first (next_of s.ip instr) (typed_by e callee u.running) older
      (carried_laws.lowers first begins above-low (let down = falls in omega (arith, down)) is.stands.written)
      (omega arith) (high 1 (omega arith)) not-apart

  -- what is written

  marks-are : marks_after ≡ (stack_after layout (Some instr) s after stack).written
  marks-are =
      control-marked e first stack.written above-low (high 1 (omega arith))
      ∙ marks-same layout (push_access here) word_width (λ index. first + index) stack.written refl
      (λ index less. ap (λ n. physical (stack_segment s) ((n + index) % 65536)) (word-wraps e s stack instr is 0 lowers)
      ∙ word-lies e s stack instr is 0 lowers index less)
      ∙ ap (λ o. with_marks true (stored_bytes layout (accesses o here)) stack.written) (sym call)
      ∙ sym (none-rises top (top_in layout after)
      (with_marks true (stored_bytes layout (accesses instr.op here)) stack.written)
      (let same = next-top in let down = falls in omega (arith, same, down)))

  -- both runs

  frames-same : typed_waiting e (a ∷ is.stands.callers) u.waiting ≡ older
  frames-same =
      ap (typed_waiting e (a ∷ is.stands.callers)) b.are
      ∙ ap (λ (values : Values).
      (record { activation = a; slots = slots_in (e.cells a.frame.entry) values })
      ∷ typed_waiting e is.stands.callers t.waiting) b.values

  abbrev marks : List Bool
  marks = (stack_after e.program.layout (Some instr) s (step e.program.layout.cpu s) stack).written

  carried-after : AreCarried e.cpu e.image e.program stored_memory u.memory marks (top_in layout after)
      (typed_by e callee u.running ∷ typed_waiting e (a ∷ is.stands.callers) u.waiting)
  carried-after =
      subst (λ older. AreCarried e.cpu e.image e.program stored_memory u.memory marks (top_in layout after)
      (typed_by e callee u.running ∷ older)) (sym frames-same)
      (subst (λ low. AreCarried e.cpu e.image e.program stored_memory u.memory marks low
      (typed_by e callee u.running ∷ older)) (sym next-top)
      (subst (λ m. AreCarried e.cpu e.image e.program stored_memory u.memory m first
      (typed_by e callee u.running ∷ older)) marks-are carried))

  agree : Coupled e callee (a ∷ is.stands.callers) marks after u
  agree =
      coupled-after e a callee is.stands.callers (a ∷ is.stands.callers) stack.written marks s after stored_memory t u
      like b.passes before b.running b.newest (subst (AreWaiting e callee (a ∷ is.stands.callers)) (sym b.are) b.waiting)
      both.0.segments carried-after

  call-begun : AreCoupled e after (stack_after layout (Some instr) s after stack) u
  call-begun = record {
    stands = both.0;
    coupled = subst (AgreeOn e marks after u) (sym both.1) agree;
  }

pub calls-begin : CallsBegin
calls-begin e s stack instr target t u is call before b = call-begun e s stack instr target t u is call before b
