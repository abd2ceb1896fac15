-- A RET: the frame ends, and the caller takes the bytes of arguments that may have changed.
use Rattle.std.specs.List.{range_with_len}
use Rattle.std.proofs.Common.{◌≡◌, ◌≤◌, ℕ, ◌+◌, ◌-◌, ◌%◌, Bool, true, false, List, ◌∷◌, Some, refl, sym, ap, ap₂, ◌∙◌, subst, arith}
use Rattle.std.specs.Prelude.{ℤ, pos}
use Rattle.std.proofs.lemmas.Int.{ints}
use Rattle.dcc_run.specs.End.{is_over}
use Rattle.dcc_num.specs.declared.Reg.TheVariants.{Sp, Bp}
use Rattle.dcc_machine.specs.declared.cpu.Cpu.{Cpu}
use Rattle.dcc_machine.specs.declared.image.Image.{Image}
use Rattle.dcc_prog.specs.declared.procedure.Layout.{Layout}
use Rattle.dcc_prog.specs.declared.frame.Program.{Program}
use Rattle.dcc_machine.specs.declared.instr.Op.TheVariants.{Call, Ret}
use Rattle.dcc_machine.specs.declared.instr.Instr.{Instr}
use Rattle.dcc_machine.specs.Machine.{State as Machine, word_in}
use Rattle.dcc_machine.specs.Operations.{top_word, with_sp_raised, after_jump}
use Rattle.dcc_machine.specs.Step.{op_step, step}
use Rattle.dcc_machine.specs.Successors.{next_of}
use Rattle.dcc_prog.specs.Trail.{StandsAt}
use Rattle.dcc_prog.specs.Height.{GivesHeight, gone_on, MovesHeight}
use Rattle.dcc_machine.specs.Access.{accesses}
use Rattle.dcc_prog.specs.Clean.{Stack, top_in, with_marks, stored_bytes, stack_after}
use Rattle.dcc_stack.specs.Accepted.{IsAt, IsProgramOfFile}
use Rattle.dcc_stack.specs.Standing.{Activation, StandsIn, WaitsFor, Stand, called, StackStands}
use Rattle.dcc_stack.specs.Slots.{Typed}
use Rattle.dcc_stack.specs.SlotLaws.{AreCarried}
use Rattle.dcc_stack.specs.Laws.{at_next, newest_at}
use Rattle.dcc_stack.proofs.ApartFrames.{newest-stands}
use Rattle.dcc_stack.proofs.FormLaws.{in-form}
use Rattle.dcc_stack.proofs.StepFrames.{stands-once}
use Rattle.dcc_stack.proofs.StepInner.{call-height}
use Rattle.dcc_stack.proofs.TableSteps.{IsStepOf, step-of}
use Rattle.dcc_ir.specs.Run.{State}
use Rattle.dcc_simulation.specs.Coupled.{Setting, typed_by, typed_waiting, AreWaiting, Coupled, AreCoupled}
use Rattle.dcc_simulation.specs.Calls.{Returns}
use Rattle.dcc_simulation.specs.Laws.{IsCleanInstruction, Within, CallsReturn}
use Rattle.dcc_simulation.proofs.Next.{AgreeOn, next-with}
use Rattle.dcc_simulation.proofs.LikeStates.{IsLike, jumped, coupled-after}
use Rattle.dcc_simulation.proofs.Coupling.{carried_laws, alike-all}
use Rattle.dcc_simulation.proofs.StepsAgree.{on-at}

-- the caller stands no lower after a CALL than before it
module _ (cpu : Cpu) (image : Image) (program : Program) (p : IsProgramOfFile cpu image program)
    (entry at target height : ℕ) (before : List ℕ) (is : IsAt image program.layout entry at before (pos height))
    (calls : StandsAt image program.layout at (Call target)) where
  not-higher-by : {next : ℕ} {after : ℤ} → GivesHeight image program.layout entry (next ∷ at ∷ before) after
      → (number : ℕ) → after ≡ pos number
      → number ≤ height
  not-higher-by (gone_on {op = op} {height = from} {after = after} trail gives stands moves) number same =
      let first : from ≡ pos height =
      in-form.one_height cpu image program entry at before before from (pos height) p
      (record { is_entry = is.is_entry; trail = trail.1; gives = gives }) is in
      let op_is = stands-once image program.layout at op (Call target) stands calls in
      let call =
      call-height (subst (λ o. MovesHeight image program.layout entry at o from after) op_is moves) in
      let removed = call.2 in
      omega (arith, ints, first, removed, same)

  not-higher : (next number : ℕ) → IsAt image program.layout entry next (at ∷ before) (pos number) → number ≤ height
  not-higher next number is' = not-higher-by is'.gives number refl

-- the caller of the newest procedure
pub record IsBelow (image : Image) (layout : Layout) (memory : List ℕ) (a caller : Activation) (top bp : ℕ) : Type 0 where
  pub here : StandsIn image layout memory a top bp
  pub waits : WaitsFor image layout memory caller a
  pub stands : StandsIn image layout memory caller a.frame.base a.caller_bp

pub caller-below : (image : Image) (layout : Layout) (memory : List ℕ) {a caller : Activation} {older : List Activation}
    {top bp : ℕ} → Stand image layout memory (a ∷ caller ∷ older) top bp
    → IsBelow image layout memory a caller top bp
caller-below image layout memory (called stands waits older) =
    record { here = stands; waits = waits; stands = newest-stands image layout memory older }

module _ (e : Setting) (s : Machine) (stack : Stack) (instr : Instr) (count : ℕ) (t u : State)
    (is : IsCleanInstruction e s stack instr) (ret : instr.op ≡ Ret count) (before : Within is stack.written s t)
    (b : Returns e is.stands.newest is.stands.callers stack.written t u) where
  open e.program use {layout}
  open is.stands use {newest as a}

  abbrev top : ℕ
  top = top_in e.program.layout s

  abbrev after : Machine
  after = step e.program.layout.cpu s

  -- the step

  taken-step : IsStepOf e.image layout is.of_file.loaded s.ip instr s
  taken-step =
      step-of e.image layout is.of_file.loaded s.ip s instr is.stands.segments.state refl (ap is_over before.goes)
      is.stands.segments.code is.found

  step-is : step layout.cpu s
      ≡ after_jump (top_word (record s { ip = next_of s.ip instr }))
      (with_sp_raised (2 + count) (record s { ip = next_of s.ip instr }))
  step-is = taken-step.is ∙ ap (λ o. op_step layout.cpu o s.ip (record s { ip = next_of s.ip instr })) ret

  like : IsLike s after
  like =
      subst (IsLike s) (sym step-is)
      (jumped s (next_of s.ip instr) ((word_in s Sp + (2 + count)) % 65536)
      (top_word (record s { ip = next_of s.ip instr })) s.memory)

  both :
      (v : StackStands e.image layout after (stack_after layout (Some instr) s after stack))
      × (v.newest ∷ v.callers ≡ newest_at after.ip is.stands.callers)
  both = next-with e s stack instr is before.goes (like.end ∙ before.goes) (Ret count) ret

  are : both.0.newest ∷ both.0.callers ≡ at_next b.caller after.ip ∷ b.older
  are = both.1 ∙ ap (newest_at after.ip) b.callers_are

  -- the caller stands at the callee's base or above

  below : IsBelow e.image layout s.memory a b.caller top (word_in s Bp)
  below =
      caller-below e.image layout s.memory
      (subst (λ l. Stand e.image layout s.memory (a ∷ l) top (word_in s Bp)) b.callers_are is.stands.stand)

  resumed-stands : StandsIn e.image layout after.memory (at_next b.caller after.ip) (top_in layout after)
      (word_in after Bp)
  resumed-stands =
      newest-stands e.image layout after.memory
      (subst (λ l. Stand e.image layout after.memory l (top_in layout after) (word_in after Bp)) are both.0.stand)

  risen : a.frame.base ≤ top_in layout after
  risen =
      let le =
      not-higher e.cpu e.image e.program is.of_file b.caller.frame.entry b.caller.at a.frame.entry below.stands.height
      b.caller.before below.stands.is_at (below.waits.instr, below.waits.stands, below.waits.calls) after.ip
      resumed-stands.height resumed-stands.is_at in
      let was = below.stands.top_is in
      let now = resumed-stands.top_is in
      omega (arith, le, was, now)

  on-top : top ≤ a.frame.base
  on-top = let same = below.here.top_is in omega (arith, same)

  -- the frames

  abbrev older : List Typed
  older = typed_waiting e b.older u.waiting

  abbrev Carried : Machine → State → List Bool → ℕ → List Typed → Type 0
  Carried s t written low typed = AreCarried e.cpu e.image e.program s.memory t.memory written low typed

  had : Carried s t stack.written top (typed_by e a t.running ∷ typed_by e b.caller b.waits.caller ∷ older)
  had =
      subst (λ typed. Carried s t stack.written top (typed_by e a t.running ∷ typed))
      (ap₂ (typed_waiting e) b.callers_are b.waiting) before.carried

  abbrev passed : List ℕ
  passed = range_with_len top (top_in layout after - top)

  carried : Carried s u (with_marks false passed stack.written) (top_in layout after)
      (typed_by e b.caller u.running ∷ older)
  carried =
      carried_laws.raises (top_in layout after) passed
      (carried_laws.alike (carried_laws.returns b.offsets b.bytes had on-top b.changeable b.given b.small b.puts)
      (b.like, alike-all older)) risen

  abbrev marks : List Bool
  marks = (stack_after e.program.layout (Some instr) s (step e.program.layout.cpu s) stack).written

  marks-are : with_marks false passed stack.written ≡ marks
  marks-are =
      ap (λ o. with_marks false passed
      (with_marks true (stored_bytes layout (accesses o (record s { ip = next_of s.ip instr }))) stack.written)) (sym ret)

  -- both runs

  waiting : AreWaiting e a (b.caller ∷ b.older) (b.waits ∷ u.waiting)
  waiting =
      subst (AreWaiting e a (b.caller ∷ b.older)) b.waiting
      (subst (λ l. AreWaiting e a l t.waiting) b.callers_are before.waiting)

  agree : Coupled e b.caller b.older marks after u
  agree =
      coupled-after e a b.caller is.stands.callers b.older stack.written marks s after s.memory t u like b.passes before
      b.running b.newest waiting.2 both.0.segments
      (subst (λ m. Carried s u m (top_in layout after) (typed_by e b.caller u.running ∷ older)) marks-are carried)

  call-returned : AreCoupled e after (stack_after layout (Some instr) s after stack) u
  call-returned = record {
    stands = both.0;
    coupled =
        subst (AgreeOn e marks after u) (sym are) (on-at e b.caller b.older marks after u after.ip agree);
  }

pub calls-return : CallsReturn
calls-return e s stack instr count t u is ret before b = call-returned e s stack instr count t u is ret before b
