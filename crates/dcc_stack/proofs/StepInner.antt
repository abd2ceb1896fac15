-- Where SP and BP stand after an operation of the newest procedure other than CALL and RET.
use Rattle.std.proofs.Common.{◌≡◌, inr, ℕ, ◌+◌, ◌-◌, ◌*◌, ◌%◌, ◌≤◌, Bool, true, false, length, Option, Some, None, refl, sym, ap, ◌∙◌, subst, true≢false, arith}
use Rattle.std.specs.Prelude.{ℤ, pos, ◌+ℤ◌, ◌-ℤ◌, int_lt, ◌&&◌, ◌||◌}
use Rattle.std.proofs.lemmas.Int.{ints}
use Rattle.std.proofs.lemmas.List.{length-set}
use Rattle.dcc_num.specs.declared.Reg.TheVariants.{Sp, Bp}
use Rattle.dcc_machine.specs.declared.image.Image.{Image}
use Rattle.dcc_prog.specs.declared.procedure.Layout.{Layout}
use Rattle.dcc_machine.specs.declared.instr.Operand.{Operand}
use Rattle.dcc_machine.specs.declared.instr.Operand.TheVariants.{Word}
use Rattle.dcc_machine.specs.declared.instr.Op.{Op}
use Rattle.dcc_machine.specs.declared.instr.Op.TheVariants.{Mov, Push, Pop, Enter, Leave, Call}
use Rattle.dcc_machine.specs.declared.instr.Instr.{Instr}
use Rattle.dcc_machine.specs.Machine.{State, word_in, with_word_in, stack_segment, word_at_offset}
use Rattle.dcc_machine.specs.Operations.{after_push, top_word, with_sp_raised}
use Rattle.dcc_machine.specs.Step.{op_step}
use Rattle.dcc_machine.specs.StateForm.{IsState}
use Rattle.dcc_machine.specs.WellFormed.{IsOperation}
use Rattle.dcc_machine.specs.Successors.{next_of}
use Rattle.dcc_prog.specs.Trail.{instruction_in, StandsAt}
use Rattle.dcc_machine.specs.SpAndBp.{is_mov_bp_sp, is_enter}
use Rattle.dcc_prog.specs.FrameForm.{is_framed, stands_mov_bp_sp, stands_push_bp, stands_enter, second_of}
use Rattle.dcc_prog.specs.Height.{IsRemoved, MovesHeight, push, pop, call, move, set, keep}
use Rattle.dcc_prog.specs.Clean.{top_in, sp_after, is_low}
use Rattle.dcc_prog.specs.CleanLaws.{moves_frames}
use Rattle.dcc_machine.proofs.TableLaws.{and_right}
use Rattle.dcc_machine.proofs.LocationKept.{word-taken, word-other, or-none}
use Rattle.dcc_stack.specs.Accepted.{changes_frame, FrameStays, IsSetUp, IsForm, saves, points, enters, falls_back, falls_to, restores, leaves, pushes, pops, calls, returns, moves, keeps}
use Rattle.dcc_stack.specs.Standing.{Activation, word_at, HoldsBp, outside, at_mov, inside}
use Rattle.dcc_stack.proofs.StepMemory.{IsStackWord, word-read, pushed-sp, word-pushed}
use Rattle.dcc_stack.specs.Laws.{at_next}
use Rattle.dcc_stack.proofs.StepForms.{stays-at, sp-goes, LeavesBp, push-leaves, pop-leaves, move-leaves, keep-leaves}
use Rattle.dcc_stack.proofs.StepFrames.{bp-begun, bp-saved, bp-points, bp-left, Lands, sp-lands, bp-stays}

-- Heights.

module _ {image : Image} {layout : Layout} {entry at : ℕ} where
  pub push-height :
      {a : Operand} {height after : ℤ} → MovesHeight image layout entry at (Push a) height after
      → after ≡ (height +ℤ pos 2)
  push-height push = refl
  push-height (move lowers) = cc
  push-height (set form given) = cc
  push-height (keep clear) = cc

  pub pop-height :
      {a : Operand} {height after : ℤ} → MovesHeight image layout entry at (Pop a) height after
      → after ≡ (height -ℤ pos 2)
  pop-height pop = refl
  pop-height (move lowers) = cc
  pop-height (set form given) = cc
  pop-height (keep clear) = cc

  pub enter-height :
      {count : ℕ} {height after : ℤ} → MovesHeight image layout entry at (Enter count) height after
      → after ≡ (pos 2 +ℤ pos count)
  enter-height (move lowers) = cc
  enter-height (set form given) = cc
  enter-height (keep clear) = cc

  leave-height : {height after : ℤ} → MovesHeight image layout entry at Leave height after → after ≡ pos 0
  leave-height (move lowers) = cc
  leave-height (set form given) = cc
  leave-height (keep clear) = cc

  pub call-height :
      {target : ℕ} {height after : ℤ} → MovesHeight image layout entry at (Call target) height after
      → (count : ℕ) × IsRemoved image layout target count × (after ≡ (height -ℤ pos count))
  call-height (call {count = count} removed) = (count, removed, refl)
  call-height (move lowers) = cc
  call-height (set form given) = cc
  call-height (keep clear) = cc

-- The second instruction.

mov-is : (op : Op) → is_mov_bp_sp op ≡ true → op ≡ Mov (Word Bp) (Word Sp)
mov-is (Mov (Word Bp) (Word Sp)) e = refl
mov-is op e = cc

mov-there :
    (image : Image) (layout : Layout) (at : ℕ) → stands_mov_bp_sp (instruction_in image layout at) ≡ true
    → StandsAt image layout at (Mov (Word Bp) (Word Sp))
mov-there image layout at e = by (instruction_in image layout at) refl e
  where
    by :
        (found : Option Instr) → instruction_in image layout at ≡ found → stands_mov_bp_sp found ≡ true
        → StandsAt image layout at (Mov (Word Bp) (Word Sp))
    by None is e = cc
    by (Some instr) is e = (instr, is, mov-is instr.op e)

-- after `push bp`, the first instruction of a framed procedure, stands `mov bp,sp`
second-mov :
    (image : Image) (layout : Layout) (entry : ℕ) (instr : Instr) → is_framed image layout entry ≡ true
    → instruction_in image layout entry ≡ Some instr → instr.op ≡ Push (Word Bp)
    → StandsAt image layout (next_of entry instr) (Mov (Word Bp) (Word Sp))
second-mov image layout entry instr framed found push_bp =
    let pair = stands_push_bp (Some instr) && stands_mov_bp_sp (instruction_in image layout (next_of entry instr)) in
    let either : (pair || stands_enter (Some instr)) ≡ true =
    subst (λ o.
    ((stands_push_bp o && stands_mov_bp_sp (instruction_in image layout (second_of entry o))) || stands_enter o) ≡ true)
    found framed in
    let other : stands_enter (Some instr) ≡ false = ap is_enter push_bp in
    mov-there image layout (next_of entry instr)
    (and_right (stands_push_bp (Some instr)) (stands_mov_bp_sp (instruction_in image layout (next_of entry instr)))
    (first-of pair (stands_enter (Some instr)) other either))
  where
    first-of : (a b : Bool) → b ≡ false → (a || b) ≡ true → a ≡ true
    first-of true b none e = refl
    first-of false b none e = absurd (true≢false (sym e ∙ none))

-- A step.

-- the step of the operation at the newest procedure's place, from one state to another, where SP stays in its bounds
pub record OpStep (image : Image) (layout : Layout) (a : Activation) (height : ℕ) (s t : State) (op : Op) : Type 0 where
  pub instr : Instr
  pub found : instruction_in image layout a.at ≡ Some instr
  pub op_is : instr.op ≡ op
  pub place : a.at ≡ s.ip
  pub good : IsOperation op
  pub state : IsState (record s { ip = next_of s.ip instr })
  pub is : t ≡ op_step layout.cpu op s.ip (record s { ip = next_of s.ip instr })
  pub clean : is_low layout (sp_after op s) ≡ false
  pub top : top_in layout s + 2 + height ≡ a.frame.base
  pub low : layout.lo ≤ top_in layout s
  pub below : a.frame.base ≤ layout.hi + 2
  pub fits : layout.hi ≤ 65535
  pub segment : stack_segment s * 16 ≡ layout.ds * 16 + layout.delta
  pub ds_fits : layout.ds ≤ 0xF000
  pub holds : HoldsBp image layout s.memory a height (word_in s Bp)

-- SP stays at 0 or above
pub above-zero :
    (layout : Layout) (sp : ℤ) → is_low layout sp ≡ false → int_lt sp (pos 0) ≡ false
above-zero layout sp clean = (or-none (int_lt sp (pos 0)) (int_lt (sp +ℤ pos layout.delta) (pos layout.lo)) clean).0

pub stands-there :
    {image : Image} {layout : Layout} {a : Activation} {height : ℕ} {s t : State} {op : Op}
    → OpStep image layout a height s t op → StandsAt image layout a.at op
stands-there step = (step.instr, step.found, step.op_is)

module _ {image : Image} {layout : Layout} {a : Activation} {height : ℕ} {s t : State} {op : Op} where
  -- a word of the stack below the base
  pub word-within :
      (step : OpStep image layout a height s t op) (offset : ℕ) → offset + layout.delta + 4 ≤ a.frame.base
      → IsStackWord layout (stack_segment s) offset
  word-within step offset within = record {
    stack_is = step.segment;
    low = step.ds_fits;
    inside = let below = step.below in let fits = step.fits in omega (arith, within, below, fits);
  }

  -- SP
  pub inner-lands :
      (step : OpStep image layout a height s t op) (after : ℕ) → IsForm image layout a.frame.entry a.at height op
      → moves_frames op ≡ false → MovesHeight image layout a.frame.entry a.at op (pos height) (pos after)
      → Lands layout a.frame.base after t
  inner-lands step after form apart m =
      let top = step.top in
      let goes = sp-goes image layout a.frame.entry a.at height after s form apart m (λ other up.
      let points_to = bp-points op step.holds (stands-there step) other up in omega (arith, top, points_to)) in
      subst (Lands layout a.frame.base after) (sym step.is)
      (sp-lands layout.cpu layout op s (next_of s.ip step.instr) s.ip a.frame.base height after step.good step.state
      step.below step.fits top step.low step.clean goes)

  -- BP, where it is left
  left-bp :
      (step : OpStep image layout a height s t op) (after : ℕ) → LeavesBp op
      → (is_framed image layout a.frame.entry ≡ true → changes_frame op ≡ false → FrameStays height after)
      → HoldsBp image layout t.memory a height (word_in s Bp)
      → HoldsBp image layout t.memory (at_next a t.ip) after (word_in t Bp)
  left-bp step after spares stays carried =
      let kept : word_in t Bp ≡ word_in s Bp =
      ap (λ u. word_in u Bp) step.is
      ∙ bp-stays layout.cpu op s (next_of s.ip step.instr) s.ip step.good step.state spares in
      subst (HoldsBp image layout t.memory (at_next a t.ip) after) (sym kept)
      (bp-left op t.ip after spares.other (stands-there step) (λ framed. stays framed spares.frame) carried)

-- BP, where it is saved, set or restored.

module _ {image : Image} {layout : Layout} {a : Activation} {height : ℕ} {s t : State} where
  -- the word that an operation pushes first
  pushed-word :
      {op : Op} (step : OpStep image layout a height s t op) (sp word : ℕ) → sp + 2 ≡ word_in s Sp
      → t.memory ≡ (after_push word (record s { ip = next_of s.ip step.instr })).memory
      → word_at layout t.memory (sp + layout.delta) ≡ word
  pushed-word step sp word falls memory =
      let top = step.top in
      ap (λ m. word_at layout m (sp + layout.delta)) memory
      ∙ word-pushed layout (record s { ip = next_of s.ip step.instr }) sp word step.state falls
      (word-within step sp (omega (arith, falls, top)))

  saved-bp :
      (step : OpStep image layout a height s t (Push (Word Bp))) (after : ℕ)
      → is_framed image layout a.frame.entry ≡ true → a.at ≡ a.frame.entry → height ≡ 0
      → pos after ≡ (pos height +ℤ pos 2) → 2 ≤ word_in s Sp → HoldsBp image layout t.memory (at_next a t.ip) after (word_in t Bp)
  saved-bp step after framed begins none rises room =
      let sp : ℕ = word_in s Sp - 2 in
      let falls : sp + 2 ≡ word_in s Sp = omega (arith, room) in
      let top = step.top in
      let base : sp + layout.delta ≡ a.frame.base - 4 = omega (arith, falls, top, none) in
      let first : instruction_in image layout a.frame.entry ≡ Some step.instr =
      ap (instruction_in image layout) (sym begins) ∙ step.found in
      let ip : t.ip ≡ next_of a.frame.entry step.instr =
      ap (λ u. u.ip) step.is ∙ ap (λ n. next_of n step.instr) (sym step.place ∙ begins) in
      at_mov framed (omega (arith, ints, rises, none))
      (subst (λ n. StandsAt image layout n (Mov (Word Bp) (Word Sp))) (sym ip)
      (second-mov image layout a.frame.entry step.instr framed first step.op_is))
      (ap (word_at layout t.memory) (sym base)
      ∙ pushed-word step sp (word_in s Bp) falls (ap (λ u. u.memory) step.is) ∙ bp-begun step.holds none)

  entered-bp :
      {count : ℕ} (step : OpStep image layout a height s t (Enter count)) (after : ℕ)
      → is_framed image layout a.frame.entry ≡ true → height ≡ 0 → pos after ≡ (pos 2 +ℤ pos count) → 2 ≤ word_in s Sp
      → HoldsBp image layout t.memory (at_next a t.ip) after (word_in t Bp)
  entered-bp {count} step after framed none rises room =
      let sp : ℕ = word_in s Sp - 2 in
      let falls : sp + 2 ≡ word_in s Sp = omega (arith, room) in
      let top = step.top in
      let base : sp + layout.delta ≡ a.frame.base - 4 = omega (arith, falls, top, none) in
      let next : State = record s { ip = next_of s.ip step.instr } in
      let u = after_push (word_in s Bp) next in
      let eight : length u.regs ≡ 8 =
      length-set s.regs 4 ((word_in s Sp + 65534) % 65536) ∙ step.state.registers.count in
      let bp : word_in t Bp ≡ sp =
      ap (λ v. word_in v Bp) step.is
      ∙ word-other (with_word_in u Bp (word_in u Sp)) Sp Bp
      ((word_in (with_word_in u Bp (word_in u Sp)) Sp + (65536 - count)) % 65536) refl
      ∙ word-taken u Bp Bp (word_in u Sp) eight refl ∙ pushed-sp (word_in s Bp) sp next step.state falls in
      inside framed (omega (arith, ints, rises))
      (ap (word_at layout t.memory) (sym base)
      ∙ pushed-word step sp (word_in s Bp) falls (ap (λ v. v.memory) step.is) ∙ bp-begun step.holds none)
      (omega (arith, bp, falls, top, none))

  pointed-bp :
      (step : OpStep image layout a height s t (Mov (Word Bp) (Word Sp))) (after : ℕ)
      → is_framed image layout a.frame.entry ≡ true → height ≡ 2 → after ≡ height
      → HoldsBp image layout t.memory a height (word_in s Bp)
      → HoldsBp image layout t.memory (at_next a t.ip) after (word_in t Bp)
  pointed-bp step after framed two same carried =
      let top = step.top in
      let bp : word_in t Bp ≡ word_in s Sp =
      ap (λ v. word_in v Bp) step.is
      ∙ word-taken (record s { ip = next_of s.ip step.instr }) Bp Bp (word_in s Sp) step.state.registers.count refl in
      inside framed (omega (arith, same, two))
      (bp-saved carried (record { framed = framed; deep = omega (arith, two) }))
      (omega (arith, bp, top, two))

  restored-bp :
      (step : OpStep image layout a height s t (Pop (Word Bp))) (after : ℕ)
      → is_framed image layout a.frame.entry ≡ true → height ≡ 2 → pos after ≡ (pos height -ℤ pos 2)
      → HoldsBp image layout t.memory (at_next a t.ip) after (word_in t Bp)
  restored-bp step after framed two falls =
      let next : State = record s { ip = next_of s.ip step.instr } in
      let top = step.top in
      let base : word_in s Sp + layout.delta ≡ a.frame.base - 4 = omega (arith, top, two) in
      let eight : length (with_sp_raised 2 next).regs ≡ 8 =
      length-set s.regs 4 ((word_in s Sp + 2) % 65536) ∙ step.state.registers.count in
      let bp : word_in t Bp ≡ word_at layout s.memory (word_in s Sp + layout.delta) =
      ap (λ v. word_in v Bp) step.is ∙ word-taken (with_sp_raised 2 next) Bp Bp (top_word next) eight refl
      ∙ word-read layout next (word_in s Sp) (word-within step (word_in s Sp) (omega (arith, top, two))) in
      outside (inr (omega (arith, ints, falls, two)))
      (bp ∙ ap (word_at layout s.memory) base
      ∙ bp-saved step.holds (record { framed = framed; deep = omega (arith, two) }))

  left-frame :
      (step : OpStep image layout a height s t Leave) (after : ℕ) → IsSetUp image layout a.frame.entry height
      → pos after ≡ pos 0 → HoldsBp image layout t.memory (at_next a t.ip) after (word_in t Bp)
  left-frame step after up falls =
      let next : State = record s { ip = next_of s.ip step.instr } in
      let u = with_word_in next Sp (word_in s Bp) in
      let points_to : word_in s Bp + layout.delta + 4 ≡ a.frame.base =
      bp-points Leave step.holds (stands-there step) (λ e. cc) up in
      let base : word_in s Bp + layout.delta ≡ a.frame.base - 4 = omega (arith, points_to) in
      let once : length u.regs ≡ 8 = length-set s.regs 4 (word_in s Bp) ∙ step.state.registers.count in
      let twice : length (with_sp_raised 2 u).regs ≡ 8 = length-set u.regs 4 ((word_in u Sp + 2) % 65536) ∙ once in
      let sp : word_in u Sp ≡ word_in s Bp =
      word-taken next Sp Sp (word_in s Bp) step.state.registers.count refl in
      let bp : word_in t Bp ≡ word_at layout s.memory (word_in s Bp + layout.delta) =
      ap (λ v. word_in v Bp) step.is ∙ word-taken (with_sp_raised 2 u) Bp Bp (top_word u) twice refl
      ∙ ap (word_at_offset next (stack_segment next)) sp
      ∙ word-read layout next (word_in s Bp) (word-within step (word_in s Bp) (omega (arith, points_to))) in
      outside (inr (omega (arith, ints, falls))) (bp ∙ ap (word_at layout s.memory) base ∙ bp-saved step.holds up)

  -- BP after any operation but CALL and RET
  pub inner-bp :
      {op : Op} (step : OpStep image layout a height s t op) (after : ℕ)
      → IsForm image layout a.frame.entry a.at height op → moves_frames op ≡ false
      → MovesHeight image layout a.frame.entry a.at op (pos height) (pos after)
      → (is_framed image layout a.frame.entry ≡ true → changes_frame op ≡ false → FrameStays height after)
      → HoldsBp image layout t.memory a height (word_in s Bp)
      → HoldsBp image layout t.memory (at_next a t.ip) after (word_in t Bp)
  inner-bp step after (saves framed begins none) apart m stays carried =
      saved-bp step after framed begins none (push-height m)
      (let room = above-zero layout (pos (word_in s Sp) -ℤ pos 2) step.clean in omega (arith, ints, room))
  inner-bp step after (points framed two) apart m stays carried =
      let same : pos after ≡ pos height = stays-at m refl in
      pointed-bp step after framed two (omega (arith, ints, same)) carried
  inner-bp step after (enters {count} framed begins none few) apart m stays carried =
      entered-bp step after framed none (enter-height m)
      (let room = above-zero layout (pos (word_in s Sp) -ℤ pos (2 + count)) step.clean in omega (arith, ints, room))
  inner-bp step after (falls_back up) apart m stays carried =
      left-bp step after (record { spared = λ half. refl; frame = refl; other = λ e. cc }) stays carried
  inner-bp step after (falls_to up direct) apart m stays carried =
      left-bp step after (record { spared = λ half. refl; frame = refl; other = λ e. cc }) stays carried
  inner-bp step after (restores framed two) apart m stays carried =
      restored-bp step after framed two (pop-height m)
  inner-bp step after (leaves up) apart m stays carried = left-frame step after up (leave-height m)
  inner-bp step after (pushes {a = x} plain) apart m stays carried =
      left-bp step after (push-leaves x plain.other) stays carried
  inner-bp step after (pops {a = x} plain) apart m stays carried =
      left-bp step after (pop-leaves x plain.other) stays carried
  inner-bp step after calls apart m stays carried = cc
  inner-bp step after (returns none inner) apart m stays carried = cc
  inner-bp step after (moves {op} {bytes} lowers) apart m stays carried =
      left-bp step after (move-leaves op bytes lowers) stays carried
  inner-bp step after (keeps {op} apart' sp bp) apart m stays carried =
      left-bp step after (keep-leaves op sp bp) stays carried
