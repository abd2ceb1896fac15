-- What a clean step writes lies apart from the code, return addresses and saved BPs.
use Rattle.std.proofs.Common.{◌≡◌, ℕ, zero, suc, ◌+◌, ◌-◌, ◌*◌, ◌%◌, ◌<◌, ◌≤◌, ◌⊎◌, inl, inr, Bool, true, false, List, [], ◌∷◌, map, Option, Some, None, refl, sym, ap, ◌∙◌, subst, arith}
use Rattle.std.proofs.lemmas.Int.{ints}
use Rattle.std.proofs.lemmas.List.Elements.{All-nil, All-cons, All-map, All-contains}
use Rattle.std.proofs.Math.Nat.{mod-eq_of_lt}
use Rattle.std.specs.Prelude.{ℤ, pos, negsuc, ◌+ℤ◌, ◌-ℤ◌, ◌≤ℤ◌, int_lt, not, ◌||◌, ◌&&◌, is_none, nat_le, if◌then◌else◌, All, Contains}
use Rattle.std.specs.List.{range_with_len}
use Rattle.dcc_num.specs.declared.Width.{Width}
use Rattle.dcc_num.specs.declared.Width.TheVariants.{Byte as byte_width, Word as word_width}
use Rattle.dcc_num.specs.declared.Reg.TheVariants.{Sp, Bp}
use Rattle.dcc_num.specs.Numbers.{has_sign, signed_of}
use Rattle.dcc_machine.specs.declared.cpu.Cpu.{Cpu}
use Rattle.dcc_machine.specs.declared.image.Image.{Image}
use Rattle.dcc_prog.specs.declared.procedure.Layout.{Layout}
use Rattle.dcc_prog.specs.declared.frame.Program.{Program}
use Rattle.dcc_machine.specs.declared.instr.Ea.{Ea}
use Rattle.dcc_machine.specs.declared.instr.Op.{Op}
use Rattle.dcc_machine.specs.declared.instr.Op.TheVariants.{Mov, Push, Enter, Call}
use Rattle.dcc_machine.specs.declared.instr.Operand.TheVariants.{Word}
use Rattle.dcc_machine.specs.declared.instr.Instr.{Instr}
use Rattle.dcc_machine.specs.Machine.{State, word_in, is_bp, physical, stack_segment, data_segment}
use Rattle.dcc_machine.specs.Access.{Writing, OfFrame, Other, Access, bytes_in, is_direct, push_access, address_in, addresses_of, found_accesses, written_by}
use Rattle.dcc_machine.specs.SpAndBp.{address_uses_bp}
use Rattle.dcc_prog.specs.FrameForm.{is_framed}
use Rattle.dcc_prog.specs.Trail.{instruction_in}
use Rattle.dcc_prog.specs.Frame.{span_of, memory_operand, offset_in_frame, direct}
use Rattle.dcc_prog.specs.Clean.{Stack, is_exposed_byte, stack_offset, is_other, top_in, sp_after, is_low}
use Rattle.dcc_machine.proofs.AlikeValues.{and-parts}
use Rattle.dcc_machine.proofs.LocationKept.{or-none}
use Rattle.dcc_stack.specs.Accepted.{IsProgramOfFile, IsSetUp, IsNodeOf, IsInFrame, in_arguments, in_locals, AcceptedProgramsAreInForm}
use Rattle.dcc_stack.specs.Standing.{Activation, HoldsBp, outside, at_mov, inside, StandsIn, Stand, StackStands}
use Rattle.dcc_stack.specs.Apart.{is_pushing, MayWrite, off_stack, in_frames, pushed}
use Rattle.dcc_stack.proofs.ApartFrames.{IsOwn, control-most, newest-stands, top-below, own-apart, own-below, argument-own, exposed-own}
use Rattle.dcc_stack.proofs.ApartAccesses.{IsShown, IsCleanStep, IsOperandAccess, IsAccessOf, reads, pushes, stores, exchanges_second, access-forms, all-written}

-- Numbers.

pub natural : (z : ℤ) → pos 0 ≤ℤ z → (n : ℕ) × (z ≡ pos n)
natural (pos n) le = (n, refl)
natural (negsuc n) le = absurd (omega (arith, ints, le))

-- BP plus a displacement, where the sum doesn't wrap
pub direct-sum : (bp disp n : ℕ) → n < 65536 → (pos bp +ℤ signed_of word_width disp) ≡ pos n → (bp + 0 + disp) % 65536 ≡ n
unfolding signed_of
direct-sum bp disp n low e =
    elim (has_sign word_width disp) as (λ b. (pos bp +ℤ (if b then pos disp -ℤ pos 65536 else pos disp)) ≡ pos n
    → (bp + 0 + disp) % 65536 ≡ n) [
      | true ↦ λ h. let sum : bp + disp ≡ n + 65536 = omega (arith, ints, h) in omega (arith, low, sum)
      | false ↦ λ h. let sum : bp + disp ≡ n = omega (arith, ints, h) in omega (arith, low, sum)
    ] e

-- where a segment begins at so many bytes after the data segment
pub in-data : (ds segment delta n : ℕ) → segment * 16 ≡ ds * 16 + delta → ds ≤ 0xF000 → n + delta ≤ 65535
    → physical segment n ≡ ds * 16 + (n + delta)
in-data ds segment delta n begins fits low =
    let less : segment * 16 + n < 1048576 = omega (arith, begins, fits, low) in
    mod-eq_of_lt less ∙ omega (arith, begins)

-- after a push SP is 2 less without a wrap
fallen : (layout : Layout) (sp bytes : ℕ) → is_low layout (pos sp -ℤ pos bytes) ≡ false → bytes ≤ sp
fallen layout sp bytes low = by (or-none (int_lt (pos sp -ℤ pos bytes) (pos 0)) _ low).0
  where
    by : int_lt (pos sp -ℤ pos bytes) (pos 0) ≡ false → bytes ≤ sp
    by h = grind (arith, ints, h)

push-high : (layout : Layout) (op : Op) (s : State) → is_pushing op ≡ true → is_low layout (sp_after op s) ≡ false
    → 2 ≤ word_in s Sp
push-high layout (Push a) s push low = fallen layout (word_in s Sp) 2 low
push-high layout (Call target) s push low = fallen layout (word_in s Sp) 2 low
push-high layout (Enter count) s push low = let le = fallen layout (word_in s Sp) (2 + count) low in omega (arith, le)
push-high layout op s push low = cc

-- the bytes of an access of a width, one by one
each-byte : (w : Width) (P : ℕ → Type 0) → ((k : ℕ) → k < bytes_in w → P k) → All P (range_with_len 0 (bytes_in w))
each-byte byte_width P holds = All-cons P 0 [] (holds 0 (omega arith)) (All-nil P)
each-byte word_width P holds =
    All-cons P 0 (1 ∷ []) (holds 0 (omega arith)) (All-cons P 1 [] (holds 1 (omega arith)) (All-nil P))

-- the offset of a stack byte
pub offset-of_address : (layout : Layout) (address offset : ℕ) → layout.ds * 16 ≤ address
    → stack_offset layout address ≡ Some offset → address ≡ layout.ds * 16 + offset
offset-of_address layout address offset above is =
    elim (nat_le (layout.ds * 16 + layout.lo) address && not (nat_le (layout.ds * 16 + layout.hi) address)) as (λ b.
    (if b then Some (address - layout.ds * 16) else None) ≡ Some offset → address ≡ layout.ds * 16 + offset) [
      | true ↦ λ e. let same : address - layout.ds * 16 ≡ offset = cc in omega (arith, above, same)
      | false ↦ λ e. cc
    ] is

-- One frame.

module _ (cpu : Cpu) (image : Image) (program : Program) (memory : List ℕ) (form : AcceptedProgramsAreInForm)
    (is : IsProgramOfFile cpu image program) where
  abbrev layout : Layout
  layout = program.layout

  -- a byte of a direct access
  record IsReached (activations : List Activation) (top bp k : ℕ) (first : ℤ) : Type 0 where
    number : ℕ
    sum : (pos bp +ℤ first) ≡ pos number
    own : IsOwn image layout (number + k + layout.delta) activations top

  frame-byte : {a : Activation} {callers : List Activation} {top bp : ℕ}
      → Stand image layout memory (a ∷ callers) top bp → (sp height : ℕ) → sp + layout.delta ≡ top
      → top + 2 + height ≡ a.frame.base → bp + layout.delta + 4 ≡ a.frame.base → (first : ℤ) (size k : ℕ)
      → IsInFrame image layout a.frame.entry height (span_of first size) → k < size
      → IsReached (a ∷ callers) top bp k first
  frame-byte {a = a} {bp = bp} standing sp height low top base first size k (in_locals from to) less =
      let n = natural (pos bp +ℤ first) (omega (arith, ints, low, top, base, from)) in
      let from_top : sp ≤ n.0 = omega (arith, ints, low, top, base, from, n.1) in
      let below_bp : n.0 + size ≤ bp = omega (arith, ints, to, n.1) in
      let most = control-most (is_framed image layout a.frame.entry) in
      record {
        number = n.0;
        sum = n.1;
        own = inl (omega (arith, low, from_top), omega (arith, base, below_bp, less, most));
      }
  frame-byte {a = a} {bp = bp} standing sp height low top base first size k
      (in_arguments {count = count} has from to) less =
      let n = natural (pos bp +ℤ first) (omega (arith, ints, from)) in
      let above : bp + 4 ≤ n.0 = omega (arith, ints, from, n.1) in
      let within : n.0 + size ≤ bp + 4 + 2 * count = omega (arith, ints, to, n.1) in
      record {
        number = n.0;
        sum = n.1;
        own = argument-own cpu image program memory form is (n.0 + k + layout.delta) count standing has
            (omega (arith, base, above)) (omega (arith, base, within, less));
      }

-- One step.

-- two operations at one offset are one
pub same-instruction : (found : Option Instr) (instr other : Instr) → found ≡ Some instr → found ≡ Some other
    → instr ≡ other
same-instruction found instr other p q = cc

-- a `mov bp,sp` has no operand in memory
mov-memoryless : (found : Option Instr) (instr : Instr) (operand : Width × Ea) → found ≡ Some instr
    → memory_operand instr.op ≡ Some operand → (other : Instr) → found ≡ Some other
    → other.op ≡ Mov (Word Bp) (Word Sp) → ⊥
mov-memoryless found instr operand p e other q is =
    let none : None ≡ Some operand =
    subst (λ op. memory_operand op ≡ Some operand)
    (ap (λ (i : Instr). i.op) (same-instruction found instr other p q) ∙ is) e in
    cc

module _ (cpu : Cpu) (image : Image) (program : Program) (s : State) (stack : Stack) (instr : Instr)
    (form : AcceptedProgramsAreInForm) (is : IsProgramOfFile cpu image program)
    (stands : StackStands image program.layout s stack)
    (found : instruction_in image program.layout s.ip ≡ Some instr)
    (clean : IsCleanStep program stack s instr) where
  abbrev here : Layout
  here = program.layout

  abbrev activations : List Activation
  activations = stands.newest ∷ stands.callers

  abbrev top : ℕ
  top = top_in here s

  abbrev next : State
  next = record s { ip = (s.ip + instr.len) % 65536 }

  abbrev MayBeWritten : ℕ → Type 0
  MayBeWritten address = MayWrite image here activations top instr.op address

  ds_fits : here.ds ≤ 0xF000
  ds_fits = is.is_program.layout.small.ds_fits

  hi_fits : here.hi ≤ 65535
  hi_fits = is.is_program.layout.small.hi_fits

  stack-begins : stack_segment s * 16 ≡ here.ds * 16 + here.delta
  stack-begins = stands.segments.stack_is

  own-written : (offset address : ℕ) → IsOwn image here offset activations top → address ≡ here.ds * 16 + offset
      → MayBeWritten address
  own-written offset address own e =
      let apart = own-apart image here s.memory offset stands.stand own in in_frames offset e apart.0 apart.1

  -- Pushes.

  pushed-byte : (k : ℕ) → k < 2 → is_pushing instr.op ≡ true → MayBeWritten (address_in (push_access next) k)
  pushed-byte k less push =
      let high = push-high here instr.op s push clean.low in
      let below = top-below image here s.memory stands.stand in
      let sp = stands.segments.state.registers.words Sp in
      let n : ((word_in s Sp + 65534) % 65536 + k) % 65536 ≡ word_in s Sp - 2 + k = omega (arith, high, less, sp) in
      let e : address_in (push_access next) k ≡ here.ds * 16 + (word_in s Sp - 2 + k + here.delta) =
      ap (λ m. physical (stack_segment s) m) n
      ∙ in-data here.ds (stack_segment s) here.delta (word_in s Sp - 2 + k) stack-begins ds_fits
      (omega (arith, below, hi_fits, high, less)) in
      pushed (word_in s Sp - 2 + k + here.delta) e push (by k less high)
    where
      by : (j : ℕ) → j < 2 → 2 ≤ word_in s Sp
          → (word_in s Sp - 2 + j + here.delta + 1 ≡ top) ⊎ (word_in s Sp - 2 + j + here.delta + 2 ≡ top)
      by zero less high = inr (omega (arith, high))
      by (suc zero) less high = inl (omega (arith, high))
      by (suc (suc j)) less high = absurd (omega (arith, less))

  push-written : (access : Access) → is_pushing instr.op ≡ true → access ≡ push_access next
      → All MayBeWritten (addresses_of access)
  push-written access push e =
      subst (λ (x : Access). All MayBeWritten (addresses_of x)) (sym e)
      (All-map MayBeWritten (address_in (push_access next)) (range_with_len 0 2)
      (each-byte word_width (λ k. MayBeWritten (address_in (push_access next) k)) (λ k less. pushed-byte k less push)))

  -- Direct accesses.

  stand-in : StandsIn image here s.memory stands.newest top (word_in s Bp)
  stand-in = newest-stands image here s.memory stands.stand

  node : IsNodeOf image here stands.newest.frame.entry stands.newest.at stands.newest.before stand-in.height
  node =
      form.nodes cpu image program stands.newest.frame.entry stands.newest.at stands.newest.before stand-in.height is
      stand-in.is_at

  found-there : instruction_in image here stands.newest.at ≡ Some instr
  found-there = ap (instruction_in image here) stands.place ∙ found

  node-is : node.instr ≡ instr
  node-is = same-instruction (instruction_in image here stands.newest.at) node.instr instr node.stands found-there

  node-operand : (operand : Width × Ea) → memory_operand instr.op ≡ Some operand
      → memory_operand node.instr.op ≡ Some operand
  node-operand operand e = ap (λ (i : Instr). memory_operand i.op) node-is ∙ e

  -- where BP is used, it points to the frame
  bp-points : (width : Width) (ea : Ea) → memory_operand instr.op ≡ Some (width, ea) → address_uses_bp ea ≡ true
      → word_in s Bp + here.delta + 4 ≡ stands.newest.frame.base
  bp-points width ea operand uses =
      let set_up = node.by_bp (node-operand (width, ea) operand) uses in
      by set_up stand-in.holds
    where
      by : IsSetUp image here stands.newest.frame.entry stand-in.height
          → HoldsBp image here s.memory stands.newest stand-in.height (word_in s Bp)
          → word_in s Bp + here.delta + 4 ≡ stands.newest.frame.base
      by set_up (outside (inl unframed) same) = let clash = set_up.framed in cc
      by set_up (outside (inr flat) same) = let deep = set_up.deep in absurd (omega (arith, deep, flat))
      by set_up (at_mov framed two there saved) =
          absurd (mov-memoryless (instruction_in image here stands.newest.at) instr (width, ea) found-there operand
          there.0 there.1 there.2)
      by set_up (inside framed deep saved points) = points

  direct-written : (access : Access) → (op_is : IsOperandAccess instr.op next access) → is_direct op_is.ea ≡ true
      → All MayBeWritten (addresses_of access)
  direct-written access op_is so =
      let ea = op_is.ea in
      let based = (and-parts (is_bp ea.base) (is_none ea.index) so).0 in
      let uses : address_uses_bp ea ≡ true = ap (λ b. b || is_bp ea.index) based in
      let segment : access.segment ≡ stack_segment s =
      op_is.segment_is ∙ ap (λ b. if b then stack_segment s else data_segment s) uses in
      let set_up = node.by_bp (node-operand (op_is.width, ea) op_is.operand) uses in
      let span = form.accesses cpu image program stands.newest.frame.entry stands.newest.at stands.newest.before
      stand-in.height
      (span_of (offset_in_frame ea) (bytes_in op_is.width)) is stand-in.is_at
      (direct set_up.framed (instr, found-there, refl) op_is.operand so) in
      let byte : (k : ℕ) → k < bytes_in op_is.width → MayBeWritten (address_in access k) = λ k less.
      let reached = frame-byte cpu image program s.memory form is stands.stand (word_in s Sp) stand-in.height refl
      stand-in.top_is
      (bp-points op_is.width ea op_is.operand uses) (offset_in_frame ea) (bytes_in op_is.width) k span less in
      let below = own-below image here s.memory (reached.number + k + here.delta) stands.stand reached.own in
      let start : access.offset ≡ reached.number =
      op_is.direct_is so ∙ direct-sum (word_in s Bp) ea.disp reached.number (omega (arith, below, hi_fits))
      reached.sum in
      let e : address_in access k ≡ here.ds * 16 + (reached.number + k + here.delta) =
      ap (λ g. physical g ((access.offset + k) % 65536)) segment
      ∙ ap (λ n. physical (stack_segment s) ((n + k) % 65536)) start
      ∙ ap (λ n. physical (stack_segment s) n) (mod-eq_of_lt (omega (arith, below, hi_fits)))
      ∙ in-data here.ds (stack_segment s) here.delta (reached.number + k) stack-begins ds_fits
      (omega (arith, below, hi_fits)) in
      own-written (reached.number + k + here.delta) (address_in access k) reached.own e in
      subst (λ n. All MayBeWritten (map (address_in access) (range_with_len 0 n))) (sym op_is.size_is)
      (All-map MayBeWritten (address_in access) (range_with_len 0 (bytes_in op_is.width))
      (each-byte op_is.width (λ k. MayBeWritten (address_in access k)) byte))

  -- Other accesses.

  other-segment : (access : Access) → (op_is : IsOperandAccess instr.op next access) → is_direct op_is.ea ≡ false
      → access.segment * 16 ≡ here.ds * 16
  other-segment access op_is indirect = ap (λ n. n * 16) op_is.segment_is ∙ by (address_uses_bp op_is.ea) refl
    where
      by : (b : Bool) → address_uses_bp op_is.ea ≡ b
          → (if b then stack_segment s else data_segment s) * 16 ≡ here.ds * 16
      by true uses =
          let none = node.indexed (node-operand (op_is.width, op_is.ea) op_is.operand) uses indirect in
          omega (arith, stack-begins, none)
      by false plain = ap (λ n. n * 16) stands.segments.data_is

  other-byte : (address : ℕ) → here.ds * 16 ≤ address
      → ((offset : ℕ) → stack_offset here address ≡ Some offset
      → is_exposed_byte program top stack.frames offset ≡ true)
      → MayBeWritten address
  other-byte address above exposed = by (stack_offset here address) refl
    where
      by : (o : Option ℕ) → stack_offset here address ≡ o → MayBeWritten address
      by None none = off_stack above none
      by (Some offset) some =
          own-written offset address
          (exposed-own cpu image program s.memory form is offset stands.stand
          (ap (λ frames. is_exposed_byte program top frames offset) stands.frames ∙ exposed offset some))
          (offset-of_address here address offset above some)

  other-written : (access : Access) → (op_is : IsOperandAccess instr.op next access) → is_direct op_is.ea ≡ false
      → IsShown program stack s access → All MayBeWritten (addresses_of access)
  other-written access op_is indirect shown =
      let kind : access.kind ≡ Other = op_is.kind_is ∙ ap (λ b. if b then OfFrame else Other) indirect in
      let other : is_other access ≡ true = ap (λ k. is_other (record access { kind = k })) kind in
      let segment = other-segment access op_is indirect in
      let above : (k : ℕ) → here.ds * 16 ≤ address_in access k = λ k.
      let low : (access.offset + k) % 65536 < 65536 = omega arith in
      let less : access.segment * 16 + (access.offset + k) % 65536 < 1048576 = omega (arith, segment, ds_fits, low) in
      let same : address_in access k ≡ access.segment * 16 + (access.offset + k) % 65536 = mod-eq_of_lt less in
      omega (arith, same, segment) in
      let all_above = All-map (λ address. here.ds * 16 ≤ address) (address_in access) (range_with_len 0 access.size)
      (λ j d less. above _) in
      λ j d less. other-byte _ (all_above j d less) (shown other j d less)

  access-written : (access : Access) → IsAccessOf instr.op next access → IsShown program stack s access
      → access.direction ≡ Writing → All MayBeWritten (addresses_of access)
  access-written access (reads reading) shown writing = cc
  access-written access (pushes push e) shown writing = push-written access push e
  access-written access (stores op_is) shown writing = by (is_direct op_is.ea) refl
    where
      by : (b : Bool) → is_direct op_is.ea ≡ b → All MayBeWritten (addresses_of access)
      by true so = direct-written access op_is so
      by false indirect = other-written access op_is indirect shown

  pub step-written : exchanges_second instr.op ≡ false → (address : ℕ)
      → Contains (written_by (found_accesses (Some instr) s)) address → MayBeWritten address
  step-written plain address has =
      let forms = access-forms instr.op next plain in
      All-contains MayBeWritten (written_by (found_accesses (Some instr) s)) address
      (all-written MayBeWritten (found_accesses (Some instr) s)
      (λ j d less. access-written _ (forms j d less) (clean.shown j d less)))
      has
