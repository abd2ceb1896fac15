-- The bytes of a memory operand of a clean instruction: where they lie in the data segment, and what is known of them
-- there.
use Rattle.std.proofs.Common.{◌≡◌, ◌≢◌, ◌≤◌, ◌<◌, ℕ, zero, suc, ◌+◌, ◌-◌, ◌*◌, ◌%◌, Bool, true, false, List, [], ◌∷◌, map, Contains, Some, None, refl, sym, ap, ◌∙◌, subst, arith}
use Rattle.std.specs.Prelude.{pos, ◌+ℤ◌, ◌-ℤ◌, ◌≤ℤ◌, not, ◌&&◌, ◌||◌, is_none, nat_le, if◌then◌else◌, All}
use Rattle.std.specs.List.{range_with_len}
use Rattle.std.proofs.lemmas.Int.{ints}
use Rattle.std.proofs.lemmas.List.Elements.{All-contains}
use Rattle.std.proofs.Math.Nat.{mod-eq_of_lt}
use Rattle.dcc_num.specs.declared.Width.{Width}
use Rattle.dcc_num.specs.declared.Width.TheVariants.{Byte as byte_width, Word as word_width}
use Rattle.dcc_num.specs.declared.Reg.TheVariants.{Sp, Bp}
use Rattle.dcc_prog.specs.declared.procedure.Layout.{Layout}
use Rattle.dcc_machine.specs.declared.instr.Ea.{Ea}
use Rattle.dcc_machine.specs.declared.instr.Instr.{Instr}
use Rattle.dcc_machine.specs.declared.instr.Op.TheVariants.{Mov}
use Rattle.dcc_machine.specs.declared.instr.Operand.TheVariants.{Word}
use Rattle.dcc_machine.specs.Machine.{State as Machine, word_in, is_bp, physical, stack_segment, data_segment, offset_of, segment_of}
use Rattle.dcc_prog.specs.Trail.{instruction_in, StandsAt}
use Rattle.dcc_machine.specs.SpAndBp.{address_uses_bp}
use Rattle.dcc_machine.specs.Access.{Direction, Reading, OfFrame, Other, Access, bytes_in, is_direct, address_in, addresses_of, found_accesses}
use Rattle.dcc_prog.specs.Frame.{span_of, memory_operand, offset_in_frame, IsDirectAccess, direct}
use Rattle.dcc_prog.specs.Clean.{Stack, stack_offset, is_other, is_reading, is_exposed_byte, is_marked, top_in, end_of}
use Rattle.dcc_machine.proofs.AlikeValues.{and-parts}
use Rattle.dcc_prog.proofs.StackMarks.{in_rest, at_head}
use Rattle.dcc_stack.specs.Accepted.{IsSetUp, IsNodeOf, IsInFrame, in_arguments, in_locals}
use Rattle.dcc_stack.specs.Standing.{Activation, StandsIn}
use Rattle.dcc_stack.specs.Apart.{IsApart}
use Rattle.dcc_stack.specs.Slots.{AreNested, activations_of, IsExposedIn, IsChangeable, writes_memory}
use Rattle.dcc_stack.proofs.FormLaws.{in-form}
use Rattle.dcc_stack.proofs.ApartAccesses.{Pass, IsCleanStep, clean-step, direct-offset}
use Rattle.dcc_stack.proofs.ApartFrames.{newest-stands}
use Rattle.dcc_stack.proofs.ApartWrites.{natural, direct-sum, in-data, same-instruction}
use Rattle.dcc_stack.proofs.SlotFrames.{parts-low}
use Rattle.dcc_stack.proofs.StepFrames.{bp-points}
use Rattle.dcc_ir.specs.Run.{State, Waiting}
use Rattle.dcc_simulation.specs.Coupled.{Setting, typed_by, typed_waiting, AreWaiting}
use Rattle.dcc_simulation.specs.Places.{IsOfFrame}
use Rattle.dcc_simulation.specs.Laws.{IsCleanInstruction, operand_access, Makes}
use Rattle.dcc_simulation.proofs.Coupling.{carried_laws}

-- Addresses.

-- a byte of the stack has its offset
pub stack-offset : (layout : Layout) (offset : ℕ) → layout.lo ≤ offset → offset < layout.hi
    → stack_offset layout (layout.ds * 16 + offset) ≡ Some offset
stack-offset layout offset low high =
    by (nat_le (layout.ds * 16 + layout.lo) (layout.ds * 16 + offset))
    (nat_le (layout.ds * 16 + layout.hi) (layout.ds * 16 + offset)) (lower low) (upper high)
  where
    lower : layout.lo ≤ offset → nat_le (layout.ds * 16 + layout.lo) (layout.ds * 16 + offset) ≡ true
    lower le = grind (arith, le)

    upper : offset < layout.hi → nat_le (layout.ds * 16 + layout.hi) (layout.ds * 16 + offset) ≡ false
    upper less = grind (arith, less)

    by : (b d : Bool) → b ≡ true → d ≡ false
        → (if b && not d then Some (layout.ds * 16 + offset - layout.ds * 16) else None) ≡ Some offset
    by true false p q = ap Some (omega arith)
    by true true p q = cc
    by false d p q = cc

-- the addresses of an access of a width hold that of each of its bytes
pub address-among : (access : Access) (w : Width) (index : ℕ) → access.size ≡ bytes_in w → index < bytes_in w
    → Contains (addresses_of access) (address_in access index)
address-among access w index size less =
    subst (λ n. Contains (map (address_in access) (range_with_len 0 n)) (address_in access index)) (sym size)
    (by w index less)
  where
    by : (v : Width) (k : ℕ) → k < bytes_in v
        → Contains (map (address_in access) (range_with_len 0 (bytes_in v))) (address_in access k)
    by byte_width zero less = at_head (address_in access 0) (address_in access 0) [] refl
    by byte_width (suc k) less = absurd (omega (arith, less))
    by word_width zero less = at_head (address_in access 0) (address_in access 0) (address_in access 1 ∷ []) refl
    by word_width (suc zero) less =
        in_rest (address_in access 0) (address_in access 1) (address_in access 1 ∷ [])
        (at_head (address_in access 1) (address_in access 1) [] refl)
    by word_width (suc (suc k)) less = absurd (omega (arith, less))

-- Frames.

-- the frames of activations that wait are those of the callers
pub waiting-frames : (e : Setting) (callee : Activation) (callers : List Activation) (waiting : List Waiting)
    → AreWaiting e callee callers waiting
    → activations_of (typed_waiting e callers waiting) ≡ callers
waiting-frames e callee [] [] are = refl
waiting-frames e callee [] (w ∷ waiting) are = absurd are
waiting-frames e callee (caller ∷ callers) [] are = absurd are
waiting-frames e callee (caller ∷ callers) (w ∷ waiting) are =
    ap (λ rest. caller ∷ rest) (waiting-frames e caller callers waiting are.2)

module _ (e : Setting) (s : Machine) (stack : Stack) (instr : Instr) (is : IsCleanInstruction e s stack instr) where
  open e.program use {layout}
  open is.stands use {newest as a}

  abbrev top : ℕ
  top = top_in layout s

  clean : IsCleanStep e.program stack s instr
  clean = clean-step e.program stack s instr is.clean

  ds_fits : layout.ds ≤ 0xF000
  ds_fits = is.of_file.is_program.layout.small.ds_fits

  hi_fits : layout.hi ≤ 65535
  hi_fits = is.of_file.is_program.layout.small.hi_fits

  pub stand-in : StandsIn e.image layout s.memory a top (word_in s Bp)
  stand-in = newest-stands e.image layout s.memory is.stands.stand

  pub nested : AreNested e.program e.image (a ∷ is.stands.callers)
  nested = carried_laws.nested is.of_file is.stands.stand is.stands.low

  node : IsNodeOf e.image layout a.frame.entry a.at a.before stand-in.height
  node =
      in-form.nodes e.cpu e.image e.program a.frame.entry a.at a.before stand-in.height is.of_file stand-in.is_at

  found-there : instruction_in e.image layout a.at ≡ Some instr
  found-there = ap (instruction_in e.image layout) is.stands.place ∙ is.found

  pub there : StandsAt e.image layout a.at instr.op
  there = (instr, found-there, refl)

  node-is : node.instr ≡ instr
  node-is = same-instruction (instruction_in e.image layout a.at) node.instr instr node.stands found-there

  -- what the machine's frames expose, those of the activations do
  pub exposed-in : (t : State) → AreWaiting e a is.stands.callers t.waiting → (offset : ℕ)
      → is_exposed_byte e.program top stack.frames offset ≡ true
      → IsExposedIn e.program top (typed_by e a t.running ∷ typed_waiting e is.stands.callers t.waiting) offset
  exposed-in t waiting offset shown =
      let frames : map (λ (b : Activation). b.frame)
      (a ∷ activations_of (typed_waiting e is.stands.callers t.waiting)) ≡ stack.frames =
      ap (λ rest. map (λ (b : Activation). b.frame) (a ∷ rest))
      (waiting-frames e a is.stands.callers t.waiting waiting) ∙ is.stands.frames in
      ap (λ l. is_exposed_byte e.program top l offset) frames ∙ shown

  module _ (w : Width) (ea : Ea) (operand : memory_operand instr.op ≡ Some (w, ea)) where
    node-operand : memory_operand node.instr.op ≡ Some (w, ea)
    node-operand = ap (λ (i : Instr). memory_operand i.op) node-is ∙ operand

    no-mov : instr.op ≢ Mov (Word Bp) (Word Sp)
    no-mov same = let none = sym (ap memory_operand same) ∙ operand in cc

    -- Direct accesses.

    module _ (so : is_direct ea ≡ true) where
      uses : address_uses_bp ea ≡ true
      uses = ap (λ b. b || is_bp ea.index) (and-parts (is_bp ea.base) (is_none ea.index) so).0

      set-up : IsSetUp e.image layout a.frame.entry stand-in.height
      set-up = node.by_bp node-operand uses

      points : word_in s Bp + layout.delta + 4 ≡ a.frame.base
      points = bp-points instr.op stand-in.holds there no-mov set-up

      pub access-is : IsDirectAccess e.image layout a.frame.entry a.at (span_of (offset_in_frame ea) (bytes_in w))
      access-is = direct set-up.framed there operand so

      inside : IsInFrame e.image layout a.frame.entry stand-in.height (span_of (offset_in_frame ea) (bytes_in w))
      inside =
          in-form.accesses e.cpu e.image e.program a.frame.entry a.at a.before stand-in.height _ is.of_file
          stand-in.is_at access-is

      segment : segment_of s ea ≡ stack_segment s
      segment = ap (λ b. if b then stack_segment s else data_segment s) uses

      -- the operand lies above SP, and so at an offset
      above : pos (word_in s Sp) ≤ℤ (pos (word_in s Bp) +ℤ offset_in_frame ea)
      above = by inside
        where
          by : IsInFrame e.image layout a.frame.entry stand-in.height (span_of (offset_in_frame ea) (bytes_in w))
              → pos (word_in s Sp) ≤ℤ (pos (word_in s Bp) +ℤ offset_in_frame ea)
          by (in_arguments has from to) =
              let on_top = stand-in.top_is in omega (arith, ints, from, points, on_top)
          by (in_locals from to) =
              let on_top = stand-in.top_is in omega (arith, ints, from, points, on_top)

      begins : (n : ℕ) × ((pos (word_in s Bp) +ℤ offset_in_frame ea) ≡ pos n)
      begins = natural (pos (word_in s Bp) +ℤ offset_in_frame ea) (let le = above in omega (arith, ints, le))

      -- the offset of its first byte
      pub start : ℕ
      start = begins.0 + layout.delta

      start-is : begins.0 + layout.delta ≡ start
      unfolding start
      start-is = refl

      place-at : (index : ℕ) → (pos (start + index + 4) -ℤ pos a.frame.base) ≡ (offset_in_frame ea +ℤ pos index)
      place-at index =
          let sum = begins.1 in
          let first = start-is in
          omega (arith, ints, sum, first, points)

      own-at : (index : ℕ) → index < bytes_in w
          → (top ≤ start + index) × (start + index < end_of e.program a.frame)
          × IsApart e.image layout (start + index) a
      own-at index less =
          let place = place-at index in
          carried_laws.in_frame (start + index) is.of_file stand-in inside (omega (arith, ints, place))
          (omega (arith, ints, place, less))

      pub high-at : (index : ℕ) → index < bytes_in w → start + index < layout.hi
      high-at index less =
          let own = own-at index less in
          parts-low e.image e.program (start + index) a is.stands.callers nested own.1 own.2

      -- the operand is of the frame
      pub of-frame : IsOfFrame e a top (offset_in_frame ea) w start
      of-frame = record {
        place = let place = place-at 0 in omega (arith, ints, place);
        low = let low = (own-at 0 (some w)).0 in omega (arith, low);
        within = by w own-at;
        apart = λ index less. (own-at index less).2;
      }
        where
          some : (v : Width) → 0 < bytes_in v
          some byte_width = omega arith
          some word_width = omega arith

          by : (v : Width)
              → ((index : ℕ) → index < bytes_in v
              → (top ≤ start + index) × (start + index < end_of e.program a.frame)
              × IsApart e.image layout (start + index) a)
              → start + bytes_in v ≤ end_of e.program a.frame
          by byte_width own = let less = (own 0 (omega arith)).1 in omega (arith, less)
          by word_width own = let less = (own 1 (omega arith)).1 in omega (arith, less)

      -- each byte of an operand of the frame lies in the frame
      pub address-at : (index : ℕ) → index < bytes_in w
          → physical (segment_of s ea) ((offset_of s ea + index) % 65536) ≡ layout.ds * 16 + (start + index)
      address-at index less =
          let sum = begins.1 in
          let first = start-is in
          let high = high-at index less in
          let same : begins.0 + index + layout.delta ≡ start + index = omega (arith, first) in
          ap (λ g. physical g ((offset_of s ea + index) % 65536)) segment
          ∙ ap (λ n. physical (stack_segment s) ((n + index) % 65536)) (direct-offset s ea so)
          ∙ ap (λ n. physical (stack_segment s) ((n + index) % 65536))
          (direct-sum (word_in s Bp) ea.disp begins.0 (omega (arith, high, hi_fits, first)) sum)
          ∙ ap (physical (stack_segment s)) (mod-eq_of_lt (omega (arith, high, hi_fits, first)))
          ∙ in-data layout.ds (stack_segment s) layout.delta (begins.0 + index) is.stands.segments.stack_is ds_fits
          (omega (arith, high, hi_fits, first))
          ∙ ap (λ n. layout.ds * 16 + n) same

      -- an argument that is written may change
      pub changes-at : writes_memory instr.op ≡ true → (index : ℕ) → index < bytes_in w → a.frame.base ≤ start + index
          → IsChangeable e.image layout a.frame (start + index)
      changes-at writes index less above =
          let place = place-at index in
          carried_laws.changeable (start + index) is.of_file stand-in.is_at.is_entry
          (record { before = a.before; trail = stand-in.is_at.trail }) there writes access-is
          (omega (arith, ints, place)) (omega (arith, ints, place, less)) (above, (own-at index less).1)

    -- What a clean step tells of them.

    module _ (index offset : ℕ) (less : index < bytes_in w)
        (address : physical (segment_of s ea) ((offset_of s ea + index) % 65536) ≡ layout.ds * 16 + offset)
        (low : layout.lo ≤ offset) (high : offset < layout.hi) where
      passes : (direction : Direction) (kind : Access → Bool) (test : ℕ → Bool)
          → All (Pass layout kind test) (found_accesses (Some instr) s) → Makes is direction w ea
          → kind (operand_access is direction w ea) ≡ true
          → test offset ≡ true
      passes direction kind test all makes so =
          let access = operand_access is direction w ea in
          let each = All-contains (Pass layout kind test) (found_accesses (Some instr) s) access all makes so in
          All-contains (λ n. (o : ℕ) → stack_offset layout n ≡ Some o → test o ≡ true) (addresses_of access)
          (address_in access index) each (address-among access w index refl less) offset
          (ap (stack_offset layout) address ∙ stack-offset layout offset low high)

      -- a byte of the operand that is read is written
      pub told : Makes is Reading w ea → is_marked stack.written offset ≡ true
      told makes = passes Reading is_reading (is_marked stack.written) clean.told makes refl

      -- a byte of the operand is exposed, where the access isn't direct
      pub shown : (direction : Direction) → Makes is direction w ea → is_direct ea ≡ false
          → is_exposed_byte e.program top stack.frames offset ≡ true
      shown direction makes indirect =
          passes direction is_other (is_exposed_byte e.program top stack.frames) clean.shown makes
          (ap (λ b. is_other (record (operand_access is direction w ea) { kind = if b then OfFrame else Other }))
          indirect)

    -- Other accesses.

    module _ (indirect : is_direct ea ≡ false) where
      other-segment : segment_of s ea * 16 ≡ layout.ds * 16
      other-segment = by (address_uses_bp ea) refl
        where
          by : (b : Bool) → address_uses_bp ea ≡ b
              → (if b then stack_segment s else data_segment s) * 16 ≡ layout.ds * 16
          by true uses =
              let none = node.indexed node-operand uses indirect in
              let begins = is.stands.segments.stack_is in
              omega (arith, begins, none)
          by false plain = ap (λ n. n * 16) is.stands.segments.data_is

      pub other-address : (index : ℕ)
          → physical (segment_of s ea) ((offset_of s ea + index) % 65536)
          ≡ layout.ds * 16 + (offset_of s ea + index) % 65536
      other-address index =
          let low : (offset_of s ea + index) % 65536 < 65536 = omega arith in
          let begins = other-segment in
          let less : segment_of s ea * 16 + (offset_of s ea + index) % 65536 < 1048576 =
          omega (arith, begins, ds_fits, low) in
          mod-eq_of_lt less ∙ ap (λ n. n + (offset_of s ea + index) % 65536) begins
