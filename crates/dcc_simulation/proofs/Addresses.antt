-- SP, BP and the offsets of addresses, from the base of the running frame and from general registers.
use Rattle.std.proofs.Common.{◌≡◌, ◌≢◌, ◌<◌, ℕ, ◌+◌, ◌*◌, ◌%◌, Bool, true, false, true≢false, ◌||◌, List, Option, Some, None, refl, sym, ap, ◌∙◌, arith}
use Rattle.std.specs.Prelude.{ℤ, pos, negsuc, ◌+ℤ◌, ◌-ℤ◌, neg_ℤ, if◌then◌else◌}
use Rattle.std.proofs.lemmas.Int.{ints}
use Rattle.dcc_num.specs.declared.Width.TheVariants.{Word as word_width}
use Rattle.dcc_num.specs.declared.Reg.{Reg}
use Rattle.dcc_num.specs.declared.Reg.TheVariants.{Sp, Bp}
use Rattle.dcc_num.specs.declared.Flags.{Flags}
use Rattle.dcc_num.specs.Numbers.{has_sign, signed_of, residue_of, wrapped_of}
use Rattle.dcc_machine.specs.declared.image.Image.{Image}
use Rattle.dcc_prog.specs.declared.procedure.Layout.{Layout}
use Rattle.dcc_machine.specs.declared.instr.Ea.{Ea}
use Rattle.dcc_machine.specs.declared.instr.Instr.{Instr}
use Rattle.dcc_machine.specs.declared.instr.Operand.TheVariants.{Word}
use Rattle.dcc_machine.specs.declared.instr.Op.{Op}
use Rattle.dcc_machine.specs.declared.instr.Op.TheVariants.{Mov, Lea}
use Rattle.dcc_machine.specs.Machine.{State as Machine, word_in, is_bp, part_of, offset_of}
use Rattle.dcc_machine.specs.Operations.{with_flags}
use Rattle.dcc_prog.specs.Trail.{StandsAt}
use Rattle.dcc_machine.specs.SpAndBp.{copies_bp}
use Rattle.dcc_prog.specs.Frame.{memory_operand, offset_in_frame, StartsExposure, by_lea, by_index, by_copy}
use Rattle.dcc_prog.specs.Clean.{Stack, top_in}
use Rattle.dcc_stack.specs.Standing.{Activation, StandsIn}
use Rattle.dcc_stack.proofs.ApartFrames.{newest-stands}
use Rattle.dcc_stack.proofs.FormLaws.{in-form}
use Rattle.dcc_stack.proofs.StepFrames.{bp-points}
use Rattle.dcc_ir.specs.Run.{State, value_in}
use Rattle.dcc_simulation.specs.Coupled.{Setting, Coupled}
use Rattle.dcc_simulation.specs.Places.{is_plain, IsPlainAddress, part_value, frame_address, address_value}
use Rattle.dcc_simulation.specs.Laws.{IsCleanInstruction, Within, AddressesAreTold}

-- Numbers.

-- two distances from a base, modulo 65,536
two-sum : (base n : ℕ) (x z : ℤ) → pos n ≡ ((pos base +ℤ x) +ℤ z) → n < 65536
    → ((base % 65536 + residue_of 65536 x) % 65536 + residue_of 65536 z) % 65536 ≡ n
two-sum base n (pos x) (pos z) is small =
    let sum : n ≡ base + x + z = omega (arith, ints, is) in omega (arith, sum, small)
two-sum base n (pos x) (negsuc z) is small =
    let sum : n + z + 1 ≡ base + x = omega (arith, ints, is) in omega (arith, sum, small)
two-sum base n (negsuc x) (pos z) is small =
    let sum : n + x + 1 ≡ base + z = omega (arith, ints, is) in omega (arith, sum, small)
two-sum base n (negsuc x) (negsuc z) is small =
    let sum : n + x + z + 2 ≡ base = omega (arith, ints, is) in omega (arith, sum, small)

-- one that may have gone round
one-sum : (base n round : ℕ) (x : ℤ) → ((pos base +ℤ x) +ℤ pos (65536 * round)) ≡ pos n
    → (base % 65536 + residue_of 65536 x) % 65536 ≡ n % 65536
one-sum base n round (pos x) is =
    let sum : base + x + 65536 * round ≡ n = omega (arith, ints, is) in omega (arith, sum)
one-sum base n round (negsuc x) is =
    let sum : base + 65536 * round ≡ n + x + 1 = omega (arith, ints, is) in omega (arith, sum)

signed-by : (c : Bool) (base bp disp : ℕ) → bp + 4 ≡ base
    → (base % 65536 + residue_of 65536 ((if c then pos disp -ℤ pos 65536 else pos disp) -ℤ pos 4)) % 65536
    ≡ (bp + disp) % 65536
signed-by true base bp disp at =
    one-sum base (bp + disp) 1 ((pos disp -ℤ pos 65536) -ℤ pos 4) (omega (arith, ints, at))
signed-by false base bp disp at = one-sum base (bp + disp) 0 (pos disp -ℤ pos 4) (omega (arith, ints, at))

signed-sum : (base bp disp : ℕ) → bp + 4 ≡ base
    → (base % 65536 + residue_of 65536 (signed_of word_width disp -ℤ pos 4)) % 65536 ≡ (bp + disp) % 65536
unfolding signed_of
signed-sum base bp disp at = signed-by (has_sign word_width disp) base bp disp at

-- The frame's base.

based : (e : Setting) (a : Activation) (callers : List Activation) (written : List Bool) (s : Machine) (t : State)
    (k : ℤ) → Coupled e a callers written s t
    → value_in t (frame_address k) ≡ (a.frame.base % 65536 + wrapped_of word_width (k -ℤ pos 4)) % 65536
based e a callers written s t k c = ap (λ n. (n + wrapped_of word_width (k -ℤ pos 4)) % 65536) c.newest.base

-- What exposes bytes of the frame is no `mov bp,sp`.

record IsOther (image : Image) (layout : Layout) (at : ℕ) : Type 0 where
  op : Op
  stands : StandsAt image layout at op
  other : op ≢ Mov (Word Bp) (Word Sp)

exposes-other : (image : Image) (layout : Layout) (entry at : ℕ) (start : ℤ)
    → StartsExposure image layout entry at start
    → IsOther image layout at
exposes-other image layout entry at _ (by_lea {r} {ea} stands other uses) =
    record { op = Lea r ea; stands = stands; other = λ e. cc }
exposes-other image layout entry at _ (by_index {op} {width} {ea} stands operand uses indexed) = record {
  op = op;
  stands = stands;
  other = λ same. let none = sym (ap memory_operand same) ∙ operand in cc;
}
exposes-other image layout entry at _ (by_copy {op} stands copied has) = record {
  op = op;
  stands = stands;
  other = λ same. let none : false ≡ true = sym (ap copies_bp same) ∙ copied in true≢false (sym none);
}

-- Registers.

bp-is : (r : Option Reg) → is_bp r ≡ true → r ≡ Some Bp
bp-is (Some Bp) e = refl
bp-is r e = absurd (true≢false (sym e))

module _ (e : Setting) (s : Machine) (stack : Stack) (instr : Instr) (ip : ℕ)
    (is : IsCleanInstruction e s stack instr) where
  open is.stands use {newest as a}

  abbrev Starts : ℤ → Type 0
  Starts start = StartsExposure e.image e.program.layout a.frame.entry a.at start

  -- BP points to the frame
  near : (start : ℤ) → Starts start → word_in s Bp + 4 ≡ a.frame.base
  near start starts =
      let stand-in = newest-stands e.image e.program.layout s.memory is.stands.stand in
      let good =
      in-form.starts e.cpu e.image e.program a.frame.entry a.at a.before stand-in.height start is.of_file stand-in.is_at
      starts in
      let one = exposes-other e.image e.program.layout a.frame.entry a.at start starts in
      let points = bp-points one.op stand-in.holds one.stands one.other good.set_up in
      let none = good.near in
      omega (arith, points, none)

  module _ (flags : Flags) (t : State) (c : Within is stack.written (with_flags flags (record s { ip = ip })) t) where
    bp-told : (start k : ℤ) → Starts start
        → (value_in t (frame_address k) + wrapped_of word_width (neg_ℤ k)) % 65536 ≡ word_in s Bp
    bp-told start k starts =
        let at = near start starts in
        ap (λ n. (n + wrapped_of word_width (neg_ℤ k)) % 65536)
        (based e a is.stands.callers stack.written (with_flags flags (record s { ip = ip })) t k c)
        ∙ two-sum a.frame.base (word_in s Bp) (k -ℤ pos 4) (neg_ℤ k) (omega (arith, ints, at))
        (is.stands.segments.state.registers.words Bp)

    part-told : (r : Option Reg) → is_plain r ≡ true → part_value t r ≡ part_of s r
    part-told None plain = refl
    part-told (Some r) plain = sym (c.words r plain)

    module _ (ea : Ea) (plain : IsPlainAddress ea)
        (starts : is_bp ea.base ≡ true → Starts (offset_in_frame ea)) where
      base-told : (b : Bool) → is_bp ea.base ≡ b
          → (if b then value_in t (frame_address (offset_in_frame ea)) else part_value t ea.base + ea.disp) % 65536
          ≡ (part_of s ea.base + ea.disp) % 65536
      base-told true so =
          whole (value_in t (frame_address (offset_in_frame ea))) (word_in s Bp + ea.disp)
          (based e a is.stands.callers stack.written (with_flags flags (record s { ip = ip })) t (offset_in_frame ea) c
          ∙ signed-sum a.frame.base (word_in s Bp) ea.disp (near (offset_in_frame ea) (starts so)))
          ∙ ap (λ r. (part_of s r + ea.disp) % 65536) (sym (bp-is ea.base so))
        where
          whole : (x n : ℕ) → x ≡ n % 65536 → x % 65536 ≡ n % 65536
          whole x n same = omega (arith, same)
      base-told false other =
          ap (λ n. (n + ea.disp) % 65536)
          (part-told ea.base (sym (ap (λ b. b || is_plain ea.base) other) ∙ plain.base))

      pub sum-told : address_value t ea ≡ offset_of s ea
      sum-told =
          adds
          (if is_bp ea.base then value_in t (frame_address (offset_in_frame ea)) else part_value t ea.base + ea.disp)
          (part_of s ea.base) (part_value t ea.index) (part_of s ea.index) ea.disp (base-told (is_bp ea.base) refl)
          (part-told ea.index plain.index)
        where
          adds : (x b i j d : ℕ) → x % 65536 ≡ (b + d) % 65536 → i ≡ j → (x + i) % 65536 ≡ (b + j + d) % 65536
          adds x b i j d same index = omega (arith, same, index)

pub addresses-told : AddressesAreTold
addresses-told = record {
  sp = λ e a callers written s t k stands c.
      let z = ((pos 2 -ℤ pos stands.height) -ℤ pos e.program.layout.delta) -ℤ k in
      let on_top = stands.top_is in
      ap (λ n. (n + wrapped_of word_width z) % 65536) (based e a callers written s t k c)
      ∙ two-sum a.frame.base (word_in s Sp) (k -ℤ pos 4) z (omega (arith, ints, on_top))
      (c.segments.state.registers.words Sp);
  bp = λ e s stack instr ip start k flags t is starts c. bp-told e s stack instr ip is flags t c start k starts;
  offset = λ e s stack instr ip ea at is plain starts value flags t c.
      value t ∙ sum-told e s stack instr ip is flags t c ea plain starts;
}
