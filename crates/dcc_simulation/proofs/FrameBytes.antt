-- Bytes of frames: what is read of them at their places, and what both runs take there.
use Rattle.std.proofs.Common.{◌≡◌, ◌≢◌, ◌≤◌, ◌<◌, inl, inr, ℕ, ◌+◌, ◌*◌, ◌/◌, ◌%◌, ◌^◌, Bool, true, false, List, [], ◌∷◌, length, Contains, Some, refl, sym, ap, ap₂, ◌∙◌, subst, arith, eqb-true}
use Rattle.std.specs.Prelude.{ℤ, pos, negsuc, ◌+ℤ◌, ◌-ℤ◌, ◌==◌, if◌then◌else◌, All, slice_index, slice_set}
use Rattle.std.specs.Ordering.{int_eq}
use Rattle.std.proofs.lemmas.Bool.{eq-eqb}
use Rattle.std.proofs.lemmas.Int.{ints}
use Rattle.std.proofs.lemmas.List.{length-set}
use Rattle.std.proofs.lemmas.List.Elements.{All-weaker}
use Rattle.std.proofs.Math.Nat.{mod-eq_of_lt}
use Rattle.dcc_num.specs.declared.Width.{Width}
use Rattle.dcc_num.specs.declared.Width.TheVariants.{Byte as byte_width, Word as word_width}
use Rattle.dcc_num.specs.declared.Reg.{Reg}
use Rattle.dcc_num.specs.declared.Half.{Half as HalfName}
use Rattle.dcc_num.specs.declared.Half.TheVariants.{Low, High}
use Rattle.dcc_num.specs.declared.FlagName.{FlagName}
use Rattle.dcc_num.specs.declared.FlagName.TheVariants.{Cf, Zf, Sf, Of}
use Rattle.dcc_num.specs.Numbers.{limit_of, bits_of, residue_of, wrapped_of}
use Rattle.dcc_prog.specs.declared.frame.Cell.{Cell}
use Rattle.dcc_machine.specs.Machine.{State as Machine, physical}
use Rattle.dcc_machine.specs.StateForm.{IsState}
use Rattle.dcc_machine.specs.Access.{bytes_in, stored}
use Rattle.dcc_prog.specs.Frame.{IsCell, IsPlaced}
use Rattle.dcc_prog.specs.Trail.{IsEntry}
use Rattle.dcc_prog.specs.Analysed.{bytes_of}
use Rattle.dcc_prog.specs.Clean.{is_marked, top_in, end_of}
use Rattle.dcc_machine.proofs.FetchLaws.{image-placed}
use Rattle.dcc_prog.proofs.StackMarks.{head_or_rest, at_head, in_rest}
use Rattle.dcc_stack.specs.Accepted.{IsProgramOfFile}
use Rattle.dcc_stack.specs.Standing.{Activation}
use Rattle.dcc_stack.specs.Slots.{Typed, place_in, Holds, IsChangeable, activations_of, PutsAll, done, next, in_memory as put_in_memory, in_slot}
use Rattle.dcc_stack.specs.SlotLaws.{AreCarried, stores_at, marks_at, IsWritable}
use Rattle.dcc_stack.proofs.SlotFrames.{parts-low}
use Rattle.dcc_stack.proofs.SlotWrites.{set-other, set-bytes}
use Rattle.dcc_ir.specs.declared.syntax.Loc.{Loc}
use Rattle.dcc_ir.specs.declared.syntax.Loc.TheVariants.{Half, Flag, Cell as CellHalf}
use Rattle.dcc_ir.specs.Location.{location_width, Values, with_value}
use Rattle.dcc_ir.specs.Tree.{Expr, Address}
use Rattle.dcc_ir.specs.Value.{Fits, with_bytes_at}
use Rattle.dcc_ir.specs.Run.{State, value_in, scene_of, setting}
use Rattle.dcc_ops.specs.OperandPlace.{OperandPlace, memory, place_value}
use Rattle.dcc_ops.proofs.SceneLaws.{fits_taking}
use Rattle.dcc_simulation.specs.Coupled.{Setting, AreNumbered, half_in, held_at, slots_in, typed_by, typed_waiting}
use Rattle.dcc_simulation.specs.Coupled.{Coupled}
use Rattle.dcc_simulation.specs.Places.{IsInLocation, IsFramePlace, in_half, in_cell, in_memory, taken, number_of}
use Rattle.dcc_simulation.specs.Places.{bytes_from, offsets_of, IsOfFrame}
use Rattle.dcc_simulation.specs.Laws.{FramesAreRead, FramesAreWritten}
use Rattle.dcc_simulation.proofs.Coupling.{carried_laws, alike-all, coupled-fits}
use Rattle.dcc_simulation.proofs.CellSlots.{IsSmall, slot-set}

-- Numbers.

pub not-equal : (n m : ℕ) → n ≢ m → (n == m) ≡ false
not-equal n m apart = by (n == m) refl
  where
    by : (b : Bool) → (n == m) ≡ b → (n == m) ≡ false
    by false e = e
    by true e = absurd (apart (eqb-true n m e))

-- a number below the limit of a width is a word
pub word-small : (w : Width) (v : ℕ) → v < limit_of w → v < 65536
word-small byte_width v small = less small
  where
    less : v < 256 → v < 65536
    less x = omega (arith, x)
word-small word_width v small = small

-- the distance of an offset from a base, both modulo 65,536
pub address-sum : (base offset index : ℕ) (z : ℤ) → pos offset ≡ ((pos base +ℤ z) +ℤ pos index) → offset < 65536
    → ((base % 65536 + residue_of 65536 z) % 65536 + index) % 65536 ≡ offset
address-sum base offset index (pos n) is small =
    let sum : offset ≡ base + n + index = omega (arith, ints, is) in omega (arith, sum, small)
address-sum base offset index (negsuc n) is small =
    let sum : offset + n + 1 ≡ base + index = omega (arith, ints, is) in omega (arith, sum, small)

pub no-further : (z : ℤ) → z ≡ (z +ℤ pos 0)
no-further z = omega (arith, ints)

-- the bytes of a number
pub bytes-below : (first v : ℕ) → v < 65536 → (offset : ℕ) → bytes_from first v offset < 256
bytes-below first v small offset = by (offset == first)
  where
    by : (b : Bool) → (if b then v % 256 else v / 256) < 256
    by true = omega arith
    by false = omega (arith, small)

first-byte : (first v : ℕ) → bytes_from first v first ≡ v % 256
first-byte first v = ap (λ b. if b then v % 256 else v / 256) (eq-eqb first first refl)

-- Stores.

-- what holds of each of the offsets
pub each-offset : (w : Width) (offset : ℕ → ℕ) (P : ℕ → Type 0) → ((index : ℕ) → index < bytes_in w → P (offset index))
    → (n : ℕ) → Contains (offsets_of w offset) n
    → P n
each-offset byte_width offset P each n has = elim (head_or_rest (offset 0) n [] has) [
  | inl same ↦ subst P same (each 0 (omega arith))
  | inr none ↦ let inside = none.1 in absurd (omega (arith, inside))
]
each-offset word_width offset P each n has = elim (head_or_rest (offset 0) n (offset 1 ∷ []) has) [
  | inl same ↦ subst P same (each 0 (omega arith))
  | inr rest ↦ elim (head_or_rest (offset 1) n [] rest) [
    | inl same ↦ subst P same (each 1 (omega arith))
    | inr none ↦ let inside = none.1 in absurd (omega (arith, inside))
  ]
]

-- a store leaves what lies below the data segment
stores-apart : (offsets : List ℕ) (values : ℕ → ℕ) (base : ℕ) (m : List ℕ) (address : ℕ) → address < base
    → slice_index (stored (stores_at (λ offset. base + offset) offsets values) m) address ≡ slice_index m address
stores-apart [] values base m address below = refl
stores-apart (offset ∷ offsets) values base m address below =
    stores-apart offsets values base (slice_set m (base + offset) (values offset)) address below
    ∙ set-other m (base + offset) (values offset) address (λ same. omega (arith, same, below))

-- a store leaves the length of memory
stores-length : (offsets : List ℕ) (values : ℕ → ℕ) (base : ℕ) (m : List ℕ)
    → length (stored (stores_at (λ offset. base + offset) offsets values) m) ≡ length m
stores-length [] values base m = refl
stores-length (offset ∷ offsets) values base m =
    stores-length offsets values base (slice_set m (base + offset) (values offset))
    ∙ length-set m (base + offset) (values offset)

stores-bytes : (offsets : List ℕ) (values : ℕ → ℕ) (base : ℕ) (m : List ℕ) → ((offset : ℕ) → values offset < 256)
    → ((address : ℕ) → slice_index m address < 256)
    → (address : ℕ) → slice_index (stored (stores_at (λ offset. base + offset) offsets values) m) address < 256
stores-bytes [] values base m small bytes address = bytes address
stores-bytes (offset ∷ offsets) values base m small bytes address =
    stores-bytes offsets values base (slice_set m (base + offset) (values offset)) small
    (set-bytes m (base + offset) (values offset) (small offset) bytes) address

stores-state : (offsets : List ℕ) (values : ℕ → ℕ) (base : ℕ) (s : Machine) → ((offset : ℕ) → values offset < 256)
    → IsState s
    → IsState (record s { memory = stored (stores_at (λ offset. base + offset) offsets values) s.memory })
stores-state offsets values base s small form = record {
  registers = record { count = form.registers.count; words = form.registers.words };
  segment_count = form.segment_count;
  segments = form.segments;
  memory_size = stores-length offsets values base s.memory ∙ form.memory_size;
  memory = stores-bytes offsets values base s.memory small form.memory;
  input = form.input;
}

-- bytes that stand in memory are put there
puts-memory : (e : Setting) (t : Typed) (values : ℕ → ℕ) (offsets other : List ℕ)
    → ((offset : ℕ) → Contains offsets offset
    → IsPlaced e.image e.program.layout t.activation.frame.entry (place_in t offset))
    → PutsAll e.image e.program.layout values t other offsets t
    (stored (stores_at (λ offset. offset) offsets values) other)
puts-memory e t values [] other each = done
puts-memory e t values (offset ∷ offsets) other each =
    next (put_in_memory (each offset (at_head offset offset offsets refl)))
    (puts-memory e t values offsets (slice_set other offset (values offset))
    (λ n has. each n (in_rest offset n offsets has)))

-- what a store of the inner run does
pub inner-stored : (w : Width) (other : List ℕ) (at v : ℕ) (offset : ℕ → ℕ) → v < limit_of w
    → ((index : ℕ) → index < bytes_in w → (at + index) % 65536 ≡ offset index)
    → ((index : ℕ) → index < bytes_in w → 0 < index → (offset index == offset 0) ≡ false)
    → with_bytes_at other (bits_of w / 8) at v
    ≡ stored (stores_at (λ n. n) (offsets_of w offset) (bytes_from (offset 0) v)) other
inner-stored byte_width other at v offset small is apart =
    ap₂ (λ n x. slice_set other n x) (by ∙ is 0 (omega arith))
    (ap (λ b. if b then v % 256 else v / 256) (sym (eq-eqb (offset 0) (offset 0) refl)))
  where
    by : at % 65536 ≡ (at + 0) % 65536
    by = omega arith
inner-stored word_width other at v offset small is apart =
    ap₂ (λ n x. slice_set (slice_set other n x) ((at + 1) % 65536) (v / 256 % 256)) (by ∙ is 0 (omega arith))
    (ap (λ b. if b then v % 256 else v / 256) (sym (eq-eqb (offset 0) (offset 0) refl)))
    ∙ ap₂ (λ n x. slice_set (slice_set other (offset 0) (bytes_from (offset 0) v (offset 0))) n x) (is 1 (omega arith))
    (high small ∙ ap (λ b. if b then v % 256 else v / 256) (sym (apart 1 (omega arith) (omega arith))))
  where
    by : at % 65536 ≡ (at + 0) % 65536
    by = omega arith

    high : v < 65536 → v / 256 % 256 ≡ v / 256
    high less = omega (arith, less)

-- what is loaded at a place in memory
pub load-is : (w : Width) (t : State) (at : Expr) (bytes : ℕ → ℕ)
    → ((index : ℕ) → index < bytes_in w → slice_index t.memory ((value_in t at + index) % 65536) ≡ bytes index)
    → value_in t (place_value (memory w at)) ≡ number_of w bytes
load-is byte_width t at bytes each =
    let v = value_in t at in
    let first = ap (slice_index t.memory) (same v) ∙ each 0 (omega arith) in
    omega (arith, first)
  where
    same : (n : ℕ) → n % 65536 ≡ (n + 0) % 65536
    same n = omega arith
load-is word_width t at bytes each =
    let v = value_in t at in
    let first = ap (slice_index t.memory) (same v) ∙ each 0 (omega arith) in
    let second = each 1 (omega arith) in
    omega (arith, first, second)
  where
    same : (n : ℕ) → n % 65536 ≡ (n + 0) % 65536
    same n = omega arith

-- Both runs.

-- cells have two bytes at most
pub cells-small : (e : Setting) (entry : ℕ) → AreNumbered e → IsEntry e.image e.program.layout entry
    → All IsSmall (e.cells entry)
cells-small e entry are reached =
    All-weaker (λ cell. IsCell e.image e.program.layout entry (bytes_of cell)) IsSmall
    (λ cell is. let small = is.small in omega (arith, ints, small)) (e.cells entry) (are.cells entry reached)

-- the code lies below the data segment
code-below : (e : Setting) → IsProgramOfFile e.cpu e.image e.program → (at : ℕ) → at < e.program.layout.code_end
    → physical e.image.cs at < e.program.layout.ds * 16
code-below e is at within =
    let placed = image-placed is.loaded.file e.image is.loaded.is_image in
    let ends = is.is_program.layout.left.code_end in
    let below : e.image.cs * 16 + at < 1048576 = omega (arith, placed.high, placed.short, ends, within) in
    let same : physical e.image.cs at ≡ e.image.cs * 16 + at = mod-eq_of_lt below in
    omega (arith, same, ends, within)

module _ (e : Setting) (a : Activation) (callers : List Activation) (written marks : List Bool) (u : Machine)
    (t : State) (c : Coupled e a callers written u t) where
  -- where bytes of the data segment and cells change as the frames tell, both runs agree
  pub agree-after : (offsets : List ℕ) (values : ℕ → ℕ) (other : List ℕ) (cells : Values)
      → ((r : Reg) (half : HalfName) → cells (Half r half) ≡ t.running.values (Half r half))
      → ((flag : FlagName) → cells (Flag flag) ≡ t.running.values (Flag flag))
      → ((location : Loc) → cells location < 2 ^ location_width t.running.graph.bits location)
      → ((offset : ℕ) → values offset < 256)
      → AreCarried e.cpu e.image e.program
      (stored (stores_at (λ n. e.program.layout.ds * 16 + n) offsets values) u.memory) other marks
      (top_in e.program.layout u)
      (typed_by e a (record t.running { values = cells }) ∷ typed_waiting e callers t.waiting)
      → Coupled e a callers marks
      (record u { memory = stored (stores_at (λ n. e.program.layout.ds * 16 + n) offsets values) u.memory })
      (record t { running = record t.running { values = cells }; memory = other })
  agree-after offsets values other cells halves flags fits bytes carried = record {
    goes = c.goes;
    running = c.running;
    newest = record { graph = c.newest.graph; bits = c.newest.bits; base = c.newest.base; values = fits };
    waiting = c.waiting;
    words = λ r g.
        c.words r g ∙ ap (λ n. n * 256 + t.running.values (Half r Low)) (sym (halves r High))
        ∙ ap (λ n. cells (Half r High) * 256 + n) (sym (halves r Low));
    flags = record {
      carry = flags Cf ∙ c.flags.carry;
      zero = flags Zf ∙ c.flags.zero;
      negative = flags Sf ∙ c.flags.negative;
      overflow = flags Of ∙ c.flags.overflow;
    };
    input = c.input;
    events = c.events;
    segments = record {
      state = stores-state offsets values (e.program.layout.ds * 16) u bytes c.segments.state;
      code = record {
        segment = c.segments.code.segment;
        bytes = λ at within.
            stores-apart offsets values (e.program.layout.ds * 16) u.memory (physical e.image.cs at)
            (code-below e c.carried.is_program at within) ∙ c.segments.code.bytes at within;
      };
      data_is = c.segments.data_is;
      stack_is = c.segments.stack_is;
    };
    carried = carried;
  }

-- Bytes of the newest frame.

module _ (e : Setting) (a : Activation) (callers : List Activation) (written : List Bool) (s : Machine) (t : State)
    (c : Coupled e a callers written s t) (w : Width) (k : ℤ) (first : ℕ)
    (of_frame : IsOfFrame e a (top_in e.program.layout s) k w first) where
  abbrev offset_at : ℕ → ℕ
  offset_at index = first + index

  abbrev byte_at : ℕ → ℕ
  byte_at index = slice_index s.memory (e.program.layout.ds * 16 + (first + index))

  place-at : (index : ℕ) → (pos (first + index + 4) -ℤ pos a.frame.base) ≡ (k +ℤ pos index)
  place-at index = let place = of_frame.place in omega (arith, ints, place)

  within-at : (index : ℕ) → index < bytes_in w → first + index < end_of e.program a.frame
  within-at index less = let within = of_frame.within in omega (arith, within, less)

  small-at : (index : ℕ) → index < bytes_in w → first + index < 65536
  small-at index less =
      let high =
      parts-low e.image e.program (first + index) a (activations_of (typed_waiting e callers t.waiting))
      c.carried.nested
      (within-at index less) (of_frame.apart index less) in
      let fits = c.carried.is_program.is_program.layout.small.hi_fits in
      omega (arith, high, fits)

  -- the address in the inner run
  frame-address : (index : ℕ) → index < bytes_in w
      → (value_in t (Address (wrapped_of word_width (k -ℤ pos 4))) + index) % 65536 ≡ first + index
  frame-address index less =
      let place = place-at index in
      ap (λ n. ((n + wrapped_of word_width (k -ℤ pos 4)) % 65536 + index) % 65536) c.newest.base
      ∙ address-sum a.frame.base (first + index) index (k -ℤ pos 4) (omega (arith, ints, place)) (small-at index less)

  -- Reads.

  module _ (marked : (index : ℕ) → index < bytes_in w → is_marked written (first + index) ≡ true) where
    held : (index : ℕ) → index < bytes_in w
        → Holds e.image e.program.layout t.memory (typed_by e a t.running) (first + index) (byte_at index)
    held index less =
        let low = of_frame.low in
        carried_laws.reads_own (first + index) c.carried (omega (arith, low)) (within-at index less) (marked index less)
        (of_frame.apart index less)

    in-location : (index : ℕ) (location : Loc) → index < bytes_in w
        → IsInLocation e a.frame.entry (k +ℤ pos index) location
        → t.running.values location ≡ byte_at index
    in-location index location less in_it =
        let place = sym (place-at index) in
        let is_in = subst (λ j. half_in 0 (e.cells a.frame.entry) j ≡ Some location) place in_it.is in
        sym (ap (held_at t.running.values) is_in)
        ∙ (held index less).kept (subst (λ j. ¬ IsPlaced e.image e.program.layout a.frame.entry j) place in_it.apart)

    in-place : (index : ℕ) → index < bytes_in w → IsPlaced e.image e.program.layout a.frame.entry (k +ℤ pos index)
        → slice_index t.memory ((value_in t (Address (wrapped_of word_width (k -ℤ pos 4))) + index) % 65536)
        ≡ byte_at index
    in-place index less placed =
        ap (slice_index t.memory) (frame-address index less)
        ∙ (held index less).placed (subst (IsPlaced e.image e.program.layout a.frame.entry) (sym (place-at index))
        placed)

  -- Writes.

  module _ (numbered : AreNumbered e) (entry : IsEntry e.image e.program.layout a.frame.entry)
      (changes : (index : ℕ) → index < bytes_in w → a.frame.base ≤ first + index
      → IsChangeable e.image e.program.layout a.frame (first + index)) (v : ℕ) (small : v < limit_of w) where
    all-writable : (n : ℕ) → Contains (offsets_of w offset_at) n
        → IsWritable e.image e.program (typed_by e a t.running) (top_in e.program.layout s) n
    all-writable =
        each-offset w offset_at (IsWritable e.image e.program (typed_by e a t.running) (top_in e.program.layout s))
        (λ index less. record {
          low = let low = of_frame.low in omega (arith, low);
          high = within-at index less;
          apart = of_frame.apart index less;
          changes = changes index less;
        })

    abbrev stores : List ℕ
    stores =
        stored (stores_at (λ offset. e.program.layout.ds * 16 + offset) (offsets_of w (λ index. first + index))
        (bytes_from (first + 0) v)) s.memory

    abbrev Done : State → Type 0
    Done u =
        Coupled e a callers (marks_at e.program.layout (offsets_of w (λ index. first + index)) written)
        (record s { memory = stores }) u

    -- what is put into the frame
    written-in : {after : Typed} {other : List ℕ}
        → PutsAll e.image e.program.layout (bytes_from (first + 0) v) (typed_by e a t.running) t.memory
        (offsets_of w (λ index. first + index)) after other
        → AreCarried e.cpu e.image e.program stores other
        (marks_at e.program.layout (offsets_of w (λ index. first + index)) written) (top_in e.program.layout s)
        (after ∷ typed_waiting e callers t.waiting)
    written-in puts =
        carried_laws.writes_many (offsets_of w (λ index. first + index)) (bytes_from (first + 0) v) c.carried
        (bytes-below (first + 0) v (word-small w v small)) all-writable puts

    apart-at : (index : ℕ) → index < bytes_in w → 0 < index → (first + index == first + 0) ≡ false
    apart-at index less above = not-equal (first + index) (first + 0) (λ same. omega (arith, above, same))

    -- in memory
    placed-written :
        ((index : ℕ) → index < bytes_in w → IsPlaced e.image e.program.layout a.frame.entry (k +ℤ pos index))
        → Done (taken (memory w (Address (wrapped_of word_width (k -ℤ pos 4)))) v t)
    placed-written placed =
        subst Done
        (ap (λ m. record t { memory = m })
        (sym (inner-stored w t.memory (value_in t (Address (wrapped_of word_width (k -ℤ pos 4)))) v
        (λ index. first + index) small frame-address apart-at)))
        (agree-after e a callers written (marks_at e.program.layout (offsets_of w (λ index. first + index)) written)
        s t c
        (offsets_of w (λ index. first + index)) (bytes_from (first + 0) v)
        (stored (stores_at (λ n. n) (offsets_of w (λ index. first + index)) (bytes_from (first + 0) v)) t.memory)
        t.running.values (λ r half. refl) (λ flag. refl) c.newest.values
        (bytes-below (first + 0) v (word-small w v small))
        (written-in
        (puts-memory e (typed_by e a t.running) (bytes_from (first + 0) v) (offsets_of w (λ index. first + index))
        t.memory
        (each-offset w (λ index. first + index) (λ n. IsPlaced e.image e.program.layout a.frame.entry
        (place_in (typed_by e a t.running) n))
        (λ index less.
        subst (IsPlaced e.image e.program.layout a.frame.entry) (sym (place-at index)) (placed index less))))))

    -- in cells
    found-at : (index : ℕ) (location : Loc) → IsInLocation e a.frame.entry (k +ℤ pos index) location
        → half_in 0 (e.cells a.frame.entry) (pos (first + index + 4) -ℤ pos a.frame.base) ≡ Some location
    found-at index location in_it =
        subst (λ j. half_in 0 (e.cells a.frame.entry) j ≡ Some location) (sym (place-at index)) in_it.is

    apart-from : (index : ℕ) (location : Loc) → IsInLocation e a.frame.entry (k +ℤ pos index) location
        → ¬ IsPlaced e.image e.program.layout a.frame.entry (place_in (typed_by e a t.running) (first + index))
    apart-from index location in_it =
        subst (λ j. ¬ IsPlaced e.image e.program.layout a.frame.entry j) (sym (place-at index)) in_it.apart

    small-cells : All IsSmall (e.cells a.frame.entry)
    small-cells = cells-small e a.frame.entry numbered entry

-- The laws.

module _ (e : Setting) (a : Activation) (callers : List Activation) (written : List Bool) (s : Machine) (t : State)
    (c : Coupled e a callers written s t) (k : ℤ) (first v : ℕ) (numbered : AreNumbered e)
    (entry : IsEntry e.image e.program.layout a.frame.entry) where
  abbrev cells : List Cell
  cells = e.cells a.frame.entry

  abbrev position : ℕ → ℤ
  position index = pos (first + index + 4) -ℤ pos a.frame.base

  before-fits : Fits (scene_of t)
  before-fits = coupled-fits e a callers written s t c

  half-written : (of_frame : IsOfFrame e a (top_in e.program.layout s) k byte_width first)
      (changes : (index : ℕ) → index < 1 → a.frame.base ≤ first + index
      → IsChangeable e.image e.program.layout a.frame (first + index)) (small : v < 256) (number : ℕ) (half : HalfName)
      → IsInLocation e a.frame.entry k (CellHalf number half)
      → Done e a callers written s t c byte_width k first of_frame numbered entry changes v small
      (setting (CellHalf number half) v t)
  half-written of_frame changes small number half in_it =
      let in_first = subst (λ j. IsInLocation e a.frame.entry j (CellHalf number half)) (no-further k) in_it in
      let found =
      found-at e a callers written s t c byte_width k first of_frame numbered entry changes v small 0
      (CellHalf number half) in_first in
      let low : v ≡ bytes_from (first + 0) v (first + 0) = lowest v small ∙ sym (first-byte (first + 0) v) in
      agree-after e a callers written (marks_at e.program.layout (offsets_of byte_width (λ index. first + index))
      written)
      s t c (offsets_of byte_width (λ index. first + index)) (bytes_from (first + 0) v) t.memory
      (with_value t.running.values (CellHalf number half) v) (λ r h. refl) (λ flag. refl)
      (fits_taking (scene_of t) (CellHalf number half) v small before-fits).values
      (bytes-below (first + 0) v (omega (arith, small)))
      (carried_laws.alike
      (written-in e a callers written s t c byte_width k first of_frame numbered entry changes v small
      (next (in_slot
      (apart-from e a callers written s t c byte_width k first of_frame numbered entry changes v small 0
      (CellHalf number half) in_first)) done)) (
        record {
          frame = refl;
          slots = λ j.
              slot-set cells t.running.values (position 0) number half v j
              (small-cells e a callers written s t c byte_width k first of_frame numbered entry changes v small) found
              ∙ ap (λ x. if int_eq j (position 0) then x else slots_in cells t.running.values j) low;
        },
        alike-all (typed_waiting e callers t.waiting),
      ))
    where
      lowest : (n : ℕ) → n < 256 → n ≡ n % 256
      lowest n less = omega (arith, less)

  cell-written : (of_frame : IsOfFrame e a (top_in e.program.layout s) k word_width first)
      (changes : (index : ℕ) → index < 2 → a.frame.base ≤ first + index
      → IsChangeable e.image e.program.layout a.frame (first + index)) (small : v < 65536) (number : ℕ)
      → IsInLocation e a.frame.entry k (CellHalf number Low)
      → IsInLocation e a.frame.entry (k +ℤ pos 1) (CellHalf number High)
      → Done e a callers written s t c word_width k first of_frame numbered entry changes v small
      (setting (CellHalf number High) (v / 256) (setting (CellHalf number Low) (v % 256) t))
  cell-written of_frame changes small number low_in high_in =
      let once = with_value t.running.values (CellHalf number Low) (v % 256) in
      let in_first = subst (λ j. IsInLocation e a.frame.entry j (CellHalf number Low)) (no-further k) low_in in
      let found =
      found-at e a callers written s t c word_width k first of_frame numbered entry changes v small 0
      (CellHalf number Low) in_first in
      let second =
      found-at e a callers written s t c word_width k first of_frame numbered entry changes v small 1
      (CellHalf number High) high_in in
      let low : v % 256 ≡ bytes_from (first + 0) v (first + 0) = sym (first-byte (first + 0) v) in
      let high : v / 256 ≡ bytes_from (first + 0) v (first + 1) =
      ap (λ b. if b then v % 256 else v / 256)
      (sym (not-equal (first + 1) (first + 0) (λ same. omega (arith, same)))) in
      agree-after e a callers written (marks_at e.program.layout (offsets_of word_width (λ index. first + index))
      written)
      s t c (offsets_of word_width (λ index. first + index)) (bytes_from (first + 0) v) t.memory
      (with_value once (CellHalf number High) (v / 256)) (λ r h. refl) (λ flag. refl)
      (fits_taking (scene_of (setting (CellHalf number Low) (v % 256) t)) (CellHalf number High) (v / 256)
      (omega (arith, small))
      (fits_taking (scene_of t) (CellHalf number Low) (v % 256) (omega arith) before-fits)).values
      (bytes-below (first + 0) v small)
      (carried_laws.alike
      (written-in e a callers written s t c word_width k first of_frame numbered entry changes v small
      (next (in_slot
      (apart-from e a callers written s t c word_width k first of_frame numbered entry changes v small 0
      (CellHalf number Low) in_first))
      (next (in_slot
      (apart-from e a callers written s t c word_width k first of_frame numbered entry changes v small 1
      (CellHalf number High) high_in)) done))) (
        record {
          frame = refl;
          slots = λ j.
              slot-set cells once (position 1) number High (v / 256) j
              (small-cells e a callers written s t c word_width k first of_frame numbered entry changes v small) second
              ∙ ap₂ (λ x y. if int_eq j (position 1) then x else y) high
              (slot-set cells t.running.values (position 0) number Low (v % 256) j
              (small-cells e a callers written s t c word_width k first of_frame numbered entry changes v small) found
              ∙ ap (λ x. if int_eq j (position 0) then x else slots_in cells t.running.values j) low);
        },
        alike-all (typed_waiting e callers t.waiting),
      ))

pub frames-read : FramesAreRead
frames-read e a callers written s t byte_width k first _ c of_frame marked (in_half {number = number} {half = half}
    in_it) =
    in-location e a callers written s t c byte_width k first of_frame marked 0 (CellHalf number half) (omega arith)
    (subst (λ j. IsInLocation e a.frame.entry j (CellHalf number half)) (no-further k) in_it)
frames-read e a callers written s t word_width k first _ c of_frame marked (in_cell {number = number} low high) =
    let one =
    in-location e a callers written s t c word_width k first of_frame marked 0 (CellHalf number Low) (omega arith)
    (subst (λ j. IsInLocation e a.frame.entry j (CellHalf number Low)) (no-further k) low) in
    let other =
    in-location e a callers written s t c word_width k first of_frame marked 1 (CellHalf number High) (omega arith)
    high in
    omega (arith, one, other)
frames-read e a callers written s t w k first _ c of_frame marked (in_memory placed) =
    load-is w t (Address (wrapped_of word_width (k -ℤ pos 4)))
    (λ index. slice_index s.memory (e.program.layout.ds * 16 + (first + index)))
    (λ index less. in-place e a callers written s t c w k first of_frame marked index less (placed index less))

-- the first one's offset is that of index 0
from-first : (e : Setting) (a : Activation) (callers : List Activation) (marks : List Bool) (s : Machine) (u : State)
    (offsets : List ℕ) (v n m : ℕ) → n ≡ m
    → Coupled e a callers marks (record s {
      memory = stored (stores_at (λ offset. e.program.layout.ds * 16 + offset) offsets (bytes_from n v)) s.memory;
    }) u
    → Coupled e a callers marks (record s {
      memory = stored (stores_at (λ offset. e.program.layout.ds * 16 + offset) offsets (bytes_from m v)) s.memory;
    }) u
from-first e a callers marks s u offsets v n m same c =
    subst (λ x. Coupled e a callers marks (record s {
      memory = stored (stores_at (λ offset. e.program.layout.ds * 16 + offset) offsets (bytes_from x v)) s.memory;
    }) u) same c

pub frames-written : FramesAreWritten
frames-written e a callers written s t w k first place v numbered c of_frame changes at small =
    from-first e a callers (marks_at e.program.layout (offsets_of w (λ index. first + index)) written) s (taken place
    v t)
    (offsets_of w (λ index. first + index)) v (first + 0) first (omega arith) (by w place of_frame changes at small)
  where
    entry : IsEntry e.image e.program.layout a.frame.entry
    entry = c.carried.nested.0

    by : (w : Width) (place : OperandPlace) (of_frame : IsOfFrame e a (top_in e.program.layout s) k w first)
        (changes : (index : ℕ) → index < bytes_in w → a.frame.base ≤ first + index
        → IsChangeable e.image e.program.layout a.frame (first + index))
        → IsFramePlace e a.frame.entry k w place → (small : v < limit_of w)
        → Coupled e a callers (marks_at e.program.layout (offsets_of w (λ index. first + index)) written)
        (record s {
          memory =
              stored (stores_at (λ offset. e.program.layout.ds * 16 + offset) (offsets_of w (λ index. first + index))
              (bytes_from (first + 0) v)) s.memory;
        }) (taken place v t)
    by byte_width _ of_frame changes (in_half {number = number} {half = half} in_it) small =
        half-written e a callers written s t c k first v numbered entry of_frame changes small number half in_it
    by word_width _ of_frame changes (in_cell {number = number} low high) small =
        cell-written e a callers written s t c k first v numbered entry of_frame changes small number low high
    by w _ of_frame changes (in_memory placed) small =
        placed-written e a callers written s t c w k first of_frame numbered entry changes v small placed
