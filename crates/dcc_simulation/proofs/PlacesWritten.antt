-- A memory operand that a clean instruction writes is written at its place.
use Rattle.std.proofs.Common.{◌≡◌, ◌≤◌, ◌<◌, ℕ, ◌+◌, ◌*◌, ◌/◌, ◌%◌, ◌^◌, Bool, true, false, List, [], ◌∷◌, ◌++◌, map, Some, refl, sym, ap, ap₂, ◌∙◌, subst, arith}
use Rattle.std.specs.Prelude.{ℤ, pos, ◌-ℤ◌, ◌==◌, if◌then◌else◌, slice_set}
use Rattle.std.specs.List.{range_with_len, filter_map}
use Rattle.std.proofs.lemmas.Bool.{eq-eqb}
use Rattle.std.proofs.lemmas.List.Concat.{flat_map-cons}
use Rattle.dcc_run.specs.End.{Running, is_over}
use Rattle.dcc_num.specs.declared.Width.{Width}
use Rattle.dcc_num.specs.declared.Width.TheVariants.{Byte as byte_width, Word as word_width}
use Rattle.dcc_num.specs.declared.Half.TheVariants.{Low, High}
use Rattle.dcc_num.specs.declared.Flags.{Flags}
use Rattle.dcc_num.specs.Numbers.{limit_of, wrapped_of}
use Rattle.dcc_prog.specs.declared.procedure.Layout.{Layout}
use Rattle.dcc_machine.specs.declared.instr.Ea.{Ea}
use Rattle.dcc_machine.specs.declared.instr.Instr.{Instr}
use Rattle.dcc_machine.specs.declared.instr.Operand.TheVariants.{Mem}
use Rattle.dcc_machine.specs.Machine.{State as Machine, physical, offset_of, segment_of, with_operand}
use Rattle.dcc_machine.specs.Operations.{with_flags}
use Rattle.dcc_machine.specs.Access.{Writing, Access, bytes_in, is_direct, address_in, addresses_of, stored}
use Rattle.dcc_prog.specs.Frame.{memory_operand, offset_in_frame}
use Rattle.dcc_prog.specs.Clean.{Stack, stack_offset, stack_bytes, with_marks, top_in}
use Rattle.dcc_stack.specs.Slots.{IsExposedIn, writes_memory}
use Rattle.dcc_stack.specs.SlotLaws.{stores_at, marks_at}
use Rattle.dcc_ir.specs.declared.syntax.Loc.{Loc}
use Rattle.dcc_ir.specs.declared.syntax.Loc.TheVariants.{Half, Flag, Cell as CellHalf, Temp}
use Rattle.dcc_ir.specs.Tree.{Expr, Get, Address}
use Rattle.dcc_ir.specs.Run.{State, value_in, execute, setting}
use Rattle.dcc_ops.specs.OperandPlace.{OperandPlace, word, memory, storing, is_sound_place}
use Rattle.dcc_ops.specs.Temporaries.{is_temporary_of}
use Rattle.dcc_ops.proofs.CouplingLaws.{held_below}
use Rattle.dcc_simulation.specs.Coupled.{Setting, typed_by, typed_waiting}
use Rattle.dcc_simulation.specs.Places.{IsFramePlace, in_half, in_cell, in_memory, IsOperandPlace, direct, elsewhere}
use Rattle.dcc_simulation.specs.Places.{taken, bytes_from, offsets_of}
use Rattle.dcc_simulation.specs.Laws.{IsCleanInstruction, Within, operand_access, Makes, written_by, OperandsAreWritten}
use Rattle.dcc_simulation.proofs.Coupling.{carried_laws, coupled}
use Rattle.dcc_simulation.proofs.FrameBytes.{not-equal, word-small, bytes-below, each-offset, inner-stored, agree-after}
use Rattle.dcc_simulation.proofs.FrameBytes.{frames-written}
use Rattle.dcc_simulation.proofs.OperandBytes.{exposed-in, start, of-frame, address-at, changes-at, shown}
use Rattle.dcc_simulation.proofs.OperandBytes.{other-address}
use Rattle.dcc_simulation.proofs.PlacesRead.{place-wide}

-- Memory.

-- what a store of the machine does
machine-stored : (w : Width) (ea : Ea) (u : Machine) (v base : ℕ) (offset : ℕ → ℕ) → v < limit_of w
    → ((index : ℕ) → index < bytes_in w
    → physical (segment_of u ea) ((offset_of u ea + index) % 65536) ≡ base + offset index)
    → ((index : ℕ) → index < bytes_in w → 0 < index → (offset index == offset 0) ≡ false)
    → with_operand u (Mem w ea) v
    ≡ record u {
      memory = stored (stores_at (λ n. base + n) (offsets_of w offset) (bytes_from (offset 0) v)) u.memory;
    }
machine-stored byte_width ea u v base offset small is apart =
    ap₂ (λ n x. record u { memory = slice_set u.memory n x }) (ap (physical (segment_of u ea)) by ∙ is 0 (omega arith))
    (low small ∙ ap (λ b. if b then v % 256 else v / 256) (sym (eq-eqb (offset 0) (offset 0) refl)))
  where
    by : offset_of u ea ≡ (offset_of u ea + 0) % 65536
    by = omega arith

    low : v < 256 → v ≡ v % 256
    low less = omega (arith, less)
machine-stored word_width ea u v base offset small is apart =
    ap₂ (λ n x. record u {
      memory =
          slice_set (slice_set u.memory n x) (physical (segment_of u ea) ((offset_of u ea + 1) % 65536)) (v / 256);
    }) (ap (physical (segment_of u ea)) by ∙ is 0 (omega arith))
    (ap (λ b. if b then v % 256 else v / 256) (sym (eq-eqb (offset 0) (offset 0) refl)))
    ∙ ap₂ (λ n x. record u {
      memory = slice_set (slice_set u.memory (base + offset 0) (bytes_from (offset 0) v (offset 0))) n x;
    }) (is 1 (omega arith))
    (ap (λ b. if b then v % 256 else v / 256) (sym (apart 1 (omega arith) (omega arith))))
  where
    by : offset_of u ea ≡ (offset_of u ea + 0) % 65536
    by = omega arith

-- the bytes of the stack that the access touches are marked
pub marks-same : (layout : Layout) (access : Access) (w : Width) (offset : ℕ → ℕ) (written : List Bool)
    → access.size ≡ bytes_in w
    → ((index : ℕ) → index < bytes_in w → address_in access index ≡ layout.ds * 16 + offset index)
    → marks_at layout (offsets_of w offset) written
    ≡ with_marks true (stack_bytes layout (access ∷ [])) written
marks-same layout access w offset written size is =
    ap (λ l. with_marks true (filter_map (stack_offset layout) l) written)
    (by w is ∙ ap (λ n. map (address_in access) (range_with_len 0 n) ++ []) (sym size)
    ∙ sym (flat_map-cons addresses_of access []))
  where
    by : (v : Width)
        → ((index : ℕ) → index < bytes_in v → address_in access index ≡ layout.ds * 16 + offset index)
        → map (λ n. layout.ds * 16 + n) (offsets_of v offset)
        ≡ map (address_in access) (range_with_len 0 (bytes_in v)) ++ []
    by byte_width each = ap (λ n. n ∷ []) (sym (each 0 (omega arith)))
    by word_width each = ap₂ (λ n m. n ∷ m ∷ []) (sym (each 0 (omega arith))) (sym (each 1 (omega arith)))

second-apart : (w : Width) (index : ℕ) → index < bytes_in w → 0 < index → index ≡ 1
second-apart byte_width index less above = absurd (omega (arith, less, above))
second-apart word_width index less above = omega (arith, less, above)

-- Statements.

memory-runs : (w : Width) (at : Expr) (from : Loc) (t : State) → t.end ≡ Running
    → execute (storing (memory w at) (Get from)) t ≡ taken (memory w at) (t.running.values from) t
memory-runs w at from t running =
    ap (λ end. if is_over end then t else taken (memory w at) (t.running.values from) t) running

-- a word is stored half by half
cell-runs : (number n : ℕ) (t : State) → t.end ≡ Running → t.running.values (Temp n) < 65536
    → execute (storing (word (CellHalf number Low) (CellHalf number High)) (Get (Temp n))) t
    ≡ taken (word (CellHalf number Low) (CellHalf number High)) (t.running.values (Temp n)) t
cell-runs number n t running small =
    ap (λ end. if is_over end then t
    else (if is_over end then setting (CellHalf number Low) (t.running.values (Temp n) / 2 ^ 0 % 2 ^ 8) t
    else setting (CellHalf number High) (t.running.values (Temp n) / 2 ^ 8 % 2 ^ 8)
    (setting (CellHalf number Low) (t.running.values (Temp n) / 2 ^ 0 % 2 ^ 8) t))) running
    ∙ ap₂ (λ high low. setting (CellHalf number High) high (setting (CellHalf number Low) low t))
    (highest (t.running.values (Temp n)) small) (lowest (t.running.values (Temp n)))
  where
    lowest : (m : ℕ) → m / 2 ^ 0 % 2 ^ 8 ≡ m % 256
    lowest m = omega arith

    highest : (m : ℕ) → m < 65536 → m / 2 ^ 8 % 2 ^ 8 ≡ m / 256
    highest m less = omega (arith, less)

pub frame-runs : (e : Setting) (entry : ℕ) (k : ℤ) (w : Width) (place : OperandPlace) (from : Loc) (t : State)
    → IsFramePlace e entry k w place → is_temporary_of w from ≡ true → t.end ≡ Running
    → t.running.values from < limit_of w
    → execute (storing place (Get from)) t ≡ taken place (t.running.values from) t
frame-runs e entry k _ _ from t (in_half {number = number} {half = half} in_it) temporary running small =
    ap (λ end. if is_over end then t else setting (CellHalf number half) (t.running.values from) t) running
frame-runs e entry k _ _ (Temp n) t (in_cell {number = number} low high) temporary running small =
    cell-runs number n t running small
frame-runs e entry k _ _ (Half r half) t (in_cell low high) temporary running small = cc
frame-runs e entry k _ _ (Flag flag) t (in_cell low high) temporary running small = cc
frame-runs e entry k _ _ (CellHalf number half) t (in_cell low high) temporary running small = cc
frame-runs e entry k w _ from t (in_memory placed) temporary running small = memory-runs w (Address (wrapped_of
    word_width (k -ℤ pos 4))) from t running

pub frame-sound : (e : Setting) (entry : ℕ) (k : ℤ) (w : Width) (place : OperandPlace) → IsFramePlace e entry k w place
    → is_sound_place place ≡ true
frame-sound e entry k _ _ (in_half in_it) = refl
frame-sound e entry k _ _ (in_cell low high) = refl
frame-sound e entry k w _ (in_memory placed) = refl

-- The law.

module _ (e : Setting) (s : Machine) (stack : Stack) (instr : Instr) (w : Width) (ea : Ea) (ip : ℕ)
    (is : IsCleanInstruction e s stack instr) (operand : memory_operand instr.op ≡ Some (w, ea))
    (writes : writes_memory instr.op ≡ true) (makes : Makes is Writing w ea) where
  abbrev R : Machine → State → Type 0
  R = Within is stack.written

  abbrev After : Machine → State → Type 0
  After = Within is (written_by is (operand_access is Writing w ea))

  abbrev here : Machine
  here = record s { ip = ip }

  -- where the bytes lie at these offsets, both runs agree after the machine's store
  store-after : (offset : ℕ → ℕ)
      → ((index : ℕ) → index < bytes_in w
      → physical (segment_of s ea) ((offset_of s ea + index) % 65536) ≡ e.program.layout.ds * 16 + offset index)
      → ((index : ℕ) → index < bytes_in w → 0 < index → (offset index == offset 0) ≡ false)
      → (flags : Flags) (v : ℕ) (u : State) → v < limit_of w
      → Within is (marks_at e.program.layout (offsets_of w offset) stack.written)
      (record (with_flags flags here) {
        memory =
            stored (stores_at (λ n. e.program.layout.ds * 16 + n) (offsets_of w offset) (bytes_from (offset 0) v))
            s.memory;
      }) u
      → After (with_operand (with_flags flags here) (Mem w ea) v) u
  store-after offset lies apart flags v u small c =
      subst (λ m. After m u)
      (sym (machine-stored w ea (with_flags flags here) v (e.program.layout.ds * 16) offset small lies apart))
      (subst (λ marks. Within is marks
      (record (with_flags flags here) {
        memory =
            stored (stores_at (λ n. e.program.layout.ds * 16 + n) (offsets_of w offset) (bytes_from (offset 0) v))
            s.memory;
      }) u)
      (marks-same e.program.layout (operand_access is Writing w ea) w offset stack.written refl lies) c)

  -- an access that isn't direct
  elsewhere-written : (at : Expr) (flags : Flags) (t : State) (from : Loc) → is_direct ea ≡ false
      → value_in t at ≡ offset_of s ea → R (with_flags flags here) t → t.running.values from < limit_of w
      → After (with_operand (with_flags flags here) (Mem w ea) (t.running.values from))
      (taken (memory w at) (t.running.values from) t)
  elsewhere-written at flags t from indirect found c small =
      store-after offset (λ index less. address index) apart flags v (taken (memory w at) v t) small
      (subst (Within is (marks_at e.program.layout (offsets_of w offset) stack.written)
      (record (with_flags flags here) {
        memory =
            stored (stores_at (λ n. e.program.layout.ds * 16 + n) (offsets_of w offset) (bytes_from (offset 0) v))
            s.memory;
      }))
      (ap (λ m. record t { memory = m })
      (sym (inner-stored w t.memory (value_in t at) v offset small
      (λ index less. ap (λ n. (n + index) % 65536) found) apart)))
      (agree-after e is.stands.newest is.stands.callers stack.written
      (marks_at e.program.layout (offsets_of w offset) stack.written) (with_flags flags here) t c (offsets_of w offset)
      (bytes_from (offset 0) v)
      (stored (stores_at (λ n. n) (offsets_of w offset) (bytes_from (offset 0) v)) t.memory) t.running.values
      (λ r half. refl) (λ flag. refl) c.newest.values (bytes-below (offset 0) v (word-small w v small))
      (carried_laws.stores_many (offsets_of w offset) (bytes_from (offset 0) v) c.carried
      (bytes-below (offset 0) v (word-small w v small))
      (each-offset w offset (λ n. (n < 65536)
      × (e.program.layout.lo ≤ n → n < e.program.layout.hi
      → IsExposedIn e.program (top_in e.program.layout s)
      (typed_by e is.stands.newest t.running ∷ typed_waiting e is.stands.callers t.waiting) n))
      (λ index less. (
        omega arith,
        λ low high. exposed-in e s stack instr is t c.waiting (offset index)
            (shown e s stack instr is w ea operand index (offset index) less (address index) low high Writing makes
            indirect),
      ))))))
    where
      v : ℕ
      v = t.running.values from

      offset : ℕ → ℕ
      offset index = (offset_of s ea + index) % 65536

      address : (index : ℕ)
          → physical (segment_of s ea) ((offset_of s ea + index) % 65536) ≡ e.program.layout.ds * 16 + offset index
      address index = other-address e s stack instr is w ea operand indirect index

      apart : (index : ℕ) → index < bytes_in w → 0 < index → (offset index == offset 0) ≡ false
      apart index less above =
          let one = second-apart w index less above in
          not-equal (offset index) (offset 0) (λ same. omega (arith, one, same))

  written-at : (place : OperandPlace) → IsOperandPlace e is.stands.newest.frame.entry R here ea w place
      → (flags : Flags) (t : State) (from : Loc) → R (with_flags flags here) t → is_temporary_of w from ≡ true
      → t.running.values from < limit_of w
      → After (with_operand (with_flags flags here) (Mem w ea) (t.running.values from))
      (execute (storing place (Get from)) t)
  written-at place (direct so at) flags t from c temporary small =
      let first = start e s stack instr is w ea operand so in
      let v = t.running.values from in
      subst (After (with_operand (with_flags flags here) (Mem w ea) v))
      (sym (frame-runs e is.stands.newest.frame.entry (offset_in_frame ea) w place from t at temporary c.running small))
      (store-after (λ index. start e s stack instr is w ea operand so + index)
      (address-at e s stack instr is w ea operand so)
      (λ index less above. not-equal (first + index) (first + 0) (λ same. omega (arith, above, same)))
      flags v (taken place v t) small
      (subst (λ n. Within is
      (marks_at e.program.layout (offsets_of w (λ index. start e s stack instr is w ea operand so + index))
      stack.written)
      (record (with_flags flags here) {
        memory =
            stored (stores_at (λ m. e.program.layout.ds * 16 + m)
            (offsets_of w (λ index. start e s stack instr is w ea operand so + index)) (bytes_from n v)) s.memory;
      }) (taken place v t)) (zeroth first)
      (frames-written e is.stands.newest is.stands.callers stack.written (with_flags flags here) t w (offset_in_frame
      ea)
      first place v is.numbered c (of-frame e s stack instr is w ea operand so)
      (changes-at e s stack instr is w ea operand so writes) at small)))
    where
      zeroth : (n : ℕ) → n ≡ n + 0
      zeroth n = omega arith
  written-at _ (elsewhere {at = at} indirect offset) flags t from c temporary small =
      subst (After (with_operand (with_flags flags here) (Mem w ea) (t.running.values from)))
      (sym (memory-runs w at from t c.running))
      (elsewhere-written at flags t from indirect (offset flags t c) c small)

  place-sound : (place : OperandPlace) → IsOperandPlace e is.stands.newest.frame.entry R here ea w place
      → is_sound_place place ≡ true
  place-sound place (direct so at) = frame-sound e is.stands.newest.frame.entry (offset_in_frame ea) w place at
  place-sound _ (elsewhere indirect offset) = refl

pub operands-written : OperandsAreWritten
operands-written e s stack instr w ea place ip is operand writes makes at = record {
  width = place-wide e s stack instr ip is ea w place at;
  sound = place-sound e s stack instr w ea ip is operand writes makes place at;
  taken = λ flags t from c temporary.
      written-at e s stack instr w ea ip is operand writes makes place at flags t from c temporary
      (held_below (Within is stack.written) (coupled e is.stands.newest is.stands.callers stack.written)
      (with_flags flags (record s { ip = ip })) t w from temporary c);
}
