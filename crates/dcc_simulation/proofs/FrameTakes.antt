-- The running activation takes bytes of its frame, one after another: in halves of cells, or in memory. Nothing else of
-- the inner run changes.
use Rattle.std.proofs.Common.{◌≡◌, ◌<◌, ℕ, ◌+◌, ◌*◌, ◌/◌, ◌%◌, Bool, true, false, List, [], ◌∷◌, ◌++◌, refl, sym, ap, ap₂, ◌∙◌, subst, arith}
use Rattle.std.specs.Prelude.{ℤ, pos, ◌+ℤ◌, ◌-ℤ◌, if◌then◌else◌, All, slice_set}
use Rattle.std.specs.Ordering.{int_eq}
use Rattle.std.proofs.lemmas.Int.{ints}
use Rattle.std.proofs.lemmas.List.{length-set}
use Rattle.dcc_run.specs.End.{Running, is_over}
use Rattle.dcc_num.specs.declared.Width.TheVariants.{Byte as byte_width, Word as word_width}
use Rattle.dcc_num.specs.declared.Half.{Half as HalfName}
use Rattle.dcc_num.specs.declared.Half.TheVariants.{Low, High}
use Rattle.dcc_num.specs.Numbers.{bits_of, wrapped_of}
use Rattle.dcc_prog.specs.Frame.{IsPlaced}
use Rattle.dcc_stack.specs.Standing.{Activation}
use Rattle.dcc_stack.specs.Slots.{PutsAll, done, next, in_memory as put_in_memory, in_slot}
use Rattle.dcc_stack.proofs.SlotWrites.{set-bytes}
use Rattle.dcc_ir.specs.declared.syntax.Loc.{Loc}
use Rattle.dcc_ir.specs.declared.syntax.Loc.TheVariants.{Half, Flag, Cell as CellHalf, Temp}
use Rattle.dcc_ir.specs.Location.{Values, with_value}
use Rattle.dcc_ir.specs.Tree.{Get, Address}
use Rattle.dcc_ir.specs.Value.{Fits}
use Rattle.dcc_ir.specs.Run.{State, value_in, scene_of, setting, storing as storing_at, putting, execute}
use Rattle.dcc_ops.specs.OperandPlace.{OperandPlace, storing}
use Rattle.dcc_ops.proofs.SceneLaws.{fits_taking}
use Rattle.dcc_simulation.specs.Coupled.{Setting, slots_in, typed_by}
use Rattle.dcc_simulation.specs.Places.{IsInLocation, IsFramePlace, in_half, in_cell, in_memory}
use Rattle.dcc_simulation.specs.Passed.{put_of}
use Rattle.dcc_simulation.proofs.CellSlots.{IsSmall, slot-set}
use Rattle.dcc_simulation.proofs.FrameBytes.{address-sum, no-further}

-- States that differ in values and memory.

abbrev pub changed : Values → List ℕ → State → State
changed values other t = record t { running = record t.running { values = values }; memory = other }

abbrev pub is_cell : Loc → Bool
is_cell (CellHalf number half) = true
is_cell location = false

cell-apart : (values : Values) (number : ℕ) (half : HalfName) (v : ℕ) (location : Loc) → is_cell location ≡ false
    → with_value values (CellHalf number half) v location ≡ values location
cell-apart values number half v (Half r h) none = refl
cell-apart values number half v (Flag flag) none = refl
cell-apart values number half v (Temp n) none = refl
cell-apart values number half v (CellHalf n h) none = cc

-- the frame's bytes are told by their values
pub slots-equal : {slots others : ℤ → ℕ} → ((k : ℤ) → slots k ≡ others k) → slots ≡ others
slots-equal same = λ i. λ k. same k i

-- the activation's frame takes these bytes at these offsets
pub record TakesBytes (e : Setting) (a : Activation) (bytes : ℕ → ℕ) (offsets : List ℕ) (t u : State) : Type 0 where
  pub puts :
      PutsAll e.image e.program.layout bytes (typed_by e a t.running) t.memory offsets (typed_by e a u.running) u.memory
  pub is : u ≡ changed u.running.values u.memory t
  pub others : (location : Loc) → is_cell location ≡ false → u.running.values location ≡ t.running.values location
  pub fits : Fits (scene_of u)

module _ (e : Setting) (a : Activation) (bytes : ℕ → ℕ) where
  abbrev Takes : List ℕ → State → State → Type 0
  Takes offsets t u = TakesBytes e a bytes offsets t u

  abbrev Placed : ℕ → Type 0
  Placed offset = IsPlaced e.image e.program.layout a.frame.entry (pos (offset + 4) -ℤ pos a.frame.base)

  pub takes-none : (t : State) → Fits (scene_of t) → Takes [] t t
  takes-none t fits = record { puts = done; is = refl; others = λ location none. refl; fits = fits }

  puts-both : {t u v : _} {other between after offsets more : List ℕ}
      → PutsAll e.image e.program.layout bytes t other offsets u between
      → PutsAll e.image e.program.layout bytes u between more v after
      → PutsAll e.image e.program.layout bytes t other (offsets ++ more) v after
  puts-both done later = later
  puts-both (next one rest) later = next one (puts-both rest later)

  pub takes-more : (offsets more : List ℕ) (t u v : State) → Takes offsets t u → Takes more u v
      → Takes (offsets ++ more) t v
  takes-more offsets more t u v one other = record {
    puts = puts-both one.puts other.puts;
    is = other.is ∙ ap (changed v.running.values v.memory) one.is;
    others = λ location none. other.others location none ∙ one.others location none;
    fits = other.fits;
  }

  -- One byte.

  half-takes : (t : State) (first v number : ℕ) (half : HalfName) → All IsSmall (e.cells a.frame.entry)
      → Fits (scene_of t)
      → IsInLocation e a.frame.entry (pos (first + 4) -ℤ pos a.frame.base) (CellHalf number half) → v ≡ bytes first
      → v < 256
      → Takes (first ∷ []) t (setting (CellHalf number half) v t)
  half-takes t first v number half small fits in_it same less = record {
    puts =
        subst (λ slots. PutsAll e.image e.program.layout bytes (typed_by e a t.running) t.memory (first ∷ [])
        (record { activation = a; slots = slots }) t.memory) (slots-equal slot) (next (in_slot in_it.apart) done);
    is = refl;
    others = cell-apart t.running.values number half v;
    fits = fits_taking (scene_of t) (CellHalf number half) v less fits;
  }
    where
      k : ℤ
      k = pos (first + 4) -ℤ pos a.frame.base

      slot : (j : ℤ)
          → (if int_eq j k then bytes first else slots_in (e.cells a.frame.entry) t.running.values j)
          ≡ slots_in (e.cells a.frame.entry) (with_value t.running.values (CellHalf number half) v) j
      slot j =
          sym (slot-set (e.cells a.frame.entry) t.running.values k number half v j small in_it.is
          ∙ ap (λ x. if int_eq j k then x else slots_in (e.cells a.frame.entry) t.running.values j) same)

  byte-takes : (t : State) (first v : ℕ) → Fits (scene_of t) → Placed first → v ≡ bytes first → v < 256
      → Takes (first ∷ []) t (record t { memory = slice_set t.memory first v })
  byte-takes t first v fits placed same less = record {
    puts =
        subst (λ x. PutsAll e.image e.program.layout bytes (typed_by e a t.running) t.memory (first ∷ [])
        (typed_by e a t.running) (slice_set t.memory first x)) (sym same) (next (put_in_memory placed) done);
    is = refl;
    others = λ location none. refl;
    fits = record {
      values = fits.values;
      len = length-set t.memory first v ∙ fits.len;
      bytes = set-bytes t.memory first v less fits.bytes;
    };
  }

  -- A word that is put.

  word-stored : (t : State) (address first v : ℕ) → Fits (scene_of t) → Placed first → Placed (first + 1)
      → address % 65536 ≡ first → (address + 1) % 65536 ≡ first + 1 → v % 256 ≡ bytes first
      → v / 256 % 256 ≡ bytes (first + 1)
      → Takes (first ∷ (first + 1) ∷ []) t (storing_at 16 address v t)
  word-stored t address first v fits low high at after one other =
      let lower = byte-takes t first (v % 256) fits low one (omega arith) in
      let upper =
      byte-takes (record t { memory = slice_set t.memory first (v % 256) }) (first + 1) (v / 256 % 256) lower.fits high
      other (omega arith) in
      subst (Takes (first ∷ (first + 1) ∷ []) t)
      (ap₂ (λ n m. record t { memory = slice_set (slice_set t.memory n (v % 256)) m (v / 256 % 256) }) (sym at)
      (sym after))
      (takes-more (first ∷ []) ((first + 1) ∷ []) t _ _ lower upper)

  at-next : (first : ℕ) → ((pos (first + 4) -ℤ pos a.frame.base) +ℤ pos 1) ≡ (pos (first + 1 + 4) -ℤ pos a.frame.base)
  at-next first = omega (arith, ints)

  pub word-put : (t : State) (j first v : ℕ) (place : OperandPlace) → All IsSmall (e.cells a.frame.entry)
      → Fits (scene_of t)
      → IsFramePlace e a.frame.entry (pos (first + 4) -ℤ pos a.frame.base) word_width place
      → (t.running.base + 2 * j) % 65536 ≡ first → (t.running.base + 2 * j + 1) % 65536 ≡ first + 1 → v < 65536
      → v % 256 ≡ bytes first → v / 256 ≡ bytes (first + 1)
      → Takes (first ∷ (first + 1) ∷ []) t (putting j (put_of place) v t)
  word-put t j first v _ small fits (in_cell {number = number} low high) at after less one other =
      let lower = half-takes t first (v % 256) number Low small fits low one (omega arith) in
      let upper =
      half-takes (setting (CellHalf number Low) (v % 256) t) (first + 1) (v / 256) number High small lower.fits
      (subst (λ j. IsInLocation e a.frame.entry j (CellHalf number High)) (at-next first) high) other
      (omega (arith, less)) in
      takes-more (first ∷ []) ((first + 1) ∷ []) t (setting (CellHalf number Low) (v % 256) t)
      (setting (CellHalf number High) (v / 256) (setting (CellHalf number Low) (v % 256) t)) lower upper
  word-put t j first v _ small fits (in_memory placed) at after less one other =
      word-stored t (t.running.base + 2 * j) first v fits
      (subst (IsPlaced e.image e.program.layout a.frame.entry)
      (sym (no-further (pos (first + 4) -ℤ pos a.frame.base))) (placed 0 (omega arith)))
      (subst (IsPlaced e.image e.program.layout a.frame.entry) (at-next first) (placed 1 (omega arith))) at after one
      (omega (arith, less, other))

  -- A byte that a statement stores.

  -- the address of a byte of the frame
  pub byte-address : (base first index : ℕ) → base ≡ a.frame.base % 65536 → first + index < 65536
      → ((base + wrapped_of word_width ((pos (first + 4) -ℤ pos a.frame.base) -ℤ pos 4)) % 65536 + index) % 65536
      ≡ first + index
  byte-address base first index same less =
      ap (λ n. ((n + wrapped_of word_width ((pos (first + 4) -ℤ pos a.frame.base) -ℤ pos 4)) % 65536 + index) % 65536)
      same
      ∙ address-sum a.frame.base (first + index) index ((pos (first + 4) -ℤ pos a.frame.base) -ℤ pos 4)
      (omega (arith, ints)) less

  pub byte-stored : (t : State) (from : Loc) (first : ℕ) (place : OperandPlace) → All IsSmall (e.cells a.frame.entry)
      → Fits (scene_of t) → t.end ≡ Running
      → IsFramePlace e a.frame.entry (pos (first + 4) -ℤ pos a.frame.base) byte_width place
      → t.running.base ≡ a.frame.base % 65536 → first < 65536 → t.running.values from < 256
      → t.running.values from ≡ bytes first
      → Takes (first ∷ []) t (execute (storing place (Get from)) t)
  byte-stored t from first _ small fits running (in_half {number = number} {half = half} in_it) base below less same =
      subst (Takes (first ∷ []) t)
      (sym (ap (λ end. if is_over end then t else setting (CellHalf number half) (t.running.values from) t) running))
      (half-takes t first (t.running.values from) number half small fits in_it same less)
  byte-stored t from first _ small fits running (in_memory placed) base below less same =
      let v = t.running.values from in
      let at : value_in t (Address (wrapped_of word_width ((pos (first + 4) -ℤ pos a.frame.base) -ℤ pos 4))) % 65536
      ≡ first =
      let sum = byte-address t.running.base first 0 base (omega (arith, below)) in omega (arith, sum) in
      let low : v % 256 ≡ v = omega (arith, less) in
      subst (Takes (first ∷ []) t)
      (ap₂ (λ n m. record t { memory = slice_set t.memory n m }) (sym at) (sym low)
      ∙ sym (ap (λ end. if is_over end then t
      else storing_at (bits_of byte_width)
      (value_in t (Address (wrapped_of word_width ((pos (first + 4) -ℤ pos a.frame.base) -ℤ pos 4)))) v t) running))
      (byte-takes t first v fits
      (subst (IsPlaced e.image e.program.layout a.frame.entry)
      (sym (no-further (pos (first + 4) -ℤ pos a.frame.base))) (placed 0 (omega arith))) same less)
