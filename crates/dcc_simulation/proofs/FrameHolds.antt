-- What the running activation holds of its frame's bytes is what the places of the frame give.
use Rattle.std.proofs.Common.{◌≡◌, ◌<◌, ◌⊎◌, inl, inr, ℕ, ◌+◌, ◌*◌, ◌/◌, ◌%◌, Bool, true, false, List, [], ◌∷◌, Some, refl, sym, ap, subst, arith}
use Rattle.std.specs.Prelude.{ℤ, pos, ◌+ℤ◌, ◌-ℤ◌, if◌then◌else◌, slice_index}
use Rattle.std.specs.Ordering.{int_eq}
use Rattle.std.proofs.lemmas.Int.{ints}
use Rattle.dcc_num.specs.declared.Half.{Half as HalfName}
use Rattle.dcc_num.specs.declared.Half.TheVariants.{Low, High}
use Rattle.dcc_num.specs.declared.Width.TheVariants.{Word as word_width}
use Rattle.dcc_num.specs.Numbers.{wrapped_of}
use Rattle.dcc_prog.specs.declared.frame.Cell.{Cell}
use Rattle.dcc_prog.specs.Analysed.{bytes_of}
use Rattle.dcc_prog.specs.Frame.{IsPlaced}
use Rattle.dcc_prog.specs.Trail.{IsEntry}
use Rattle.dcc_stack.specs.Accepted.{IsProgramOfFile}
use Rattle.dcc_stack.specs.Standing.{Activation}
use Rattle.dcc_stack.specs.Slots.{Holds, is_within}
use Rattle.dcc_stack.proofs.SlotHeld.{holds-value}
use Rattle.dcc_ir.specs.declared.syntax.Loc.{Loc}
use Rattle.dcc_ir.specs.declared.syntax.Loc.TheVariants.{Cell as CellHalf}
use Rattle.dcc_ir.specs.Location.{Values}
use Rattle.dcc_ir.specs.Tree.{Expr, Get, Load, Address}
use Rattle.dcc_ir.specs.Value.{Fits}
use Rattle.dcc_ir.specs.Run.{State, value_in, scene_of}
use Rattle.dcc_ir.specs.Passing.{bytes_at_put}
use Rattle.dcc_ops.specs.OperandPlace.{OperandPlace, place_value}
use Rattle.dcc_simulation.specs.Coupled.{Setting, half_in, held_at, slots_in, typed_by}
use Rattle.dcc_simulation.specs.Places.{IsInLocation, IsFramePlace, in_cell, in_memory}
use Rattle.dcc_simulation.specs.Passed.{put_of}
use Rattle.dcc_simulation.proofs.Coupling.{carried_laws}
use Rattle.dcc_simulation.proofs.FrameBytes.{no-further}
use Rattle.dcc_simulation.proofs.FrameTakes.{byte-address}

-- what cells tell is a byte
slots-small : (n : ℕ) (cells : List Cell) (values : Values) (k : ℤ)
    → ((number : ℕ) (half : HalfName) → values (CellHalf number half) < 256)
    → held_at values (half_in n cells k) < 256
slots-small n [] values k small = omega arith
slots-small n (cell ∷ cells) values k small =
    by (is_within k (bytes_of cell)) (if int_eq k cell.first then Low else High)
    (slots-small (n + 1) cells values k small)
  where
    by : (b : Bool) (half : HalfName) → held_at values (half_in (n + 1) cells k) < 256
        → held_at values (if b then Some (CellHalf n half) else half_in (n + 1) cells k) < 256
    by true half rest = small n half
    by false half rest = rest

module _ (e : Setting) (a : Activation) (t : State) where
  abbrev pub HoldsByte : ℕ → ℕ → Type 0
  HoldsByte offset value = Holds e.image e.program.layout t.memory (typed_by e a t.running) offset value

  abbrev Place-of : ℕ → ℤ
  Place-of offset = pos (offset + 4) -ℤ pos a.frame.base

  abbrev Placed : ℤ → Type 0
  Placed k = IsPlaced e.image e.program.layout a.frame.entry k

  location-holds : (offset : ℕ) (location : Loc) → IsInLocation e a.frame.entry (Place-of offset) location
      → HoldsByte offset (t.running.values location)
  location-holds offset location in_it = record {
    placed = λ placed. absurd (in_it.apart placed);
    kept = λ none. ap (held_at t.running.values) in_it.is;
  }

  memory-holds : (offset : ℕ) → Placed (Place-of offset) → HoldsByte offset (slice_index t.memory offset)
  memory-holds offset placed = record { placed = λ _. refl; kept = λ none. absurd (none placed) }

  pub holds-as : (offset value after : ℕ) → after ≡ value → HoldsByte offset value → HoldsByte offset after
  holds-as offset value after same h =
      holds-value e.program e.image (typed_by e a t.running) offset value after same h

  -- The byte that it holds.

  module _ (p : IsProgramOfFile e.cpu e.image e.program) (entry : IsEntry e.image e.program.layout a.frame.entry) where
    abbrev IsDecided : ℤ → Type 0
    IsDecided k = Placed k ⊎ (¬ Placed k)

    byte-by : (offset : ℕ) → IsDecided (Place-of offset) → ℕ
    byte-by offset (inl placed) = slice_index t.memory offset
    byte-by offset (inr none) = slots_in (e.cells a.frame.entry) t.running.values (Place-of offset)

    pub held-byte : ℕ → ℕ
    held-byte offset = byte-by offset (carried_laws.decided a.frame.entry (Place-of offset) p entry)

    pub held-holds : (offset : ℕ) → HoldsByte offset (held-byte offset)
    unfolding held-byte byte-by
    held-holds offset = by (carried_laws.decided a.frame.entry (Place-of offset) p entry)
      where
        by : (d : IsDecided (Place-of offset)) → HoldsByte offset (byte-by offset d)
        by (inl placed) = memory-holds offset placed
        by (inr none) = record { placed = λ placed. absurd (none placed); kept = λ _. refl }

    pub held-once : (offset value : ℕ) → HoldsByte offset value → value ≡ held-byte offset
    unfolding held-byte byte-by
    held-once offset value h = by (carried_laws.decided a.frame.entry (Place-of offset) p entry)
      where
        by : (d : IsDecided (Place-of offset)) → value ≡ byte-by offset d
        by (inl placed) = sym (h.placed placed)
        by (inr none) = sym (h.kept none)

    pub held-small : Fits (scene_of t) → (offset : ℕ) → held-byte offset < 256
    unfolding held-byte byte-by
    held-small fits offset = by (carried_laws.decided a.frame.entry (Place-of offset) p entry)
      where
        by : (d : IsDecided (Place-of offset)) → byte-by offset d < 256
        by (inl placed) = fits.bytes offset
        by (inr none) =
            slots-small 0 (e.cells a.frame.entry) t.running.values (Place-of offset)
            (λ number half. fits.values (CellHalf number half))

  -- What places give.

  at-next : (first : ℕ) → (Place-of first +ℤ pos 1) ≡ Place-of (first + 1)
  at-next first = omega (arith, ints)

  -- a word at a place, by its bytes
  pub record HoldsWord (first v : ℕ) : Type 0 where
    pub small : v < 65536
    pub low : HoldsByte first (v % 256)
    pub high : HoldsByte (first + 1) (v / 256)

  of-bytes : (first low high : ℕ) {v : ℕ} → v ≡ high * 256 + low → low < 256 → high < 256 → HoldsByte first low
      → HoldsByte (first + 1) high
      → HoldsWord first v
  of-bytes first low high {v} same small less one other = record {
    small = omega (arith, same, small, less);
    low = holds-as first low (v % 256) (omega (arith, same, small)) one;
    high = holds-as (first + 1) high (v / 256) (omega (arith, same, small)) other;
  }

  module _ (fits : Fits (scene_of t)) (first : ℕ) where
    in-first : ((index : ℕ) → index < 2 → Placed (Place-of first +ℤ pos index)) → Placed (Place-of first)
    in-first placed = subst Placed (sym (no-further (Place-of first))) (placed 0 (omega arith))

    in-second : ((index : ℕ) → index < 2 → Placed (Place-of first +ℤ pos index)) → Placed (Place-of (first + 1))
    in-second placed = subst Placed (at-next first) (placed 1 (omega arith))

    next-location : {location : Loc} → IsInLocation e a.frame.entry (Place-of first +ℤ pos 1) location
        → IsInLocation e a.frame.entry (Place-of (first + 1)) location
    next-location {location} in_it = subst (λ j. IsInLocation e a.frame.entry j location) (at-next first) in_it

    pub word-holds : (place : OperandPlace) → t.running.base ≡ a.frame.base % 65536 → first + 1 < 65536
        → IsFramePlace e a.frame.entry (Place-of first) word_width place
        → HoldsWord first (value_in t (place_value place))
    word-holds _ base below (in_cell {number = number} low high) =
        of-bytes first (t.running.values (CellHalf number Low))
        (t.running.values (CellHalf number High)) (omega arith) (fits.values (CellHalf number Low))
        (fits.values (CellHalf number High)) (location-holds first (CellHalf number Low) low)
        (location-holds (first + 1) (CellHalf number High) (next-location high))
    word-holds _ base below (in_memory placed) =
        of-bytes first (slice_index t.memory first) (slice_index t.memory (first + 1))
        (sum (value_in t (Address (wrapped_of word_width (Place-of first -ℤ pos 4))))
        (byte-address e a (λ n. n) t.running.base first 0 base (omega (arith, below)))
        (byte-address e a (λ n. n) t.running.base first 1 base below)) (fits.bytes first) (fits.bytes (first + 1))
        (memory-holds first (in-first placed)) (memory-holds (first + 1) (in-second placed))
      where
        sum : (at : ℕ) → (at + 0) % 65536 ≡ first + 0 → (at + 1) % 65536 ≡ first + 1
            → slice_index t.memory (at % 65536) + 256 * (slice_index t.memory ((at + 1) % 65536) + 256 * 0)
            ≡ slice_index t.memory (first + 1) * 256 + slice_index t.memory first
        sum at one other =
            let low : at % 65536 ≡ first = omega (arith, one) in
            let lower = ap (slice_index t.memory) low in
            let upper = ap (slice_index t.memory) other in
            omega (arith, lower, upper)

    -- the two bytes of an argument word, from where it was put
    pub record HoldsPut (number : ℕ) (place : OperandPlace) : Type 0 where
      pub low : Expr
      pub high : Expr
      pub are : bytes_at_put number (put_of place) ≡ low ∷ high ∷ []
      pub lower : HoldsByte first (value_in t low)
      pub upper : HoldsByte (first + 1) (value_in t high)

    pub put-holds : (number : ℕ) (place : OperandPlace) → (t.running.base + 2 * number) % 65536 ≡ first
        → (t.running.base + (2 * number + 1)) % 65536 ≡ first + 1
        → IsFramePlace e a.frame.entry (Place-of first) word_width place
        → HoldsPut number place
    put-holds number _ one other (in_cell {number = cell} low high) = record {
      low = Get (CellHalf cell Low);
      high = Get (CellHalf cell High);
      are = refl;
      lower = location-holds first (CellHalf cell Low) low;
      upper = location-holds (first + 1) (CellHalf cell High) (next-location high);
    }
    put-holds number _ one other (in_memory placed) = record {
      low = Load 8 (Address (2 * number));
      high = Load 8 (Address (2 * number + 1));
      are = refl;
      lower =
          holds-as first (slice_index t.memory first) _ (loaded (t.running.base + 2 * number) first one)
          (memory-holds first (in-first placed));
      upper =
          holds-as (first + 1) (slice_index t.memory (first + 1)) _
          (loaded (t.running.base + (2 * number + 1)) (first + 1) other)
          (memory-holds (first + 1) (in-second placed));
    }
      where
        loaded : (at offset : ℕ) → at % 65536 ≡ offset
            → slice_index t.memory (at % 65536 % 65536) + 256 * 0 ≡ slice_index t.memory offset
        loaded at offset same =
            let twice : at % 65536 % 65536 ≡ offset = omega (arith, same) in
            let is = ap (slice_index t.memory) twice in
            omega (arith, is)
