-- The memory of the inner run at the start is the machine's data segment, but for the stack.
use Rattle.std.proofs.Common.{◌≡◌, ◌⊎◌, inl, inr, ℕ, ◌+◌, ◌*◌, ◌-◌, ◌%◌, ◌<◌, ◌≤◌, Bool, true, false, List, ◌++◌, length, drop, get_or, replicate, refl, sym, ap, ◌∙◌, subst, arith, lit<}
use Rattle.std.specs.Prelude.{if◌then◌else◌, ◌&&◌, nat_le, nat_lt, slice_index}
use Rattle.std.proofs.lemmas.Bool.{cases_lt, lt-leb, le-ltb}
use Rattle.std.proofs.lemmas.Nat.{mod_below}
use Rattle.std.proofs.lemmas.List.{get_or-append-add, get_or_append_left, get_or-replicate, get_or-take, get_or-drop, get_or_past, length-replicate}
use Rattle.std.proofs.lemmas.List.FromFn.{length-map-range_with_len, get_or-map-range_with_len}
use Rattle.dcc_machine.specs.declared.image.Image.{Image}
use Rattle.dcc_prog.specs.declared.procedure.Layout.{Layout}
use Rattle.dcc_machine.specs.MzImage.{IsLoaded}
use Rattle.dcc_machine.specs.Load.{load_segment, image_address}
use Rattle.dcc_machine.specs.Machine.{loaded_memory}
use Rattle.dcc_ir.specs.Tree.{Program}
use Rattle.dcc_ir.specs.Run.{first_memory}
use Rattle.dcc_lift.specs.Translation.{data_image}
use Rattle.dcc_lift.proofs.CodeBounds.{bytes-taken, bytes-dropped, loaded-bytes}

-- The machine's.

abbrev byte_zero : ℕ
byte_zero = 0

zeros : (n i : ℕ) → get_or (replicate n byte_zero) i 0 ≡ byte_zero
zeros n i = elim (cases_lt i n) [
  | inl inside ↦ get_or-replicate n i 0 0 inside
  | inr past ↦ get_or_past (replicate n 0) i 0 (let e = length-replicate n byte_zero in omega (arith, e, past))
]

after-zeros : (n : ℕ) (ys : List ℕ) (j : ℕ) → get_or (replicate n 0 ++ ys) (n + j) 0 ≡ get_or ys j 0
after-zeros n ys j =
    let e : n + j ≡ length (replicate n 0) + j = ap (λ k. k + j) (sym (length-replicate n byte_zero)) in
    ap (λ k. get_or (replicate n 0 ++ ys) k 0) e ∙ get_or-append-add (replicate n 0) ys j 0

-- bytes, and zeros after them
padded : (bytes : List ℕ) (n j : ℕ) → get_or (bytes ++ replicate n 0) j 0 ≡ get_or bytes j 0
padded bytes n j = elim (cases_lt j (length bytes)) [
  | inl inside ↦ get_or_append_left bytes (replicate n 0) 0 j inside
  | inr past ↦
      let e : j ≡ length bytes + (j - length bytes) = omega (arith, past) in
      ap (λ k. get_or (bytes ++ replicate n 0) k 0) e
      ∙ get_or-append-add bytes (replicate n 0) (j - length bytes) 0
      ∙ zeros n (j - length bytes)
      ∙ sym (get_or_past bytes j 0 past)
]

pub loaded-everywhere : (bytes : List ℕ) (j : ℕ)
    → get_or (loaded_memory bytes) (image_address + j) 0 ≡ get_or bytes j 0
unfolding loaded_memory
loaded-everywhere bytes j =
    after-zeros image_address (bytes ++ replicate (1048576 - (image_address + length bytes)) 0) j
    ∙ padded bytes (1048576 - (image_address + length bytes)) j

-- The inner run's.

module _ (p : Program) (fill : ℕ) where
  abbrev byte_at_start : ℕ → ℕ
  byte_at_start at = if nat_le p.lo at && nat_lt at p.hi then fill % 256 else slice_index p.image at

  pub memory-len : length (first_memory p fill) ≡ 65536
  unfolding first_memory
  memory-len = length-map-range_with_len byte_at_start 0 65536

  memory-at : (at : ℕ) → at < 65536 → slice_index (first_memory p fill) at ≡ byte_at_start at
  unfolding first_memory
  memory-at at low = get_or-map-range_with_len byte_at_start 0 65536 at at 0 low (omega arith)

  pub memory-bytes : ((at : ℕ) → slice_index p.image at < 256) → (at : ℕ) → slice_index (first_memory p fill) at < 256
  memory-bytes small at = elim (cases_lt at 65536) [
    | inl low ↦ subst (λ b. b < 256) (sym (memory-at at low)) (one-byte (nat_le p.lo at && nat_lt at p.hi))
    | inr high ↦
        let len = memory-len in
        subst (λ b. b < 256) (sym (get_or_past (first_memory p fill) at 0 (omega (arith, high, len)))) (lit< tt)
  ]
    where
      one-byte : (b : Bool) → (if b then fill % 256 else slice_index p.image at) < 256
      one-byte true = mod_below fill 256 (lit< tt)
      one-byte false = small at

  -- outside of the stack it is the image's
  pub memory-outside : (at : ℕ) → at < 65536 → (at < p.lo) ⊎ (p.hi ≤ at)
      → slice_index (first_memory p fill) at ≡ slice_index p.image at
  memory-outside at low apart =
      memory-at at low ∙ ap (λ b. if b then fill % 256 else slice_index p.image at) (outside apart)
    where
      outside : (at < p.lo) ⊎ (p.hi ≤ at) → (nat_le p.lo at && nat_lt at p.hi) ≡ false
      outside (inl below) = ap (λ b. b && nat_lt at p.hi) (lt-leb p.lo at below)
      outside (inr above) = ap (λ b. nat_le p.lo at && b) (le-ltb at p.hi above) ∙ and-false (nat_le p.lo at)
        where
          and-false : (b : Bool) → (b && false) ≡ false
          and-false true = refl
          and-false false = refl

-- each part of an image is bytes
pub data-bytes : (image : Image) (layout : Layout) → IsLoaded image → (at : ℕ)
    → slice_index (data_image image layout) at < 256
unfolding data_image
data-bytes image layout loaded at =
    let skipped : ℕ = (layout.ds - load_segment) * 16 in
    bytes-taken 65536 (drop skipped image.bytes.items)
    (bytes-dropped skipped image.bytes.items (loaded-bytes image loaded)) at

-- the data segment is the image's from there on
pub data-at : (image : Image) (layout : Layout) → load_segment ≤ layout.ds → (at : ℕ) → at < 65536
    → slice_index (data_image image layout) at ≡ slice_index (loaded_memory image.bytes.items) (layout.ds * 16 + at)
unfolding data_image
data-at image layout above at low =
    let skipped : ℕ = (layout.ds - load_segment) * 16 in
    let place : image_address + (skipped + at) ≡ layout.ds * 16 + at = omega (arith, above) in
    get_or-take 65536 (drop skipped image.bytes.items) at 0 low
    ∙ get_or-drop skipped image.bytes.items at 0
    ∙ sym (loaded-everywhere image.bytes.items (skipped + at))
    ∙ ap (λ k. slice_index (loaded_memory image.bytes.items) k) place
