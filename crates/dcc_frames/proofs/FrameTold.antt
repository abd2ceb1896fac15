-- The cells and the exposed bytes of a frame are those of the definitions.
use Rattle.std.proofs.Common.{◌≡◌, inl, inr, ℕ, suc, ℤ, pos, ◌+ℤ◌, ◌≤ℤ◌, ◌<ℤ◌, Bool, true, false, cond, List, [], ◌∷◌, ◌++◌, map, get_or, AllPairs, Contains, Some, None, refl, sym, ap, ◌∙◌, subst, arith}
use Rattle.std.specs.Prelude.{int_le, if◌then◌else◌}
use Rattle.std.specs.List.{flat_map}
use Rattle.std.specs.Option.{option_to_list}
use Rattle.std.proofs.lemmas.Int.{ints}
use Rattle.std.proofs.lemmas.List.{get_or-map, length-map}
use Rattle.std.proofs.lemmas.List.Kept.{AllPairs-cons}
use Rattle.std.proofs.lemmas.List.Elements.{Contains-append_left, Contains-append_right, Contains-append_cases, Contains-get_or}
use Rattle.dcc_prog.specs.declared.frame.Cell.{Cell}
use Rattle.dcc_prog.specs.Frame.{Span}
use Rattle.dcc_prog.specs.Analysed.{bytes_of}
use Rattle.dcc_frames.specs.declared.bytes.Bytes.{Bytes}
use Rattle.dcc_frames.specs.declared.bytes.Piece.{Piece}
use Rattle.dcc_frames.specs.declared.steps.Step.{Step}
use Rattle.dcc_frames.specs.Bytes.{as_span, is_small}
use Rattle.dcc_frames.specs.Used.{start_of}
use Rattle.dcc_frames.specs.CellLists.{cell_of, small_cell, cells_from}
use Rattle.dcc_frames.specs.Starts.{long_first, starts_of}
use Rattle.dcc_frames.proofs.Flat.{some-in, in-some, from-flat, to-flat}

-- an element of a mapped list
pub map-in : {A B : Type 0} (f : A → B) (xs : List A) (x : A) → Contains xs x → Contains (map f xs) (f x)
map-in f xs x (k, inside, is) =
    let long = length-map xs f in
    (k, omega (arith, inside, long), get_or-map f xs k x (f x) inside ∙ ap f is)

-- at most two bytes
pub small-told : (bytes : Bytes) → is_small bytes ≡ true → bytes.end ≤ℤ (bytes.first +ℤ pos 2)
small-told bytes e = grind (arith, ints, e)

pub small-tells : (bytes : Bytes) → bytes.end ≤ℤ (bytes.first +ℤ pos 2) → is_small bytes ≡ true
small-tells bytes le = grind (arith, ints, le)

pub long-told : (bytes : Bytes) → is_small bytes ≡ false → (bytes.first +ℤ pos 2) <ℤ bytes.end
long-told bytes e = grind (arith, ints, e)

pub long-tells : (bytes : Bytes) → (bytes.first +ℤ pos 2) <ℤ bytes.end → is_small bytes ≡ false
long-tells bytes lt = grind (arith, ints, lt)

-- the bytes of the cell of at most two bytes are those
pub cell-bytes : (bytes : Bytes) → bytes.first <ℤ bytes.end → is_small bytes ≡ true
    → bytes_of (cell_of bytes) ≡ as_span bytes
cell-bytes bytes some small = by (int_le bytes.end (bytes.first +ℤ pos 1)) refl
  where
    at-end : (n : ℕ) → (bytes.first +ℤ pos n) ≡ bytes.end
        → record { first = bytes.first; end = bytes.first +ℤ pos n } ≡ as_span bytes
    at-end n is = ap (λ e. let s : Span = record { first = bytes.first; end = e } in s) is

    by : (b : Bool) → int_le bytes.end (bytes.first +ℤ pos 1) ≡ b → bytes_of (cell_of bytes) ≡ as_span bytes
    by true e =
        ap (λ b. let s : Span = record { first = bytes.first; end = bytes.first +ℤ pos (if b then 1 else 2) } in s) e
        ∙ at-end 1 (let le : bytes.end ≤ℤ (bytes.first +ℤ pos 1) = grind (arith, ints, e) in omega
        (arith, ints, le, some))
    by false e =
        ap (λ b. let s : Span = record { first = bytes.first; end = bytes.first +ℤ pos (if b then 1 else 2) } in s) e
        ∙ at-end 2
        (let lt : (bytes.first +ℤ pos 1) <ℤ bytes.end = grind (arith, ints, e) in
        let le = small-told bytes small in omega (arith, ints, le, lt))

small-case :
    (extent : Piece) (cell : Cell) (b : Bool) → is_small extent.bytes ≡ b → cond b (Some (cell_of extent.bytes)) None
    ≡ Some cell
    → (is_small extent.bytes ≡ true) × (cell_of extent.bytes ≡ cell)
small-case extent cell true is e = (is, cc)
small-case extent cell false is e = absurd (cc)

-- the extent of a cell
pub record HasExtent (extents : List Piece) (cell : Cell) : Type 0 where
  pub extent : Piece
  pub among : Contains extents extent
  pub small : is_small extent.bytes ≡ true
  pub cell_is : cell_of extent.bytes ≡ cell

pub cell-extent : (extents : List Piece) (cell : Cell) → Contains (cells_from extents) cell → HasExtent extents cell
cell-extent extents cell among =
    let f = from-flat (λ extent. option_to_list (small_cell extent)) extents cell among in
    let s = small-case f.source cell (is_small f.source.bytes) refl (in-some (small_cell f.source) cell f.is_in) in
    record { extent = f.source; among = f.among; small = s.0; cell_is = s.1 }

pub extent-cell : (extents : List Piece) (extent : Piece) → Contains extents extent → is_small extent.bytes ≡ true
    → Contains (cells_from extents) (cell_of extent.bytes)
extent-cell extents extent among small =
    to-flat (λ extent. option_to_list (small_cell extent)) extents extent (cell_of extent.bytes) among
    (some-in (small_cell extent) (cell_of extent.bytes) (ap (λ b. cond b (Some (cell_of extent.bytes)) None) small))

-- the cells ascend where the extents do
pairs-head : {A : Type 0} (R : A → A → Type 0) (x : A) (xs : List A) → AllPairs R (x ∷ xs) → (y : A)
    → Contains xs y → R x y
pairs-head R x xs pairs y (k, inside, is) = subst (R x) is (pairs 0 (suc k) y (omega arith) (omega (arith, inside)))

pairs-tail : {A : Type 0} (R : A → A → Type 0) (x : A) (xs : List A) → AllPairs R (x ∷ xs) → AllPairs R xs
pairs-tail R x xs pairs i j d less inside = pairs (suc i) (suc j) d (omega (arith, less)) (omega (arith, inside))

pub cells-ascend :
    (extents : List Piece) → AllPairs (λ (a b : Piece). a.bytes.first <ℤ b.bytes.first) extents
    → AllPairs (λ (a b : Cell). a.first <ℤ b.first) (cells_from extents)
cells-ascend [] pairs = λ i j d less inside. absurd (omega (arith, inside))
cells-ascend (extent ∷ extents) pairs =
    by (cells-ascend extents (pairs-tail (λ (a b : Piece). a.bytes.first <ℤ b.bytes.first) extent extents pairs))
    (is_small extent.bytes) refl
  where
    first-of : (cell : Cell) → Contains (cells_from extents) cell → extent.bytes.first <ℤ cell.first
    first-of cell among =
        let h = cell-extent extents cell among in
        subst (λ (c : Cell). extent.bytes.first <ℤ c.first) h.cell_is
        (pairs-head (λ (a b : Piece). a.bytes.first <ℤ b.bytes.first) extent extents pairs h.extent h.among)

    by :
        AllPairs (λ (a b : Cell). a.first <ℤ b.first) (cells_from extents) → (b : Bool) → is_small extent.bytes ≡ b
        → AllPairs (λ (a b : Cell). a.first <ℤ b.first) (cells_from (extent ∷ extents))
    by rest true e =
        subst (λ b. AllPairs (λ (a b : Cell). a.first <ℤ b.first)
        (option_to_list (cond b (Some (cell_of extent.bytes)) None) ++ cells_from extents)) (sym e)
        (AllPairs-cons (λ (a b : Cell). a.first <ℤ b.first) (cell_of extent.bytes) (cells_from extents)
        (λ k d inside. first-of (get_or (cells_from extents) k d) (Contains-get_or (cells_from extents) k d inside))
        rest)
    by rest false e =
        subst (λ b. AllPairs (λ (a b : Cell). a.first <ℤ b.first)
        (option_to_list (cond b (Some (cell_of extent.bytes)) None) ++ cells_from extents)) (sym e) rest

-- Starts.

long-case :
    (extent : Piece) (start : ℤ) (b : Bool) → is_small extent.bytes ≡ b → cond b None (Some extent.bytes.first)
    ≡ Some start
    → (is_small extent.bytes ≡ false) × (extent.bytes.first ≡ start)
long-case extent start true is e = absurd (cc)
long-case extent start false is e = (is, cc)

pub data IsStart (steps : List Step) (extents : List Piece) (start : ℤ) : Type 0 where
  of_step : {step : Step} → Contains steps step → start_of step.op step.height ≡ Some start
      → IsStart steps extents start
  of_extent : {extent : Piece} → Contains extents extent → is_small extent.bytes ≡ false → extent.bytes.first ≡ start
      → IsStart steps extents start

pub start-told : (steps : List Step) (extents : List Piece) (start : ℤ) → Contains (starts_of steps extents) start
    → IsStart steps extents start
start-told steps extents start among =
    elim (Contains-append_cases (flat_map (λ (step : Step). option_to_list (start_of step.op step.height)) steps) _
    start among) [
      | inl here ↦
          (let f = from-flat (λ (step : Step). option_to_list (start_of step.op step.height)) steps start here in
          of_step f.among (in-some (start_of f.source.op f.source.height) start f.is_in))
      | inr there ↦
          (let f = from-flat (λ extent. option_to_list (long_first extent)) extents start there in
          let l = long-case f.source start (is_small f.source.bytes) refl
          (in-some (long_first f.source) start f.is_in) in
          of_extent f.among l.0 l.1)
    ]

pub start-of-step :
    (steps : List Step) (extents : List Piece) (start : ℤ) (step : Step) → Contains steps step
    → start_of step.op step.height ≡ Some start → Contains (starts_of steps extents) start
start-of-step steps extents start step among is =
    Contains-append_left _ (flat_map (λ extent. option_to_list (long_first extent)) extents) start
    (to-flat (λ (step : Step). option_to_list (start_of step.op step.height)) steps step start among
    (some-in (start_of step.op step.height) start is))

pub start-of-extent :
    (steps : List Step) (extents : List Piece) (extent : Piece) → Contains extents extent → is_small extent.bytes
    ≡ false
    → Contains (starts_of steps extents) extent.bytes.first
start-of-extent steps extents extent among long =
    Contains-append_right (flat_map (λ (step : Step). option_to_list (start_of step.op step.height)) steps) _
    extent.bytes.first
    (to-flat (λ extent. option_to_list (long_first extent)) extents extent extent.bytes.first among
    (some-in (long_first extent) extent.bytes.first (ap (λ b. cond b None (Some extent.bytes.first)) long)))
