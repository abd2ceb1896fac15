-- No location takes two arguments of what is lifted: argument words stand in cells of their own.
use Rattle.std.proofs.Common.{◌≡◌, ℕ, zero, suc, ◌+◌, ◌*◌, ◌≤◌, ◌<◌, Bool, true, false, inl, inr, List, [], ◌∷◌, ◌++◌, map, Option, Some, None, refl, sym, ap, ap₂, subst, eqb-true, eq-eqb, arith}
use Rattle.std.specs.Prelude.{ℤ, pos, ◌+ℤ◌, ◌≤ℤ◌, All, ◌==◌, int_le, int_lt, ◌&&◌, ◌||◌, not, if◌then◌else◌}
use Rattle.std.specs.List.{AllZip, range_with_len}
use Rattle.std.proofs.lemmas.Bool.{and_parts, and_from}
use Rattle.std.proofs.lemmas.Int.{ints}
use Rattle.std.proofs.lemmas.List.Elements.{All-nil, All-cons, All-head, All-tail, All-append, All-filter, All-weaker}
use Rattle.dcc_num.specs.declared.Half.{Half as HalfName}
use Rattle.dcc_num.specs.declared.Half.TheVariants.{Low, High}
use Rattle.dcc_num.specs.declared.Width.TheVariants.{Word as word_width}
use Rattle.dcc_prog.specs.declared.frame.Cell.{Cell}
use Rattle.dcc_prog.specs.declared.frame.Frame.{Frame}
use Rattle.dcc_machine.specs.declared.image.Image.{Image}
use Rattle.dcc_prog.specs.declared.procedure.Layout.{Layout}
use Rattle.dcc_prog.specs.declared.procedure.Proc.{Proc}
use Rattle.dcc_prog.specs.Analysed.{bytes_of, IsFrameOf}
use Rattle.dcc_prog.specs.Frame.{IsCell}
use Rattle.dcc_stack.specs.Slots.{is_within, is_placed}
use Rattle.dcc_stack.proofs.SlotPlaces.{lt-tells}
use Rattle.dcc_ir.specs.declared.syntax.Loc.{Loc}
use Rattle.dcc_ir.specs.declared.syntax.Loc.TheVariants.{Cell as cell_half}
use Rattle.dcc_ir.specs.declared.syntax.Put.{Put}
use Rattle.dcc_ir.specs.declared.syntax.Put.TheVariants.{Memory, Two}
use Rattle.dcc_ir.specs.declared.syntax.Param.{Param}
use Rattle.dcc_ir.specs.Live.{is_among}
use Rattle.dcc_ir.specs.Location.{half_number}
use Rattle.dcc_ir.specs.Passing.{passed, param_of}
use Rattle.dcc_ir.specs.Tree.{Address, Graph}
use Rattle.dcc_ir.proofs.PathLaws.{decided}
use Rattle.dcc_ops.specs.OperandPlace.{memory}
use Rattle.dcc_simulation.specs.Nodes.{IsGraphFor}
use Rattle.dcc_simulation.specs.Passed.{put_of, argument_param, params_of}
use Rattle.dcc_simulation.specs.Procedures.{Procedure, procedures_of, cells_of, within_cell, cell_place, distance_of}
use Rattle.dcc_plan.specs.Calls.{places, all_places, locations_differ}
use Rattle.dcc_pipe.specs.Textable.{TakesApart}

-- Cells.

-- the number of the cell that holds the byte at an offset, where these are numbered from one number on
abbrev number_of : ℕ → List Cell → ℤ → Option ℕ
number_of number [] k = None
number_of number (cell ∷ cells) k =
    if is_within k (bytes_of cell) then Some number else number_of (suc number) cells k

-- an argument word goes to both halves of the cell of its number
abbrev put_at : Option ℕ → Put
put_at None = Memory
put_at (Some number) = Two (cell_half number Low) (cell_half number High)

cell-put : (number : ℕ) (cells : List Cell) (k : ℤ)
    → put_of (cell_place number cells word_width k) ≡ put_at (number_of number cells k)
cell-put number [] k = refl
cell-put number (cell ∷ cells) k = by (is_within k (bytes_of cell)) (cell-put (suc number) cells k)
  where
    by : (b : Bool)
        → put_of (cell_place (suc number) cells word_width k) ≡ put_at (number_of (suc number) cells k)
        → put_of (if b then within_cell number cell word_width k else cell_place (suc number) cells word_width k)
        ≡ put_at (if b then Some number else number_of (suc number) cells k)
    by true later = refl
    by false later = later

-- a cell has at most two bytes
abbrev IsSmall : Cell → Type 0
IsSmall cell = (bytes_of cell).end ≤ℤ ((bytes_of cell).first +ℤ pos 2)

at-least : (number : ℕ) (cells : List Cell) (k : ℤ) (m : ℕ) → number_of number cells k ≡ Some m → number ≤ m
at-least number [] k m is = absurd (cc)
at-least number (cell ∷ cells) k m is = by (is_within k (bytes_of cell)) is (at-least (suc number) cells k m)
  where
    by : (b : Bool) → (if b then Some number else number_of (suc number) cells k) ≡ Some m
        → (number_of (suc number) cells k ≡ Some m → suc number ≤ m) → number ≤ m
    by true is later = let same : number ≡ m = cc in omega (arith, same)
    by false is later = let less = later is in omega (arith, less)

le-tells : (a b : ℤ) → int_le a b ≡ true → a ≤ℤ b
le-tells a b is = grind (arith, ints, is)

-- bytes that lie two apart are of two cells
numbers-apart : (number : ℕ) (cells : List Cell) → All IsSmall cells → (k l : ℤ) → (k +ℤ pos 2) ≤ℤ l → (m : ℕ)
    → number_of number cells k ≡ Some m → number_of number cells l ≡ Some m → ⊥
numbers-apart number [] small k l apart m first second = absurd (cc)
numbers-apart number (cell ∷ cells) small k l apart m first second =
    by (is_within k (bytes_of cell)) (is_within l (bytes_of cell)) refl refl
    (λ one other. numbers-apart (suc number) cells (All-tail IsSmall cell cells small) k l apart m one other) first second
  where
    by : (b c : Bool) → is_within k (bytes_of cell) ≡ b → is_within l (bytes_of cell) ≡ c
        → (number_of (suc number) cells k ≡ Some m → number_of (suc number) cells l ≡ Some m → ⊥)
        → (if b then Some number else number_of (suc number) cells k) ≡ Some m
        → (if c then Some number else number_of (suc number) cells l) ≡ Some m → ⊥
    by true true is also later first second =
        let span = bytes_of cell in
        let from = le-tells span.first k (and_parts (int_le span.first k) (int_lt k span.end) is).0 in
        let to = lt-tells l span.end (and_parts (int_le span.first l) (int_lt l span.end) also).1 in
        let two = All-head IsSmall cell cells small in
        absurd (omega (arith, ints, from, to, two, apart))
    by true false is also later first second =
        let same : number ≡ m = cc in
        let less = at-least (suc number) cells l m second in
        absurd (omega (arith, same, less))
    by false true is also later first second =
        let same : number ≡ m = cc in
        let less = at-least (suc number) cells k m first in
        absurd (omega (arith, same, less))
    by false false is also later first second = later first second

-- Arguments.

abbrev offset_of : ℕ → ℤ
offset_of number = pos (4 + 2 * number)

module _ (p : Procedure) (small : All IsSmall (cells_of p)) where
  -- the number of an argument word's cell, where it has one
  abbrev argument_number : ℕ → Option ℕ
  argument_number number =
      if is_placed p.frame (offset_of number) then None else number_of 0 (cells_of p) (offset_of number)

  argument-put : (number : ℕ) → (argument_param p number).put ≡ put_at (argument_number number)
  argument-put number = by (is_placed p.frame (offset_of number))
    where
      by : (b : Bool)
          → put_of (if b then memory word_width (Address (distance_of (offset_of number)))
          else cell_place 0 (cells_of p) word_width (offset_of number))
          ≡ put_at (if b then None else number_of 0 (cells_of p) (offset_of number))
      by true = refl
      by false = cell-put 0 (cells_of p) (offset_of number)

  argument-cell : (number m : ℕ) → argument_number number ≡ Some m
      → number_of 0 (cells_of p) (offset_of number) ≡ Some m
  argument-cell number m is = by (is_placed p.frame (offset_of number)) is
    where
      by : (b : Bool) → (if b then None else number_of 0 (cells_of p) (offset_of number)) ≡ Some m
          → number_of 0 (cells_of p) (offset_of number) ≡ Some m
      by true is = absurd (cc)
      by false is = is

  cells-differ : (early late m n : ℕ) → early < late → argument_number early ≡ Some m → argument_number late ≡ Some n
      → (m == n) ≡ false
  cells-differ early late m n before first second = elim (decided (m == n)) [
    | inr other ↦ other
    | inl same ↦
        absurd (numbers-apart 0 (cells_of p) small (offset_of early) (offset_of late) (omega (arith, ints, before)) n
        (subst (λ k. number_of 0 (cells_of p) (offset_of early) ≡ Some k) (eqb-true m n same) (argument-cell early m first))
        (argument-cell late n second))
  ]

  -- so many arguments from that number on, and what else passes
  abbrev arguments_from : ℕ → ℕ → List Param
  arguments_from from count = map (argument_param p) (range_with_len from count) ++ map param_of passed

  -- the cell of an earlier argument takes none of the later ones
  never-later : (count from early m : ℕ) (h : HalfName) → early < from → argument_number early ≡ Some m
      → is_among (all_places (arguments_from from count)) (cell_half m h) ≡ false
  never-later zero from early m h before is = refl
  never-later (suc count) from early m h before is =
      subst (λ put. is_among (places put ++ rest) (cell_half m h) ≡ false) (sym (argument-put from))
      (by (argument_number from) refl (never-later count (from + 1) early m h (omega (arith, before)) is))
    where
      rest : List Loc
      rest = all_places (arguments_from (from + 1) count)

      by : (number : Option ℕ) → argument_number from ≡ number → is_among rest (cell_half m h) ≡ false
          → is_among (places (put_at number) ++ rest) (cell_half m h) ≡ false
      by None here later = later
      by (Some n) here later =
          ap₂ (λ a b. (a && (half_number h == half_number Low)) || ((a && (half_number h == half_number High)) || b))
          (cells-differ early from m n before is here) later

  arguments-differ : (count from : ℕ) → locations_differ (all_places (arguments_from from count)) ≡ true
  arguments-differ zero from = refl
  arguments-differ (suc count) from =
      subst (λ put. locations_differ (places put ++ rest) ≡ true) (sym (argument-put from))
      (by (argument_number from) refl (arguments-differ count (from + 1)))
    where
      rest : List Loc
      rest = all_places (arguments_from (from + 1) count)

      by : (number : Option ℕ) → argument_number from ≡ number → locations_differ rest ≡ true
          → locations_differ (places (put_at number) ++ rest) ≡ true
      by None here later = later
      by (Some n) here later =
          let after : (h : HalfName) → is_among rest (cell_half n h) ≡ false =
          λ h. never-later count (from + 1) from n h (omega arith) here in
          and_from (not (is_among (cell_half n High ∷ rest) (cell_half n Low))) (locations_differ (cell_half n High ∷ rest))
          (ap₂ (λ a b. not ((a && false) || b)) (eq-eqb n n refl) (after Low))
          (and_from (not (is_among rest (cell_half n High))) (locations_differ rest) (ap not (after High)) later)

  params-differ : locations_differ (all_places (params_of p)) ≡ true
  params-differ = arguments-differ p.frame.args 0

-- Graphs.

graph-apart : (start : ℕ) (p : Procedure) (g : Graph) → All IsSmall (cells_of p) → IsGraphFor start p g → TakesApart g
graph-apart start p g small is =
    subst (λ params. locations_differ (all_places params) ≡ true) (sym is.params) (by (p.proc.entry == start))
  where
    by : (b : Bool) → locations_differ (all_places (if b then [] else params_of p)) ≡ true
    by true = refl
    by false = params-differ p small

abbrev HasSmallCells : Procedure → Type 0
HasSmallCells p = All IsSmall (cells_of p)

pub graphs-apart : (start : ℕ) (procedures : List Procedure) (graphs : List Graph) → All HasSmallCells procedures
    → AllZip (IsGraphFor start) procedures graphs → All TakesApart graphs
graphs-apart start [] [] small all = All-nil TakesApart
graphs-apart start [] (g ∷ graphs) small all = absurd all
graphs-apart start (p ∷ procedures) [] small all = absurd all
graphs-apart start (p ∷ procedures) (g ∷ graphs) small all =
    All-cons TakesApart g graphs (graph-apart start p g (All-head HasSmallCells p procedures small) all.0)
    (graphs-apart start procedures graphs (All-tail HasSmallCells p procedures small) all.1)

-- the cells of frames are small
frame-small : (image : Image) (layout : Layout) (proc : Proc) (frame : Frame) (delta : ℕ)
    → IsFrameOf image layout proc frame → HasSmallCells (record { proc = proc; frame = frame; delta = delta })
frame-small image layout proc frame delta is =
    All-append IsSmall _ _ (All-filter _ IsSmall frame.cells.items each) (All-filter _ IsSmall frame.cells.items each)
  where
    each : All IsSmall frame.cells.items
    each =
        All-weaker (λ cell. IsCell image layout proc.entry (bytes_of cell)) IsSmall (λ cell is. is.small) frame.cells.items
        is.cells

pub frames-small : (image : Image) (layout : Layout) (procs : List Proc) (frames : List Frame)
    → AllZip (IsFrameOf image layout) procs frames → All HasSmallCells (procedures_of layout procs frames)
frames-small image layout [] [] all = All-nil HasSmallCells
frames-small image layout [] (frame ∷ frames) all = absurd all
frames-small image layout (proc ∷ procs) [] all = absurd all
frames-small image layout (proc ∷ procs) (frame ∷ frames) all =
    All-cons HasSmallCells _ (procedures_of layout procs frames)
    (frame-small image layout proc frame layout.delta all.0) (frames-small image layout procs frames all.1)
