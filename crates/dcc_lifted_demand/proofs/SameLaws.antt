-- Which locations are one: halves and flags, and bytes of cells.
use Rattle.std.proofs.Common.{◌≡◌, ℕ, suc, ◌+◌, Bool, true, false, not, ◌&&◌, if◌then◌else◌, List, [], ◌∷◌, map, Option, Some, All, refl, sym, ap, ◌∙◌, subst, arith}
use Rattle.std.specs.Prelude.{ℤ}
use Rattle.std.specs.List.{list_any, range_with_len}
use Rattle.std.specs.Ordering.{int_eq}
use Rattle.std.proofs.lemmas.Bool.Decides.{Decides-int_eq}
use Rattle.std.proofs.lemmas.Int.{ints}
use Rattle.std.proofs.lemmas.List.Elements.{All-append, All-weaker, All-filter}
use Rattle.std.proofs.lemmas.List.Folds.{list_any-append}
use Rattle.dcc_num.specs.declared.Width.TheVariants.{Byte as byte_width}
use Rattle.dcc_num.specs.declared.Reg.TheVariants.{Ax, Cx, Dx, Bx, Sp, Bp, Si, Di}
use Rattle.dcc_num.specs.declared.Half.{Half as HalfName}
use Rattle.dcc_num.specs.declared.Half.TheVariants.{Low, High}
use Rattle.dcc_num.specs.declared.FlagName.TheVariants.{Cf, Zf, Sf, Of}
use Rattle.dcc_prog.specs.declared.frame.Cell.{Cell}
use Rattle.dcc_prog.specs.declared.frame.Frame.{Frame}
use Rattle.dcc_machine.specs.declared.image.Image.{Image}
use Rattle.dcc_prog.specs.declared.procedure.Layout.{Layout}
use Rattle.dcc_prog.specs.Frame.{IsCell, argument_word}
use Rattle.dcc_prog.specs.Analysed.{bytes_of}
use Rattle.dcc_machine.specs.Wanted.{Location, half_of, flag_of}
use Rattle.dcc_prog.specs.Clean.{exposes}
use Rattle.dcc_stack.specs.Slots.{is_within, is_placed, exposes_of, slots_of}
use Rattle.dcc_ir.specs.declared.syntax.Loc.{Loc}
use Rattle.dcc_ir.specs.declared.syntax.Loc.TheVariants.{Cell as CellHalf}
use Rattle.dcc_ir.specs.Location.{with_value}
use Rattle.dcc_ir.specs.Tree.{Address}
use Rattle.dcc_ir.proofs.LocationLaws.{location_itself}
use Rattle.dcc_ops.specs.OperandPlace.{byte, memory}
use Rattle.dcc_simulation.specs.Coupled.{half_in, held_at, slots_in}
use Rattle.dcc_simulation.specs.Procedures.{Procedure, cells_of, accessed_cells, other_cells, is_accessed, distance_of}
use Rattle.dcc_simulation.specs.Procedures.{cell_place, frame_place}
use Rattle.dcc_simulation.proofs.CellSlots.{IsSmall, slot-set}
use Rattle.dcc_lift.proofs.ListTests.{any_map, or_here, or_there}
use Rattle.dcc_machine_demand.specs.Holders as asks
use Rattle.dcc_machine_demand.specs.Holders.{Holder, held, in_frame}
use Rattle.dcc_sums.specs.Instance as sums
use Rattle.dcc_lifted_demand.specs.LiftedRefinement.{inner_of, IsSame}

-- Halves and flags.

pub same_passes : (location : Location) → asks.passes (held location) ≡ sums.passes (inner_of location)
same_passes (half_of Ax Low) = refl
same_passes (half_of Ax High) = refl
same_passes (half_of Cx Low) = refl
same_passes (half_of Cx High) = refl
same_passes (half_of Dx Low) = refl
same_passes (half_of Dx High) = refl
same_passes (half_of Bx Low) = refl
same_passes (half_of Bx High) = refl
same_passes (half_of Sp Low) = refl
same_passes (half_of Sp High) = refl
same_passes (half_of Bp Low) = refl
same_passes (half_of Bp High) = refl
same_passes (half_of Si Low) = refl
same_passes (half_of Si High) = refl
same_passes (half_of Di Low) = refl
same_passes (half_of Di High) = refl
same_passes (flag_of Cf) = refl
same_passes (flag_of Zf) = refl
same_passes (flag_of Sf) = refl
same_passes (flag_of Of) = refl

pub one_location : (a b : Location) → inner_of a ≡ inner_of b → a ≡ b
one_location (half_of r half) (half_of q other) e = cc e
one_location (flag_of flag) (flag_of other) e = cc e
one_location (half_of r half) (flag_of other) e = absurd (cc e)
one_location (flag_of flag) (half_of q other) e = absurd (cc e)

not_a_cell : (a : Location) (n : ℕ) (h : HalfName) → inner_of a ≡ CellHalf n h → ⊥
not_a_cell (half_of r half) n h e = cc e
not_a_cell (flag_of flag) n h e = cc e

-- Bytes of cells.

-- the half of a cell in which a byte is
pub record IsKept (n : ℕ) (cells : List Cell) (k : ℤ) (location : Loc) : Type 0 where
  pub number : ℕ
  pub half : HalfName
  pub is : location ≡ CellHalf number half
  pub found : half_in n cells k ≡ Some (CellHalf number half)

kept_by : (n : ℕ) (cells : List Cell) (k : ℤ) (location : Loc) → cell_place n cells byte_width k ≡ byte location → IsKept n cells k location
kept_by n [] k location e = absurd (cc e)
kept_by n (cell ∷ cells) k location e = by (is_within k (bytes_of cell)) refl e (λ f. kept_by (suc n) cells k location f)
  where
    one_more : suc n ≡ n + 1
    one_more = omega arith

    by : (b : Bool) → is_within k (bytes_of cell) ≡ b
        → (if b then byte (CellHalf n (if int_eq k cell.first then Low else High)) else cell_place (suc n) cells byte_width k) ≡ byte location
        → (cell_place (suc n) cells byte_width k ≡ byte location → IsKept (suc n) cells k location) → IsKept n (cell ∷ cells) k location
    by true t e later = record {
      number = n;
      half = if int_eq k cell.first then Low else High;
      is = cc e;
      found = ap (λ b. if b then Some (CellHalf n (if int_eq k cell.first then Low else High)) else half_in (n + 1) cells k) t;
    }
    by false t e later =
        let rest = later e in
        record {
          number = rest.number;
          half = rest.half;
          is = rest.is;
          found = ap (λ b. if b then Some (CellHalf n (if int_eq k cell.first then Low else High)) else half_in (n + 1) cells k) t
              ∙ subst (λ m. half_in m cells k ≡ Some (CellHalf rest.number rest.half)) one_more rest.found;
        }

pub kept_in : (p : Procedure) (k : ℤ) (location : Loc) → frame_place p byte_width k ≡ byte location → IsKept 0 (cells_of p) k location
kept_in p k location e = by (is_placed p.frame k) e
  where
    by : (b : Bool) → (if b then memory byte_width (Address (distance_of k)) else cell_place 0 (cells_of p) byte_width k) ≡ byte location → IsKept 0 (cells_of p) k location
    by true e = absurd (cc e)
    by false e = kept_by 0 (cells_of p) k location e

-- two bytes in one half of a cell are one
one_byte : (cells : List Cell) (k j : ℤ) (number : ℕ) (half : HalfName) → All IsSmall cells → half_in 0 cells k ≡ Some (CellHalf number half) → half_in 0 cells j ≡ Some (CellHalf number half) → j ≡ k
one_byte cells k j number half small e f = by (int_eq j k) refl (sym set ∙ slot-set cells (λ l. 0) k number half 1 j small e)
  where
    set : slots_in cells (with_value (λ l. 0) (CellHalf number half) 1) j ≡ with_value (λ l. 0) (CellHalf number half) 1 (CellHalf number half)
    set = ap (held_at (with_value (λ l. 0) (CellHalf number half) 1)) f

    apart : (m n : ℕ) → m ≡ 1 → n ≡ 0 → m ≡ n → ⊥
    apart m n d e f = omega (arith, d, e, f)

    by : (b : Bool) → int_eq j k ≡ b → with_value (λ l. 0) (CellHalf number half) 1 (CellHalf number half) ≡ (if b then 1 else slots_in cells (λ l. 0) j) → j ≡ k
    by true t e = (Decides-int_eq j k).0 t
    by false t e =
        absurd (apart (with_value (λ l. 0) (CellHalf number half) 1 (CellHalf number half)) (slots_in cells (λ l. 0) j) (ap (λ b. if b then 1 else 0) (location_itself (CellHalf number half)))
        (ap (held_at (λ l. 0)) f) e)

module _ (p : Option Procedure) where
  -- what is the same, by equations
  pub data SameCases (L : Holder) (l : Loc) : Type 0 where
    by_held : (location : Location) → asks.passes (held location) ≡ true → L ≡ held location → l ≡ inner_of location → SameCases L l
    by_kept : (found : Procedure) (k : ℤ) → p ≡ Some found → L ≡ in_frame k → IsKept 0 (cells_of found) k l → frame_place found byte_width k ≡ byte l → SameCases L l

  pub same_cases : {L : Holder} {l : Loc} → IsSame p L l → SameCases L l
  same_cases (IsSame.is_held {location = location} e) = SameCases.by_held location e refl refl
  same_cases (IsSame.is_kept {found = found} {k = k} {location = location} e f) = SameCases.by_kept found k e refl (kept_in found k location f) f

  pub passes_alike : {L : Holder} {l : Loc} → IsSame p L l → asks.passes L ≡ sums.passes l
  passes_alike same = elim (same_cases same) [
    | SameCases.by_held location e f g ↦ ap asks.passes f ∙ same_passes location ∙ ap sums.passes (sym g)
    | SameCases.by_kept found k e f kept g ↦ ap asks.passes f ∙ sym (ap sums.passes kept.is)
  ]

  pub one_place : ((found : Procedure) → p ≡ Some found → All IsSmall (cells_of found)) → {L M : Holder} {l : Loc} → IsSame p L l → IsSame p M l → L ≡ M
  one_place small {L} {M} {l} same other = by (same_cases same) (same_cases other)
    where
      by : SameCases L l → SameCases M l → L ≡ M
      by (SameCases.by_held a s f g) (SameCases.by_held b t h i) = f ∙ ap held (one_location a b (sym g ∙ i)) ∙ sym h
      by (SameCases.by_held a s f g) (SameCases.by_kept found k e h kept i) = absurd (not_a_cell a kept.number kept.half (sym g ∙ kept.is))
      by (SameCases.by_kept found k e h kept i) (SameCases.by_held a s f g) = absurd (not_a_cell a kept.number kept.half (sym g ∙ kept.is))
      by (SameCases.by_kept found k e h kept i) (SameCases.by_kept other j f g more l) =
          let same : other ≡ found = cc (e, f) in
          let there = subst (λ x. half_in 0 (cells_of x) j ≡ Some (CellHalf more.number more.half)) same more.found in
          let halves : CellHalf more.number more.half ≡ CellHalf kept.number kept.half = sym more.is ∙ kept.is in
          h ∙ ap in_frame (sym (one_byte (cells_of found) k j kept.number kept.half (small found e) kept.found (there ∙ ap Some halves))) ∙ sym g

-- Bytes that may be read anywhere are in memory.

exposed_placed : (frame : Frame) (k : ℤ) → list_any (λ cell. is_within k (bytes_of cell) && exposes_of frame (bytes_of cell)) frame.cells.items ≡ true → is_placed frame k ≡ true
exposed_placed frame k e =
    or_there (exposes frame k) (list_any (λ span. is_within k span && exposes_of frame span) (slots_of frame))
    (list_any-append (λ span. is_within k span && exposes_of frame span) (map bytes_of frame.cells.items) (map argument_word (range_with_len 0 frame.args))
    ∙ or_here (list_any (λ span. is_within k span && exposes_of frame span) (map bytes_of frame.cells.items)) (list_any (λ span. is_within k span && exposes_of frame span) (map argument_word (range_with_len 0 frame.args)))
    (any_map (λ span. is_within k span && exposes_of frame span) bytes_of frame.cells.items ∙ e))

pub exposed_unkept : (p : Procedure) (k : ℤ) (location : Loc)
    → list_any (λ cell. is_within k (bytes_of cell) && exposes_of p.frame (bytes_of cell)) p.frame.cells.items ≡ true → frame_place p byte_width k ≡ byte location → ⊥
exposed_unkept p k location e f =
    let placed = ap (λ b. if b then memory byte_width (Address (distance_of k)) else cell_place 0 (cells_of p) byte_width k) (exposed_placed p.frame k e) in
    in_memory (distance_of k) location (sym placed ∙ f)
  where
    in_memory : (n : ℕ) (location : Loc) → memory byte_width (Address n) ≡ byte location → ⊥
    in_memory n location e = cc e

small_cell : (image : Image) (layout : Layout) (entry : ℕ) (cell : Cell) → IsCell image layout entry (bytes_of cell) → IsSmall cell
small_cell image layout entry cell is = let small = is.small in omega (arith, ints, small)

pub small_cells : (image : Image) (layout : Layout) (entry : ℕ) (p : Procedure) → All (λ cell. IsCell image layout entry (bytes_of cell)) p.frame.cells.items → All IsSmall (cells_of p)
small_cells image layout entry p cells =
    let small = All-weaker (λ cell. IsCell image layout entry (bytes_of cell)) IsSmall (small_cell image layout entry) p.frame.cells.items cells in
    All-append IsSmall (accessed_cells p.proc p.frame) (other_cells p.proc p.frame)
    (All-filter (λ cell. is_accessed p.proc p.frame (bytes_of cell)) IsSmall p.frame.cells.items small)
    (All-filter (λ cell. not (is_accessed p.proc p.frame (bytes_of cell))) IsSmall p.frame.cells.items small)
