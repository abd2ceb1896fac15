-- Which bytes of a frame no address reaches: those that stand in cells of pushed words. The saved BP stands in no cell.
use Rattle.std.proofs.Common.{◌≡◌, ◌<◌, ◌≤◌, ℕ, ℤ, ◌+◌, Bool, true, false, not, ◌&&◌, ◌||◌, if◌then◌else◌, ◌⊎◌, inl, inr, List, [], ◌∷◌, ◌++◌, length, filter, Option, Some, refl, sym, ap, ◌∙◌, subst, true≢false, arith}
use Rattle.std.specs.Prelude.{pos, ◌≤ℤ◌, ◌<ℤ◌, nat_le, Contains}
use Rattle.std.specs.List.{list_any}
use Rattle.std.specs.Ordering.{int_eq}
use Rattle.std.proofs.lemmas.Bool.Decides.{nat_tests}
use Rattle.std.proofs.lemmas.Int.{ints}
use Rattle.std.proofs.lemmas.List.Elements.{All-contains}
use Rattle.dcc_num.specs.declared.Width.TheVariants.{Byte as byte_width}
use Rattle.dcc_num.specs.declared.Half.{Half as HalfName}
use Rattle.dcc_num.specs.declared.Half.TheVariants.{Low, High}
use Rattle.dcc_machine.specs.declared.image.Image.{Image}
use Rattle.dcc_prog.specs.declared.procedure.Layout.{Layout}
use Rattle.dcc_prog.specs.declared.frame.Cell.{Cell as FrameCell}
use Rattle.dcc_prog.specs.declared.frame.Program.{Program as Analysed}
use Rattle.dcc_prog.specs.Frame.{Span, IsPiece, IsCell}
use Rattle.dcc_prog.specs.FrameForm.{is_framed}
use Rattle.dcc_prog.specs.Analysed.{bytes_of}
use Rattle.dcc_stack.specs.Slots.{is_within, exposes_of}
use Rattle.dcc_stack.proofs.SlotPlaces.{Has, Passes, any-tells, any-told, within-tells, placed-tells, exposed-slot-told}
use Rattle.dcc_ir.specs.declared.syntax.Loc.{Loc}
use Rattle.dcc_ir.specs.declared.syntax.Loc.TheVariants.{Cell}
use Rattle.dcc_ir.specs.Tree.{Program}
use Rattle.dcc_ir.proofs.PathLaws.{decided}
use Rattle.dcc_ops.specs.OperandPlace.{byte}
use Rattle.dcc_lift.specs.Translated.{IsTranslated}
use Rattle.dcc_lift.proofs.ListTests.{and_left, and_right, and_both, not_true, or_here, or_there, or_cases, same_test}
use Rattle.dcc_simulation.specs.Coupled.{half_in}
use Rattle.dcc_simulation.specs.Procedures.{Procedure, procedure_at, accessed_cells, other_cells, cells_of, pushed_of}
use Rattle.dcc_simulation.specs.Procedures.{frame_place, is_accessed}
use Rattle.dcc_simulation.specs.Nodes.{procedures_in}
use Rattle.dcc_simulation.proofs.PieceExtents.{extents-same}
use Rattle.dcc_simulation.proofs.PieceCells.{placed-cell}
use Rattle.dcc_simulation.proofs.PieceBounds.{LiesInFrame, piece-lies}
use Rattle.dcc_machine_demand.specs.Bodies.{Body}
use Rattle.dcc_machine_demand.specs.Holders.{is_in_cell, is_private_byte}
use Rattle.dcc_sums.specs.Instance.{is_pushed}
use Rattle.dcc_lifted_demand.proofs.SameLaws.{IsKept, kept_in, exposed_unkept}
use Rattle.dcc_lifted_demand.proofs.RefinedLaws as refined
use Rattle.dcc_instruction_demand.proofs.FrameLaws.{frame_body, IsOpen}
use Rattle.dcc_instruction_demand.proofs.AccessLaws.{is_entry, frame_is, in_some_cell}
use Rattle.dcc_instruction_demand.proofs.PushedLaws.{front, le_tells, any_both}

le_told : (a b : ℕ) → a ≤ b → nat_le a b ≡ true
le_told a b le = grind (arith, nat_tests, le)

-- a cell's number is not below the first one
least_number : (n : ℕ) (cells : List FrameCell) (k : ℤ) (m : ℕ) (h : HalfName) → half_in n cells k ≡ Some (Cell m h) → n ≤ m
least_number n [] k m h e = absurd (cc e)
least_number n (cell ∷ cells) k m h e = by (is_within k (bytes_of cell)) e (λ d. least_number (n + 1) cells k m h d)
  where
    by : (b : Bool) → (if b then Some (Cell n (if int_eq k cell.first then Low else High)) else half_in (n + 1) cells k) ≡ Some (Cell m h) → (half_in (n + 1) cells k ≡ Some (Cell m h) → (n + 1) ≤ m) → n ≤ m
    by true e later = let same : n ≡ m = cc e in omega (arith, same)
    by false e later = let less = later e in omega (arith, less)

-- the number of a cell that is not among the first ones is not below theirs
behind : (n : ℕ) (xs ys : List FrameCell) (k : ℤ) (m : ℕ) (h : HalfName) → half_in n (xs ++ ys) k ≡ Some (Cell m h) → list_any (λ cell. is_within k (bytes_of cell)) xs ≡ false → (n + length xs) ≤ m
behind n [] ys k m h e f = let least = least_number n ys k m h e in omega (arith, least)
behind n (cell ∷ xs) ys k m h e f = by (is_within k (bytes_of cell)) e f (λ d g. behind (n + 1) xs ys k m h d g)
  where
    by : (b : Bool) → (if b then Some (Cell n (if int_eq k cell.first then Low else High)) else half_in (n + 1) (xs ++ ys) k) ≡ Some (Cell m h)
        → (b || list_any (λ cell. is_within k (bytes_of cell)) xs) ≡ false
        → (half_in (n + 1) (xs ++ ys) k ≡ Some (Cell m h) → list_any (λ cell. is_within k (bytes_of cell)) xs ≡ false → ((n + 1) + length xs) ≤ m) → (n + length (cell ∷ xs)) ≤ m
    by true e f later = absurd (true≢false f)
    by false e f later = let less = later e f in omega (arith, less)

any_filtered : {X : Type 0} (p f : X → Bool) (xs : List X) → list_any p (filter f xs) ≡ true → list_any (λ x. p x && f x) xs ≡ true
any_filtered p f [] e = e
any_filtered p f (x ∷ xs) e = by (f x) refl e (λ d. any_filtered p f xs d)
  where
    by : (b : Bool) → f x ≡ b → list_any p (if b then x ∷ filter f xs else filter f xs) ≡ true → (list_any p (filter f xs) ≡ true → list_any (λ x. p x && f x) xs ≡ true)
        → ((p x && f x) || list_any (λ x. p x && f x) xs) ≡ true
    by true g e later = elim (or_cases (p x) (list_any p (filter f xs)) e) [
      | inl here ↦ or_here (p x && f x) (list_any (λ x. p x && f x) xs) (and_both (p x) (f x) here g)
      | inr there ↦ or_there (p x && f x) (list_any (λ x. p x && f x) xs) (later there)
    ]
    by false g e later = or_there (p x && f x) (list_any (λ x. p x && f x) xs) (later e)

module _ (image : Image) (program : Analysed) (p : Program) (is : IsTranslated image program p) (entry : ℕ) (x : refined.Link image program p is entry) where
  abbrev layout : Layout
  layout = program.layout

  abbrev q : Procedure
  q = refined.procedure image program p is entry x

  abbrev o : Option Procedure
  o = procedure_at (procedures_in program) entry

  abbrev body : Body
  body = frame_body o q x.procedure_found x.own

  abbrev within : ℤ → FrameCell → Bool
  within k cell = is_within k (bytes_of cell)

  abbrev accessed : FrameCell → Bool
  accessed cell = is_accessed q.proc q.frame (bytes_of cell)

  abbrev hidden : FrameCell → Bool
  hidden cell = not (is_accessed q.proc q.frame (bytes_of cell)) && not (exposes_of q.frame (bytes_of cell))

  cell_there : (c : FrameCell) → Contains q.frame.cells.items c → IsCell image layout entry (bytes_of c)
  cell_there c among = All-contains (λ (cell : FrameCell). IsCell image layout entry (bytes_of cell)) q.frame.cells.items c (frame_is image program p is entry x).cells among

  -- two cells with a byte are one
  one_cell : (k : ℤ) (c d : FrameCell) → Contains q.frame.cells.items c → Contains q.frame.cells.items d → within k c ≡ true → within k d ≡ true → bytes_of c ≡ bytes_of d
  one_cell k c d in_c in_d t u =
      extents-same image layout entry (bytes_of c) (bytes_of d) k (cell_there c in_c).extent (cell_there d in_d).extent (within-tells k (bytes_of c) t) (within-tells k (bytes_of d) u)

  -- In a cell that is in no memory.

  module _ (k : ℤ) (l : Loc) (place : frame_place q byte_width k ≡ byte l) where
    kept : IsKept 0 (cells_of q) k l
    kept = kept_in q k l place

    unexposed : (c : FrameCell) → Contains q.frame.cells.items c → within k c ≡ true → exposes_of q.frame (bytes_of c) ≡ false
    unexposed c among t = elim (decided (exposes_of q.frame (bytes_of c))) [
      | inr f ↦ f
      | inl e ↦ absurd (exposed_unkept q k l
          (any-told (λ cell. is_within k (bytes_of cell) && exposes_of q.frame (bytes_of cell)) q.frame.cells.items c among (and_both (within k c) (exposes_of q.frame (bytes_of c)) t e)) place)
    ]

    pushed_private : is_pushed (pushed_of q) l ≡ true → is_private_byte body k ≡ true
    pushed_private t =
        let least : pushed_of q ≤ kept.number = le_tells (pushed_of q) kept.number (sym (ap (is_pushed (pushed_of q)) kept.is) ∙ t) in
        let c = any-tells (within k) q.frame.cells.items (in_some_cell image program p is entry x k l place) in
        any-told (λ cell. is_within k (bytes_of cell) && hidden cell) q.frame.cells.items c.one c.among
        (and_both (within k c.one) (hidden c.one) c.passes
        (and_both (not (accessed c.one)) (not (exposes_of q.frame (bytes_of c.one))) (ap not (unreached c least)) (ap not (unexposed c.one c.among c.passes))))
      where
        unreached : (c : Passes (within k) q.frame.cells.items) → pushed_of q ≤ kept.number → accessed c.one ≡ false
        unreached c least = elim (decided (accessed c.one)) [
          | inr f ↦ f
          | inl e ↦
              let among = filtered c e in
              let less : kept.number < 0 + length (accessed_cells q.proc q.frame) = front 0 (accessed_cells q.proc q.frame) (other_cells q.proc q.frame) k kept.number kept.half kept.found among in
              absurd (omega (arith, least, less))
        ]
          where
            filtered : (c : Passes (within k) q.frame.cells.items) → accessed c.one ≡ true → list_any (within k) (filter accessed q.frame.cells.items) ≡ true
            filtered c e = any_both (within k) accessed q.frame.cells.items (any-told (λ cell. within k cell && accessed cell) q.frame.cells.items c.one c.among (and_both (within k c.one) (accessed c.one) c.passes e))

    private_pushed : is_private_byte body k ≡ true → is_pushed (pushed_of q) l ≡ true
    private_pushed t = elim (decided (list_any (within k) (accessed_cells q.proc q.frame))) [
      | inr none ↦
          let least : (0 + length (accessed_cells q.proc q.frame)) ≤ kept.number = behind 0 (accessed_cells q.proc q.frame) (other_cells q.proc q.frame) k kept.number kept.half kept.found none in
          ap (is_pushed (pushed_of q)) kept.is ∙ le_told (pushed_of q) kept.number (omega (arith, least))
      | inl some ↦
          let c = any-tells (λ cell. is_within k (bytes_of cell) && hidden cell) q.frame.cells.items t in
          let d = any-tells (λ cell. within k cell && accessed cell) q.frame.cells.items (any_filtered (within k) accessed q.frame.cells.items some) in
          let same = one_cell k c.one d.one c.among d.among (and_left (within k c.one) (hidden c.one) c.passes) (and_left (within k d.one) (accessed d.one) d.passes) in
          let apart = not_true (accessed c.one) (and_left (not (accessed c.one)) (not (exposes_of q.frame (bytes_of c.one))) (and_right (within k c.one) (hidden c.one) c.passes)) in
          absurd (true≢false (sym (and_right (within k d.one) (accessed d.one) d.passes) ∙ sym (ap (is_accessed q.proc q.frame) same) ∙ apart))
    ]

    pub private_is : is_private_byte body k ≡ is_pushed (pushed_of q) l
    private_is = same_test (is_private_byte body k) (is_pushed (pushed_of q) l) private_pushed pushed_private

  -- what may be read anywhere is not private
  pub open_private : (k : ℤ) → IsOpen o q x.procedure_found x.own k → is_private_byte body k ≡ false
  open_private k opens = elim (decided (is_private_byte body k)) [
    | inr f ↦ f
    | inl t ↦
        let c = any-tells (λ cell. is_within k (bytes_of cell) && hidden cell) q.frame.cells.items t in
        let inside = and_left (within k c.one) (hidden c.one) c.passes in
        let frame = frame_is image program p is entry x in
        let slot = placed-cell layout.cpu image program is.of_file entry (is_entry image program p is entry x) q.frame frame (bytes_of c.one) k (cell_there c.one c.among) (within-tells k (bytes_of c.one) inside)
        (placed-tells image program entry q.frame frame k opens.0) in
        let exposes = exposed-slot-told image program entry q.frame frame (bytes_of c.one) slot in
        let none = not_true (exposes_of q.frame (bytes_of c.one)) (and_right (not (accessed c.one)) (not (exposes_of q.frame (bytes_of c.one))) (and_right (within k c.one) (hidden c.one) c.passes)) in
        absurd (true≢false (sym exposes ∙ none))
  ]

  -- The saved BP.

  module _ (framed : is_framed image layout x.proc.entry ≡ true) where
    lies : (piece : Span) → IsPiece image layout entry piece → LiesInFrame layout.cpu image program is.of_file entry (is_entry image program p is entry x) q.frame (frame_is image program p is entry x) piece
    lies piece is_piece = piece-lies layout.cpu image program is.of_file entry (is_entry image program p is entry x) q.frame (frame_is image program p is entry x) is_piece

    apart : (piece : Span) → IsPiece image layout entry piece → (piece.end ≤ℤ pos 0) ⊎ (pos 4 ≤ℤ piece.first)
    apart piece is_piece = (lies piece is_piece).apart (subst (λ n. is_framed image layout n ≡ true) x.entry_is framed)

    no_cell : (cell : Span) (k : ℤ) → IsCell image layout entry cell → Has cell k → pos 0 ≤ℤ k → k <ℤ pos 2 → ⊥
    no_cell cell k c has low high =
        let begins = c.extent.begins in
        let small = c.small in
        elim (apart c.extent.span c.extent.piece) [
          | inr above ↦ absurd (omega (arith, ints, begins, above, has.0, high))
          | inl below ↦
              let some = (lies c.extent.span c.extent.piece).some in
              let before : cell.first <ℤ pos 0 = omega (arith, ints, begins, below, some) in
              let after : pos 0 <ℤ cell.end = omega (arith, ints, low, has.1) in
              let crossed = c.extent.joined (pos 0) before after in
              let start = crossed.before in
              let end = crossed.after in
              elim (apart crossed.span crossed.piece) [
                | inl under ↦ absurd (omega (arith, ints, under, end))
                | inr over ↦ absurd (omega (arith, ints, over, start))
              ]
        ]

    -- the bytes of the saved BP belong to no cell
    pub saved_apart : (k : ℤ) → pos 0 ≤ℤ k → k <ℤ pos 2 → is_in_cell body k ≡ false
    saved_apart k low high = elim (decided (is_in_cell body k)) [
      | inr f ↦ f
      | inl t ↦
          let c = any-tells (within k) q.frame.cells.items t in
          absurd (no_cell (bytes_of c.one) k (cell_there c.one c.among) (within-tells k (bytes_of c.one) c.passes) low high)
    ]
