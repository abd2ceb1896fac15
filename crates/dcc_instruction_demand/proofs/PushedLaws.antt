-- The cell of a pushed word is reached by no direct access.
use Rattle.std.proofs.Common.{◌≡◌, ◌<◌, ◌≤◌, ℕ, ℤ, ◌+◌, Bool, true, false, ◌&&◌, ◌||◌, ◌==◌, if◌then◌else◌, ◌⊎◌, inl, inr, List, [], ◌∷◌, ◌++◌, length, filter, Option, Some, None, refl, sym, ap, ◌∙◌, subst, true≢false, arith}
use Rattle.std.specs.Prelude.{pos, ◌+ℤ◌, ◌≤ℤ◌, ◌<ℤ◌, nat_le, int_lt}
use Rattle.std.specs.List.{list_any}
use Rattle.std.specs.Ordering.{int_eq}
use Rattle.std.proofs.lemmas.Bool.Decides.{Decides-int_eq, nat_tests}
use Rattle.std.proofs.lemmas.Int.{ints}
use Rattle.dcc_num.specs.declared.Width.{Width}
use Rattle.dcc_num.specs.declared.Width.TheVariants.{Byte as byte_width, Word as word_width}
use Rattle.dcc_num.specs.declared.Half.{Half as HalfName}
use Rattle.dcc_num.specs.declared.Half.TheVariants.{Low, High}
use Rattle.dcc_prog.specs.declared.frame.Cell.{Cell as FrameCell}
use Rattle.dcc_machine.specs.declared.instr.Ea.{Ea}
use Rattle.dcc_prog.specs.declared.procedure.Node.{Node}
use Rattle.dcc_machine.specs.Access.{is_direct, bytes_in}
use Rattle.dcc_prog.specs.Analysed.{bytes_of}
use Rattle.dcc_prog.specs.Frame.{span_of, memory_operand, offset_in_frame}
use Rattle.dcc_stack.specs.Slots.{is_within, direct_bytes, overlaps}
use Rattle.dcc_stack.proofs.SlotPlaces.{any-tells, any-told, within-tells, lt-told}
use Rattle.dcc_ir.specs.declared.syntax.Loc.{Loc}
use Rattle.dcc_ir.specs.declared.syntax.Loc.TheVariants.{Cell}
use Rattle.dcc_ir.proofs.PathLaws.{decided}
use Rattle.dcc_ops.specs.OperandPlace.{byte}
use Rattle.dcc_lift.specs.Blocks.{Nodes, node_in}
use Rattle.dcc_lift.proofs.ListTests.{and_left, and_right, and_both, or_here, or_there, or_cases, or_none}
use Rattle.dcc_simulation.specs.Coupled.{half_in}
use Rattle.dcc_simulation.specs.Procedures.{Procedure, accessed_cells, other_cells, cells_of, pushed_of, frame_place}
use Rattle.dcc_simulation.specs.Procedures.{is_accessed}
use Rattle.dcc_machine_demand.specs.Bodies.{Body}
use Rattle.dcc_machine_demand.specs.Holders.{in_frame, placed, in_memory, is_at, is_in_cell, frame_spot, is_of_frame}
use Rattle.dcc_machine_demand.specs.Holders.{for_bytes, spots_of_memory, is_accessed_by}
use Rattle.dcc_sums.specs.Instance.{is_pushed}
use Rattle.dcc_lifted_demand.specs.LiftedRefinement.{IsSameWord}
use Rattle.dcc_lifted_demand.proofs.SameLaws.{IsKept, kept_in}

pub le_tells : (a b : ℕ) → nat_le a b ≡ true → a ≤ b
le_tells a b t = grind (arith, nat_tests)

-- the number of a cell that is among the first ones
pub front : (n : ℕ) (xs ys : List FrameCell) (k : ℤ) (m : ℕ) (h : HalfName) → half_in n (xs ++ ys) k ≡ Some (Cell m h) → list_any (λ cell. is_within k (bytes_of cell)) xs ≡ true → m < n + length xs
front n [] ys k m h e t = absurd (true≢false (sym t))
front n (cell ∷ xs) ys k m h e t = by (is_within k (bytes_of cell)) e t (λ d u. front (n + 1) xs ys k m h d u)
  where
    by : (b : Bool) → (if b then Some (Cell n (if int_eq k cell.first then Low else High)) else half_in (n + 1) (xs ++ ys) k) ≡ Some (Cell m h)
        → (b || list_any (λ cell. is_within k (bytes_of cell)) xs) ≡ true
        → (half_in (n + 1) (xs ++ ys) k ≡ Some (Cell m h) → list_any (λ cell. is_within k (bytes_of cell)) xs ≡ true → m < (n + 1) + length xs) → m < n + length (cell ∷ xs)
    by true e t later = let same : n ≡ m = cc e in omega (arith, same)
    by false e t later = let less = later e t in omega (arith, less)

any_here : (test : ℕ × Node → Bool) (nodes : Nodes) (at : ℕ) (node : Node) → node_in nodes at ≡ Some node → ((n : ℕ) → test (n, node) ≡ true) → list_any test nodes ≡ true
any_here test [] at node e t = absurd (cc e)
any_here test (found ∷ nodes) at node e t = by (found.0 == at) e (λ d. any_here test nodes at node d t)
  where
    by : (b : Bool) → (if b then Some found.1 else node_in nodes at) ≡ Some node → (node_in nodes at ≡ Some node → list_any test nodes ≡ true) → (test found || list_any test nodes) ≡ true
    by true e later = let same : found.1 ≡ node = cc e in or_here (test found) (list_any test nodes) (subst (λ n. test (found.0, n) ≡ true) (sym same) (t found.0))
    by false e later = or_there (test found) (list_any test nodes) (later e)

pub any_both : {X : Type 0} (p f : X → Bool) (xs : List X) → list_any (λ x. p x && f x) xs ≡ true → list_any p (filter f xs) ≡ true
any_both p f [] e = e
any_both p f (x ∷ xs) e = by (f x) refl (or_cases (p x && f x) (list_any (λ x. p x && f x) xs) e) (λ d. any_both p f xs d)
  where
    by : (b : Bool) → f x ≡ b → ((p x && f x) ≡ true) ⊎ (list_any (λ x. p x && f x) xs ≡ true) → (list_any (λ x. p x && f x) xs ≡ true → list_any p (filter f xs) ≡ true)
        → list_any p (if b then x ∷ filter f xs else filter f xs) ≡ true
    by true g (inl both) later = or_here (p x) (list_any p (filter f xs)) (and_left (p x) (f x) both)
    by true g (inr rest) later = or_there (p x) (list_any p (filter f xs)) (later rest)
    by false g (inl both) later = absurd (true≢false (sym (and_right (p x) (f x) both) ∙ g))
    by false g (inr rest) later = later rest

module _ (o : Option Procedure) (q : Procedure) (found : o ≡ Some q) (heights : List (ℕ × ℕ)) (at : ℕ) (node : Node) (stands : node_in q.proc.nodes.entries at ≡ Some node) where
  abbrev body : Body
  body = record { proc = q.proc; frame = q.frame; heights = heights }

  abbrev within : ℤ → FrameCell → Bool
  within k cell = is_within k (bytes_of cell)

  abbrev accessed : FrameCell → Bool
  accessed cell = is_accessed q.proc q.frame (bytes_of cell)

  -- a byte of a cell that the operation accesses directly
  record IsReached (k : ℤ) : Type 0 where
    width : Width
    ea : Ea
    operand : memory_operand node.instr.op ≡ Some (width, ea)
    framed : q.frame.framed ≡ true
    direct : is_direct ea ≡ true
    first : offset_in_frame ea ≤ℤ k
    last : k <ℤ (offset_in_frame ea +ℤ pos (bytes_in width))
    celled : is_in_cell body k ≡ true

  spot_byte : (b : Bool) (i k : ℤ) → is_in_cell body i ≡ b → is_at (if b then placed (in_frame i) else in_memory) (in_frame k) ≡ true → (is_in_cell body k ≡ true) × (k ≡ i)
  spot_byte true i k e t = let same = (Decides-int_eq k i).0 t in (subst (λ x. is_in_cell body x ≡ true) (sym same) e, same)
  spot_byte false i k e t = absurd (true≢false (sym t))

  reached : (k : ℤ) → is_accessed_by body node.instr.op k ≡ true → IsReached k
  reached k t = by_operand (memory_operand node.instr.op) refl t
    where
      at_one : (w : Width) (ea : Ea) → memory_operand node.instr.op ≡ Some (w, ea) → q.frame.framed ≡ true → is_direct ea ≡ true → (i : ℤ) → is_at (frame_spot body i) (in_frame k) ≡ true
          → offset_in_frame ea ≤ℤ i → i <ℤ (offset_in_frame ea +ℤ pos (bytes_in w)) → IsReached k
      at_one w ea m framed direct i t low high =
          let at = spot_byte (is_in_cell body i) i k refl t in
          record {
            width = w;
            ea = ea;
            operand = m;
            framed = framed;
            direct = direct;
            first = subst (λ j. offset_in_frame ea ≤ℤ j) (sym at.1) low;
            last = subst (λ j. j <ℤ (offset_in_frame ea +ℤ pos (bytes_in w))) (sym at.1) high;
            celled = at.0;
          }

      by_width : (w : Width) (ea : Ea) → memory_operand node.instr.op ≡ Some (w, ea) → q.frame.framed ≡ true → is_direct ea ≡ true
          → list_any (λ spot. is_at spot (in_frame k)) (for_bytes w (frame_spot body (offset_in_frame ea)) (frame_spot body (offset_in_frame ea +ℤ pos 1))) ≡ true → IsReached k
      by_width byte_width ea m framed direct t =
          at_one byte_width ea m framed direct (offset_in_frame ea) (sym (or_none (is_at (frame_spot body (offset_in_frame ea)) (in_frame k))) ∙ t) (omega (arith, ints)) (omega (arith, ints))
      by_width word_width ea m framed direct t =
          elim (or_cases (is_at (frame_spot body (offset_in_frame ea)) (in_frame k)) (is_at (frame_spot body (offset_in_frame ea +ℤ pos 1)) (in_frame k) || false) t) [
            | inl e ↦ at_one word_width ea m framed direct (offset_in_frame ea) e (omega (arith, ints)) (omega (arith, ints))
            | inr e ↦ at_one word_width ea m framed direct (offset_in_frame ea +ℤ pos 1) (sym (or_none (is_at (frame_spot body (offset_in_frame ea +ℤ pos 1)) (in_frame k))) ∙ e) (omega (arith, ints)) (omega (arith, ints))
          ]

      nowhere_in : (w : Width) → list_any (λ spot. is_at spot (in_frame k)) (for_bytes w in_memory in_memory) ≡ true → ⊥
      nowhere_in byte_width t = true≢false (sym t)
      nowhere_in word_width t = true≢false (sym t)

      by_frame : (b : Bool) (w : Width) (ea : Ea) → memory_operand node.instr.op ≡ Some (w, ea) → is_of_frame body ea ≡ b
          → list_any (λ spot. is_at spot (in_frame k)) (if b then for_bytes w (frame_spot body (offset_in_frame ea)) (frame_spot body (offset_in_frame ea +ℤ pos 1)) else for_bytes w in_memory in_memory) ≡ true → IsReached k
      by_frame true w ea m e t = by_width w ea m (and_left q.frame.framed (is_direct ea) e) (and_right q.frame.framed (is_direct ea) e) t
      by_frame false w ea m e t = absurd (nowhere_in w t)

      by_operand : (m : Option (Width × Ea)) → memory_operand node.instr.op ≡ m → list_any (λ spot. is_at spot (in_frame k)) (spots_of_memory body m) ≡ true → IsReached k
      by_operand None m t = absurd (true≢false (sym t))
      by_operand (Some (w, ea)) m t = by_frame (is_of_frame body ea) w ea m refl t

  module _ (k : ℤ) (r : IsReached k) where
    overlapping : (c : FrameCell) → within k c ≡ true → overlaps (bytes_of c) (direct_bytes (memory_operand node.instr.op)) ≡ true
    overlapping c t =
        let has = within-tells k (bytes_of c) t in
        let low : offset_in_frame r.ea ≤ℤ k = r.first in
        let high : k <ℤ (offset_in_frame r.ea +ℤ pos (bytes_in r.width)) = r.last in
        ap (λ m. overlaps (bytes_of c) (direct_bytes m)) r.operand ∙ ap (λ b. overlaps (bytes_of c) (if b then Some (span_of (offset_in_frame r.ea) (bytes_in r.width)) else None)) r.direct
        ∙ and_both (int_lt (offset_in_frame r.ea) (bytes_of c).end) (int_lt (bytes_of c).first (offset_in_frame r.ea +ℤ pos (bytes_in r.width)))
        (lt-told (offset_in_frame r.ea) (bytes_of c).end (omega (arith, ints, has.1, low)))
        (lt-told (bytes_of c).first (offset_in_frame r.ea +ℤ pos (bytes_in r.width)) (omega (arith, ints, has.0, high)))

    cell_accessed : list_any (within k) (accessed_cells q.proc q.frame) ≡ true
    cell_accessed =
        let c = any-tells (within k) q.frame.cells.items r.celled in
        any_both (within k) accessed q.frame.cells.items
        (any-told (λ cell. within k cell && accessed cell) q.frame.cells.items c.one c.among
        (and_both (within k c.one) (accessed c.one) c.passes
        (and_both q.frame.framed (list_any (λ (node : ℕ × Node). overlaps (bytes_of c.one) (direct_bytes (memory_operand node.1.instr.op))) q.proc.nodes.entries) r.framed
        (any_here (λ (node : ℕ × Node). overlaps (bytes_of c.one) (direct_bytes (memory_operand node.1.instr.op))) q.proc.nodes.entries at node stands (λ n. overlapping c.one c.passes)))))

  -- a cell of a pushed word is none that is accessed
  apart : (k : ℤ) (l : Loc) → IsKept 0 (cells_of q) k l → is_pushed (pushed_of q) l ≡ true → is_accessed_by body node.instr.op k ≡ true → ⊥
  apart k l kept pushed t =
      let least : pushed_of q ≤ kept.number = le_tells (pushed_of q) kept.number (sym (ap (is_pushed (pushed_of q)) kept.is) ∙ pushed) in
      let less : kept.number < 0 + length (accessed_cells q.proc q.frame) = front 0 (accessed_cells q.proc q.frame) (other_cells q.proc q.frame) k kept.number kept.half kept.found (cell_accessed k (reached k t)) in
      absurd (omega (arith, least, less))

  pub unreached : (k : ℤ) (l : Loc) → IsSameWord o k l → is_accessed_by body node.instr.op k ≡ false
  unreached k l is = elim (decided (is_accessed_by body node.instr.op k)) [
    | inr e ↦ e
    | inl t ↦
        let same : is.found ≡ q = cc (is.is_found, found) in
        absurd (apart k l (kept_in q k l (subst (λ p. frame_place p byte_width k ≡ byte l) same is.kept)) (subst (λ p. is_pushed (pushed_of p) l ≡ true) same is.pushed) t)
  ]
