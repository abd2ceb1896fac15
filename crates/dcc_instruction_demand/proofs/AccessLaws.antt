-- Where the memory operands of a procedure's instructions stand.
use Rattle.std.proofs.Common.{◌≡◌, ℕ, ℤ, ◌+◌, Bool, true, false, not, ◌&&◌, ◌||◌, if◌then◌else◌, inl, inr, List, [], ◌∷◌, filter, Option, Some, refl, sym, ap, ◌∙◌, subst, true≢false, arith}
use Rattle.std.specs.Prelude.{pos, ◌+ℤ◌, ◌≤ℤ◌, ◌<◌}
use Rattle.std.specs.List.{list_any}
use Rattle.std.specs.Ordering.{int_eq}
use Rattle.std.proofs.lemmas.Int.{ints}
use Rattle.std.proofs.lemmas.List.Elements.{All-contains}
use Rattle.std.proofs.lemmas.List.Folds.{list_any-append}
use Rattle.dcc_num.specs.declared.Width.{Width}
use Rattle.dcc_num.specs.declared.Width.TheVariants.{Byte as byte_width, Word as word_width}
use Rattle.dcc_num.specs.declared.Half.TheVariants.{Low, High}
use Rattle.dcc_num.specs.declared.Reg.TheVariants.{Sp}
use Rattle.dcc_machine.specs.declared.image.Image.{Image}
use Rattle.dcc_prog.specs.declared.procedure.Layout.{Layout}
use Rattle.dcc_prog.specs.declared.procedure.Node.{Node}
use Rattle.dcc_prog.specs.declared.refusal.ConstructKind.TheVariants.{OutsideProfile}
use Rattle.dcc_prog.specs.declared.frame.Cell.{Cell as FrameCell}
use Rattle.dcc_prog.specs.declared.frame.Program.{Program as Analysed}
use Rattle.dcc_machine.specs.declared.instr.Alu.TheVariants.{Add, Sub}
use Rattle.dcc_machine.specs.declared.instr.Unary.TheVariants.{Inc, Dec}
use Rattle.dcc_machine.specs.declared.instr.Ea.{Ea}
use Rattle.dcc_machine.specs.declared.instr.Operand.TheVariants.{Word, Const}
use Rattle.dcc_machine.specs.declared.instr.Op.{Op}
use Rattle.dcc_machine.specs.declared.instr.Op.TheVariants.{Alu as AluOp, Unary as UnaryOp}
use Rattle.dcc_prog.specs.Construct.{foreign, is_system}
use Rattle.dcc_prog.specs.Found.{IsNodeFound}
use Rattle.dcc_machine.specs.Access.{is_direct, bytes_in}
use Rattle.dcc_prog.specs.Frame.{memory_operand, offset_in_frame, span_of, IsPiece, IsUsed, IsDirectAccess, IsCell, IsPlaced}
use Rattle.dcc_machine.specs.SpAndBp.{is_sp_move, names_sp_or_bp, uses_bp_address, leaves_frame, copies_bp}
use Rattle.dcc_prog.specs.FrameForm.{is_framed, is_frame_form, makes_frame}
use Rattle.dcc_prog.specs.Analysed.{bytes_of}
use Rattle.dcc_prog.specs.Trail.{IsEntry}
use Rattle.dcc_stack.specs.Accepted.{IsFrameFor}
use Rattle.dcc_stack.specs.Slots.{is_within, exposes_of, is_placed as is_placed_byte}
use Rattle.dcc_stack.proofs.SlotPlaces.{any-tells, any-told, within-tells, placed-told, exposed-slot-told}
use Rattle.dcc_ir.specs.declared.syntax.Loc.{Loc}
use Rattle.dcc_ir.specs.declared.syntax.Loc.TheVariants.{Cell}
use Rattle.dcc_ir.specs.Tree.{Program}
use Rattle.dcc_ir.proofs.PathLaws.{decided}
use Rattle.dcc_ops.specs.OperandPlace.{OperandPlace, byte}
use Rattle.dcc_lift.specs.Blocks.{node_in}
use Rattle.dcc_lift.specs.Translated.{IsTranslated, setting}
use Rattle.dcc_lift.proofs.Lifting.{lifting}
use Rattle.dcc_lift.proofs.ListTests.{and_left, and_both, and_false, or_here, or_there, or_cases}
use Rattle.dcc_simulation.specs.Coupled.{Setting, half_in}
use Rattle.dcc_simulation.specs.Places.{IsFramePlace, in_half, in_cell, in_memory}
use Rattle.dcc_simulation.specs.Procedures.{Procedure, procedure_at, frame_place, cells_of, is_accessed}
use Rattle.dcc_simulation.specs.FoundPlaces.{IsFoundAt}
use Rattle.dcc_simulation.specs.Nodes.{procedures_in}
use Rattle.dcc_machine_demand.specs.Bodies.{Body}
use Rattle.dcc_simulation.proofs.FoundPlaces.{found-places}
use Rattle.dcc_simulation.proofs.FoundProcedures.{frame-for}
use Rattle.dcc_simulation.proofs.PieceCells.{placed-cell}
use Rattle.dcc_machine_demand.specs.Holders.{in_frame, is_in_cell, is_exposed_holder}
use Rattle.dcc_lifted_demand.proofs.SameLaws.{kept_in}
use Rattle.dcc_lifted_demand.proofs.RefinedLaws as refined
use Rattle.dcc_instruction_demand.proofs.FrameLaws.{frame_body, AccessAt}

-- Frames.

-- what has a memory operand doesn't move SP
sp_unmoved : (op : Op) (w : Width) (ea : Ea) → memory_operand op ≡ Some (w, ea) → is_sp_move op ≡ false
sp_unmoved (AluOp Add (Word Sp) (Const v n)) w ea e = absurd (cc e)
sp_unmoved (AluOp Sub (Word Sp) (Const v n)) w ea e = absurd (cc e)
sp_unmoved (UnaryOp Inc (Word Sp)) w ea e = absurd (cc e)
sp_unmoved (UnaryOp Dec (Word Sp)) w ea e = absurd (cc e)
sp_unmoved op w ea e = refl

pub any_kept : {X : Type 0} (p f : X → Bool) (xs : List X) → list_any p (filter f xs) ≡ true → list_any p xs ≡ true
any_kept p f [] e = e
any_kept p f (x ∷ xs) e = by (f x) e (λ d. any_kept p f xs d)
  where
    by : (b : Bool) → list_any p (if b then x ∷ filter f xs else filter f xs) ≡ true → (list_any p (filter f xs) ≡ true → list_any p xs ≡ true) → (p x || list_any p xs) ≡ true
    by true e later = elim (or_cases (p x) (list_any p (filter f xs)) e) [
      | inl here ↦ or_here (p x) (list_any p xs) here
      | inr there ↦ or_there (p x) (list_any p xs) (later there)
    ]
    by false e later = or_there (p x) (list_any p xs) (later e)

-- a byte in a half of a cell belongs to that cell
within_some : (n : ℕ) (cells : List FrameCell) (k : ℤ) (l : Loc) → half_in n cells k ≡ Some l → list_any (λ cell. is_within k (bytes_of cell)) cells ≡ true
within_some n [] k l e = absurd (cc e)
within_some n (cell ∷ cells) k l e = by (is_within k (bytes_of cell)) e (λ d. within_some (n + 1) cells k l d)
  where
    by : (b : Bool) → (if b then Some (Cell n (if int_eq k cell.first then Low else High)) else half_in (n + 1) cells k) ≡ Some l
        → (half_in (n + 1) cells k ≡ Some l → list_any (λ cell. is_within k (bytes_of cell)) cells ≡ true) → (b || list_any (λ cell. is_within k (bytes_of cell)) cells) ≡ true
    by true e later = refl
    by false e later = later e

only_framed : (a b framed rest : Bool) → ((a || b) || (framed && rest)) ≡ true → a ≡ false → b ≡ false → framed ≡ true
only_framed true b framed rest t e f = absurd (true≢false e)
only_framed false true framed rest t e f = absurd (true≢false f)
only_framed false false framed rest t e f = and_left framed rest t

-- an operation that is allowed, doesn't move SP and has an address with BP stands in a framed procedure
form_framed : (image : Image) (layout : Layout) (entry at : ℕ) (op : Op) → is_frame_form image layout entry at op ≡ true → is_sp_move op ≡ false → uses_bp_address op ≡ true → is_framed image layout entry ≡ true
form_framed image layout entry at op t unmoved uses =
    only_framed (is_sp_move op) (not (names_sp_or_bp op) && not (uses_bp_address op)) (is_framed image layout entry)
    (leaves_frame op || copies_bp op || makes_frame image layout entry at op || (not (names_sp_or_bp op) && uses_bp_address op)) t unmoved
    (ap (λ b. not (names_sp_or_bp op) && not b) uses ∙ and_false (not (names_sp_or_bp op)))

module _ (image : Image) (program : Analysed) (p : Program) (is : IsTranslated image program p) (entry : ℕ) (x : refined.Link image program p is entry) where
  abbrev layout : Layout
  layout = program.layout

  abbrev e : Setting
  e = setting image program p

  abbrev q : Procedure
  q = refined.procedure image program p is entry x

  pub is_entry : IsEntry image layout entry
  is_entry = subst (IsEntry image layout) x.entry_is x.reached

  found : IsFoundAt e entry q
  found = record { lifting = lifting image program p is.of_file is.translation; is_entry = is_entry; procedure = x.procedure_found }

  pub frame_is : IsFrameFor image program entry q.frame
  frame_is = frame-for e found.lifting entry is_entry q x.procedure_found

  abbrev found_here : Option Procedure
  found_here = procedure_at (procedures_in program) entry

  abbrev body_here : Body
  body_here = frame_body found_here q x.procedure_found x.own

  abbrev has_byte : ℤ → Bool
  has_byte k = is_in_cell body_here k

  -- a byte in a location belongs to a cell
  pub in_some_cell : (k : ℤ) (l : Loc) → frame_place q byte_width k ≡ byte l → has_byte k ≡ true
  in_some_cell k l place =
      let kept = kept_in q k l place in
      let cells = q.frame.cells.items in
      let accessed = λ (cell : FrameCell). is_accessed q.proc q.frame (bytes_of cell) in
      let within = λ (cell : FrameCell). is_within k (bytes_of cell) in
      elim (or_cases (list_any within (filter accessed cells)) (list_any within (filter (λ cell. not (accessed cell)) cells))
      (sym (list_any-append within (filter accessed cells) (filter (λ cell. not (accessed cell)) cells)) ∙ within_some 0 (cells_of q) k (Cell kept.number kept.half) kept.found)) [
        | inl t ↦ any_kept within accessed cells t
        | inr t ↦ any_kept within (λ cell. not (accessed cell)) cells t
      ]

  -- a byte in memory that belongs to a cell may be read anywhere
  opened : (k : ℤ) → IsPlaced image layout entry k → has_byte k ≡ true → is_exposed_holder body_here (in_frame k) ≡ true
  opened k placed t =
      let cells = q.frame.cells.items in
      let c = any-tells (λ (cell : FrameCell). is_within k (bytes_of cell)) cells t in
      let cell = All-contains (λ (cell : FrameCell). IsCell image layout entry (bytes_of cell)) cells c.one frame_is.cells c.among in
      let slot = placed-cell layout.cpu image program is.of_file entry is_entry q.frame frame_is (bytes_of c.one) k cell (within-tells k (bytes_of c.one) c.passes) placed in
      any-told (λ (cell : FrameCell). is_within k (bytes_of cell) && exposes_of q.frame (bytes_of cell)) cells c.one c.among
      (and_both (is_within k (bytes_of c.one)) (exposes_of q.frame (bytes_of c.one)) c.passes (exposed-slot-told image program entry q.frame frame_is (bytes_of c.one) slot))

  placed_at : (k : ℤ) → IsPlaced image layout entry k → is_placed_byte q.frame k ≡ true
  placed_at k placed = placed-told image program entry q.frame frame_is k placed

  -- the byte of a half of a cell
  byte_of_half : (k : ℤ) (l : Loc) (Q : OperandPlace) → frame_place q byte_width k ≡ Q → IsFramePlace e entry k byte_width Q → (IsPlaced image layout entry k → ⊥) → half_in 0 (e.cells entry) k ≡ Some l
      → frame_place q byte_width k ≡ byte l
  byte_of_half k l Q place (in_half {number = number} {half = half} there) apart half_is =
      let same : Cell number half ≡ l = cc (there.is, half_is) in place ∙ ap byte same
  byte_of_half k l Q place (in_memory placed) apart half_is =
      let here : (k +ℤ pos 0) ≡ k = omega (arith, ints) in absurd (apart (subst (IsPlaced image layout entry) here (placed 0 (omega arith))))

  some : (v : Width) → 0 < bytes_in v
  some byte_width = omega arith
  some word_width = omega arith

  more : (v : Width) → v ≡ word_width → 1 < bytes_in v
  more byte_width u = absurd (cc u)
  more word_width u = omega arith

  -- where bytes that belong together stand
  module _ (k : ℤ) (w : Width) (piece : IsPiece image layout entry (span_of k (bytes_in w))) where
    one_in : (v : Width) → (k +ℤ pos 1) ≤ℤ (k +ℤ pos (bytes_in v))
    one_in byte_width = omega (arith, ints)
    one_in word_width = omega (arith, ints)

    two_in : (v : Width) → v ≡ word_width → ((k +ℤ pos 1) +ℤ pos 1) ≤ℤ (k +ℤ pos (bytes_in v))
    two_in byte_width u = absurd (cc u)
    two_in word_width u = omega (arith, ints)

    -- a byte or a word of them
    part_at : (v : Width) (j : ℤ) → k ≤ℤ j → (j +ℤ pos (bytes_in v)) ≤ℤ (k +ℤ pos (bytes_in w)) → IsFramePlace e entry j v (frame_place q v j)
    part_at v j low high = found-places.frame e entry q (span_of k (bytes_in w)) v j found piece low high

    access_by : (v : Width) (Q : OperandPlace) → frame_place q v k ≡ Q → IsFramePlace e entry k v Q → ((v ≡ word_width) → (w ≡ word_width)) → AccessAt found_here q x.procedure_found x.own v k
    access_by byte_width Q place (in_half {number = number} {half = half} there) same =
        AccessAt.byte_access number half refl place (in_some_cell k (Cell number half) place)
    access_by word_width Q place (in_cell {number = number} low high) same =
        let first = byte_of_half k (Cell number Low) (frame_place q byte_width k) refl (part_at byte_width k (omega (arith, ints)) (one_in w)) low.apart low.is in
        let second = byte_of_half (k +ℤ pos 1) (Cell number High) (frame_place q byte_width (k +ℤ pos 1)) refl (part_at byte_width (k +ℤ pos 1) (omega (arith, ints)) (two_in w (same refl))) high.apart high.is in
        AccessAt.word_access number refl place first second (in_some_cell k (Cell number Low) first) (in_some_cell (k +ℤ pos 1) (Cell number High) second)
    access_by v Q place (in_memory placed) same =
        let here : (k +ℤ pos 0) ≡ k = omega (arith, ints) in
        let first = subst (IsPlaced image layout entry) here (placed 0 (some v)) in
        AccessAt.open_access place (placed_at k first, opened k first) (λ u. let second = placed 1 (more v u) in (placed_at (k +ℤ pos 1) second, opened (k +ℤ pos 1) second))

    pub piece_access : AccessAt found_here q x.procedure_found x.own w k
    piece_access = access_by w (frame_place q w k) refl (part_at w k (omega (arith, ints)) (omega (arith, ints))) (λ u. u)

  module _ (at : ℕ) (node : Node) (stands : node_in x.proc.nodes.entries at ≡ Some node) (w : Width) (ea : Ea) (operand : memory_operand node.instr.op ≡ Some (w, ea))
      (direct : is_direct ea ≡ true) (uses : uses_bp_address node.instr.op ≡ true) where
    node_found : IsNodeFound image layout x.proc.entry (at, node)
    node_found = refined.found_there image program p is entry x at node stands

    form : is_frame_form image layout x.proc.entry at node.instr.op ≡ true
    form = elim (decided (is_frame_form image layout x.proc.entry at node.instr.op)) [
      | inl t ↦ t
      | inr n ↦ absurd (is.of_file.is_program.procs.no_construct OutsideProfile at (record {
        entry = x.proc.entry;
        is_entry = x.reached;
        node = node_found.node;
        stands = foreign (record { op = node.instr.op; stands = (node.instr, node_found.instr, refl); foreign = or_there (is_system node.instr.op) (not (is_frame_form image layout x.proc.entry at node.instr.op)) (ap not n) });
      }))
    ]

    pub framed_there : is_framed image layout x.proc.entry ≡ true
    framed_there = form_framed image layout x.proc.entry at node.instr.op form (sp_unmoved node.instr.op w ea operand) uses

    piece : IsPiece image layout entry (span_of (offset_in_frame ea) (bytes_in w))
    piece =
        subst (λ n. IsPiece image layout n (span_of (offset_in_frame ea) (bytes_in w))) x.entry_is
        (IsPiece.used node_found.node (IsUsed.accessed (IsDirectAccess.direct framed_there (node.instr, node_found.instr, refl) operand direct)))

    pub access_at : AccessAt found_here q x.procedure_found x.own w (offset_in_frame ea)
    access_at = piece_access (offset_in_frame ea) w piece
