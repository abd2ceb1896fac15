-- A CALL of a procedure that is found: where the bytes stand that it passes, and which points its graph has for it.
use Rattle.std.proofs.Common.{◌≡◌, ◌<◌, ℕ, ℤ, pos, suc, ◌+◌, ◌*◌, Bool, true, false, not, ◌&&◌, ◌==◌, if◌then◌else◌, List, [], ◌∷◌, filter, Contains, All, Some, refl, sym, ap, ap₂, ◌∙◌, subst, arith}
use Rattle.std.specs.Prelude.{◌+ℤ◌, ◌≤ℤ◌, ◌<ℤ◌}
use Rattle.std.specs.List.{list_any, range_with_len}
use Rattle.std.specs.Ordering.{int_eq}
use Rattle.std.proofs.lemmas.Int.{ints}
use Rattle.std.proofs.lemmas.List.Elements.{All-append, All-contains, All-contains_itself, All-filter}
use Rattle.dcc_num.specs.declared.Width.TheVariants.{Byte as byte_width}
use Rattle.dcc_num.specs.declared.Half.TheVariants.{Low, High}
use Rattle.dcc_machine.specs.declared.image.Image.{Image}
use Rattle.dcc_prog.specs.declared.procedure.Layout.{Layout}
use Rattle.dcc_prog.specs.declared.procedure.Node.{Node}
use Rattle.dcc_prog.specs.declared.frame.Cell.{Cell as FrameCell}
use Rattle.dcc_prog.specs.declared.frame.Program.{Program as Analysed}
use Rattle.dcc_machine.specs.declared.instr.Op.TheVariants.{Call as CallOp}
use Rattle.dcc_prog.specs.Analysed.{bytes_of}
use Rattle.dcc_prog.specs.Found.{IsNodeFound}
use Rattle.dcc_prog.specs.Height.{IsHeight}
use Rattle.dcc_prog.specs.Frame.{span_of, own_bytes, HasArguments, IsUsed, IsPiece, passed, IsCell, IsPlaced}
use Rattle.dcc_machine.specs.Successors.{next_of, op_successors}
use Rattle.dcc_prog.specs.Trail.{IsEntry, StandsAt, known_ah, targets_of, instr_successors}
use Rattle.dcc_stack.specs.Accepted.{IsFrameFor, IsAt}
use Rattle.dcc_stack.specs.Slots.{is_within, exposes_of, is_placed, gives_back}
use Rattle.dcc_stack.proofs.SlotPlaces.{any-tells, any-told, within-tells, exposed-slot-told}
use Rattle.dcc_stack.proofs.FormLaws.{in-form}
use Rattle.dcc_ir.specs.declared.syntax.Loc.{Loc}
use Rattle.dcc_ir.specs.declared.syntax.Loc.TheVariants.{Cell}
use Rattle.dcc_ir.specs.Tree.{Program, Address}
use Rattle.dcc_ir.proofs.LocationLaws.{Contains-here}
use Rattle.dcc_ops.specs.OperandPlace.{OperandPlace, byte, memory}
use Rattle.dcc_simulation.specs.Coupled.{Setting}
use Rattle.dcc_simulation.specs.Places.{IsFramePlace, in_half, in_memory}
use Rattle.dcc_simulation.specs.Procedures.{Procedure, frame_place, cell_place, cells_of, is_accessed, distance_of}
use Rattle.dcc_simulation.specs.Procedures.{given_back}
use Rattle.dcc_simulation.specs.Statements.{argument_offset}
use Rattle.dcc_simulation.specs.FoundPlaces.{IsFoundAt}
use Rattle.dcc_simulation.proofs.FoundPlaces.{found-places}
use Rattle.dcc_simulation.proofs.FoundProcedures.{frame-for}
use Rattle.dcc_simulation.proofs.PieceCells.{placed-cell}
use Rattle.dcc_simulation.proofs.ArgumentWords.{range-tells}
use Rattle.dcc_lift.specs.Blocks.{node_in, height_in}
use Rattle.dcc_lift.specs.Translated.{IsTranslated, setting}
use Rattle.dcc_lift.proofs.Lifting.{lifting, offsets-any, height-told}
use Rattle.dcc_lift.proofs.ListTests.{and_both, or_here, or_there}
use Rattle.dcc_lift.proofs.NodeLaws.{node_in_has}
use Rattle.dcc_machine_demand.specs.Bodies.{Body, find_at, point_at, point_with}
use Rattle.dcc_machine_demand.specs.Holders.{in_frame, is_in_cell, is_exposed_holder}
use Rattle.dcc_machine_demand.specs.Instance.{passed_word}
use Rattle.dcc_lifted_demand.proofs.EdgeLaws.{found_node}
use Rattle.dcc_lifted_demand.proofs.RefinedLaws as refined
use Rattle.dcc_kinds.proofs.LocationLaws.{all_by}
use Rattle.dcc_kinds.proofs.BackLaws.{IsOpen, StandsIn}

-- Heights and cells.

height_found : (heights : List (ℕ × ℕ)) (at : ℕ) → find_at heights at ≡ height_in heights at
height_found [] at = refl
height_found (found ∷ heights) at = ap (λ o. if found.0 == at then Some found.1 else o) (height_found heights at)

-- a byte that stands in a cell's half belongs to the cell
in_one : (n : ℕ) (cells : List FrameCell) (k : ℤ) (l : Loc) → cell_place n cells byte_width k ≡ byte l → list_any (λ cell. is_within k (bytes_of cell)) cells ≡ true
in_one n [] k l e = absurd (cc e)
in_one n (cell ∷ cells) k l e = by (is_within k (bytes_of cell)) refl (in_one (suc n) cells k l)
  where
    place_by : Bool → OperandPlace
    place_by b = if b then byte (Cell n (if int_eq k cell.first then Low else High)) else cell_place (suc n) cells byte_width k

    by : (b : Bool) → is_within k (bytes_of cell) ≡ b → (cell_place (suc n) cells byte_width k ≡ byte l → list_any (λ cell. is_within k (bytes_of cell)) cells ≡ true)
        → list_any (λ cell. is_within k (bytes_of cell)) (cell ∷ cells) ≡ true
    by true t rest = or_here (is_within k (bytes_of cell)) (list_any (λ cell. is_within k (bytes_of cell)) cells) t
    by false t rest = or_there (is_within k (bytes_of cell)) (list_any (λ cell. is_within k (bytes_of cell)) cells) (rest (sym (ap place_by t) ∙ e))

pub in_some_cell : (q : Procedure) (k : ℤ) (l : Loc) → StandsIn q k l → list_any (λ cell. is_within k (bytes_of cell)) q.frame.cells.items ≡ true
in_some_cell q k l e = by (is_placed q.frame k) refl
  where
    cells : List FrameCell
    cells = q.frame.cells.items

    accessed : FrameCell → Bool
    accessed cell = is_accessed q.proc q.frame (bytes_of cell)

    within : FrameCell → Bool
    within cell = is_within k (bytes_of cell)

    all : All (Contains cells) (cells_of q)
    all =
        All-append (Contains cells) (filter accessed cells) (filter (λ cell. not (accessed cell)) cells)
        (All-filter accessed (Contains cells) cells (All-contains_itself cells))
        (All-filter (λ cell. not (accessed cell)) (Contains cells) cells (All-contains_itself cells))

    place_by : Bool → OperandPlace
    place_by b = if b then memory byte_width (Address (distance_of k)) else cell_place 0 (cells_of q) byte_width k

    by : (b : Bool) → is_placed q.frame k ≡ b → list_any within cells ≡ true
    by true t = absurd (cc (ap place_by t, e))
    by false t =
        let c = any-tells within (cells_of q) (in_one 0 (cells_of q) k l (sym (ap place_by t) ∙ e)) in
        any-told within cells c.one (All-contains (Contains cells) (cells_of q) c.one all c.among) c.passes

-- Numbers of arguments.

few_numbers : (count : ℕ) (test : ℕ → Bool) (number : ℕ) → Contains (filter test (range_with_len 0 count)) number → number < count
few_numbers count test number c =
    All-contains (λ n. n < count) (filter test (range_with_len 0 count)) number
    (All-filter test (λ n. n < count) (range_with_len 0 count) (all_by (λ n. n < count) (range_with_len 0 count) (λ n has. below n (range-tells 0 count n has).1))) c
  where
    below : (n : ℕ) → n < 0 + count → n < count
    below n less = omega (arith, less)

module _ (image : Image) (program : Analysed) (p : Program) (is : IsTranslated image program p) (entry : ℕ) (x : refined.Link image program p is entry) where
  abbrev layout : Layout
  layout = program.layout

  abbrev e : Setting
  e = setting image program p

  abbrev pub q : Procedure
  q = refined.procedure image program p is entry x

  abbrev pub body : Body
  body = refined.body image program p is entry x

  is_entry : IsEntry image layout entry
  is_entry = subst (IsEntry image layout) x.entry_is x.reached

  found : IsFoundAt e entry q
  found = record { lifting = lifting image program p is.of_file is.translation; is_entry = is_entry; procedure = x.procedure_found }

  frame_is : IsFrameFor image program entry q.frame
  frame_is = frame-for e found.lifting entry is_entry q x.procedure_found

  -- a byte of a cell that stands in memory may be read anywhere
  opened : (k : ℤ) → IsPlaced image layout entry k → is_in_cell body k ≡ true → is_exposed_holder body (in_frame k) ≡ true
  opened k placed t =
      let cells = q.frame.cells.items in
      let c = any-tells (λ (cell : FrameCell). is_within k (bytes_of cell)) cells t in
      let cell = All-contains (λ (cell : FrameCell). IsCell image layout entry (bytes_of cell)) cells c.one frame_is.cells c.among in
      let slot = placed-cell layout.cpu image program is.of_file entry is_entry q.frame frame_is (bytes_of c.one) k cell (within-tells k (bytes_of c.one) c.passes) placed in
      any-told (λ (cell : FrameCell). is_within k (bytes_of cell) && exposes_of q.frame (bytes_of cell)) cells c.one c.among
      (and_both (is_within k (bytes_of c.one)) (exposes_of q.frame (bytes_of c.one)) c.passes (exposed-slot-told image program entry q.frame frame_is (bytes_of c.one) slot))

  -- where a byte stands that is used together with others: in memory, so that it may be read anywhere where it belongs to
  -- a cell, or in a location
  pub data BytePlace (k : ℤ) : Type 0 where
    in_open : IsOpen q k → (is_in_cell body k ≡ true → is_exposed_holder body (in_frame k) ≡ true) → BytePlace k
    in_location : (l : Loc) → StandsIn q k l → is_in_cell body k ≡ true → BytePlace k

  byte_place : (k : ℤ) (Q : OperandPlace) → frame_place q byte_width k ≡ Q → IsFramePlace e entry k byte_width Q → BytePlace k
  byte_place k Q place (in_half {number = number} {half = half} there) =
      in_location (Cell number half) place (in_some_cell q k (Cell number half) place)
  byte_place k Q place (in_memory placed) =
      let here : (k +ℤ pos 0) ≡ k = omega (arith, ints) in
      in_open (distance_of k, place) (opened k (subst (IsPlaced image layout entry) here (placed 0 (omega arith))))

  -- An instruction.

  module _ (at : ℕ) (node : Node) (stands : node_in x.proc.nodes.entries at ≡ Some node) where
    pub node_found : IsNodeFound image layout entry (at, node)
    node_found = subst (λ n. IsNodeFound image layout n (at, node)) x.entry_is (refined.found_there image program p is entry x at node stands)

    pub height_is : (height : ℕ) × (height_in x.own at ≡ Some height) × IsHeight image layout x.proc.entry at (pos height)
    height_is =
        height-told (λ (found : ℕ × ℕ). IsHeight image layout x.proc.entry found.0 (pos found.1)) x.own at x.are_heights.each
        (ap (list_any (λ n. n == at)) x.are_heights.nodes ∙ sym (offsets-any x.proc.nodes.entries at) ∙ node_in_has x.proc.nodes.entries at node stands)

    abbrev pub height : ℕ
    height = height_is.0

    pub high : height_in x.own at ≡ Some height
    high = height_is.1

    pub point_is : point_at body at ≡ Some (record { node = node; height = height })
    point_is =
        ap₂ (λ o h. point_with o h) (found_node x.proc.nodes.entries at ∙ stands) (height_found x.own at ∙ high)

    is_at : IsAt image layout entry at node_found.node.before (pos height)
    is_at = record {
      is_entry = is_entry;
      trail = node_found.node.trail;
      gives = subst (λ n. IsHeight image layout n at (pos height)) x.entry_is height_is.2 node_found.node.before node_found.node.trail;
    }

    module _ (target : ℕ) (calls : node.instr.op ≡ CallOp target) where
      calls_there : StandsAt image layout at (CallOp target)
      calls_there = (node.instr, node_found.instr, calls)

      -- the CALL goes on at the next instruction
      pub goes_on : Contains node.succ.items (next_of at node.instr)
      goes_on =
          subst (λ nexts. Contains nexts (next_of at node.instr)) (sym told) (Contains-here (next_of at node.instr) [])
        where
          told : node.succ.items ≡ next_of at node.instr ∷ []
          told =
              node_found.succ node_found.node.before node_found.node.trail ∙ ap (instr_successors image layout at node_found.node.before) node_found.instr
              ∙ ap (λ op. op_successors op (next_of at node.instr) (known_ah image layout node_found.node.before) (targets_of image layout op node_found.node.before)) calls

      module _ (y : refined.Link image program p is target) where
        abbrev callee : Procedure
        callee = refined.procedure image program p is target y

        piece : (number : ℕ) → number < callee.frame.args → IsPiece image layout entry (span_of (argument_offset height number) 2)
        piece number less =
            let arguments = subst (λ n. HasArguments image layout n callee.frame.args) y.entry_is y.is_frame.arguments in
            IsPiece.used node_found.node
            (IsUsed.passed (passed calls_there (record { before = node_found.node.before; gives = is_at.gives }) arguments less
            (within (own_bytes image layout entry (pos height))
            (in-form.arguments layout.cpu image program entry at target callee.frame.args node_found.node.before height is.of_file is_at calls_there arguments))))
          where
            within : (z : ℤ) → pos (2 * callee.frame.args) ≤ℤ z → pos (2 * number + 2) ≤ℤ z
            within z own = omega (arith, ints, own, less)

        -- where a byte of an argument stands that the callee gives back
        pub passed_byte : (number : ℕ) (k : ℤ) → Contains (given_back callee) number → is_within k (passed_word height number) ≡ true → BytePlace k
        passed_byte number k c t =
            let less = few_numbers callee.frame.args (gives_back callee.proc callee.frame) number c in
            let both = within-tells k (passed_word height number) t in
            byte_place k (frame_place q byte_width k) refl
            (found-places.frame e entry q (span_of (argument_offset height number) 2) byte_width k found (piece number less) both.0 (up both.1))
          where
            up : k <ℤ (argument_offset height number +ℤ pos 2) → (k +ℤ pos 1) ≤ℤ (argument_offset height number +ℤ pos 2)
            up less = omega (arith, ints, less)
