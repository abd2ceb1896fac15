-- MOV, XCHG, PUSH and POP of a procedure that is found do what their statements do together.
use Rattle.std.proofs.Common.{◌≡◌, ℕ, ℤ, Bool, true, false, ◌&&◌, ◌||◌, if◌then◌else◌, ◌⊎◌, inl, inr, List, [], ◌++◌, Option, Some, None, refl, sym, ap, ◌∙◌, subst, true≢false, arith}
use Rattle.std.specs.Prelude.{Contains, pos, ◌+ℤ◌, is_none}
use Rattle.std.specs.List.{list_any}
use Rattle.std.proofs.lemmas.Int.{ints}
use Rattle.std.proofs.lemmas.List.Folds.{list_any-append}
use Rattle.dcc_num.specs.declared.Width.{Width}
use Rattle.dcc_num.specs.declared.Width.TheVariants.{Byte as byte_width, Word as word_width}
use Rattle.dcc_num.specs.declared.Reg.TheVariants.{Ax, Cx, Dx, Bx, Sp, Bp, Si, Di}
use Rattle.dcc_num.specs.declared.Half.{Half as HalfName}
use Rattle.dcc_num.specs.declared.Half.TheVariants.{Low}
use Rattle.dcc_machine.specs.declared.image.Image.{Image}
use Rattle.dcc_prog.specs.declared.procedure.Layout.{Layout}
use Rattle.dcc_prog.specs.declared.procedure.Node.{Node}
use Rattle.dcc_prog.specs.declared.frame.Program.{Program as Analysed}
use Rattle.dcc_machine.specs.declared.instr.Ea.{Ea}
use Rattle.dcc_machine.specs.declared.instr.Instr.{Instr}
use Rattle.dcc_machine.specs.declared.instr.Operand.{Operand}
use Rattle.dcc_machine.specs.declared.instr.Operand.TheVariants.{Word, Byte, Seg, Mem, Const}
use Rattle.dcc_machine.specs.declared.instr.Op.{Op}
use Rattle.dcc_machine.specs.declared.instr.Op.TheVariants.{Mov, Xchg, Push, Pop}
use Rattle.dcc_machine.specs.Machine.{is_bp, operand_width}
use Rattle.dcc_machine.specs.Access.{is_direct, bytes_in}
use Rattle.dcc_prog.specs.Frame.{memory_of, memory_operand, offset_in_frame, span_of, IsPiece, used, IsUsed, IsMovedWord, pushed, popped}
use Rattle.dcc_machine.specs.SpAndBp.{is_by_bp, is_sp_or_bp, uses_bp_address}
use Rattle.dcc_prog.specs.FrameForm.{is_framed}
use Rattle.dcc_prog.specs.Found.{IsNodeFound}
use Rattle.dcc_prog.specs.Height.{IsHeight, HasHeight}
use Rattle.dcc_machine.specs.Wanted.{Location, half_of, flag_of}
use Rattle.dcc_machine.specs.Writes.{is_half_of, writes_half}
use Rattle.dcc_machine.proofs.LocationKept.{or-none}
use Rattle.dcc_stack.specs.Accepted.{IsAt, IsForm}
use Rattle.dcc_stack.specs.Slots.{is_memory}
use Rattle.dcc_stack.proofs.FormLaws.{in-form}
use Rattle.dcc_ir.specs.declared.syntax.Loc.{Loc}
use Rattle.dcc_ir.specs.Location.{same_location}
use Rattle.dcc_ir.specs.Tree.{Program}
use Rattle.dcc_ir.specs.Live.{is_among}
use Rattle.dcc_ir.proofs.LocationLaws.{location_same}
use Rattle.dcc_ir.proofs.PathLaws.{decided}
use Rattle.dcc_ops.specs.OperandPlace.{OperandPlace, byte, memory}
use Rattle.dcc_ops.specs.Computed.{computed_expr}
use Rattle.dcc_ops.specs.Statements.{mov_stmts}
use Rattle.dcc_lift.specs.Blocks.{node_in, height_in}
use Rattle.dcc_lift.specs.Translated.{IsTranslated}
use Rattle.dcc_lift.proofs.ListTests.{and_left, and_right, and_false, or_here, or_there, or_cases, or_none}
use Rattle.dcc_simulation.specs.Procedures.{Procedure, procedure_at, frame_place, pushed_of}
use Rattle.dcc_simulation.specs.Nodes.{procedures_in}
use Rattle.dcc_simulation.specs.Operands.{address_of, stack_pointer, frame_pointer, operand_place}
use Rattle.dcc_simulation.specs.Statements.{moves_frame}
use Rattle.dcc_simulation.proofs.TabledOperands.{IsSource, IsTarget, IsRegister, source-of}
use Rattle.dcc_demand.specs.Procedures.{Procedures}
use Rattle.dcc_machine_demand.specs.Bodies.{Body, bodies_of}
use Rattle.dcc_machine_demand.specs.Holders.{Holder, in_frame, is_at, is_same_holder, is_exposed_holder, is_in_cell}
use Rattle.dcc_machine_demand.specs.Holders.{is_accessed_by, spots_of, spots_of_memory, Spot}
use Rattle.dcc_machine_demand.specs.Moves.{Move, moves_of, moves_between, of_either, pushed_offset, popped_offset}
use Rattle.dcc_sums.specs.Points.{Position}
use Rattle.dcc_sums.specs.Instance.{is_pushed}
use Rattle.dcc_lifted_demand.specs.LiftedRefinement.{inner_of, IsSame, IsSameWord, lifted_refinement}
use Rattle.dcc_lifted_demand.proofs.SameLaws.{SameCases, same_cases}
use Rattle.dcc_lifted_demand.proofs.RefinedLaws as refined
use Rattle.dcc_instruction_demand.specs.Agreement.{Agrees}
use Rattle.dcc_instruction_demand.specs.Laws.{AgreesWithItsStatements}
use Rattle.dcc_instruction_demand.proofs.FrameMoves.{is_frame_move}
use Rattle.dcc_instruction_demand.proofs.WorkLaws.{point_with_op}
use Rattle.dcc_instruction_demand.proofs.AddressLaws.{reads_computed}
use Rattle.dcc_instruction_demand.proofs.FrameLaws.{AccessAt}
use Rattle.dcc_instruction_demand.proofs.AccessLaws.{framed_there, access_at, piece_access, in_some_cell}
use Rattle.dcc_instruction_demand.proofs.DecodedLaws.{is_named, are_alike, is_wide, one_width}
use Rattle.dcc_instruction_demand.proofs.NodeOperands.{first_named, second_named, have_places, decoded_there}
use Rattle.dcc_instruction_demand.proofs.CallNodes.{height_holds}
use Rattle.dcc_instruction_demand.proofs.SpotLaws.{place_itself, low_of, high_of, HasByte, HasWord, HasBytes}
use Rattle.dcc_instruction_demand.proofs.MovingLaws.{moved_to, any_at, between_to, popping_to}
use Rattle.dcc_instruction_demand.proofs.MoveSettings.{moving_operation}
use Rattle.dcc_instruction_demand.proofs.PushedLaws.{unreached}
use Rattle.dcc_instruction_demand.proofs.PrivateLaws.{private_is, open_private, saved_apart}
use Rattle.dcc_instruction_demand.proofs.MoveAgree.{is_halves, is_exchangeable, mov_agrees, xchg_agrees}
use Rattle.dcc_instruction_demand.proofs.StackAgree.{pop_agrees, push_agrees, push_bp_agrees}
use Rattle.dcc_instruction_demand.proofs.OperandBytes.{frame_bytes, AreBytesAt, word_bytes, byte_bytes, constant_bytes}
use Rattle.dcc_instruction_demand.proofs.OperandBytes.{pointer_bytes, indirect_bytes, direct_bytes}
use Rattle.dcc_instruction_demand.proofs.SettingLaws as setting

-- What moves no frame.

mov_moves_none : (to from : Operand) → is_frame_move (Mov to from) ≡ false → moves_frame (Mov to from) ≡ false
mov_moves_none (Word Bp) (Word Sp) e = absurd (true≢false e)
mov_moves_none (Word Sp) (Word Bp) e = absurd (true≢false e)
mov_moves_none to from e = refl

pop_moves_none : (a : Operand) → is_sp_or_bp a ≡ false → moves_frame (Pop a) ≡ false
pop_moves_none (Word Bp) e = absurd (true≢false e)
pop_moves_none a e = refl

push_moves_none : (a : Operand) → is_sp_or_bp a ≡ false → moves_frame (Push a) ≡ false
push_moves_none (Word Bp) e = absurd (true≢false e)
push_moves_none a e = refl

-- an operand whose halves are none of SP and BP is neither
pointer_free : (a : Operand) → is_named a ≡ true → is_half_of Sp Low a ≡ false → is_half_of Bp Low a ≡ false → is_sp_or_bp a ≡ false
pointer_free (Word Sp) t e f = absurd (true≢false e)
pointer_free (Word Bp) t e f = absurd (true≢false f)
pointer_free (Byte Sp h) t e f = absurd (true≢false (sym t))
pointer_free (Byte Bp h) t e f = absurd (true≢false (sym t))
pointer_free a t e f = refl

-- Registers.

register_apart : (b : Operand) → IsRegister b → is_memory b ≡ false
register_apart (Word r) t = refl
register_apart (Byte r h) t = refl
register_apart (Seg n) t = absurd t
register_apart (Mem w ea) t = absurd t
register_apart (Const w n) t = absurd t

register_source : (b : Operand) → IsRegister b → IsSource b
register_source (Word r) t = tt
register_source (Byte r h) t = tt
register_source (Seg n) t = t
register_source (Mem w ea) t = absurd t
register_source (Const w n) t = tt

halves_place : (q : Procedure) (height : ℕ) (b : Operand) → IsRegister b → is_sp_or_bp b ≡ false → is_halves (operand_place q height b) ≡ true
halves_place q height (Word Ax) t e = refl
halves_place q height (Word Cx) t e = refl
halves_place q height (Word Dx) t e = refl
halves_place q height (Word Bx) t e = refl
halves_place q height (Word Si) t e = refl
halves_place q height (Word Di) t e = refl
halves_place q height (Word Sp) t e = absurd (true≢false e)
halves_place q height (Word Bp) t e = absurd (true≢false e)
halves_place q height (Byte r h) t e = refl
halves_place q height (Seg n) t e = absurd t
halves_place q height (Mem w ea) t e = absurd t
halves_place q height (Const w n) t e = absurd t

-- Forms.

module _ (image : Image) (layout : Layout) (entry at height : ℕ) where
  abbrev Form : Op → Type 0
  Form = IsForm image layout entry at height

  -- a PUSH saves BP at the entry, or pushes neither SP nor BP
  data PushForm (a : Operand) : Type 0 where
    saves_bp : a ≡ Word Bp → is_framed image layout entry ≡ true → height ≡ 0 → PushForm a
    pushes_other : is_sp_or_bp a ≡ false → PushForm a

  push_form : (a : Operand) → IsForm image layout entry at height (Push a) → PushForm a
  push_form _ (IsForm.saves framed here low) = PushForm.saves_bp refl framed low
  push_form a (IsForm.pushes plain) = PushForm.pushes_other plain.other
  push_form a (IsForm.moves e) = absurd (cc e)
  push_form a (IsForm.keeps calm sp bp) = absurd (true≢false (sp Low))

  pop_form : (a : Operand) → IsForm image layout entry at height (Pop a) → (a ≡ Word Bp) ⊎ (is_sp_or_bp a ≡ false)
  pop_form _ (IsForm.restores framed low) = inl refl
  pop_form a (IsForm.pops plain) = inr plain.other
  pop_form a (IsForm.moves e) = absurd (cc e)
  pop_form a (IsForm.keeps calm sp bp) = absurd (true≢false (sp Low))

  -- an XCHG writes neither SP nor BP
  xchg_form : (a b : Operand) → IsForm image layout entry at height (Xchg a b) → ((h : HalfName) → writes_half (Xchg a b) Sp h ≡ false) × ((h : HalfName) → writes_half (Xchg a b) Bp h ≡ false)
  xchg_form a b (IsForm.moves e) = absurd (cc e)
  xchg_form a b (IsForm.keeps calm sp bp) = (sp, bp)

-- Bytes of operands.

-- a half of these bytes stands for one of them
half_spot : (o : Option Procedure) (body : Body) (exposed : Holder → Bool) (w : Width) (spots : List Spot) (Q : OperandPlace) → HasBytes o body exposed w spots Q → (m : Loc) → is_among (low_of Q ++ high_of Q) m ≡ true
    → (L : Holder) × IsSame o L m × (any_at spots L ≡ true)
half_spot o body exposed _ _ _ (HasBytes.as_byte (HasByte.one_half {L = L} {l = l} h)) m t =
    (L, subst (λ y. IsSame o L y) (sym (location_same m l (sym (or_none (same_location m l)) ∙ t))) h.same, or_here (is_same_holder L L) false (place_itself L))
half_spot o body exposed _ _ _ (HasBytes.as_byte HasByte.constant_byte) m t = absurd (true≢false (sym t))
half_spot o body exposed _ _ _ (HasBytes.as_byte (HasByte.open_byte opens kept)) m t = absurd (true≢false (sym t))
half_spot o body exposed _ _ _ (HasBytes.as_word (HasWord.two_halves {L = L} {M = M} {l = l} {m = h} a b low high)) m t = elim (or_cases (same_location m l) (same_location m h || false) t) [
  | inl e ↦ (L, subst (λ y. IsSame o L y) (sym (location_same m l e)) a.same, or_here (is_same_holder L L) (is_same_holder L M || false) (place_itself L))
  | inr e ↦ (
    M,
    subst (λ y. IsSame o M y) (sym (location_same m h (sym (or_none (same_location m h)) ∙ e))) b.same,
    or_there (is_same_holder M L) (is_same_holder M M || false) (or_here (is_same_holder M M) false (place_itself M)),
  )
]
half_spot o body exposed _ _ _ (HasBytes.as_word HasWord.constant_word) m t = absurd (true≢false (sym t))
half_spot o body exposed _ _ _ (HasBytes.as_word (HasWord.of_pointer none)) m t = absurd (true≢false (sym t))
half_spot o body exposed _ _ _ (HasBytes.as_word (HasWord.open_word opens next kept)) m t = absurd (true≢false (sym t))

-- the bytes of the operation's operand in the frame are accessed
accessed_spots : (body : Body) (op : Op) (a : Operand) → ((w : Width) (ea : Ea) → memory_of a ≡ Some (w, ea) → memory_operand op ≡ Some (w, ea)) → (k : ℤ) → any_at (spots_of body a) (in_frame k) ≡ true
    → is_accessed_by body op k ≡ true
accessed_spots body op a named k t = by (memory_of a) refl (sym (frame_bytes body a k) ∙ t)
  where
    by : (m : Option (Width × Ea)) → memory_of a ≡ m → list_any (λ spot. is_at spot (in_frame k)) (spots_of_memory body m) ≡ true → is_accessed_by body op k ≡ true
    by None e t = absurd (true≢false (sym t))
    by (Some (w, ea)) e t = ap (λ m. list_any (λ spot. is_at spot (in_frame k)) (spots_of_memory body m)) (named w ea e) ∙ t

module _ (image : Image) (program : Analysed) (p : Program) (is : IsTranslated image program p) (entry : ℕ) (x : refined.Link image program p is entry) (at height : ℕ) (high : height_in x.own at ≡ Some height) where
  abbrev layout : Layout
  layout = program.layout

  abbrev coarse : Procedures ℕ Holder ℤ
  coarse = setting.coarse image program p is entry x

  abbrev fine : Procedures Position Loc Loc
  fine = setting.fine image program p is entry x

  abbrev body : Body
  body = refined.body image program p is entry x

  abbrev o : Option Procedure
  o = procedure_at (procedures_in program) entry

  abbrev q : Procedure
  q = refined.procedure image program p is entry x

  abbrev exposed : Holder → Bool
  exposed = (coarse.procedure entry).is_exposed

  exposed_is : (k : ℤ) → (coarse.procedure entry).is_exposed (in_frame k) ≡ is_exposed_holder body (in_frame k)
  exposed_is k = ap (λ g. g.is_exposed (in_frame k)) (refined.coarse_is image program p is entry x)

  module _ (node : Node) (op : Op) (stands : node_in x.proc.nodes.entries at ≡ Some (point_with_op node height op).node) where
    abbrev here : Node
    here = (point_with_op node height op).node

    there : IsNodeFound image layout x.proc.entry (at, here)
    there = refined.found_there image program p is entry x at here stands

    is_height : IsHeight image layout x.proc.entry at (pos height)
    is_height = height_holds (λ found. IsHeight image layout x.proc.entry found.0 (pos found.1)) x.own at height x.are_heights.each high

    has : HasHeight image layout x.proc.entry at (pos height)
    has = record { before = there.node.before; gives = is_height there.node.before there.node.trail }

    trail_there : IsAt image layout x.proc.entry at there.node.before (pos height)
    trail_there = record { is_entry = x.reached; trail = there.node.trail; gives = is_height there.node.before there.node.trail }

    form_there : IsForm image layout x.proc.entry at height op
    form_there =
        let node_of = in-form.nodes layout.cpu image program x.proc.entry at there.node.before height is.of_file trail_there in
        let same : node_of.instr ≡ here.instr = cc (node_of.stands, there.instr) in
        subst (λ (i : Instr). IsForm image layout x.proc.entry at height i.op) same node_of.form

    -- Operands.

    module _ (a : Operand) (named : (w : Width) (ea : Ea) → memory_of a ≡ Some (w, ea) → memory_operand op ≡ Some (w, ea)) (uses : is_by_bp a ≡ true → uses_bp_address op ≡ true) where
      abbrev Bytes : Operand → OperandPlace → Type 0
      Bytes b Q = AreBytesAt o body exposed (operand_width b) b Q

      module _ (w : Width) (ea : Ea) (e : a ≡ Mem w ea) where
        operand : memory_operand op ≡ Some (w, ea)
        operand = named w ea (ap memory_of e)

        by_base : is_direct ea ≡ true → uses_bp_address op ≡ true
        by_base d = uses (ap is_by_bp e ∙ or_here (is_bp ea.base) (is_bp ea.index) (and_left (is_bp ea.base) (is_none ea.index) d))

        direct_access : is_direct ea ≡ true → AccessAt o q x.procedure_found x.own w (offset_in_frame ea)
        direct_access d = access_at image program p is entry x at here stands w ea operand d (by_base d)

        memory_bytes : IsSource (Mem w ea) → AreBytesAt o body exposed w (Mem w ea) (operand_place q height (Mem w ea))
        memory_bytes source = by (is_direct ea) refl
          where
            by : (b : Bool) → is_direct ea ≡ b → AreBytesAt o body exposed w (Mem w ea) (if b then frame_place q w (offset_in_frame ea) else memory w (computed_expr (address_of ea)))
            by true d =
                direct_bytes o q x.procedure_found x.own exposed exposed_is w ea (x.is_frame.framed ∙ framed_there image program p is entry x at here stands w ea operand d (by_base d)) d (direct_access d)
            by false d = indirect_bytes o body exposed w ea d source.plain

        -- the place of a memory operand may be exchanged
        memory_exchangeable : is_exchangeable (operand_place q height (Mem w ea)) ≡ true
        memory_exchangeable = by (is_direct ea) refl
          where
            of_access : AccessAt o q x.procedure_found x.own w (offset_in_frame ea) → is_exchangeable (frame_place q w (offset_in_frame ea)) ≡ true
            of_access (AccessAt.byte_access n h v place inside) = ap (λ u. is_exchangeable (frame_place q u (offset_in_frame ea))) v ∙ ap is_exchangeable place
            of_access (AccessAt.word_access n v place low next inside inside_next) = ap (λ u. is_exchangeable (frame_place q u (offset_in_frame ea))) v ∙ ap is_exchangeable place
            of_access (AccessAt.open_access place opens next) = ap is_exchangeable place

            by : (b : Bool) → is_direct ea ≡ b → is_exchangeable (if b then frame_place q w (offset_in_frame ea) else memory w (computed_expr (address_of ea))) ≡ true
            by true d = of_access (direct_access d)
            by false d = refl

      operand_by : (b : Operand) → a ≡ b → is_named b ≡ true → IsSource b → AreBytesAt o body exposed (operand_width b) b (operand_place q height b)
      operand_by (Word Ax) e t s = word_bytes o body exposed Ax refl
      operand_by (Word Cx) e t s = word_bytes o body exposed Cx refl
      operand_by (Word Dx) e t s = word_bytes o body exposed Dx refl
      operand_by (Word Bx) e t s = word_bytes o body exposed Bx refl
      operand_by (Word Si) e t s = word_bytes o body exposed Si refl
      operand_by (Word Di) e t s = word_bytes o body exposed Di refl
      operand_by (Word Sp) e t s = pointer_bytes o body exposed Sp (computed_expr (stack_pointer q height)) refl (reads_computed (stack_pointer q height))
      operand_by (Word Bp) e t s = pointer_bytes o body exposed Bp (computed_expr (frame_pointer height)) refl (reads_computed (frame_pointer height))
      operand_by (Byte r h) e t s = byte_bytes o body exposed r h t
      operand_by (Const v n) e t s = constant_bytes o body exposed v n
      operand_by (Seg n) e t s = absurd (true≢false (sym t))
      operand_by (Mem w ea) e t s = memory_bytes w ea e s

      operand_bytes : is_named a ≡ true → IsSource a → AreBytesAt o body exposed (operand_width a) a (operand_place q height a)
      operand_bytes t s = operand_by a refl t s

      exchangeable_by : (b : Operand) → a ≡ b → IsTarget b → is_sp_or_bp b ≡ false → is_exchangeable (operand_place q height b) ≡ true
      exchangeable_by (Word Ax) e t s = refl
      exchangeable_by (Word Cx) e t s = refl
      exchangeable_by (Word Dx) e t s = refl
      exchangeable_by (Word Bx) e t s = refl
      exchangeable_by (Word Si) e t s = refl
      exchangeable_by (Word Di) e t s = refl
      exchangeable_by (Word Sp) e t s = absurd (true≢false s)
      exchangeable_by (Word Bp) e t s = absurd (true≢false s)
      exchangeable_by (Byte r h) e t s = refl
      exchangeable_by (Const v n) e t s = absurd t
      exchangeable_by (Seg n) e t s = absurd t
      exchangeable_by (Mem w ea) e t s = memory_exchangeable w ea e

      -- a byte of the operand is none of a pushed word
      unpushed : (w : Width) (Q : OperandPlace) → AreBytesAt o body exposed w a Q → (m : Loc) → is_among (low_of Q ++ high_of Q) m ≡ true → is_pushed (pushed_of q) m ≡ false
      unpushed w Q bytes m t = by (half_spot o body exposed w (spots_of body a) Q bytes.bytes m t)
        where
          at_place : (L : Holder) → IsSame o L m → any_at (spots_of body a) L ≡ true → SameCases o L m → is_pushed (pushed_of q) m ≡ false
          at_place L s i (SameCases.by_held location c e f) = ap (is_pushed (pushed_of q)) f ∙ inner location
            where
              inner : (l : Location) → is_pushed (pushed_of q) (inner_of l) ≡ false
              inner (half_of r h) = refl
              inner (flag_of g) = refl
          at_place L s i (SameCases.by_kept found k c e kept f) = elim (decided (is_pushed (pushed_of q) m)) [
            | inr n ↦ n
            | inl u ↦
                let same : found ≡ q = cc (c, x.procedure_found) in
                let saved : IsSameWord o k m = record { found = q; is_found = x.procedure_found; kept = subst (λ (r : Procedure). frame_place r byte_width k ≡ byte m) same f; pushed = u } in
                absurd (true≢false (sym (accessed_spots body op a named k (ap (any_at (spots_of body a)) (sym e) ∙ i)) ∙ unreached o q x.procedure_found x.own at here stands k m saved))
          ]

          by : (L : Holder) × IsSame o L m × (any_at (spots_of body a) L ≡ true) → is_pushed (pushed_of q) m ≡ false
          by found = at_place found.0 found.1 found.2 (same_cases o found.1)

    -- Words of the stack.

    celled : (k : ℤ) (w : Loc) → IsSameWord o k w → is_in_cell body k ≡ true
    celled k w saved =
        let same : saved.found ≡ q = cc (saved.is_found, x.procedure_found) in
        in_some_cell image program p is entry x k w (subst (λ (r : Procedure). frame_place r byte_width k ≡ byte w) same saved.kept)

    word_unreached : (k : ℤ) (w : Loc) → IsSameWord o k w → is_accessed_by body op k ≡ false
    word_unreached k w saved = unreached o q x.procedure_found x.own at here stands k w saved

    -- a word that the instruction moves
    word_access : (k : ℤ) → IsMovedWord image layout x.proc.entry at (span_of k 2) → AccessAt o q x.procedure_found x.own word_width k
    word_access k moved =
        piece_access image program p is entry x k word_width (subst (λ n. IsPiece image layout n (span_of k (bytes_in word_width))) x.entry_is (used there.node (IsUsed.moved moved)))

  -- Together.

  module _ (node : Node) (goes : (b : ℕ) × Contains ((coarse.procedure entry).next at) b) where
    module _ (to from : Operand) (stands : node_in x.proc.nodes.entries at ≡ Some (point_with_op node height (Mov to from)).node) where
      mov_named : (is_named to && is_named from) ≡ true
      mov_named = and_left (is_named to && is_named from) (are_alike to from) (decoded_there image program p is entry x at (point_with_op node height (Mov to from)).node stands)

      mov_width : operand_width to ≡ operand_width from
      mov_width =
          one_width (operand_width to) (operand_width from)
          (and_right (is_named to && is_named from) (are_alike to from) (decoded_there image program p is entry x at (point_with_op node height (Mov to from)).node stands))

      pub mov_there : is_frame_move (Mov to from) ≡ false → AgreesWithItsStatements image program p entry at (refined.scene image program p is entry x) (point_with_op node height (Mov to from)).node height
      mov_there e =
          let op = Mov to from in
          let have = have_places image program p is entry x at (point_with_op node height op).node stands in
          let v = moving_operation image program p is entry x at (point_with_op node height op).node height stands high refl goes in
          let P = operand_place q height to in
          let Q = operand_place q height from in
          let target = operand_bytes node op stands to (first_named to from) (λ u. or_here (is_by_bp to) (is_by_bp from) u) (and_left (is_named to) (is_named from) mov_named) (source-of to have.target) in
          let source = subst (λ w. AreBytesAt o body exposed w from (operand_place q height from)) (sym mov_width)
          (operand_bytes node op stands from (second_named to from have.one) (λ u. or_there (is_by_bp to) (is_by_bp from) u) (and_right (is_named to) (is_named from) mov_named) have.source) in
          subst (λ ss. Agrees coarse fine (lifted_refinement program) entry at (pushed_of q) ss [])
          (sym (ap (λ b. if b then [] else mov_stmts (operand_width to) (operand_place q height to) (operand_place q height from)) (mov_moves_none to from e)))
          (mov_agrees coarse fine (lifted_refinement program) entry at (pushed_of q) o (bodies_of program) body node height to from v (operand_width to) P Q target source
          (unpushed node op stands from (second_named to from have.one) (λ u. or_there (is_by_bp to) (is_by_bp from) u) (operand_width to) Q source)
          (record {
            unreached = λ k w t. word_unreached node op stands k w t;
            only = λ k m. accessed_spots body op to (first_named to from) k (sym (between_to (of_either to from) (spots_of body to) (spots_of body from) (in_frame k)) ∙ m);
            pushes_none = refl;
          }))

    module _ (a b : Operand) (stands : node_in x.proc.nodes.entries at ≡ Some (point_with_op node height (Xchg a b)).node) where
      xchg_named : (is_named a && is_named b) ≡ true
      xchg_named = and_left (is_named a && is_named b) (are_alike a b) (decoded_there image program p is entry x at (point_with_op node height (Xchg a b)).node stands)

      xchg_width : operand_width a ≡ operand_width b
      xchg_width =
          one_width (operand_width a) (operand_width b)
          (and_right (is_named a && is_named b) (are_alike a b) (decoded_there image program p is entry x at (point_with_op node height (Xchg a b)).node stands))

      xchg_only : ((w : Width) (ea : Ea) → memory_of b ≡ Some (w, ea) → memory_operand (Xchg a b) ≡ Some (w, ea)) → (k : ℤ) → moved_to (moves_of body height (Xchg a b)) (in_frame k) ≡ true → is_accessed_by body (Xchg a b) k ≡ true
      xchg_only second k m =
          elim (or_cases (moved_to (moves_between (of_either a b) (spots_of body a) (spots_of body b)) (in_frame k)) (moved_to (moves_between (of_either a b) (spots_of body b) (spots_of body a)) (in_frame k))
          (sym (list_any-append (λ (move : Move). is_at move.to (in_frame k)) (moves_between (of_either a b) (spots_of body a) (spots_of body b)) (moves_between (of_either a b) (spots_of body b) (spots_of body a))) ∙ m)) [
            | inl t ↦ accessed_spots body (Xchg a b) a (first_named a b) k (sym (between_to (of_either a b) (spots_of body a) (spots_of body b) (in_frame k)) ∙ t)
            | inr t ↦ accessed_spots body (Xchg a b) b second k (sym (between_to (of_either a b) (spots_of body b) (spots_of body a) (in_frame k)) ∙ t)
          ]

      pub xchg_there : AgreesWithItsStatements image program p entry at (refined.scene image program p is entry x) (point_with_op node height (Xchg a b)).node height
      xchg_there =
          let op = Xchg a b in
          let have = have_places image program p is entry x at (point_with_op node height op).node stands in
          let v = moving_operation image program p is entry x at (point_with_op node height op).node height stands high refl goes in
          let P = operand_place q height a in
          let Q = operand_place q height b in
          let a_named = and_left (is_named a) (is_named b) xchg_named in
          let b_named = and_right (is_named a) (is_named b) xchg_named in
          let written = xchg_form image layout x.proc.entry at height a b (form_there node op stands) in
          let sp = or-none (is_half_of Sp Low a) (is_half_of Sp Low b) (written.0 Low) in
          let bp = or-none (is_half_of Bp Low a) (is_half_of Bp Low b) (written.1 Low) in
          let a_plain = pointer_free a a_named sp.0 bp.0 in
          let b_plain = pointer_free b b_named sp.1 bp.1 in
          let second = second_named a b (ap (λ c. is_memory a && c) (register_apart b have.register) ∙ and_false (is_memory a)) in
          let first = operand_bytes node op stands a (first_named a b) (λ u. or_here (is_by_bp a) (is_by_bp b) u) a_named (source-of a have.target) in
          let other = subst (λ w. AreBytesAt o body exposed w b (operand_place q height b)) (sym xchg_width)
          (operand_bytes node op stands b second (λ u. or_there (is_by_bp a) (is_by_bp b) u) b_named (register_source b have.register)) in
          xchg_agrees coarse fine (lifted_refinement program) entry at (pushed_of q) o (bodies_of program) body node height a b v (operand_width a) P Q first other
          (exchangeable_by node op stands a (first_named a b) (λ u. or_here (is_by_bp a) (is_by_bp b) u) a refl have.target a_plain) (halves_place q height b have.register b_plain)
          (unpushed node op stands b second (λ u. or_there (is_by_bp a) (is_by_bp b) u) (operand_width a) Q other)
          (record { unreached = λ k w t. word_unreached node op stands k w t; only = xchg_only second; pushes_none = refl })

    -- a word
    wide_there : (op : Op) (a : Operand) → (is_named a && is_wide a) ≡ true → (is_named a ≡ true) × (operand_width a ≡ word_width)
    wide_there op a t = (and_left (is_named a) (is_wide a) t, one_width (operand_width a) word_width (and_right (is_named a) (is_wide a) t))

    private_there : (j : ℤ) (c : Loc) → frame_place q byte_width j ≡ byte c → (coarse.procedure entry).is_private j ≡ is_pushed (pushed_of q) c
    private_there j c place = ap (λ g. g.is_private j) (refined.coarse_is image program p is entry x) ∙ private_is image program p is entry x j c place

    pub pop_there : (a : Operand) (stands : node_in x.proc.nodes.entries at ≡ Some (point_with_op node height (Pop a)).node) → is_frame_move (Pop a) ≡ false
        → AgreesWithItsStatements image program p entry at (refined.scene image program p is entry x) (point_with_op node height (Pop a)).node height
    pop_there a stands e = elim (pop_form image layout x.proc.entry at height a (form_there node (Pop a) stands)) [
      | inl same ↦ absurd (true≢false (sym (ap (λ c. is_frame_move (Pop c)) same) ∙ e))
      | inr plain ↦
          let op = Pop a in
          let have = have_places image program p is entry x at (point_with_op node height op).node stands in
          let v = moving_operation image program p is entry x at (point_with_op node height op).node height stands high refl goes in
          let wide = wide_there op a (decoded_there image program p is entry x at (point_with_op node height op).node stands) in
          let bytes = subst (λ w. AreBytesAt o body exposed w a (operand_place q height a)) wide.1 (operand_bytes node op stands a (λ w ea d. d) (λ u. u) wide.0 (source-of a have)) in
          let access = word_access node op stands (popped_offset height)
          (popped ((point_with_op node height op).node.instr, (there node op stands).instr, refl) (λ saved. true≢false (sym (ap is_sp_or_bp saved.1) ∙ plain)) (has node op stands)) in
          subst (λ ss. Agrees coarse fine (lifted_refinement program) entry at (pushed_of q) ss [])
          (sym (ap (λ b. if b then [] else mov_stmts word_width (operand_place q height a) (frame_place q word_width (popped_offset height))) (pop_moves_none a plain)))
          (pop_agrees coarse fine (lifted_refinement program) entry at o q x.procedure_found x.own (bodies_of program) node height a v private_there
          (λ j opens. ap (λ g. g.is_private j) (refined.coarse_is image program p is entry x) ∙ open_private image program p is entry x j opens) (λ j c s. s) (operand_place q height a) bytes access
          (record {
            unreached = λ k w t. word_unreached node op stands k w t;
            only = λ k m. accessed_spots body op a (λ w ea d. d) k (sym (popping_to body a (spots_of body a) (popped_offset height) (in_frame k)) ∙ m);
            pushes_none = refl;
          }))
    ]

    pub push_there : (a : Operand) (stands : node_in x.proc.nodes.entries at ≡ Some (point_with_op node height (Push a)).node)
        → AgreesWithItsStatements image program p entry at (refined.scene image program p is entry x) (point_with_op node height (Push a)).node height
    push_there a stands = by (push_form image layout x.proc.entry at height a (form_there node (Push a) stands))
      where
        pushes : is_sp_or_bp a ≡ false → AgreesWithItsStatements image program p entry at (refined.scene image program p is entry x) (point_with_op node height (Push a)).node height
        pushes plain =
            let op = Push a in
            let have = have_places image program p is entry x at (point_with_op node height op).node stands in
            let v = moving_operation image program p is entry x at (point_with_op node height op).node height stands high refl goes in
            let wide = wide_there op a (decoded_there image program p is entry x at (point_with_op node height op).node stands) in
            let bytes = subst (λ w. AreBytesAt o body exposed w a (operand_place q height a)) wide.1 (operand_bytes node op stands a (λ w ea d. d) (λ u. u) wide.0 have) in
            let access = word_access node op stands (pushed_offset height)
            (pushed ((point_with_op node height op).node.instr, (there node op stands).instr, refl) (λ saved. true≢false (sym (ap is_sp_or_bp saved.1) ∙ plain)) (has node op stands)) in
            subst (λ ss. Agrees coarse fine (lifted_refinement program) entry at (pushed_of q) ss [])
            (sym (ap (λ b. if b then [] else mov_stmts word_width (frame_place q word_width (pushed_offset height)) (operand_place q height a)) (push_moves_none a plain)))
            (push_agrees coarse fine (lifted_refinement program) entry at o q x.procedure_found x.own (bodies_of program) node height a v (operand_place q height a) bytes access)

        -- the saved BP is the word at the base
        saves : is_framed image layout x.proc.entry ≡ true → height ≡ 0 → (stands : node_in x.proc.nodes.entries at ≡ Some (point_with_op node height (Push (Word Bp))).node)
            → AgreesWithItsStatements image program p entry at (refined.scene image program p is entry x) (point_with_op node height (Push (Word Bp))).node height
        saves framed low stands =
            push_bp_agrees coarse fine (lifted_refinement program) entry at o q x.procedure_found x.own (bodies_of program) node height
            (moving_operation image program p is entry x at (point_with_op node height (Push (Word Bp))).node height stands high refl goes)
            (saved_apart image program p is entry x framed (pushed_offset height) (omega (arith, ints, low)) (omega (arith, ints, low)))
            (saved_apart image program p is entry x framed (pushed_offset height +ℤ pos 1) (omega (arith, ints, low)) (omega (arith, ints, low))) (celled node (Push (Word Bp)) stands)

        by : PushForm image layout x.proc.entry at height a → AgreesWithItsStatements image program p entry at (refined.scene image program p is entry x) (point_with_op node height (Push a)).node height
        by (PushForm.pushes_other plain) = pushes plain
        by (PushForm.saves_bp same framed low) =
            subst (λ c. AgreesWithItsStatements image program p entry at (refined.scene image program p is entry x) (point_with_op node height (Push c)).node height) (sym same)
            (saves framed low (subst (λ c. node_in x.proc.nodes.entries at ≡ Some (point_with_op node height (Push c)).node) same stands))
