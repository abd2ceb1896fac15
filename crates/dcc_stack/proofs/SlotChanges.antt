-- Which arguments a procedure may change, by what is found for it, and which bytes of a frame its accesses reach.
use Rattle.std.proofs.Common.{◌≡◌, ◌≤◌, ◌<◌, inl, inr, ℕ, ◌+◌, ◌*◌, pos, Bool, true, false, List, Contains, slice_get, Option, Some, None, refl, sym, ap, ◌∙◌, arith}
use Rattle.std.specs.Prelude.{◌+ℤ◌, ◌-ℤ◌, ◌≤ℤ◌, ◌<ℤ◌, int_lt, ◌&&◌, if◌then◌else◌}
use Rattle.std.specs.List.{list_any}
use Rattle.std.proofs.lemmas.Bool.{and_parts, and_from, or_left, or_right}
use Rattle.std.proofs.lemmas.Int.{ints}
use Rattle.std.proofs.lemmas.List.Elements.{All-contains}
use Rattle.std.proofs.lemmas.Option.{slice_get_within, get_or_from_slice_get}
use Rattle.dcc_num.specs.declared.Width.{Width}
use Rattle.dcc_machine.specs.declared.cpu.Cpu.{Cpu}
use Rattle.dcc_machine.specs.declared.image.Image.{Image}
use Rattle.dcc_prog.specs.declared.procedure.Layout.{Layout}
use Rattle.dcc_prog.specs.declared.procedure.Node.{Node}
use Rattle.dcc_prog.specs.declared.procedure.Proc.{Proc}
use Rattle.dcc_prog.specs.declared.frame.Frame.{Frame}
use Rattle.dcc_prog.specs.declared.frame.Program.{Program}
use Rattle.dcc_machine.specs.declared.instr.Ea.{Ea}
use Rattle.dcc_machine.specs.declared.instr.Op.{Op}
use Rattle.dcc_machine.specs.declared.instr.Instr.{Instr}
use Rattle.dcc_machine.specs.Access.{bytes_in, is_direct}
use Rattle.dcc_prog.specs.Trail.{StandsAt, IsNode, IsEntry}
use Rattle.dcc_prog.specs.FrameForm.{is_framed}
use Rattle.dcc_prog.specs.Frame.{Span, span_of, memory_operand, offset_in_frame, argument_word, own_bytes, IsDirectAccess, direct, IsSlot}
use Rattle.dcc_prog.specs.Found.{IsNodeFound, IsFound}
use Rattle.dcc_prog.specs.Clean.{LiveFrame, end_of}
use Rattle.dcc_prog.proofs.FrameLaws.{arguments-once}
use Rattle.dcc_machine.proofs.AlikeValues.{or-parts}
use Rattle.dcc_stack.specs.Accepted.{IsProgramOfFile, IsFrameFor, IsInFrame, in_arguments, in_locals, AcceptedProgramsAreInForm}
use Rattle.dcc_stack.specs.Standing.{Activation, StandsIn}
use Rattle.dcc_stack.specs.Apart.{IsApart}
use Rattle.dcc_stack.specs.Slots.{writes_memory, IsGivenBack, by_write, by_exposure, IsChangeable, exposes_of, direct_bytes, overlaps, writes_directly, gives_back}
use Rattle.dcc_stack.specs.SlotLaws.{IsArgumentByte}
use Rattle.dcc_stack.proofs.ApartFrames.{control-most}
use Rattle.dcc_stack.proofs.SlotPlaces.{lt-tells, lt-told, any-tells, any-told, exposed-slot-tells, exposed-slot-told}
use Rattle.dcc_stack.proofs.SlotFrames.{end-is, base-end}
use Rattle.dcc_stack.proofs.SlotWrites.{argument-changeable}

listed-in : {X : Type 0} (xs : List X) (k : ℕ) (x : X) → slice_get xs k ≡ Some x → Contains xs x
listed-in xs k x there = (k, slice_get_within xs k x there, get_or_from_slice_get xs k x x there)

-- one operation stands at an offset
one-op : (image : Image) (layout : Layout) (at : ℕ) (op other : Op) → StandsAt image layout at op
    → StandsAt image layout at other
    → op ≡ other
one-op image layout at op other (instr, found, is) (instr', found', is') =
    let same : Some instr ≡ Some instr' = sym found ∙ found' in
    let one : instr ≡ instr' = cc in
    sym is ∙ ap (λ (i : Instr). i.op) one ∙ is'

module _ (image : Image) (layout : Layout) (entry : ℕ) (word : Span) where
  -- a direct access with a byte of the word
  record IsDirect (at : ℕ) (op : Op) : Type 0 where
    span : Span
    access : IsDirectAccess image layout entry at span
    before : span.first <ℤ word.end
    after : word.first <ℤ span.end

  direct-tells : (at : ℕ) (op : Op) → is_framed image layout entry ≡ true → StandsAt image layout at op
      → overlaps word (direct_bytes (memory_operand op)) ≡ true
      → IsDirect at op
  direct-tells at op framed stands e = by (memory_operand op) refl e
    where
      by-width : (width : Width) (ea : Ea) (b : Bool) → memory_operand op ≡ Some (width, ea) → is_direct ea ≡ b
          → overlaps word (if b then Some (span_of (offset_in_frame ea) (bytes_in width)) else None) ≡ true
          → IsDirect at op
      by-width width ea true operand is e =
          let span = span_of (offset_in_frame ea) (bytes_in width) in
          let both = and_parts (int_lt span.first word.end) (int_lt word.first span.end) e in
          record {
            span = span;
            access = direct framed stands operand is;
            before = lt-tells span.first word.end both.0;
            after = lt-tells word.first span.end both.1;
          }
      by-width width ea false operand is e = cc

      by : (m : Option (Width × Ea)) → memory_operand op ≡ m → overlaps word (direct_bytes m) ≡ true → IsDirect at op
      by None operand e = cc
      by (Some (width, ea)) operand e = by-width width ea (is_direct ea) operand refl e

  direct-told : {at : ℕ} {span : Span} (op : Op) → StandsAt image layout at op
      → IsDirectAccess image layout entry at span
      → span.first <ℤ word.end → word.first <ℤ span.end
      → (is_framed image layout entry ≡ true) × (overlaps word (direct_bytes (memory_operand op)) ≡ true)
  direct-told {at = at} op stands (direct {op = other} {width = width} {ea = ea} framed stands' operand is) before
      after =
      let span = span_of (offset_in_frame ea) (bytes_in width) in
      let same = ap memory_operand (one-op image layout at op other stands stands') ∙ operand in (
        framed,
        ap (λ m. overlaps word (direct_bytes m)) same ∙ ap (λ b. overlaps word (if b then Some span else None)) is
            ∙ and_from (int_lt span.first word.end) (int_lt word.first span.end) (lt-told span.first word.end before)
            (lt-told word.first span.end after),
      )

-- Arguments that are given back.

module _ (image : Image) (program : Program) (proc : Proc) (frame : Frame) (number : ℕ)
    (f : IsFrameFor image program proc.entry frame) (found : IsFound image program.layout proc)
    (less : number < frame.args) where
  abbrev layout : Layout
  layout = program.layout

  abbrev word : Span
  word = argument_word number

  abbrev writes : ℕ × Node → Bool
  writes node = writes_directly node.1.instr.op word

  pub gives-tells : gives_back proc frame number ≡ true → IsGivenBack image layout proc.entry number
  gives-tells e = elim (or-parts (exposes_of frame word) (frame.framed && list_any writes proc.nodes.entries) e) [
    | inl exposed ↦
        by_exposure
        (exposed-slot-tells image program proc.entry frame f word (IsSlot.argument f.arguments less) exposed)
    | inr written ↦
        let both = and_parts frame.framed (list_any writes proc.nodes.entries) written in
        let node = any-tells writes proc.nodes.entries both.1 in
        let is =
        All-contains (IsNodeFound image layout proc.entry) proc.nodes.entries node.one found.nodes node.among in
        let op = node.one.1.instr.op in
        let parts = and_parts (writes_memory op) (overlaps word (direct_bytes (memory_operand op))) node.passes in
        let stands : StandsAt image layout node.one.0 op = (node.one.1.instr, is.instr, refl) in
        let access = direct-tells image layout proc.entry word node.one.0 op (sym f.framed ∙ both.0) stands parts.1 in
        by_write is.node stands parts.0 access.access access.before access.after
  ]

  pub gives-told : IsGivenBack image layout proc.entry number → gives_back proc frame number ≡ true
  gives-told (by_exposure exposed) =
      or_left (exposes_of frame word) (frame.framed && list_any writes proc.nodes.entries)
      (exposed-slot-told image program proc.entry frame f word exposed)
  gives-told (by_write {at = at} {op = op} node stands writing access before after) =
      let listed = found.every at node in
      let one : ℕ × Node = (at, listed.node) in
      let among = listed-in proc.nodes.entries listed.place one listed.listed in
      let is = All-contains (IsNodeFound image layout proc.entry) proc.nodes.entries one found.nodes among in
      let same = one-op image layout at listed.node.instr.op op (listed.node.instr, is.instr, refl) stands in
      let told = direct-told image layout proc.entry word op stands access before after in
      or_right (exposes_of frame word) (frame.framed && list_any writes proc.nodes.entries)
      (and_from frame.framed (list_any writes proc.nodes.entries) (f.framed ∙ told.0)
      (any-told writes proc.nodes.entries one among
      (ap (λ o. writes_directly o word) same
      ∙ and_from (writes_memory op) (overlaps word (direct_bytes (memory_operand op))) writing told.1)))

-- Bytes of the frame.

module _ (cpu : Cpu) (image : Image) (program : Program) (form : AcceptedProgramsAreInForm)
    (is : IsProgramOfFile cpu image program) where
  abbrev layout' : Layout
  layout' = program.layout

  pub frame-own : (memory : List ℕ) (a : Activation) (top bp : ℕ) (span : Span) (offset : ℕ)
      → (stands : StandsIn image layout' memory a top bp)
      → IsInFrame image layout' a.frame.entry stands.height span
      → span.first ≤ℤ (pos (offset + 4) -ℤ pos a.frame.base)
      → (pos (offset + 4) -ℤ pos a.frame.base) <ℤ span.end
      → (top ≤ offset) × (offset < end_of program a.frame) × IsApart image layout' offset a
  frame-own memory a top bp span offset stands (in_arguments {count = count} has low high) from to =
      let f = form.frames cpu image program a.frame.entry is stands.is_at.is_entry in
      let most = arguments-once has f.1.arguments in
      let end = end-is image program a.frame f.0 f.1 in
      let above : a.frame.base ≤ offset = omega (arith, ints, low, from) in
      let below : offset < a.frame.base + 2 * count = omega (arith, ints, high, to) in
      (omega (arith, above, stands.top_is), omega (arith, below, most, end), inr above)
  frame-own memory a top bp span offset stands (in_locals low high) from to =
      let up = base-end image program a.frame in
      let above : top ≤ offset = omega (arith, ints, low, from, stands.top_is) in
      let below : offset + 4 < a.frame.base = omega (arith, ints, high, to) in
      let most = control-most (is_framed image layout' a.frame.entry) in
      (above, omega (arith, below, up), inl (omega (arith, below, most)))

  pub tops-own : (memory : List ℕ) (a : Activation) (top bp offset : ℕ)
      → (stands : StandsIn image layout' memory a top bp)
      → pos offset <ℤ (pos top +ℤ own_bytes image layout' a.frame.entry (pos stands.height))
      → (offset < end_of program a.frame) × IsApart image layout' offset a
  tops-own memory a top bp offset stands less =
      let up = base-end image program a.frame in
      let below = by (is_framed image layout' a.frame.entry) less in
      (omega (arith, below, up), inl below)
    where
      by : (framed : Bool)
          → pos offset <ℤ (pos top +ℤ (if framed then pos stands.height -ℤ pos 2 else pos stands.height))
          → offset + (if framed then 4 else 2) < a.frame.base
      by true less = omega (arith, ints, less, stands.top_is)
      by false less = omega (arith, ints, less, stands.top_is)

  pub written-changeable : (frame : LiveFrame) (at : ℕ) (op : Op) (span : Span) (offset : ℕ)
      → IsEntry image layout' frame.entry → IsNode image layout' frame.entry at → StandsAt image layout' at op
      → writes_memory op ≡ true
      → IsDirectAccess image layout' frame.entry at span → span.first ≤ℤ (pos (offset + 4) -ℤ pos frame.base)
      → (pos (offset + 4) -ℤ pos frame.base) <ℤ span.end → IsArgumentByte program frame offset
      → IsChangeable image layout' frame offset
  written-changeable frame at op span offset reached node stands writing access from to inside =
      argument-changeable cpu image program form is frame offset reached inside.0 inside.1
      (λ found f number less above below.
      by_write node stands writing access (omega (arith, ints, from, below)) (omega (arith, ints, to, above)))
