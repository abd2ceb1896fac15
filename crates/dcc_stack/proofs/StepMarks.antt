-- After a clean step each byte that is marked lies at SP or above.
use Rattle.std.proofs.Common.{◌≡◌, inl, inr, ℕ, ◌+◌, ◌-◌, ◌*◌, ◌<◌, ◌≤◌, Bool, true, false, List, [], ◌∷◌, ◌++◌, length, Some, None, Contains, refl, sym, ap, ◌∙◌, arith, leb-true}
use Rattle.std.specs.Prelude.{not, ◌&&◌, filter, flat_map, nat_le, if◌then◌else◌}
use Rattle.std.specs.List.{filter_map, cons_option}
use Rattle.std.proofs.lemmas.Bool.{cases_lt}
use Rattle.std.proofs.lemmas.List.Elements.{Contains-append_left, Contains-append_right, Contains-append_cases}
use Rattle.dcc_machine.specs.declared.image.Image.{Image}
use Rattle.dcc_prog.specs.declared.procedure.Layout.{Layout}
use Rattle.dcc_machine.specs.declared.instr.Op.{Op}
use Rattle.dcc_machine.specs.Machine.{State}
use Rattle.dcc_machine.specs.Access.{Reading, Writing, Access, addresses_of, written_in, written_by}
use Rattle.dcc_prog.specs.Clean.{stack_offset, is_reading, top_in, is_marked, written_after}
use Rattle.dcc_prog.proofs.StackMarks.{head_or_rest, in_rest, at_head, marked-within, marks-go}
use Rattle.dcc_stack.specs.Standing.{Activation}
use Rattle.dcc_stack.specs.Apart.{is_pushing, MayWrite, off_stack, in_frames, pushed}

-- Stored bytes.

-- a stored byte is one of these addresses
found-at :
    (layout : Layout) (addresses : List ℕ) (offset : ℕ) → Contains (filter_map (stack_offset layout) addresses) offset
    → (address : ℕ) × Contains addresses address × (stack_offset layout address ≡ Some offset)
found-at layout [] offset has = let inside = has.1 in absurd (omega (arith, inside))
found-at layout (first ∷ rest) offset has =
    let further : Contains (filter_map (stack_offset layout) rest) offset
    → (address : ℕ) × Contains (first ∷ rest) address × (stack_offset layout address ≡ Some offset) = λ later.
    let found = found-at layout rest offset later in (found.0, in_rest first found.0 rest found.1, found.2) in
    elim (stack_offset layout first) as (λ o. stack_offset layout first ≡ o
    → Contains (cons_option o (filter_map (stack_offset layout) rest)) offset
    → (address : ℕ) × Contains (first ∷ rest) address × (stack_offset layout address ≡ Some offset)) [
      | None ↦ λ none later. further later
      | Some here ↦ λ some later. elim (head_or_rest here offset (filter_map (stack_offset layout) rest) later) [
        | inl same ↦ (first, at_head first first rest refl, some ∙ ap Some same)
        | inr beyond ↦ further beyond
      ]
    ] refl has

-- the addresses of the accesses that store are those that are written
storing-writes :
    (list : List Access) (address : ℕ)
    → Contains (flat_map addresses_of (filter (λ access. not (is_reading access)) list)) address
    → Contains (written_by list) address
storing-writes [] address has = has
storing-writes (access ∷ rest) address has =
    let storing = filter (λ other. not (is_reading other)) rest in
    elim access.direction as (λ direction.
    Contains
    (flat_map addresses_of
    (if not (elim direction [ Reading ↦ true | Writing ↦ false ]) then access ∷ storing else storing)) address
    → Contains (written_in direction (addresses_of access) ++ written_by rest) address) [
      | Reading ↦ λ later. storing-writes rest address later
      | Writing ↦ λ later.
          elim (Contains-append_cases (addresses_of access) (flat_map addresses_of storing) address later) [
            | inl here ↦ Contains-append_left (addresses_of access) (written_by rest) address here
            | inr beyond ↦ Contains-append_right (addresses_of access) (written_by rest) address
                (storing-writes rest address beyond)
          ]
    ] has

-- the address of a byte of the stack
address-is :
    (layout : Layout) (address offset : ℕ) → stack_offset layout address ≡ Some offset
    → address ≡ layout.ds * 16 + offset
address-is layout address offset is =
    by (nat_le (layout.ds * 16 + layout.lo) address) (not (nat_le (layout.ds * 16 + layout.hi) address)) refl is
  where
    by :
        (above within : Bool) → nat_le (layout.ds * 16 + layout.lo) address ≡ above
        → (if above && within then Some (address - layout.ds * 16) else None) ≡ Some offset
        → address ≡ layout.ds * 16 + offset
    by false within e none = cc
    by true false e none = cc
    by true true e some =
        let from = leb-true (layout.ds * 16 + layout.lo) address e in
        let is : address - layout.ds * 16 ≡ offset = cc in
        omega (arith, from, is)

-- Marks.

-- what may be written of the stack lies at the new SP or above
may-above :
    (image : Image) (layout : Layout) (activations : List Activation) (from to : ℕ) (op : Op) (address offset : ℕ)
    → (is_pushing op ≡ true → to + 2 ≤ from) → MayWrite image layout activations from op address
    → stack_offset layout address ≡ Some offset → offset < from → to ≤ offset
may-above image layout activations from to op address offset falls (off_stack low none) is below =
    let both = sym none ∙ is in cc
may-above image layout activations from to op address offset falls (in_frames other same above apart) is below =
    let here = address-is layout address offset is in absurd (omega (arith, here, same, above, below))
may-above image layout activations from to op address offset falls (pushed other same pushing near) is below =
    let here = address-is layout address offset is in
    let room = falls pushing in
    elim near [
      | inl one ↦ omega (arith, here, same, room, one)
      | inr two ↦ omega (arith, here, same, room, two)
    ]

pub marks-above :
    (image : Image) (layout : Layout) (activations : List Activation) (op : Op) (list : List Access) (s t : State)
    (written : List Bool) → ((offset : ℕ) → is_marked written offset ≡ true → top_in layout s ≤ offset)
    → ((address : ℕ) → Contains (written_by list) address
    → MayWrite image layout activations (top_in layout s) op address)
    → (is_pushing op ≡ true → top_in layout t + 2 ≤ top_in layout s)
    → (offset : ℕ)
    → is_marked (written_after layout list (top_in layout s) (top_in layout t) written) offset ≡ true
    → top_in layout t ≤ offset
marks-above image layout activations op list s t written were writes falls offset is =
    let go = marks-go layout list s t written in
    elim (cases_lt offset (top_in layout t)) [
      | inr above ↦ above
      | inl below ↦ elim (cases_lt offset (top_in layout s)) [
        | inr left ↦
            let within : offset < length written =
            let marked =
            marked-within (written_after layout list (top_in layout s) (top_in layout t) written) offset is in
            omega (arith, marked, go.size) in
            let both = sym is ∙ go.left offset within (left, below) in
            absurd (cc)
        | inl under ↦ elim (go.from offset is) [
          | inl stored ↦
              let found =
              found-at layout (flat_map addresses_of (filter (λ access. not (is_reading access)) list)) offset stored in
              may-above image layout activations (top_in layout s) (top_in layout t) op found.0 offset falls
              (writes found.0 (storing-writes list found.0 found.1)) found.2 under
          | inr was ↦ let above = were offset was in absurd (omega (arith, above, under))
        ]
      ]
    ]
