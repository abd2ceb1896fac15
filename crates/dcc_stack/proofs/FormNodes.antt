-- The instructions at the nodes of accepted programs: their forms at their heights, and what they need that trails
-- tell.
use Rattle.std.proofs.Common.{◌≡◌, inl, ℕ, true, false, true≢false, not, ◌||◌, ℤ, pos, ◌+ℤ◌, List, [], ◌∷◌, Contains, Option, Some, None, is_some, refl, sym, ap, ◌∙◌, subst, arith, ◌<◌}
use Rattle.std.specs.Prelude.{is_none}
use Rattle.std.proofs.lemmas.Bool.{and_parts, and_from, or_left, or_right}
use Rattle.std.proofs.lemmas.Int.{ints, by_lt_z}
use Rattle.dcc_num.specs.declared.Width.{Width}
use Rattle.dcc_num.specs.declared.Reg.{Reg}
use Rattle.dcc_num.specs.declared.Reg.TheVariants.{Sp, Bp}
use Rattle.dcc_machine.specs.declared.cpu.Cpu.{Cpu}
use Rattle.dcc_machine.specs.declared.image.Image.{Image}
use Rattle.dcc_prog.specs.declared.procedure.Layout.{Layout}
use Rattle.dcc_prog.specs.declared.frame.Program.{Program}
use Rattle.dcc_machine.specs.declared.instr.Ea.{Ea}
use Rattle.dcc_machine.specs.declared.instr.Alu.TheVariants.{Add, Sub}
use Rattle.dcc_machine.specs.declared.instr.Unary.TheVariants.{Inc, Dec}
use Rattle.dcc_machine.specs.declared.instr.Operand.{Operand}
use Rattle.dcc_machine.specs.declared.instr.Operand.TheVariants.{Word, Mem, Const}
use Rattle.dcc_machine.specs.declared.instr.Op.{Op}
use Rattle.dcc_machine.specs.declared.instr.Op.TheVariants.{Alu as AluOp, Unary as UnaryOp, Shift as ShiftOp, Mov, Xchg, Lea, Imul3, Push, Pop, Enter, Leave, Table, Call, Ret, Int21}
use Rattle.dcc_machine.specs.declared.instr.Instr.{Instr}
use Rattle.dcc_machine.specs.Access.{is_direct}
use Rattle.dcc_machine.specs.Machine.{is_bp}
use Rattle.dcc_machine.specs.Successors.{next_of, op_successors}
use Rattle.dcc_prog.specs.Trail.{instruction_in, StandsAt, known_ah, table_number, targets_of, instr_successors, successors, IsTrail, IsEntry}
use Rattle.dcc_machine.specs.SpAndBp.{is_push_bp, is_mov_bp_sp, is_enter, is_sp_or_bp, address_uses_bp, is_by_bp}
use Rattle.dcc_machine.specs.SpAndBp.{names_sp_or_bp, uses_bp_address, is_sp_move, is_at_most_zero, is_at_or_below_bp}
use Rattle.dcc_machine.specs.SpAndBp.{leaves_frame, copies_bp}
use Rattle.dcc_prog.specs.FrameForm.{begins_by_push, stands_push_bp, stands_mov_bp_sp, second_of, is_framed}
use Rattle.dcc_prog.specs.Height.{lowering_of, needs_frame, MovesHeight, push, entered, gone_on, returns_early, grows_too_great, set}
use Rattle.dcc_prog.specs.Frame.{memory_of, memory_of_two, memory_operand, by_index, no_addresses}
use Rattle.dcc_prog.specs.Construct.{formless, no_number, dos_number, not_known, entry_return, returns as returns_from_entry, bad_access}
use Rattle.dcc_stack.specs.Accepted.{IsAt, IsProgramOfFile, HeightFits, IsSetUp, IsForm, saves, points, enters, falls_back, falls_to, restores, leaves, pushes, pops, calls, returns, moves, keeps, IsNodeOf}
use Rattle.dcc_stack.proofs.FormOps.{FormOf, begins-framed, unnamed-still, copied-still}
use Rattle.dcc_stack.proofs.FormOps as form
use Rattle.dcc_stack.proofs.FormMoves.{address-needs, address-other, copy-needs, copy-other}
use Rattle.dcc_stack.proofs.FormHeights.{nat-same, no-trails, no-frames, no-bad, has-height, instruction-there, allowed-form, no-system, form-there, needs-set-up, pop-bp-at, heights-fit, one-height}

-- Operations.

lowered-by : (op : Op) → is_sp_move op ≡ true → (bytes : ℤ) × (lowering_of op ≡ Some bytes)
lowered-by (AluOp Add (Word Sp) (Const width constant)) e = (_, refl)
lowered-by (AluOp Sub (Word Sp) (Const width constant)) e = (_, refl)
lowered-by (UnaryOp Inc (Word Sp)) e = (_, refl)
lowered-by (UnaryOp Dec (Word Sp)) e = (_, refl)
lowered-by op e = absurd (true≢false (sym e))

move-no_address : (op : Op) → is_sp_move op ≡ true → uses_bp_address op ≡ false
move-no_address (AluOp Add (Word Sp) (Const width constant)) e = refl
move-no_address (AluOp Sub (Word Sp) (Const width constant)) e = refl
move-no_address (UnaryOp Inc (Word Sp)) e = refl
move-no_address (UnaryOp Dec (Word Sp)) e = refl
move-no_address op e = absurd (true≢false (sym e))

move-no_copy : (op : Op) → is_sp_move op ≡ true → copies_bp op ≡ false
move-no_copy (AluOp operation a b) e = refl
move-no_copy (UnaryOp operation a) e = refl
move-no_copy op e = absurd (true≢false (sym e))

copy-names : (op : Op) → copies_bp op ≡ true → names_sp_or_bp op ≡ true
copy-names (Mov (Word r) (Word Bp)) e = or_right (is_sp_or_bp (Word r)) true refl
copy-names op e = absurd (true≢false (sym e))

push-other : (a : Operand) → is_sp_or_bp a ≡ false → is_push_bp (Push a) ≡ false
push-other (Word Bp) e = absurd (true≢false e)
push-other a e = refl

none-not_some : (index : Option Reg) → not (is_some index) ≡ true → is_none index ≡ true
none-not_some None e = refl
none-not_some (Some r) e = absurd (true≢false (sym e))

below-direct : (ea : Ea) → is_at_or_below_bp ea ≡ true → is_direct ea ≡ true
below-direct ea e =
    let both = and_parts (is_bp ea.base) (not (is_some ea.index)) (and_parts _ (is_at_most_zero ea.disp) e).0 in
    and_from (is_bp ea.base) (is_none ea.index) both.0 (none-not_some ea.index both.1)

-- Memory operands.

abbrev address_in : Option (Width × Ea) → Ea → Ea
address_in None ea = ea
address_in (Some operand) ea = operand.1

module _ (width : Width) (ea : Ea) (uses : address_uses_bp ea ≡ true) where
  of-one : (a : Operand) → memory_of a ≡ Some (width, ea) → is_by_bp a ≡ true
  of-one (Mem other address) e = ap address_uses_bp (ap (λ found. address_in found ea) e) ∙ uses
  of-one a e = let clash = e in cc

  of-two : (a b : Operand) → memory_of_two a b ≡ Some (width, ea) → (is_by_bp a || is_by_bp b) ≡ true
  of-two (Mem other address) b e = or_left (is_by_bp (Mem other address)) (is_by_bp b) (of-one (Mem other address) e)
  of-two a b e = or_right (is_by_bp a) (is_by_bp b) (of-one b e)

  pub operand-uses : (op : Op) → memory_operand op ≡ Some (width, ea) → uses_bp_address op ≡ true
  operand-uses (AluOp operation a b) e = of-two a b e
  operand-uses (UnaryOp operation a) e = of-one a e
  operand-uses (ShiftOp operation a count) e = of-one a e
  operand-uses (Mov to from) e = of-two to from e
  operand-uses (Xchg a b) e = of-two a b e
  operand-uses (Imul3 r a constant) e = of-one a e
  operand-uses (Push a) e = of-one a e
  operand-uses (Pop a) e = of-one a e
  operand-uses op e = let clash = e in cc

module _ (cpu : Cpu) (image : Image) (program : Program) (p : IsProgramOfFile cpu image program) where
  abbrev layout : Layout
  layout = program.layout

  -- an address with BP stands in a framed procedure alone
  uses-framed :
      (entry at : ℕ) (op : Op) → FormOf image layout entry at op → uses_bp_address op ≡ true
      → is_framed image layout entry ≡ true
  uses-framed entry at op (form.moves e) uses = absurd (true≢false (sym uses ∙ move-no_address op e))
  uses-framed entry at op (form.unnamed e framed) uses = framed uses
  uses-framed entry at op (form.leaves framed e) uses = framed
  uses-framed entry at op (form.copies framed e) uses = framed
  uses-framed entry at op (form.saves framed e here) uses = framed
  uses-framed entry at op (form.points begins e here) uses = begins-framed image layout entry at op begins
  uses-framed entry at op (form.enters framed e here) uses = framed

  -- `mov r,bp` stands in a framed procedure alone
  copies-framed :
      (entry at : ℕ) (op : Op) → FormOf image layout entry at op → copies_bp op ≡ true
      → is_framed image layout entry ≡ true
  copies-framed entry at op (form.moves e) copied = absurd (true≢false (sym copied ∙ move-no_copy op e))
  copies-framed entry at op (form.unnamed e framed) copied = absurd (true≢false (sym (copy-names op copied) ∙ e))
  copies-framed entry at op (form.leaves framed e) copied = framed
  copies-framed entry at op (form.copies framed e) copied = framed
  copies-framed entry at op (form.saves framed e here) copied = framed
  copies-framed entry at op (form.points begins e here) copied = begins-framed image layout entry at op begins
  copies-framed entry at op (form.enters framed e here) copied = framed

  -- The first instructions of a framed procedure.

  first-at : (entry : ℕ) → IsEntry image layout entry → IsAt image layout entry entry [] (pos 0)
  first-at entry is_entry = record { is_entry = is_entry; trail = refl; gives = entered }

  -- the entry has height 0
  entry-zero :
      (entry at : ℕ) (before : List ℕ) (height : ℕ) → IsAt image layout entry at before (pos height) → at ≡ entry
      → height ≡ 0
  entry-zero entry at before height is here =
      let same =
      one-height cpu image program p entry entry before [] (pos height) (pos 0)
      (subst (λ n. IsAt image layout entry n before (pos height)) here is) (first-at entry is.is_entry) in
      omega (arith, ints, same)

  push-goes_on :
      (op : Op) (next : ℕ) (ah : Option ℕ) (targets : List ℕ) → is_push_bp op ≡ true
      → op_successors op next ah targets ≡ next ∷ []
  push-goes_on (Push a) next ah targets e = refl
  push-goes_on op next ah targets e = absurd (true≢false (sym e))

  push-moves :
      (entry : ℕ) (op : Op) → is_push_bp op ≡ true → MovesHeight image layout entry entry op (pos 0) (pos 2)
  push-moves entry (Push a) e = push
  push-moves entry op e = absurd (true≢false (sym e))

  second-by :
      (entry : ℕ) (is_entry : IsEntry image layout entry) (first : Instr)
      → instruction_in image layout entry ≡ Some first
      → is_push_bp first.op ≡ true
      → IsAt image layout entry (next_of entry first) (entry ∷ []) (pos 2)
  second-by entry is_entry first is pushed =
      let next = next_of entry first in
      let onward : successors image layout (entry ∷ []) ≡ next ∷ [] =
      ap (instr_successors image layout entry []) is
      ∙ push-goes_on first.op next None (targets_of image layout first.op []) pushed in
      let trail : IsTrail image layout entry (next ∷ entry ∷ []) =
      (subst (λ (l : List ℕ). Contains l next) (sym onward) (0, omega arith, refl), refl) in
      record {
        is_entry = is_entry;
        trail = trail;
        gives = gone_on trail entered (first, is, refl) (push-moves entry first.op pushed);
      }

  second-found :
      (entry : ℕ) (is_entry : IsEntry image layout entry) (found : Option Instr)
      → instruction_in image layout entry ≡ found
      → stands_push_bp found ≡ true
      → IsAt image layout entry (second_of entry found) (entry ∷ []) (pos 2)
  second-found entry is_entry (Some first) is pushed = second-by entry is_entry first is pushed
  second-found entry is_entry None is pushed = absurd (true≢false (sym pushed))

  -- after a `push bp` the second one has height 2
  second-two :
      (entry at : ℕ) (before : List ℕ) (height : ℕ) → IsAt image layout entry at before (pos height)
      → begins_by_push image layout entry ≡ true → at ≡ second_of entry (instruction_in image layout entry)
      → height ≡ 2
  second-two entry at before height is begins here =
      let first = instruction_in image layout entry in
      let second = second_of entry first in
      let both = and_parts (stands_push_bp first) (stands_mov_bp_sp (instruction_in image layout second)) begins in
      let same =
      one-height cpu image program p entry second before (entry ∷ []) (pos height) (pos 2)
      (subst (λ n. IsAt image layout entry n before (pos height)) here is)
      (second-found entry is.is_entry first refl both.0) in
      omega (arith, ints, same)

  module _ (entry at : ℕ) (before : List ℕ) (height : ℕ) (is : IsAt image layout entry at before (pos height)) where
    fits : HeightFits image layout entry (pos height)
    fits = heights-fit cpu image program p entry at before (pos height) is

    pub set-up :
        (op : Op) → StandsAt image layout at op → is_framed image layout entry ≡ true → needs_frame op ≡ true
        → is_push_bp op ≡ false
        → IsSetUp image layout entry height
    set-up op stands framed needs other =
        let deep =
        needs-set-up cpu image program p entry at before (pos height) is op fits stands framed
        (record { needs = needs; other = other }) in
        let same = deep.1 in
        let two = deep.2 in
        record { framed = framed; deep = omega (arith, ints, same, two) }

    pub uses-set-up :
        (op : Op) → StandsAt image layout at op → uses_bp_address op ≡ true → IsSetUp image layout entry height
    uses-set-up op stands uses =
        set-up op stands
        (uses-framed entry at op (form-there cpu image program p entry at before (pos height) is op stands) uses)
        (address-needs op uses) (address-other op uses)

    pub copies-set-up :
        (op : Op) → StandsAt image layout at op → copies_bp op ≡ true → IsSetUp image layout entry height
    copies-set-up op stands copied =
        set-up op stands
        (copies-framed entry at op (form-there cpu image program p entry at before (pos height) is op stands) copied)
        (copy-needs op copied) (copy-other op copied)

    returns-at : (count : ℕ) → StandsAt image layout at (Ret count) → IsForm image layout entry at height (Ret count)
    returns-at count stands =
        returns
        (nat-same height 0 (λ other. no-bad cpu image program p entry at before (pos height) is
        (returns_early stands (has-height cpu image program p entry at before (pos height) is)
        (λ (same : pos height ≡ pos 0). other (omega (arith, ints, same))))))
        (λ start. no-trails cpu image program p entry at before (pos height) is
        (entry_return (returns_from_entry start stands)))

    unnamed-form :
        (op : Op) → StandsAt image layout at op → names_sp_or_bp op ≡ false → IsForm image layout entry at height op
    unnamed-form (Push a) stands e =
        pushes (record { other = e; by_bp = λ uses. uses-set-up (Push a) stands uses })
    unnamed-form (Pop a) stands e = pops (record { other = e; by_bp = λ uses. uses-set-up (Pop a) stands uses })
    unnamed-form (Call target) stands e = calls
    unnamed-form (Ret count) stands e = returns-at count stands
    unnamed-form (Enter count) stands e = absurd (true≢false e)
    unnamed-form Leave stands e = absurd (true≢false e)
    unnamed-form op stands e =
        keeps refl (λ half. unnamed-still Sp half refl op e refl) (λ half. unnamed-still Bp half refl op e refl)

    left-form :
        (op : Op) → StandsAt image layout at op → is_framed image layout entry ≡ true → leaves_frame op ≡ true
        → IsForm image layout entry at height op
    left-form (Mov (Word Sp) (Word Bp)) stands framed e = falls_back (set-up _ stands framed refl refl)
    left-form (Lea Sp ea) stands framed e = falls_to (set-up _ stands framed refl refl) (below-direct ea e)
    left-form (Pop (Word Bp)) stands framed e =
        let same = pop-bp-at cpu image program p entry at before (pos height) is stands framed in
        restores framed (omega (arith, ints, same))
    left-form Leave stands framed e = leaves (set-up _ stands framed refl refl)
    left-form op stands framed e = absurd (true≢false (sym e))

    copied-form :
        (op : Op) → copies_bp op ≡ true → IsForm image layout entry at height op
    copied-form (Mov (Word q) (Word Bp)) e =
        keeps refl (λ half. copied-still Sp half refl (Mov (Word q) (Word Bp)) e)
        (λ half. copied-still Bp half refl (Mov (Word q) (Word Bp)) e)
    copied-form op e = absurd (true≢false (sym e))

    saved-form :
        (op : Op) → is_framed image layout entry ≡ true → is_push_bp op ≡ true → at ≡ entry
        → IsForm image layout entry at height op
    saved-form (Push (Word Bp)) framed e here = saves framed here (entry-zero entry at before height is here)
    saved-form op framed e here = absurd (true≢false (sym e))

    pointed-form :
        (op : Op) → begins_by_push image layout entry ≡ true → is_mov_bp_sp op ≡ true
        → at ≡ second_of entry (instruction_in image layout entry)
        → IsForm image layout entry at height op
    pointed-form (Mov (Word Bp) (Word Sp)) begins e here =
        points (begins-framed image layout entry at (Mov (Word Bp) (Word Sp)) begins)
        (second-two entry at before height is begins here)
    pointed-form op begins e here = absurd (true≢false (sym e))

    entered-form :
        (op : Op) → StandsAt image layout at op → is_framed image layout entry ≡ true → is_enter op ≡ true → at ≡ entry
        → IsForm image layout entry at height op
    entered-form (Enter count) stands framed e here =
        let allowed = allowed-form cpu image program p entry at before (pos height) is (Enter count) stands in
        let few : count < 65536 =
        by_lt_z (pos 32766) (pos 2 +ℤ pos count)
        (λ great. absurd (no-bad cpu image program p entry at before (pos height) is
        (grows_too_great stands (has-height cpu image program p entry at before (pos height) is) (set allowed refl)
        great)))
        (λ le. omega (arith, ints, le)) in
        enters framed here (entry-zero entry at before height is here) few
    entered-form op stands framed e here = absurd (true≢false (sym e))

    form-by :
        (op : Op) → StandsAt image layout at op → FormOf image layout entry at op
        → IsForm image layout entry at height op
    form-by op stands (form.moves e) = moves (lowered-by op e).1
    form-by op stands (form.unnamed e uses) = unnamed-form op stands e
    form-by op stands (form.leaves framed e) = left-form op stands framed e
    form-by op stands (form.copies framed e) = copied-form op e
    form-by op stands (form.saves framed e here) = saved-form op framed e here
    form-by op stands (form.points begins e here) = pointed-form op begins e here
    form-by op stands (form.enters framed e here) = entered-form op stands framed e here

    -- What trails tell.

    some-ah :
        (known : Option ℕ) → known_ah image layout before ≡ known → StandsAt image layout at Int21
        → (number : ℕ) × (known_ah image layout before ≡ Some number)
    some-ah (Some number) same stands = (number, same)
    some-ah None none stands =
        absurd (no-trails cpu image program p entry at before (pos height) is
        (dos_number (not_known (record { before = before; trail = is.trail; stands = stands; ah_is = none }))))

    some-number :
        (r : Reg) (offset : ℕ) (known : Option ℕ) → table_number image layout r before ≡ known
        → StandsAt image layout at (Table r offset)
        → (number : ℕ) × (table_number image layout r before ≡ Some number)
    some-number r offset (Some number) same stands = (number, same)
    some-number r offset None none stands =
        absurd (no-trails cpu image program p entry at before (pos height) is
        (formless (no_number (record {
          before = before;
          trail = is.trail;
          register = r;
          table = offset;
          stands = stands;
          number_is = none;
        }))))

    -- without a displacement alone the frame's addresses are told
    near-data :
        (op : Op) (width : Width) (ea : Ea) → StandsAt image layout at op → memory_operand op ≡ Some (width, ea)
        → address_uses_bp ea ≡ true
        → is_direct ea ≡ false
        → layout.delta ≡ 0
    near-data op width ea stands operand uses indexed =
        nat-same layout.delta 0 (λ far. no-frames cpu image program p entry at before (pos height) is
        (bad_access (no_addresses (inl far) (by_index stands operand uses indexed))))

    pub node-at : IsNodeOf image layout entry at before height
    node-at =
        let found = instruction-there cpu image program p entry at before (pos height) is in
        let op = found.0.op in
        let stands : StandsAt image layout at op = (found.0, found.1, refl) in
        record {
          instr = found.0;
          stands = found.1;
          form = form-by op stands (form-there cpu image program p entry at before (pos height) is op stands);
          no_system = no-system cpu image program p entry at before (pos height) is op stands;
          by_bp = λ {width} {ea} operand uses. uses-set-up op stands (operand-uses width ea uses op operand);
          indexed = λ {width} {ea} operand uses indexed. near-data op width ea stands operand uses indexed;
          ah = λ int. some-ah (known_ah image layout before) refl (found.0, found.1, int);
          table = λ r offset jump.
              some-number r offset (table_number image layout r before) refl (found.0, found.1, jump);
        }
