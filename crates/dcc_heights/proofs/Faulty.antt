-- A fault that is found is a construct of heights.
use Rattle.std.proofs.Common.{◌≡◌, ◌≢◌, ◌⊎◌, inl, inr, ℕ, ◌==◌, nat_lt, Bool, true, true≢false, not, ◌&&◌, ◌||◌, ℤ, pos, ◌<ℤ◌, List, ◌∷◌, Contains, Some, refl, sym, ap, ◌∙◌, arith}
use Rattle.std.proofs.lemmas.Bool.{eq-eqb}
use Rattle.std.proofs.lemmas.Bool.Decides.{nat_tests}
use Rattle.std.proofs.lemmas.Int.{ints}
use Rattle.std.proofs.lemmas.Map.Views.{exact_unsigned_eq}
use Rattle.std.specs.Prelude.{int_lt}
use Rattle.dcc_num.specs.declared.Reg.TheVariants.{Bp}
use Rattle.dcc_machine.specs.declared.image.Image.{Image}
use Rattle.dcc_prog.specs.declared.procedure.Layout.{Layout}
use Rattle.dcc_prog.specs.declared.procedure.Node.{Node}
use Rattle.dcc_prog.specs.declared.procedure.Proc.{Proc}
use Rattle.dcc_machine.specs.declared.instr.Operand.TheVariants.{Word}
use Rattle.dcc_machine.specs.declared.instr.Op.{Op}
use Rattle.dcc_machine.specs.declared.instr.Op.TheVariants.{Pop, Ret}
use Rattle.dcc_prog.specs.declared.refusal.ConstructKind.{ConstructKind}
use Rattle.dcc_prog.specs.declared.refusal.ConstructKind.TheVariants.{OutsideProfile, StackHeight}
use Rattle.dcc_prog.specs.declared.refusal.Refusal.{Refusal}
use Rattle.dcc_prog.specs.declared.refusal.Refusal.TheVariants.{Construct}
use Rattle.dcc_prog.specs.Trail.{StandsAt, IsNode, called}
use Rattle.dcc_prog.specs.FrameForm.{is_framed, is_frame_form}
use Rattle.dcc_prog.specs.Height.{needs_frame, MovesHeight, HasHeight, IsMisplaced, IsTooFar, HasBadHeight, two_heights, too_far, returns_early, too_great, grows_too_great, above_entry, into_saved_bp}
use Rattle.dcc_prog.specs.Construct.{IsAtHeight, misplaced, bad_height}
use Rattle.dcc_prog.specs.Refused.{IsRefusedByHeights}
use Rattle.dcc_prog.specs.Refused as refused
use Rattle.dcc_prog.specs.Found.{AreFound}
use Rattle.dcc_heights.specs.Moves.{removed_in}
use Rattle.dcc_heights.specs.Form.{is_pop_bp, is_leave, is_ret, is_misplaced, is_into_saved_bp, is_too_far, is_bad}
use Rattle.dcc_heights.specs.Removed.{AreByEntry}
use Rattle.dcc_heights.specs.Search.{SearchedProcedure, searched_procedure, node_in, after_in, is_misplaced_in, IsStepFault, IsReachedAt, IsFault}
use Rattle.dcc_heights.specs.Search as search
use Rattle.dcc_heights.proofs.Moving.{or-true, and-left, and-right, not-true, moves-so}
use Rattle.dcc_heights.proofs.Removing.{call-removes}
use Rattle.dcc_heights.proofs.Giving.{gives-trail, is-entry, node-at, form-at, reached-has}

lt-of : (a b : ℤ) → int_lt a b ≡ true → a <ℤ b
lt-of a b e = grind (arith, ints)

pop-is : (op : Op) → is_pop_bp op ≡ true → op ≡ Pop (Word Bp)
pop-is (Pop (Word Bp)) e = refl
pop-is op e = absurd (true≢false (sym e))

ret-is : (op : Op) → is_ret op ≡ true → (count : ℕ) × (op ≡ Ret count)
ret-is (Ret count) e = (count, refl)
ret-is op e = absurd (true≢false (sym e))

ret-cases : (op : Op) → ((count : ℕ) × (op ≡ Ret count)) ⊎ ((count : ℕ) → op ≢ Ret count)
ret-cases (Ret count) = inl (count, refl)
ret-cases op = inr (λ count e. true≢false (sym (ap is_ret e)))

same-level : (a b : ℕ) → pos a ≡ pos b → a ≡ b
same-level a b e = cc

not-same : (a b : ℕ) → not (a == b) ≡ true → a ≢ b
not-same a b e same = true≢false (sym (eq-eqb a b same) ∙ not-true (a == b) e)

module _ (image : Image) (layout : Layout) (procs : List Proc) (found : AreFound image layout procs)
    (removed : List (ℕ × ℕ)) (by_entry : AreByEntry procs removed) (proc : Proc) (among : Contains procs proc)
    (framed : Bool) (framed_is : framed ≡ is_framed image layout proc.entry) where
  abbrev scene : SearchedProcedure
  scene = searched_procedure proc framed removed

  -- a construct at an offset that is reached
  refused-at :
      (kind : ConstructKind) (at height : ℕ) → IsReachedAt scene at height → IsAtHeight image layout proc.entry at kind
      → IsRefusedByHeights image layout (Construct kind at)
  refused-at kind at height reached stands =
      let has = reached-has image layout procs found removed by_entry proc among framed at height reached in
      refused.construct (record {
        entry = proc.entry;
        is_entry = is-entry image layout procs found removed by_entry proc among framed;
        node = record {
          before = has.before;
          trail = gives-trail image layout proc.entry (at ∷ has.before) (pos height) has.gives;
        };
        stands = stands;
      })

  module _ (at height : ℕ) (node : Node) (reached : IsReachedAt scene at height)
      (is : node_in scene at ≡ Some node) where
    has : HasHeight image layout proc.entry at (pos height)
    has = reached-has image layout procs found removed by_entry proc among framed at height reached

    stands : StandsAt image layout at node.instr.op
    stands =
        (node.instr, (node-at image layout procs found removed by_entry proc among framed at node is).instr, refl)

    is-node : IsNode image layout proc.entry at
    is-node = (node-at image layout procs found removed by_entry proc among framed at node is).node

    form : is_frame_form image layout proc.entry at node.instr.op ≡ true
    form = form-at image layout procs found removed by_entry proc among framed at node.instr.op is-node stands

    moves :
        ((count : ℕ) → node.instr.op ≢ Ret count)
        → MovesHeight image layout proc.entry at node.instr.op (pos height) (after_in scene node.instr.op height)
    unfolding stands
    moves no_ret =
        moves-so image layout (removed_in removed) proc.entry at node.instr.op (pos height) form no_ret
        (λ target is_call. call-removes image layout procs found removed by_entry target
        (called (is-entry image layout procs found removed by_entry proc among framed) is-node
        (stands.0, stands.1, is_call)))

    placed-wrong : is_misplaced_in scene at node.instr.op height ≡ true → IsMisplaced image layout proc.entry at
    placed-wrong e =
        let op = node.instr.op in
        let place = and-left (framed && not (at == proc.entry)) (is_misplaced op height) e in
        let wrong = and-right (framed && not (at == proc.entry)) (is_misplaced op height) e in
        record {
          framed = sym framed_is ∙ and-left framed (not (at == proc.entry)) place;
          inner = not-same at proc.entry (and-right framed (not (at == proc.entry)) place);
          op = op;
          stands = stands;
          height = pos height;
          has = has;
          misplaced =
              elim (or-true ((height == 0) && needs_frame op) (is_pop_bp op && not (height == 2)) wrong) [
                | inl zero ↦
                    inl (
                      ap pos (exact_unsigned_eq height 0 (and-left (height == 0) (needs_frame op) zero)),
                      and-right
                          (height == 0) (needs_frame op) zero,
                    )
                | inr other ↦
                    inr (
                      pop-is op (and-left (is_pop_bp op) (not (height == 2)) other),
                      λ same. not-same height 2
                          (and-right (is_pop_bp op) (not (height == 2)) other) (same-level height 2 same),
                    )
              ];
        }

    -- an operation that lets SP rise goes on
    risen :
        IsTooFar image layout proc.entry node.instr.op (pos height) (after_in scene node.instr.op height)
        → after_in scene node.instr.op height <ℤ pos height → HasBadHeight image layout proc.entry at
    risen far less =
        elim (ret-cases node.instr.op) [
          | inl ret ↦
              let still : after_in scene node.instr.op height ≡ pos height = ap (λ o. after_in scene o height) ret.1 in
              absurd (omega (arith, ints, still, less))
          | inr no_ret ↦ too_far stands has (moves no_ret) less far
        ]

    into-saved : is_into_saved_bp framed node.instr.op height (after_in scene node.instr.op height) ≡ true →
        HasBadHeight image layout proc.entry at
    into-saved e =
        let op = node.instr.op in
        let after = after_in scene op height in
        let low = and-right _ (int_lt after (pos 2)) e in
        let e4 = and-left (framed && not (is_pop_bp op) && not (is_leave op) && nat_lt 0 height && int_lt after
        (pos height)) (int_lt after (pos 2)) e in
        let less = and-right _ (int_lt after (pos height)) e4 in
        let e3 = and-left (framed && not (is_pop_bp op) && not (is_leave op) && nat_lt 0 height)
        (int_lt after (pos height)) e4 in
        let up = and-right _ (nat_lt 0 height) e3 in
        let e2 = and-left (framed && not (is_pop_bp op) && not (is_leave op)) (nat_lt 0 height) e3 in
        let no_leave = not-true (is_leave op) (and-right _ (not (is_leave op)) e2) in
        let e1 = and-left (framed && not (is_pop_bp op)) (not (is_leave op)) e2 in
        let no_pop = not-true (is_pop_bp op) (and-right _ (not (is_pop_bp op)) e1) in
        let is_so = and-left framed (not (is_pop_bp op)) e1 in
        let above : pos 0 <ℤ pos height = grind (arith, ints, nat_tests) in
        risen
        (into_saved_bp (sym framed_is ∙ is_so) (λ same. true≢false (sym (ap is_pop_bp same) ∙ no_pop))
        (λ same. true≢false (sym (ap is_leave same) ∙ no_leave)) above (lt-of after (pos 2) low))
        (lt-of after (pos height) less)

    early : (is_ret node.instr.op && not (height == 0)) ≡ true → HasBadHeight image layout proc.entry at
    unfolding stands
    early e =
        let op = node.instr.op in
        let ret = ret-is op (and-left (is_ret op) (not (height == 0)) e) in
        returns_early {count = ret.0} (stands.0, stands.1, ret.1) has
        (λ same. not-same height 0 (and-right (is_ret op) (not (height == 0)) e) (same-level height 0 same))

    great : int_lt (pos 32766) (after_in scene node.instr.op height) ≡ true → HasBadHeight image layout proc.entry at
    great e =
        let op = node.instr.op in
        elim (ret-cases op) [
          | inl ret ↦
              let same = ap (λ o. after_in scene o height) ret.1 in
              too_great has (lt-of (pos 32766) (pos height) (ap (int_lt (pos 32766)) (sym same) ∙ e))
          | inr no_ret ↦ grows_too_great stands has (moves no_ret) (lt-of (pos 32766) (after_in scene op height) e)
        ]

    bad-height :
        is_bad framed node.instr.op height (after_in scene node.instr.op height) ≡ true
        → HasBadHeight image layout proc.entry at
    bad-height e =
        let op = node.instr.op in
        let after = after_in scene op height in
        elim (or-true (is_too_far framed op height after || (is_ret op && not (height == 0)))
        (int_lt (pos 32766) after) e) [
          | inl rest ↦ elim (or-true (is_too_far framed op height after) (is_ret op && not (height == 0)) rest) [
            | inl far ↦ elim (or-true (int_lt after (pos 0)) (is_into_saved_bp framed op height after) far) [
              | inl below ↦
                  let under = lt-of after (pos 0) below in risen (above_entry under) (omega (arith, ints, under))
              | inr saved ↦ into-saved saved
            ]
            | inr ret ↦ early ret
          ]
          | inr too_high ↦ great too_high
        ]

    step-refused :
        (refusal : Refusal) → IsStepFault scene at node.instr.op height refusal
        → IsRefusedByHeights image layout refusal
    step-refused _ (search.IsStepFault.misplaced e) =
        refused-at OutsideProfile at height reached (misplaced (placed-wrong e))
    step-refused _ (search.IsStepFault.bad e) =
        refused-at StackHeight at height reached (bad_height (bad-height e))

  pub fault-refused : (refusal : Refusal) → IsFault scene refusal → IsRefusedByHeights image layout refusal
  fault-refused refusal (search.IsFault.of_step {at} {height} {node} reached is fault) =
      step-refused at height node reached is refusal fault
  fault-refused _ (search.IsFault.two_heights {at} {height} {other} reached reached_other apart) =
      refused-at StackHeight at height reached
      (bad_height (two_heights (reached-has image layout procs found removed by_entry proc among framed at height
      reached) (reached-has image layout procs found removed by_entry proc among framed at other reached_other)
      (λ same. apart (same-level height other same))))
  fault-refused _ search.IsFault.no_memory = refused.no_memory
