-- Where all heights are found, no construct of heights stands in the procedure.
use Rattle.std.proofs.Common.{◌≡◌, ◌≢◌, ◌⊎◌, inl, inr, ℕ, ◌≤◌, ◌<◌, ◌==◌, nat_lt, Bool, true, false, true≢false, not, ◌&&◌, ◌||◌, ℤ, pos, List, ◌∷◌, Contains, refl, sym, ap, ◌∙◌, arith}
use Rattle.std.proofs.lemmas.Bool.{eq-eqb, ne_eqb}
use Rattle.std.proofs.lemmas.Bool.Decides.{nat_tests}
use Rattle.std.proofs.lemmas.Int.{ints}
use Rattle.std.specs.Prelude.{int_lt}
use Rattle.dcc_num.specs.declared.Reg.TheVariants.{Bp}
use Rattle.dcc_machine.specs.declared.image.Image.{Image}
use Rattle.dcc_prog.specs.declared.procedure.Layout.{Layout}
use Rattle.dcc_prog.specs.declared.procedure.Proc.{Proc}
use Rattle.dcc_prog.specs.declared.refusal.ConstructKind.{ConstructKind}
use Rattle.dcc_machine.specs.declared.instr.Operand.TheVariants.{Word}
use Rattle.dcc_machine.specs.declared.instr.Op.{Op}
use Rattle.dcc_machine.specs.declared.instr.Op.TheVariants.{Pop, Leave, Ret}
use Rattle.dcc_prog.specs.Trail.{StandsAt, IsNode}
use Rattle.dcc_prog.specs.FrameForm.{is_framed}
use Rattle.dcc_prog.specs.Height.{needs_frame, by_ret, MovesHeight, HasHeight, IsMisplaced, HasBadHeight, two_heights, too_far, returns_early, two_sizes, too_great, grows_too_great, above_entry, into_saved_bp}
use Rattle.dcc_prog.specs.Construct.{IsAtHeight, misplaced, bad_height}
use Rattle.dcc_prog.specs.Found.{AreFound}
use Rattle.dcc_heights.specs.Moves.{removed_in, height_after}
use Rattle.dcc_heights.specs.Form.{is_pop_bp, is_leave, is_ret, is_misplaced, is_into_saved_bp, is_too_far}
use Rattle.dcc_heights.specs.Removed.{AreByEntry}
use Rattle.dcc_heights.specs.Search.{SearchedProcedure, searched_procedure, after_in, IsStep, AreAllHeights}
use Rattle.dcc_heights.proofs.Moving.{or-false-left, or-false-right}
use Rattle.dcc_heights.proofs.Removing.{call-removes-only}
use Rattle.dcc_heights.proofs.Giving.{gives-trail, is-entry, moves-only, step-small, stands-at, Only, only}

-- Tests that hold.

or-right : (a b : Bool) → b ≡ true → (a || b) ≡ true
or-right true b e = refl
or-right false b e = e

or-left : (a b : Bool) → a ≡ true → (a || b) ≡ true
or-left true b e = refl
or-left false b e = absurd (true≢false (sym e))

and-true : (a b : Bool) → a ≡ true → b ≡ true → (a && b) ≡ true
and-true true b e f = f
and-true false b e f = absurd (true≢false (sym e))

misplaced-so :
    (op : Op) (height : ℤ) (level : ℕ) → height ≡ pos level
    → ((height ≡ pos 0) × (needs_frame op ≡ true)) ⊎ ((op ≡ Pop (Word Bp)) × (height ≢ pos 2))
    → is_misplaced op level ≡ true
misplaced-so op height level same (inl zero) =
    let both = sym same ∙ zero.0 in
    let is : level ≡ 0 = cc in
    or-left ((level == 0) && needs_frame op) (is_pop_bp op && not (level == 2))
    (and-true (level == 0) (needs_frame op) (eq-eqb level 0 is) zero.1)
misplaced-so op height level same (inr other) =
    or-right ((level == 0) && needs_frame op) (is_pop_bp op && not (level == 2))
    (and-true (is_pop_bp op) (not (level == 2)) (ap is_pop_bp other.0)
    (ap not (ne_eqb level 2 (λ e. other.1 (same ∙ ap pos e)))))

not-pop : (op : Op) → op ≢ Pop (Word Bp) → is_pop_bp op ≡ false
not-pop (Pop (Word Bp)) other = absurd (other refl)
not-pop op other = refl

not-leave : (op : Op) → op ≢ Leave → is_leave op ≡ false
not-leave Leave other = absurd (other refl)
not-leave op other = refl

saved-so :
    (framed : Bool) (op : Op) (level after : ℕ) → framed ≡ true → is_pop_bp op ≡ false → is_leave op ≡ false
    → 0 < level → after < level → after < 2 → is_into_saved_bp framed op level (pos after) ≡ true
saved-so framed op level after is_so no_pop no_leave above less low =
    let up : nat_lt 0 level ≡ true = grind (arith, nat_tests) in
    let down : int_lt (pos after) (pos level) ≡ true = grind (arith, nat_tests) in
    let lower : int_lt (pos after) (pos 2) ≡ true = grind (arith, nat_tests) in
    and-true (framed && not (is_pop_bp op) && not (is_leave op) && nat_lt 0 level && int_lt (pos after) (pos level)) _
    (and-true (framed && not (is_pop_bp op) && not (is_leave op) && nat_lt 0 level) _
    (and-true (framed && not (is_pop_bp op) && not (is_leave op)) _
    (and-true (framed && not (is_pop_bp op)) _ (and-true framed _ is_so (ap not no_pop)) (ap not no_leave)) up) down)
    lower

-- What an operation that may stand at its height is not.

module _ (scene : SearchedProcedure) (at : ℕ) (op : Op) (height after : ℕ) (step : IsStep scene at op height after)
  where
    not-far : is_too_far scene.framed op height (pos after) ≡ false
    not-far =
        ap (is_too_far scene.framed op height) (sym step.after_is)
        ∙ or-false-left (is_too_far scene.framed op height (after_in scene op height)) (is_ret op && not (height == 0))
        (or-false-left (is_too_far scene.framed op height (after_in scene op height) || (is_ret op && not (height == 0)))
        (int_lt (pos 32766) (after_in scene op height)) step.fine)

    not-saved : is_into_saved_bp scene.framed op height (pos after) ≡ false
    not-saved =
        or-false-right (int_lt (pos after) (pos 0)) (is_into_saved_bp scene.framed op height (pos after)) not-far

    not-early : (is_ret op && not (height == 0)) ≡ false
    not-early =
        or-false-right (is_too_far scene.framed op height (after_in scene op height)) (is_ret op && not (height == 0))
        (or-false-left (is_too_far scene.framed op height (after_in scene op height) || (is_ret op && not (height == 0)))
        (int_lt (pos 32766) (after_in scene op height)) step.fine)

module _ (image : Image) (layout : Layout) (procs : List Proc) (found : AreFound image layout procs)
    (removed : List (ℕ × ℕ)) (by_entry : AreByEntry procs removed) (proc : Proc) (among : Contains procs proc)
    (framed : Bool) (framed_is : framed ≡ is_framed image layout proc.entry) (heights : List (ℕ × ℕ))
    (all : AreAllHeights (searched_procedure proc framed removed) heights) where
  level-of : (at : ℕ) (height : ℤ) → HasHeight image layout proc.entry at height
      → Only image layout procs found removed by_entry proc among framed heights all at height
  level-of at height has = only image layout procs found removed by_entry proc among framed heights all at has.before
      height has.gives

  node-of-height : (at : ℕ) (height : ℤ) → HasHeight image layout proc.entry at height → IsNode image layout
      proc.entry at
  node-of-height at height has =
      record { before = has.before; trail = gives-trail image layout proc.entry (at ∷ has.before) height has.gives }

  -- an operation at its height
  record Standing (at : ℕ) (op : Op) (height : ℤ) : Type 0 where
    level : ℕ
    same : height ≡ pos level
    small : level ≤ 32766
    after : ℕ
    step : IsStep (searched_procedure proc framed removed) at op level after
    leads : (next : ℤ) → MovesHeight image layout proc.entry at op height next → next ≡ pos after

  standing :
      (at : ℕ) (op : Op) (height : ℤ) → HasHeight image layout proc.entry at height → StandsAt image layout at op
      → Standing at op height
  standing at op height has stands =
      let o = level-of at height has in
      let node = node-of-height at height has in
      let s = stands-at image layout procs found removed by_entry proc among framed heights all at o.level op node
      stands o.is in
      record {
        level = o.level;
        same = o.same;
        small = o.small;
        after = s.after;
        step = s.step;
        leads = λ next moves.
            moves-only image layout procs found removed by_entry proc among framed at op height next node stands moves
            ∙ ap (height_after (removed_in removed) op) o.same
            ∙ s.step.after_is;
      }

  no-misplaced : (at : ℕ) → IsMisplaced image layout proc.entry at → ⊥
  no-misplaced at m =
      let s = standing at m.op m.height m.has m.stands in
      let here =
      and-true (framed && not (at == proc.entry)) (is_misplaced m.op s.level)
      (and-true framed (not (at == proc.entry)) (framed_is ∙ m.framed) (ap not (ne_eqb at proc.entry m.inner)))
      (misplaced-so m.op m.height s.level s.same m.misplaced) in
      true≢false (sym here ∙ s.step.placed)

  no-bad : (at : ℕ) → HasBadHeight image layout proc.entry at → ⊥
  no-bad at (two_heights {height} {other} has has_other apart) =
      let first_level = level-of at height has in
      let second_level = level-of at other has_other in
      let both = sym first_level.is ∙ second_level.is in
      let equal : first_level.level ≡ second_level.level = cc in
      apart (first_level.same ∙ ap pos equal ∙ sym second_level.same)
  no-bad at (too_far {op} {height} {after} stands has moves less (above_entry below)) =
      let s = standing at op height has stands in
      let to = s.leads after moves in
      omega (arith, ints, to, below)
  no-bad at (too_far {op} {height} {after} stands has moves less (into_saved_bp framed_so other stays above below)) =
      let s = standing at op height has stands in
      let to = s.leads after moves in
      let same = s.same in
      let saved =
      saved-so framed op s.level s.after (framed_is ∙ framed_so) (not-pop op other) (not-leave op stays)
      (omega (arith, ints, above, same)) (omega (arith, ints, less, to, same)) (omega (arith, ints, below, to)) in
      true≢false (sym saved ∙ not-saved (searched_procedure proc framed removed) at op s.level s.after s.step)
  no-bad at (returns_early {count} {height} stands has other) =
      let s = standing at (Ret count) height has stands in
      let inner : not (s.level == 0) ≡ true = ap not (ne_eqb s.level 0 (λ e. other (s.same ∙ ap pos e))) in
      true≢false (sym inner ∙ not-early (searched_procedure proc framed removed) at (Ret count) s.level s.after s.step)
  no-bad at (two_sizes {count} {other} node stands reached apart) =
      let entry = is-entry image layout procs found removed by_entry proc among framed in
      let here = call-removes-only image layout procs found removed by_entry proc.entry count entry
      (by_ret (record { at = at; node = node; stands = stands })) in
      let there = call-removes-only image layout procs found removed by_entry proc.entry other entry (by_ret reached) in
      apart (here ∙ sym there)
  no-bad at (too_great {height} has great) =
      let o = level-of at height has in
      let same = o.same in
      let small = o.small in
      omega (arith, ints, same, small, great)
  no-bad at (grows_too_great {op} {height} {after} stands has moves great) =
      let s = standing at op height has stands in
      let to = s.leads after moves in
      let small = step-small image layout procs found removed by_entry proc among framed at op s.level s.after s.step in
      omega (arith, ints, to, small, great)

  pub no-construct : (kind : ConstructKind) (at : ℕ) → ¬ IsAtHeight image layout proc.entry at kind
  no-construct _ at (misplaced m) = no-misplaced at m
  no-construct _ at (bad_height b) = no-bad at b
