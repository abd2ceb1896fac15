-- The heights that are found are those that trails give.
use Rattle.std.proofs.Common.{◌≡◌, ◌≢◌, ℕ, ◌≤◌, Bool, true, false, true≢false, not, ◌==◌, ◌&&◌, ◌||◌, ℤ, pos, List, [], ◌∷◌, Contains, Option, Some, None, is_some, refl, sym, ap, ◌∙◌, subst, arith}
use Rattle.std.proofs.lemmas.List.Elements.{All-contains}
use Rattle.std.proofs.lemmas.Int.{ints}
use Rattle.std.proofs.lemmas.Bool.Decides.{nat_tests}
use Rattle.std.specs.Prelude.{int_lt}
use Rattle.dcc_machine.specs.declared.image.Image.{Image}
use Rattle.dcc_prog.specs.declared.procedure.Layout.{Layout}
use Rattle.dcc_prog.specs.declared.procedure.Node.{Node}
use Rattle.dcc_prog.specs.declared.procedure.Proc.{Proc}
use Rattle.dcc_machine.specs.declared.instr.Op.{Op}
use Rattle.dcc_machine.specs.declared.instr.Op.TheVariants.{Call, Ret}
use Rattle.dcc_prog.specs.declared.refusal.ConstructKind.TheVariants.{OutsideProfile}
use Rattle.dcc_machine.specs.Successors.{next_of, op_successors}
use Rattle.dcc_prog.specs.Trail.{known_ah, targets_of, instr_successors, successors, StandsAt, IsTrail, IsNode, IsEntry, called}
use Rattle.dcc_prog.specs.FrameForm.{is_frame_form}
use Rattle.dcc_prog.specs.Height.{MovesHeight, GivesHeight, entered, gone_on, HasHeight}
use Rattle.dcc_prog.specs.Construct.{is_system, foreign}
use Rattle.dcc_prog.specs.Found.{IsNodeFound, IsFound, AreFound}
use Rattle.dcc_prog.proofs.FoundNodes.{found-by, node-listed}
use Rattle.dcc_heights.specs.Moves.{removed_in, height_after}
use Rattle.dcc_heights.specs.Form.{is_ret, is_too_far}
use Rattle.dcc_heights.specs.Removed.{AreByEntry}
use Rattle.dcc_heights.specs.Search.{SearchedProcedure, searched_procedure, node_in, height_in, after_in, IsStep, IsReachedAt, IsClosedAt, AreAllHeights}
use Rattle.dcc_heights.specs.Search as search
use Rattle.dcc_heights.proofs.Moving.{moves-so, moves-once, or-false-right}
use Rattle.dcc_heights.proofs.Removing.{one-op, call-removes, call-removes-only}

or-true-right : (a : Bool) → (a || true) ≡ true
or-true-right true = refl
or-true-right false = refl

not-above : (level : ℕ) → int_lt (pos 32766) (pos level) ≡ false → level ≤ 32766
not-above level e = grind (arith, ints, nat_tests)

-- what gives a height is a trail
pub gives-trail :
    (image : Image) (layout : Layout) (entry : ℕ) (trail : List ℕ) (height : ℤ) → GivesHeight image layout entry trail
    height
    → IsTrail image layout entry trail
gives-trail image layout entry _ _ entered = refl
gives-trail image layout entry _ _ (gone_on trail before stands moves) = trail

-- no trail goes on from a RET
no-ret :
    (image : Image) (layout : Layout) (entry to from : ℕ) (before : List ℕ) (op : Op) (count : ℕ)
    → IsTrail image layout entry (to ∷ from ∷ before) → StandsAt image layout from op
    → op ≢ Ret count
no-ret image layout entry to from before op count trail stands is =
    let instr = stands.0 in
    let none : successors image layout (from ∷ before) ≡ [] =
    ap (instr_successors image layout from before) stands.1
    ∙ ap (λ o. op_successors o (next_of from instr) (known_ah image layout before)
    (targets_of image layout instr.op before))
    (stands.2 ∙ is) in
    let there = subst (λ (l : List ℕ). Contains l to) none trail.0 in
    omega (arith, there.1)

module _ (image : Image) (layout : Layout) (procs : List Proc) (found : AreFound image layout procs)
    (removed : List (ℕ × ℕ)) (by_entry : AreByEntry procs removed) (proc : Proc) (among : Contains procs proc)
    (framed : Bool) where
  abbrev scene : SearchedProcedure
  scene = searched_procedure proc framed removed

  pub is-found : IsFound image layout proc
  is-found = All-contains (IsFound image layout) procs proc found.found among

  pub is-entry : IsEntry image layout proc.entry
  is-entry = All-contains (λ (p : Proc). IsEntry image layout p.entry) procs proc found.reached among

  pub node-at :
      (at : ℕ) (node : Node) → node_in scene at ≡ Some node → IsNodeFound image layout proc.entry (at, node)
  node-at at node is = found-by image layout proc is-found at node is

  -- each operation is in a form that is allowed
  pub form-at :
      (at : ℕ) (op : Op) → IsNode image layout proc.entry at → StandsAt image layout at op
      → is_frame_form image layout proc.entry at op ≡ true
  form-at at op node stands = by (is_frame_form image layout proc.entry at op) refl
    where
      by :
          (form : Bool) → is_frame_form image layout proc.entry at op ≡ form
          → is_frame_form image layout proc.entry at op ≡ true
      by true e = e
      by false e =
          absurd
          (found.no_construct OutsideProfile at (record {
            entry = proc.entry;
            is_entry = is-entry;
            node = node;
            stands = foreign (record {
              op = op;
              stands = stands;
              foreign = ap (λ b. is_system op || not b) e ∙ or-true-right (is_system op);
            });
          }))

  callee :
      (at target : ℕ) (op : Op) → IsNode image layout proc.entry at → StandsAt image layout at op → op ≡ Call target
      → IsEntry image layout target
  callee at target op node stands is = called is-entry node (stands.0, stands.1, stands.2 ∙ is)

  -- what an operation from which a trail goes on does
  pub moves-on :
      (to from : ℕ) (before : List ℕ) (op : Op) (height : ℤ) → IsTrail image layout proc.entry (to ∷ from ∷ before)
      → StandsAt image layout from op
      → MovesHeight image layout proc.entry from op height (height_after (removed_in removed) op height)
  moves-on to from before op height trail stands =
      let node : IsNode image layout proc.entry from = record { before = before; trail = trail.1 } in
      moves-so image layout (removed_in removed) proc.entry from op height (form-at from op node stands)
      (λ count. no-ret image layout proc.entry to from before op count trail stands)
      (λ target is. call-removes image layout procs found removed by_entry target
      (callee from target op node stands is))

  pub moves-only :
      (at : ℕ) (op : Op) (height after : ℤ) → IsNode image layout proc.entry at → StandsAt image layout at op
      → MovesHeight image layout proc.entry at op height after
      → after ≡ height_after (removed_in removed) op height
  moves-only at op height after node stands moves =
      moves-once image layout (removed_in removed) proc.entry at op height after moves
      (λ target count is removes. call-removes-only image layout procs found removed by_entry target count
      (callee at target op node stands is) removes)

  -- what is reached at a height has it by a trail
  pub reached-has :
      (at height : ℕ) → IsReachedAt scene at height → HasHeight image layout proc.entry at (pos height)
  reached-has _ _ search.IsReachedAt.entered = record { before = []; gives = entered }
  reached-has _ _ (search.IsReachedAt.gone_on {from} {to} {height} {after} {node} reached is step onward) =
      let has = reached-has from height reached in
      let f = node-at from node is in
      let trail = gives-trail image layout proc.entry (from ∷ has.before) (pos height) has.gives in
      let longer : IsTrail image layout proc.entry (to ∷ from ∷ has.before) =
      (subst (λ (l : List ℕ). Contains l to) (f.succ has.before trail) onward, trail) in
      let stands : StandsAt image layout from node.instr.op = (node.instr, f.instr, refl) in
      record {
        before = from ∷ has.before;
        gives = gone_on longer has.gives stands
            (subst (MovesHeight image layout proc.entry from node.instr.op (pos height)) step.after_is
            (moves-on to from has.before node.instr.op (pos height) longer stands));
      }

  -- a height after an operation is none too great
  pub step-small :
      (at : ℕ) (op : Op) (height after : ℕ) → IsStep scene at op height after → after ≤ 32766
  step-small at op height after step =
      let great =
      or-false-right (is_too_far framed op height (after_in scene op height) || (is_ret op && not (height == 0)))
      (int_lt (pos 32766) (after_in scene op height)) step.fine in
      let test : int_lt (pos 32766) (pos after) ≡ false = ap (int_lt (pos 32766)) (sym step.after_is) ∙ great in
      not-above after test

  node-of : (at : ℕ) → IsNode image layout proc.entry at → (node : Node) × (node_in scene at ≡ Some node)
  node-of at node = by (node_in scene at) refl (node-listed image layout proc is-found at node)
    where
      by :
          (r : Option Node) → node_in scene at ≡ r → is_some r ≡ true
          → (n : Node) × (node_in scene at ≡ Some n)
      by None e some = absurd (true≢false (sym some))
      by (Some n) e some = (n, e)

  module _ (heights : List (ℕ × ℕ)) (all : AreAllHeights scene heights) where
    -- a node with its height
    pub record Stands (at height : ℕ) (op : Op) : Type 0 where
      pub after : ℕ
      pub step : IsStep scene at op height after

    pub stands-at :
        (at height : ℕ) (op : Op) → IsNode image layout proc.entry at → StandsAt image layout at op
        → height_in heights at ≡ Some height
        → Stands at height op
    stands-at at height op node stands is =
        let n = node-of at node in
        let closed = all.closed at height n.0 is n.1 in
        let same = one-op image layout at n.0.instr op (node-at at n.0 n.1).instr stands in
        record { after = closed.after; step = subst (λ o. IsStep scene at o height closed.after) same closed.step }

    -- where a trail goes on, the next offset has the height after the operation
    record GoesOn (to from height : ℕ) (op : Op) : Type 0 where
      after : ℕ
      step : IsStep scene from op height after
      onward : height_in heights to ≡ Some after

    goes-on :
        (to from height : ℕ) (before : List ℕ) (op : Op) → IsTrail image layout proc.entry (to ∷ from ∷ before)
        → StandsAt image layout from op → height_in heights from ≡ Some height
        → GoesOn to from height op
    goes-on to from height before op trail stands is =
        let n = node-of from (record { before = before; trail = trail.1 }) in
        let f = node-at from n.0 n.1 in
        let closed = all.closed from height n.0 is n.1 in
        let same = one-op image layout from n.0.instr op f.instr stands in
        let among_successors = subst (λ (l : List ℕ). Contains l to) (sym (f.succ before trail.1)) trail.0 in
        record {
          after = closed.after;
          step = subst (λ o. IsStep scene from o height closed.after) same closed.step;
          onward =
              All-contains (λ t. height_in heights t ≡ Some closed.after) n.0.succ.items to closed.onward
              among_successors;
        }

    -- every trail gives its last offset the height that is found
    pub record Given (at : ℕ) (before : List ℕ) : Type 0 where
      pub height : ℕ
      pub is : height_in heights at ≡ Some height
      pub gives : GivesHeight image layout proc.entry (at ∷ before) (pos height)

    pub given : (before : List ℕ) (at : ℕ) → IsTrail image layout proc.entry (at ∷ before) → Given at before
    given [] at trail = record {
      height = 0;
      is = subst (λ a. height_in heights a ≡ Some 0) (sym trail) all.start;
      gives = subst (λ a. GivesHeight image layout proc.entry (a ∷ []) (pos 0)) (sym trail) entered;
    }
    given (from ∷ rest) at trail =
        let earlier = given rest from trail.1 in
        let n = node-of from (record { before = rest; trail = trail.1 }) in
        let op = n.0.instr.op in
        let stands : StandsAt image layout from op = (n.0.instr, (node-at from n.0 n.1).instr, refl) in
        let on = goes-on at from earlier.height rest op trail stands earlier.is in
        record {
          height = on.after;
          is = on.onward;
          gives = gone_on trail earlier.gives stands
              (subst (MovesHeight image layout proc.entry from op (pos earlier.height)) on.step.after_is
              (moves-on at from rest op (pos earlier.height) trail stands));
        }

    -- the offset has the height that is found, and no other
    pub record Only (at : ℕ) (height : ℤ) : Type 0 where
      pub level : ℕ
      pub is : height_in heights at ≡ Some level
      pub same : height ≡ pos level
      pub small : level ≤ 32766

    pub only :
        (at : ℕ) (before : List ℕ) (height : ℤ) → GivesHeight image layout proc.entry (at ∷ before) height
        → Only at height
    only _ _ _ entered = record { level = 0; is = all.start; same = refl; small = omega arith }
    only at _ _ (gone_on {from = from} {before = before} {op = op} {height = height} {after = after} trail gives
        stands moves) =
        let earlier = only from before height gives in
        let on = goes-on at from earlier.level before op trail stands earlier.is in
        let node : IsNode image layout proc.entry from = record { before = before; trail = trail.1 } in
        record {
          level = on.after;
          is = on.onward;
          same = moves-only from op height after node stands moves
              ∙ ap (height_after (removed_in removed) op) earlier.same
              ∙ on.step.after_is;
          small = step-small from op earlier.level on.after on.step;
        }
