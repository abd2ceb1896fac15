-- The points of an instruction do what its statements do, so what is told of these is told of the points.
use Rattle.std.proofs.Common.{◌≡◌, ℕ, ℤ, false, inl, inr, List, [], ◌∷◌, map, Option, Some, None, refl, sym, ap, ◌∙◌, subst, true≢false}
use Rattle.dcc_machine.specs.declared.instr.Op.{Op}
use Rattle.dcc_machine.specs.declared.instr.Op.TheVariants.{Table, Ret}
use Rattle.dcc_ir.specs.declared.syntax.Loc.{Loc}
use Rattle.dcc_ir.specs.Tree.{Expr, Stmt}
use Rattle.dcc_ir.specs.Live.{is_among}
use Rattle.dcc_ops.specs.Statements.{op_test, exit_to}
use Rattle.dcc_simulation.specs.Procedures.{Procedure}
use Rattle.dcc_simulation.specs.Passed.{exit_of}
use Rattle.dcc_lift.specs.Blocks.{is_table}
use Rattle.dcc_lift.specs.Sound.{AgreesWith, GoesOnAt}
use Rattle.dcc_demand.specs.Procedures.{Action, Procedures}
use Rattle.dcc_machine_demand.specs.Holders.{Holder}
use Rattle.dcc_sums.specs.Points.{Position}
use Rattle.dcc_sums.specs.Instance as sums
use Rattle.dcc_sums.specs.Instance.{action_of}
use Rattle.dcc_refinement.specs.Steps as steps
use Rattle.dcc_refinement.specs.Refinement.{Refinement, EffectsAgree, WordEffectsAgree, CallsFirst, ChangesAgree}
use Rattle.dcc_refinement.specs.Refinement.{CalleesAgree, WantsAgree}
use Rattle.dcc_lifted_demand.specs.StatementsTellPoints.{AreAt, TellPoints}
use Rattle.dcc_lifted_demand.proofs.SourceLaws.{statements-tell_points}
use Rattle.dcc_instruction_demand.specs.Agreement.{test_reads, ending, Quiet, Spares, SparedBy, IsCallFirst, Agrees}

-- Ends of blocks.

tested : (test : Option Expr) (places : List ℕ) → AgreesWith test places → sums.used_at_end (exit_to test places) ≡ test_reads test
tested (Some test) [] goes = absurd goes
tested (Some test) (x ∷ []) goes = absurd goes
tested (Some test) (x ∷ y ∷ []) goes = refl
tested (Some test) (x ∷ y ∷ z ∷ places) goes = absurd goes
tested None [] goes = refl
tested None (x ∷ []) goes = refl
tested None (x ∷ y ∷ places) goes = absurd goes

-- the end of a block uses what its last operation tells
pub used_at_end : (p : Procedure) (op : Op) (places : List ℕ) → GoesOnAt op places → sums.used_at_end (exit_of p op places) ≡ ending op
used_at_end p (Table r offset) places goes = refl
used_at_end p (Ret count) places goes = refl
used_at_end p op places goes = tested (op_test op) places goes

one_place : (test : Option Expr) (next : ℕ) → AgreesWith test (next ∷ []) → test_reads test ≡ []
one_place (Some test) next goes = absurd goes
one_place None next goes = refl

-- what goes on at one place, and is no jump through a table, tests nothing
pub no_test : (op : Op) (next : ℕ) → is_table op ≡ false → GoesOnAt op (next ∷ []) → ending op ≡ []
no_test (Table r offset) next f goes = absurd (true≢false f)
no_test (Ret count) next f goes = refl
no_test op next f goes = one_place (op_test op) next goes

alike : (test : Option Expr) (f : ℕ → ℕ) (places : List ℕ) → AgreesWith test places → AgreesWith test (map f places)
alike (Some test) f [] goes = absurd goes
alike (Some test) f (x ∷ []) goes = absurd goes
alike (Some test) f (x ∷ y ∷ []) goes = tt
alike (Some test) f (x ∷ y ∷ z ∷ places) goes = absurd goes
alike None f [] goes = tt
alike None f (x ∷ []) goes = tt
alike None f (x ∷ y ∷ places) goes = absurd goes

-- an operation goes on at as many places, whatever the places are
pub goes_on_alike : (op : Op) (f : ℕ → ℕ) (places : List ℕ) → GoesOnAt op places → GoesOnAt op (map f places)
goes_on_alike (Table r offset) f places goes = tt
goes_on_alike (Ret count) f places goes = ap (map f) goes
goes_on_alike op f places goes = alike (op_test op) f places goes

-- What points do.

module _ (coarse : Procedures ℕ Holder ℤ) (fine : Procedures Position Loc Loc) (r : Refinement ℕ Holder ℤ Position Loc Loc) (entry at pushed : ℕ) (stmts : List Stmt) (after : List Loc)
    (are : AreAt (fine.procedure entry) pushed (r.steps entry at) stmts after) (agrees : Agrees coarse fine r entry at pushed stmts after) where
  tell : TellPoints (fine.procedure entry) pushed (r.steps entry at) stmts after
  tell = statements-tell_points (fine.procedure entry) pushed (r.steps entry at) stmts after are

  pub changes_agree : ChangesAgree coarse fine r entry at
  changes_agree = record {
    effect = λ L l s t. subst (λ x. EffectsAgree coarse fine r entry (((coarse.procedure entry).action at).effect L) x) (sym (tell.effect l)) (agrees.effect L l s t);
    word_effect = λ L l k w s t u. subst (λ x. WordEffectsAgree coarse fine r L l (((coarse.procedure entry).action at).word_effect k) x) (sym (tell.word_effect w)) (agrees.word_effect L l k w s t u);
    pushed = λ L l k s t e. let both = agrees.saved L l k s t e in (both.0, tell.effect l ∙ both.1);
    popped = λ L l k w s t u e. tell.word_effect w ∙ agrees.popped L l k w s t u e;
  }

  pub wants_agree : WantsAgree coarse fine r entry at
  wants_agree = record {
    carried = λ L A l a s t c. elim (agrees.carried L A l a s t c) [
      | inl f ↦ inl ((tell.flows l a).1 f)
      | inr u ↦ inr ((tell.uses l).1 u)
    ];
    taken = λ L l s t. (tell.uses l).1 (agrees.taken L l s t);
    flows = λ A l a s f. agrees.flows A l a s ((tell.flows l a).0 f);
    uses = λ l u. agrees.uses l ((tell.uses l).0 u);
    made = agrees.made;
  }

  -- Calls.

  quiet_end : (points : List Position) → AreAt (fine.procedure entry) pushed points [] after → steps.CallNothing (fine.procedure entry) points
  quiet_end [] here = tt
  quiet_end (a ∷ points) here =
      (ap (λ (x : Action Loc Loc). x.callee) here.1, subst (λ ps. steps.CallNothing (fine.procedure entry) ps) (sym here.0) tt)

  quiet_along : (points : List Position) (some : List Stmt) → AreAt (fine.procedure entry) pushed points some after → Quiet some → steps.CallNothing (fine.procedure entry) points
  quiet_along points [] here quiet = quiet_end points here
  quiet_along [] (s ∷ some) here quiet = absurd here
  quiet_along (a ∷ points) (s ∷ some) here quiet = (ap (λ (x : Action Loc Loc). x.callee) here.0 ∙ quiet.0, quiet_along points some here.1 quiet.1)

  spared_end : (points : List Position) (l : Loc) → AreAt (fine.procedure entry) pushed points [] after → is_among after l ≡ false → steps.PassBy (fine.procedure entry) l points
  spared_end [] l here unused = tt
  spared_end (a ∷ points) l here unused = (
    record { unmade = λ to. ap (λ (x : Action Loc Loc). x.made_of to l) here.1; unwritten = ap (λ (x : Action Loc Loc). x.surely l) here.1 },
    ap (λ (x : Action Loc Loc). x.uses l) here.1 ∙ unused,
    subst (λ ps. steps.PassBy (fine.procedure entry) l ps) (sym here.0) tt,
  )

  spared_at : (a : Position) (s : Stmt) (l : Loc) → (fine.procedure entry).action a ≡ action_of pushed s → Spares l s → steps.Passes (fine.procedure entry) l a
  spared_at a s l here spares = record {
    unmade = λ to. ap (λ (x : Action Loc Loc). x.made_of to l) here ∙ spares.0;
    unwritten = ap (λ (x : Action Loc Loc). x.surely l) here ∙ spares.1;
  }

  spared_along : (points : List Position) (some : List Stmt) (l : Loc) → AreAt (fine.procedure entry) pushed points some after → SparedBy l some → is_among after l ≡ false
      → steps.PassBy (fine.procedure entry) l points
  spared_along points [] l here spared unused = spared_end points l here unused
  spared_along [] (s ∷ some) l here spared unused = absurd here
  spared_along (a ∷ points) (s ∷ some) l here spared unused = (
    spared_at a s l here.0 spared.0,
    ap (λ (x : Action Loc Loc). x.uses l) here.0 ∙ spared.1,
    spared_along points some l here.1 spared.2 unused,
  )

  calls_first : (callee : ℕ) → IsCallFirst coarse fine r entry at pushed stmts after callee → CallsFirst coarse fine r entry callee at
  calls_first callee first = by (r.steps entry at) refl (subst (λ ss. AreAt (fine.procedure entry) pushed (r.steps entry at) ss after) first.stmts_are are)
    where
      by : (points : List Position) → r.steps entry at ≡ points → AreAt (fine.procedure entry) pushed points (first.call ∷ first.others) after → CallsFirst coarse fine r entry callee at
      by [] e here = absurd here
      by (a ∷ points) e here = record {
        call = a;
        others = points;
        steps_are = e;
        calls = ap (λ (x : Action Loc Loc). x.callee) here.0 ∙ first.calls;
        then = quiet_along points first.others here.1 first.then;
        left = first.left;
        passed = λ l t. let spared = first.spared l t in (spared_at a first.call l here.0 spared.0, spared_along points first.others l here.1 spared.1 spared.2);
      }

  pub callees_agree : CalleesAgree coarse fine r entry at
  callees_agree = elim agrees.callees [
    | inl none ↦ inl (none.0, quiet_along (r.steps entry at) stmts are none.1)
    | inr some ↦ inr (some.0, some.1, calls_first some.0 some.2)
  ]
