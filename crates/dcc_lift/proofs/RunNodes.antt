-- Where the ends of blocks lead, and both runs through what is left of a block whose first step is foul.
use Rattle.std.proofs.Common.{◌≡◌, ℕ, zero, suc, ◌<◌, Bool, true, false, ◌==◌, if◌then◌else◌, List, [], ◌∷◌, map, flat_map, slice_get, get_or, Contains, Option, Some, None, option_map, refl, sym, ap, subst, arith}
use Rattle.dcc_run.specs.Prefix.{IsPrefix}
use Rattle.dcc_run.specs.Watched.{state, IsQuiet, IsQuietUntil}
use Rattle.dcc_run.specs.Shadows.{ComesTo, first_foul}
use Rattle.dcc_run.proofs.PaceLaws.{quiet_once}
use Rattle.dcc_machine.specs.declared.instr.Op.{Op}
use Rattle.dcc_machine.specs.declared.instr.Op.TheVariants.{Table, Ret}
use Rattle.dcc_machine.specs.Machine.{State as Machine}
use Rattle.dcc_prog.specs.Trail.{IsEntry}
use Rattle.dcc_prog.specs.Clean.{Stack, Foul, foul_of}
use Rattle.dcc_prog.specs.Watch.{Watch}
use Rattle.dcc_stack.specs.Standing.{Activation}
use Rattle.dcc_ir.specs.Tree.{Expr, Exit, Goto, If, Switch, Ret as RetTo, Stop}
use Rattle.dcc_ir.specs.Run.{State as Inner, value_in, going_to, switching, exit_step}
use Rattle.dcc_ir.proofs.ReachedLaws.{contained}
use Rattle.dcc_ops.specs.Statements.{op_test, exit_to}
use Rattle.dcc_simulation.specs.Nodes.{leads_to}
use Rattle.dcc_simulation.specs.Procedures.{Procedure}
use Rattle.dcc_simulation.specs.Passed.{exit_of}
use Rattle.dcc_lift.specs.Blocks.{node_in, calls_in, IsChain, nodes_in, entry_in, stmts_at}
use Rattle.dcc_lift.proofs.CallFree.{IsCallFree}
use Rattle.dcc_lift.proofs.LocatedBlocks.{stmts-free as scene-stmts-free, chain-free as scene-chain-free}
use Rattle.dcc_lift.proofs.ShownRuns.{IsSoonShown}
use Rattle.dcc_lift.proofs.RunScenes.{Runs, layout, e, machine, inner, within, scene_at, sound-at, AtNode, node_here, foul_step}
use Rattle.dcc_lift.proofs.RunArrives.{InBlock}

-- Ends.

-- an end with other places leads to the places of those
leads-test : (place : ℕ → ℕ) (test : Option Expr) (succ : List ℕ) (u : Inner)
    → leads_to (exit_to test (map place succ)) u ≡ option_map place (leads_to (exit_to test succ) u)
leads-test place (Some test) [] u = refl
leads-test place (Some test) (one ∷ []) u = refl
leads-test place (Some test) (one ∷ other ∷ []) u = go (value_in u test == 1)
  where
    go : (b : Bool) → Some (if b then place one else place other) ≡ Some (place (if b then one else other))
    go true = refl
    go false = refl
leads-test place (Some test) (one ∷ other ∷ more ∷ succ) u = refl
leads-test place None [] u = refl
leads-test place None (one ∷ []) u = refl
leads-test place None (one ∷ other ∷ succ) u = refl

get-map : (place : ℕ → ℕ) (xs : List ℕ) (k : ℕ) → slice_get (map place xs) k ≡ option_map place (slice_get xs k)
get-map place [] k = refl
get-map place (x ∷ xs) zero = refl
get-map place (x ∷ xs) (suc k) = get-map place xs k

pub leads-elsewhere : (place : ℕ → ℕ) (p : Procedure) (op : Op) (succ : List ℕ) (u : Inner)
    → leads_to (exit_of p op (map place succ)) u ≡ option_map place (leads_to (exit_of p op succ) u)
leads-elsewhere place p (Table r offset) succ u = get-map place succ _
leads-elsewhere place p (Ret count) succ u = refl
leads-elsewhere place p op succ u = leads-test place (op_test op) succ u

-- where an end leads the run goes
pub goes-where : (exit : Exit) (u : Inner) (place : ℕ) → leads_to exit u ≡ Some place
    → exit_step exit u ≡ going_to place u
goes-where (Goto to) u place e = let same : to ≡ place = cc in ap (λ n. going_to n u) same
goes-where (If test one other) u place e =
    let same : (if value_in u test == 1 then one else other) ≡ place = cc in ap (λ n. going_to n u) same
goes-where (Switch test places) u place e = ap (λ o. switching o u) e
goes-where (RetTo values) u place e = cc
goes-where Stop u place e = cc

-- where an end leads is one of its places
test-among : (test : Option Expr) (succ : List ℕ) (u : Inner) (to : ℕ) → leads_to (exit_to test succ) u ≡ Some to
    → Contains succ to
test-among (Some test) [] u to e = cc
test-among (Some test) (one ∷ []) u to e = let same : one ≡ to = cc in (0, omega arith, same)
test-among (Some test) (one ∷ other ∷ []) u to e = go (value_in u test == 1) e
  where
    go : (b : Bool) → Some (if b then one else other) ≡ Some to → Contains (one ∷ other ∷ []) to
    go true f = let same : one ≡ to = cc in (0, omega arith, same)
    go false f = let same : other ≡ to = cc in (1, omega arith, same)
test-among (Some test) (one ∷ other ∷ more ∷ succ) u to e = cc
test-among None [] u to e = cc
test-among None (one ∷ []) u to e = let same : one ≡ to = cc in (0, omega arith, same)
test-among None (one ∷ other ∷ succ) u to e = cc

pub leads-among : (p : Procedure) (op : Op) (succ : List ℕ) (u : Inner) (to : ℕ)
    → leads_to (exit_of p op succ) u ≡ Some to → Contains succ to
leads-among p (Table r offset) succ u to e = contained succ _ to e
leads-among p (Ret count) succ u to e = cc
leads-among p op succ u to e = test-among (op_test op) succ u to e

-- the newest frame, by all of them
pub newest-frame : (a b : Activation) (callers others : List Activation)
    → map (λ (x : Activation). x.frame) (a ∷ callers) ≡ map (λ (x : Activation). x.frame) (b ∷ others)
    → a.frame ≡ b.frame
newest-frame a b callers others same = cc

pub only-one : (xs : List ℕ) (x to : ℕ) → xs ≡ x ∷ [] → Contains xs to → to ≡ x
only-one xs x to e has =
    let among : Contains (x ∷ []) to = subst (λ l. Contains l to) e has in
    let first : among.0 ≡ 0 = omega (arith, among.1) in
    sym (subst (λ k. get_or (x ∷ []) k to ≡ to) first among.2)

module _ (c : Runs) where
  -- the machine's steps through what is left of a block, and where both runs then are
  pub record Through (s : Machine) (stack : Stack) (v : Inner) : Type 0 where
    pub steps : ℕ
    pub some : 0 < steps
    pub quiet : IsQuietUntil (machine c) steps (within c s stack)
    pub more : ℕ
    pub more_quiet : (k : ℕ) → k < more → IsQuiet (inner c) (state (inner c) k v)
    pub comes :
        ComesTo (machine c) (inner c) (InBlock c) (state (machine c) steps (within c s stack))
        (state (inner c) more v)

  -- one step, and none more of the inner run
  pub one-step : (s : Machine) (stack : Stack) (v : Inner) (w : Watch)
      → (machine c).system.step (within c s stack) ≡ w
      → ComesTo (machine c) (inner c) (InBlock c) w v → Through s stack v
  one-step s stack v w step comes = record {
    steps = 1;
    some = omega arith;
    quiet = quiet_once (machine c) (within c s stack);
    more = 0;
    more_quiet = λ k less. absurd (omega (arith, less));
    comes = subst (λ x. ComesTo (machine c) (inner c) (InBlock c) x v) (sym step) comes;
  }

  module _ (entry : ℕ) (is_entry : IsEntry c.image (layout c) entry) where
    -- the statements of a chain without CALLs hold no Call
    pub stmts-free : (at : ℕ) → calls_in (node_in (nodes_in (scene_at c entry is_entry)) at) ≡ false
        → IsCallFree (stmts_at (scene_at c entry is_entry) at)
    stmts-free at none = scene-stmts-free (scene_at c entry is_entry) c.image.ip (sound-at c entry is_entry) at none

    pub chain-free : (rest : List ℕ) (at : ℕ) → calls_in (node_in (nodes_in (scene_at c entry is_entry)) at) ≡ false
        → IsChain (nodes_in (scene_at c entry is_entry)) (entry_in (scene_at c entry is_entry)) at rest
        → IsCallFree (flat_map (stmts_at (scene_at c entry is_entry)) (at ∷ rest))
    chain-free rest at none chain =
        scene-chain-free (scene_at c entry is_entry) c.image.ip (sound-at c entry is_entry) rest at none chain

    -- where the machine's step is foul, the inner run goes on to where it is shown
    pub foul-through : (s : Machine) (stack : Stack) (t v : Inner) (a : AtNode c entry s stack t)
        (foul : Foul)
        → foul_of c.program stack s (Some (node_here c entry is_entry s stack t a).0.instr) ≡ Some foul
        → IsSoonShown c.p c.fill t.events v → Through s stack v
    foul-through s stack t v a foul found soon = record {
      steps = 1;
      some = omega arith;
      quiet = quiet_once (machine c) (within c s stack);
      more = soon.more;
      more_quiet = soon.quiet;
      comes =
          subst (λ x. ComesTo (machine c) (inner c) (InBlock c) x (state (inner c) soon.more v))
          (sym (foul_step c entry is_entry s stack t a foul found))
          (first_foul refl soon.shown
          (subst (λ events. IsPrefix events (state (inner c) soon.more v).events) a.agree.coupled.events
          soon.events));
    }
