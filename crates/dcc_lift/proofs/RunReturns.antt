-- Both runs through a RET: one step of the machine, and two of the inner run, which returns and then goes on to the
-- end of the caller's block.
use Rattle.std.proofs.Common.{◌≡◌, ℕ, pos, Bool, true, false, ◌==◌, if◌then◌else◌, List, [], ◌∷◌, ◌++◌, map, drop, Contains, Option, Some, None, refl, sym, ap, ◌∙◌, subst, true≢false, arith}
use Rattle.std.specs.List.{list_any}
use Rattle.dcc_run.specs.End.{Running, is_over}
use Rattle.dcc_run.specs.Watched.{state, IsQuiet}
use Rattle.dcc_run.specs.Shadows.{ComesTo, still_related}
use Rattle.dcc_run.specs.ProgramPoint.{ProgramPoint}
use Rattle.dcc_run.proofs.PaceLaws.{quiet_once}
use Rattle.dcc_num.specs.declared.Reg.TheVariants.{Bp}
use Rattle.dcc_machine.specs.declared.instr.Op.TheVariants.{Call as CallOp, Ret}
use Rattle.dcc_machine.specs.Machine.{State as Machine, word_in}
use Rattle.dcc_machine.specs.Successors.{next_of, op_successors}
use Rattle.dcc_prog.specs.Trail.{IsEntry, known_ah, targets_of, instr_successors}
use Rattle.dcc_prog.specs.Clean.{LiveFrame, Stack, top_in, frames_after}
use Rattle.dcc_stack.specs.Accepted.{IsAt}
use Rattle.dcc_stack.specs.Standing.{Activation, StackStands}
use Rattle.dcc_stack.specs.Laws.{at_next, newest_at, activations_after}
use Rattle.dcc_ir.specs.Tree.{Block}
use Rattle.dcc_ir.specs.Run.{State as Inner, Waiting, is_call as is_call_stmt, value_in, returning, giving, going_to, exit_step, block_step, step}
use Rattle.dcc_ir.proofs.ExecuteLaws.{execute-within}
use Rattle.dcc_ir.proofs.StepLaws.{giving-alike}
use Rattle.dcc_simulation.specs.Coupled.{AreWaiting, AreCoupled}
use Rattle.dcc_simulation.specs.Nodes.{procedures_in, returned, resumed}
use Rattle.dcc_simulation.specs.Procedures.{Procedure}
use Rattle.dcc_simulation.specs.Passed.{returned_values, exit_of}
use Rattle.dcc_simulation.specs.Statements as placed
use Rattle.dcc_simulation.proofs.Next.{next-stands}
use Rattle.dcc_simulation.proofs.ReturnNodes.{return-nodes-agree}
use Rattle.dcc_lift.specs.Blocks.{Nodes, node_in, successors_in, is_call, calls_in, onward, BlockSource, nodes_in, entry_in, block_place, stmts_at, node_exit, exit_at}
use Rattle.dcc_lift.specs.Sound.{AreSound}
use Rattle.dcc_lift.proofs.ListTests.{any_contained}
use Rattle.dcc_lift.proofs.ChainLaws.{is_leader, onward_tells, last_goes_to_leaders}
use Rattle.dcc_lift.proofs.ShownRuns.{block-is}
use Rattle.dcc_lift.proofs.RunScenes.{Runs, layout, e, machine, inner, within, newest-in, NoneBegins, scene_at, sound-at, AtNode, stands_here, node_here, clean_instruction, is_node_here, clean_step}
use Rattle.dcc_lift.proofs.RunArrives.{IsCaller, caller-of, InBlock, arrived}
use Rattle.dcc_lift.proofs.RunNodes.{newest-frame, only-one, Through}
use Rattle.dcc_lift.proofs.RunChains.{node, foul, next, next_stack, stmts_are}

-- a CALL leads to no further instruction of its block
pub call-onward : (nodes : Nodes) (entry prelude : ℕ) → AreSound nodes entry prelude → (at : ℕ)
    → calls_in (node_in nodes at) ≡ true → onward nodes entry at ≡ None
call-onward nodes entry prelude sound at calls = by (onward nodes entry at) refl
  where
    by : (o : Option ℕ) → onward nodes entry at ≡ o → onward nodes entry at ≡ None
    by None e = e
    by (Some to) e = absurd (true≢false (sym calls ∙ (onward_tells nodes entry prelude sound at to e).calls))

pub first-of : {X : Type 0} (x y : X) (xs ys : List X) → x ∷ xs ≡ y ∷ ys → x ≡ y
first-of x y xs ys e = cc

module _ (c : Runs) (entry : ℕ) (is_entry : IsEntry c.image (layout c) entry) (s : Machine) (stack : Stack)
    (t : Inner)
    (a : AtNode c entry s stack t) (count : ℕ) (clean : foul c entry is_entry s stack t a ≡ None)
    (is : (node c entry is_entry s stack t a).instr.op ≡ Ret count) where
  abbrev scene : BlockSource
  scene = scene_at c entry is_entry

  abbrev p : Procedure
  p = (scene).procedure

  abbrev after : Machine
  after = next c entry is_entry s stack t a

  abbrev after_stack : Stack
  after_stack = next_stack c entry is_entry s stack t a

  -- What the law of a RET gives.

  returns : (w : Waiting) × (waiting : List Waiting) × (t.waiting ≡ w ∷ waiting)
      × AreCoupled (e c) after after_stack (resumed p t) × ((returned p t).end ≡ Running)
      × ((returned p t).running.rest ≡ w.caller.rest) × ((resumed p t).running.block ≡ w.caller.block)
  returns =
      return-nodes-agree (e c) s stack (node c entry is_entry s stack t a).instr t p (node c entry is_entry s stack t a)
      (stands_here c entry is_entry s stack t a).height count (clean_instruction c entry is_entry s stack t a clean)
      (is_node_here c entry is_entry s stack t a clean) is a.agree.coupled

  abbrev w : Waiting
  w = (returns).0

  abbrev waits : List Waiting
  waits = (returns).1

  waiting_is : t.waiting ≡ w ∷ waits
  waiting_is = (returns).2

  abbrev agree : AreCoupled (e c) after after_stack (resumed p t)
  agree = (returns).3

  waiting-caller : (caller : Activation) × (older : List Activation) × (a.agree.stands.callers ≡ caller ∷ older)
      × IsCaller c caller a.agree.stands.newest.frame.entry w
  waiting-caller =
      caller-of c a.agree.stands.newest a.agree.stands.callers w waits s.memory (top_in (layout c) s) (word_in s Bp)
      (subst (λ l. AreWaiting (e c) a.agree.stands.newest a.agree.stands.callers l) waiting_is
      a.agree.coupled.waiting)
      a.agree.stands.stand

  abbrev caller : Activation
  caller = (waiting-caller).0

  abbrev older : List Activation
  older = (waiting-caller).1

  abbrev known : IsCaller c caller a.agree.stands.newest.frame.entry w
  known = (waiting-caller).3

  abbrev home : BlockSource
  home = scene_at c caller.frame.entry (known).is_entry

  -- The machine goes on at the instruction after the CALL.

  went : (v : StackStands c.image (layout c) after after_stack)
      × (v.newest ∷ v.callers
      ≡ activations_after (node c entry is_entry s stack t a).instr.op (top_in (layout c) s) (word_in s Bp) (after).ip
      (a.agree.stands.newest ∷ a.agree.stands.callers))
  went =
      next-stands (e c) s stack (node c entry is_entry s stack t a).instr
      (clean_instruction c entry is_entry s stack t a clean) a.agree.coupled.goes (agree).coupled.goes

  newest_is : (went).0.newest ≡ at_next caller (after).ip
  newest_is =
      first-of (went).0.newest (at_next caller (after).ip) (went).0.callers older
      ((went).1
      ∙ ap (λ op. activations_after op (top_in (layout c) s) (word_in s Bp) (after).ip
      (a.agree.stands.newest ∷ a.agree.stands.callers)) is
      ∙ ap (newest_at (after).ip) (waiting-caller).2)

  abbrev IsOn : Activation → Type 0
  IsOn x = (height : ℕ) × IsAt c.image (layout c) x.frame.entry x.at x.before (pos height)

  on : IsOn (at_next caller (after).ip)
  on =
      let stands = newest-in (went).0.stand in
      subst IsOn newest_is (stands.height, stands.is_at)

  among : Contains (known).node.succ.items (after).ip
  among =
      subst (λ l. Contains l (after).ip)
      (sym ((known).is_node.succ caller.before (known).is_at.trail)) (on).1.trail.0

  succ_is : (known).node.succ.items ≡ next_of caller.at (known).node.instr ∷ []
  succ_is =
      (known).is_node.succ caller.before (known).is_at.trail
      ∙ ap (instr_successors c.image (layout c) caller.at caller.before) (known).is_node.instr
      ∙ ap (λ op. op_successors op (next_of caller.at (known).node.instr) (known_ah c.image (layout c) caller.before)
      (targets_of c.image (layout c) (known).node.instr.op caller.before)) (known).calls

  at_is : (after).ip ≡ next_of caller.at (known).node.instr
  at_is = only-one (known).node.succ.items (next_of caller.at (known).node.instr) (after).ip succ_is among

  leader : is_leader (nodes_in home) (entry_in home) (after).ip ≡ true
  leader =
      last_goes_to_leaders (nodes_in home) (entry_in home) c.image.ip
      (sound-at c caller.frame.entry (known).is_entry) caller.at [] (after).ip
      (call-onward (nodes_in home) (entry_in home) c.image.ip (sound-at c caller.frame.entry (known).is_entry)
      caller.at
      (ap calls_in (known).found ∙ ap is_call (known).calls))
      (ap (λ o. list_any (λ n. n == (after).ip) (successors_in o)) (known).found
      ∙ any_contained (known).node.succ.items (after).ip among)

  -- The inner run returns.

  returned_is : returned p t ≡ giving (w).results (map (value_in t) (returned_values p))
      (record t { running = (w).caller; waiting = waits })
  returned_is = ap (λ l. returning (map (value_in t) (returned_values p)) l t) waiting_is

  like : (returned p t).running.begins ≡ (w).caller.begins × (returned p t).waiting ≡ waits
  like =
      let alike = giving-alike (w).results (map (value_in t) (returned_values p))
      (record t { running = (w).caller; waiting = waits }) in (
        ap (λ (u : Inner). u.running.begins) returned_is ∙ alike.begins,
        ap (λ (u : Inner). u.waiting) returned_is ∙ alike.waiting,
      )

  none-begin : NoneBegins c ((w) ∷ waits)
  none-begin = subst (NoneBegins c) waiting_is a.waits

  back-node : AtNode c caller.frame.entry after after_stack (resumed p t)
  back-node = record {
    agree = agree;
    here =
        ap (λ (f : LiveFrame). f.entry)
        (newest-frame (agree).stands.newest caller (agree).stands.callers older
        ((agree).stands.frames
        ∙ ap (λ op. frames_after op (top_in (layout c) s) stack.frames) is
        ∙ ap (drop 1) (sym a.agree.stands.frames)
        ∙ ap (map (λ (x : Activation). x.frame)) (waiting-caller).2));
    waits =
        subst (NoneBegins c)
        (sym ((execute-within (returned p t).running.rest (returned p t)).waiting ∙ (like).1)) (none-begin).1;
  }

  returned-goes : is_over (returned p t).end ≡ false
  returned-goes = ap is_over (returns).4

  back : step c.p c.fill (returned p t) ≡ going_to (block_place home (after).ip) (resumed p t)
  back =
      ap (λ b. if b then returned p t else block_step c.p.graphs c.fill (returned p t).running.rest (returned p t))
      returned-goes
      ∙ block-is c.p c.fill (returned p t).running.rest (returned p t)
      (ap (list_any is_call_stmt) (returns).5 ∙ (known).free) returned-goes
      ∙ ap (λ b. if b then resumed p t else exit_step (resumed p t).running.block.exit (resumed p t))
      (ap is_over (agree).coupled.running)
      ∙ ap (λ x. exit_step x (resumed p t))
      (ap (λ (b : Block). b.exit) (returns).6
      ∙ (known).block.exit
      ∙ ap (λ l. exit_of (home).procedure (CallOp a.agree.stands.newest.frame.entry)
      (map (block_place home) l)) succ_is)
      ∙ ap (λ n. going_to (block_place home n) (resumed p t)) (sym at_is)

  -- The block of the RET ends so.

  no-stmts : stmts_at scene s.ip ≡ []
  no-stmts =
      stmts_are c entry is_entry s stack t a
      ∙ ap (λ op. if placed.moves_frame op then [] else
      placed.working_stmts (layout c).cpu (procedures_in c.program) p
      (stands_here c entry is_entry s stack t a).height op
      (node c entry is_entry s stack t a).number) is

  block-ends : t.running.block.exit ≡ exit_at scene s.ip
      → block_step c.p.graphs c.fill (stmts_at scene s.ip ++ []) t ≡ returned p t
  block-ends exit_is =
      ap (λ l. block_step c.p.graphs c.fill (l ++ []) t) no-stmts
      ∙ ap (λ x. exit_step x t)
      (exit_is
      ∙ ap (node_exit scene) (node_here c entry is_entry s stack t a).1
      ∙ ap (λ op. exit_of p op (map (block_place scene) (node c entry is_entry s stack t a).succ.items)) is)

  pub return-through : t.running.block.exit ≡ exit_at scene s.ip
      → Through c s stack (block_step c.p.graphs c.fill (stmts_at scene s.ip ++ []) t)
  return-through exit_is =
      subst (Through c s stack) (sym (block-ends exit_is)) (record {
        steps = 1;
        some = omega arith;
        quiet = quiet_once (machine c) (within c s stack);
        more = 1;
        more_quiet = λ k less.
            let first : k ≡ 0 = omega (arith, less) in
            subst (λ n. IsQuiet (inner c) (state (inner c) n (returned p t))) (sym first) quiet;
        comes =
            subst (λ x. ComesTo (machine c) (inner c) (InBlock c) x (step c.p c.fill (returned p t)))
            (sym (clean_step c entry is_entry s stack t a clean))
            (subst (ComesTo (machine c) (inner c) (InBlock c) (within c after after_stack)) (sym back)
            (still_related (arrived c caller.frame.entry (known).is_entry after after_stack
            (resumed p t) back-node leader)));
      })
    where
      quiet : IsQuiet (inner c) (returned p t)
      quiet = record {
        unmarked = ap mark ((like).0 ∙ (none-begin).0);
        running = returned-goes;
        clean = refl;
      }
        where
          mark : Bool → Option ProgramPoint
          mark b =
              if b then
              Some (record { entry = (returned p t).running.graph.entry; at = (returned p t).running.block.at })
              else None
