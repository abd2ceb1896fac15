-- From each block that both runs are about to begin they go on to where they match again.
use Rattle.std.proofs.Common.{◌≡◌, ℕ, zero, suc, ◌<◌, Bool, true, false, if◌then◌else◌, List, [], ◌∷◌, flat_map, refl, sym, ap, ◌∙◌, subst, arith}
use Rattle.dcc_run.specs.End.{is_over}
use Rattle.dcc_run.specs.Watched.{state, IsQuiet, IsQuietUntil}
use Rattle.dcc_run.specs.Shadows.{ComesTo, Matches}
use Rattle.dcc_machine.specs.declared.instr.Op.{Op}
use Rattle.dcc_machine.specs.declared.instr.Op.TheVariants.{Call as CallOp}
use Rattle.dcc_machine.specs.Machine.{State as Machine}
use Rattle.dcc_prog.specs.Trail.{IsEntry}
use Rattle.dcc_prog.specs.Clean.{Stack}
use Rattle.dcc_prog.specs.Watch.{Watch}
use Rattle.dcc_ir.specs.Run.{State as Inner, block_step, step}
use Rattle.dcc_lift.specs.Blocks.{node_in, is_call, calls_in, IsChain, BlockSource, nodes_in, entry_in, stmts_at, exit_at, last_of}
use Rattle.dcc_lift.proofs.RunScenes.{Runs, layout, machine, inner, within, scene_at, AtNode, node_here, goes, inner_goes}
use Rattle.dcc_lift.proofs.RunArrives.{InBlock, block-mark, inner-mark}
use Rattle.dcc_lift.proofs.RunNodes.{Through}
use Rattle.dcc_lift.proofs.RunChains.{last-through, mid-through}
use Rattle.dcc_lift.proofs.RunReturns.{return-through}
use Rattle.dcc_lift.proofs.RunCalls.{call-through}

call-of : (op : Op) → is_call op ≡ true → (target : ℕ) × (op ≡ CallOp target)
call-of (CallOp target) is = (target, refl)
call-of op is = cc

module _ (c : Runs) where
  -- the steps through what is left of a block without a CALL
  chain-through : (rest : List ℕ) (entry : ℕ) (is_entry : IsEntry c.image (layout c) entry) (s : Machine)
      (stack : Stack)
      (t : Inner) → AtNode c entry s stack t → calls_in (node_in (nodes_in (scene_at c entry is_entry)) s.ip) ≡ false
      → IsChain (nodes_in (scene_at c entry is_entry)) (entry_in (scene_at c entry is_entry)) s.ip rest
      → t.running.block.exit ≡ exit_at (scene_at c entry is_entry) (last_of s.ip rest)
      → Through c s stack
      (block_step c.p.graphs c.fill (flat_map (stmts_at (scene_at c entry is_entry)) (s.ip ∷ rest)) t)
  chain-through [] entry is_entry s stack t a none chain exit_is =
      last-through c entry is_entry s stack t a none chain exit_is
      (λ count clean is. return-through c entry is_entry s stack t a count clean is exit_is)
  chain-through (to ∷ rest) entry is_entry s stack t a none chain exit_is =
      mid-through c entry is_entry to rest s stack t a none chain exit_is
      (λ s' stack' t' a' none' chain' exit'. chain-through rest entry is_entry s' stack' t' a' none' chain' exit')

  -- the steps through a block
  block-through : (w : Watch) (t : Inner) (b : InBlock c w t)
      → Through c b.state_of b.stack (block_step c.p.graphs c.fill t.running.rest t)
  block-through w t b = by (calls_in (node_in (nodes_in scene) b.state_of.ip)) refl
    where
      scene : BlockSource
      scene = scene_at c b.entry b.is_entry

      by : (call : Bool) → calls_in (node_in (nodes_in (scene_at c b.entry b.is_entry)) b.state_of.ip) ≡ call
          → Through c b.state_of b.stack
          (block_step c.p.graphs c.fill t.running.rest t)
      by true e =
          let node = node_here c b.entry b.is_entry b.state_of b.stack t b.at_node in
          let call = call-of node.0.instr.op (sym (ap calls_in node.1) ∙ e) in
          call-through c b.entry b.is_entry b.state_of b.stack t b.at_node call.0 call.1 b.among
          b.is_block.at_is b.rest_is
      by false e =
          subst (λ l. Through c b.state_of b.stack (block_step c.p.graphs c.fill l t))
          (sym (b.rest_is ∙ b.is_block.stmts_are))
          (chain-through b.is_block.rest b.entry b.is_entry b.state_of b.stack t b.at_node e b.is_block.chain
          b.is_block.exit_is)

  -- one step of the inner run goes through the block
  step-is : (w : Watch) (t : Inner) (b : InBlock c w t)
      → step c.p c.fill t ≡ block_step c.p.graphs c.fill t.running.rest t
  step-is w t b =
      ap (λ over. if over then t else block_step c.p.graphs c.fill t.running.rest t)
      (inner_goes c b.entry b.is_entry b.state_of b.stack t b.at_node)

  pub block-matched : Matches (machine c) (inner c) (InBlock c)
  block-matched w t b =
      let y = block-through w t b in
      let v = block_step c.p.graphs c.fill t.running.rest t in
      record {
        alike = record {
          mark = inner-mark c w t b ∙ sym (block-mark c w t b);
          events = b.at_node.agree.coupled.events ∙ sym (ap (λ (u : Watch). u.machine.events) b.same);
          running =
              ap (λ (u : Watch). is_over u.machine.end) b.same
              ∙ goes c b.entry b.is_entry b.state_of b.stack t b.at_node;
          other_running = inner_goes c b.entry b.is_entry b.state_of b.stack t b.at_node;
          clean = ap (machine c).foul b.same;
        };
        steps = y.steps;
        some = y.some;
        other_steps = suc y.more;
        others = omega arith;
        quiet = subst (IsQuietUntil (machine c) y.steps) (sym b.same) y.quiet;
        other_quiet = quiet-later y.more y.more_quiet;
        comes =
            subst (λ u. ComesTo (machine c) (inner c) (InBlock c) (state (machine c) y.steps u)
            (state (inner c) y.more (step c.p c.fill t))) (sym b.same)
            (subst (λ u. ComesTo (machine c) (inner c) (InBlock c)
            (state (machine c) y.steps (within c b.state_of b.stack)) (state (inner c) y.more u))
            (sym (step-is w t b))
            y.comes);
      }
    where
      quiet-later : (more : ℕ)
          → ((k : ℕ) → k < more
          → IsQuiet (inner c) (state (inner c) k (block_step c.p.graphs c.fill t.running.rest t)))
          → IsQuietUntil (inner c) (suc more) t
      quiet-later more quiet zero some less = absurd (omega (arith, some))
      quiet-later more quiet (suc k) some less =
          let inside : k < more = omega (arith, less) in
          subst (λ u. IsQuiet (inner c) (state (inner c) k u)) (sym (step-is w t b)) (quiet k inside)
