-- Both runs through a CALL: one step of each, to the first block of the procedure that is called.
use Rattle.std.proofs.Common.{◌≡◌, inl, inr, ℕ, suc, ◌+◌, pos, true, false, ◌==◌, if◌then◌else◌, List, ◌∷◌, map, slice_get, Contains, Option, Some, None, refl, sym, ap, ◌∙◌, subst, eqb-true, eq-eqb, arith}
use Rattle.dcc_run.specs.Shadows.{still_related}
use Rattle.dcc_num.specs.declared.Reg.TheVariants.{Bp}
use Rattle.dcc_machine.specs.declared.instr.Op.TheVariants.{Call as CallOp}
use Rattle.dcc_machine.specs.Machine.{State as Machine, word_in}
use Rattle.dcc_prog.specs.declared.refusal.ConstructKind.TheVariants.{EntryReturn}
use Rattle.dcc_prog.specs.Trail.{IsEntry, StandsAt, called}
use Rattle.dcc_prog.specs.Construct.{entry_return, calls}
use Rattle.dcc_prog.specs.Clean.{LiveFrame, Stack, Foul, top_in, frames_after}
use Rattle.dcc_stack.specs.Accepted.{IsAt}
use Rattle.dcc_stack.specs.Standing.{Activation, StackStands}
use Rattle.dcc_stack.specs.Laws.{activations_after}
use Rattle.dcc_ir.specs.declared.syntax.Loc.{Loc}
use Rattle.dcc_ir.specs.Location.{filled}
use Rattle.dcc_ir.specs.Tree.{Block, Graph}
use Rattle.dcc_ir.specs.Run.{State as Inner, value_in, entering, activation, passing, callee_base, calling as calling_step, graph_at, block_step}
use Rattle.dcc_ir.proofs.PathLaws.{decided}
use Rattle.dcc_ir.proofs.StepLaws.{passing-alike}
use Rattle.dcc_ir.proofs.ReachedLaws.{contained}
use Rattle.dcc_simulation.specs.Coupled.{AreCoupled}
use Rattle.dcc_simulation.specs.Procedures.{Procedure, given_back}
use Rattle.dcc_simulation.specs.Statements.{results_of, arguments_of, calling, taking_all_back}
use Rattle.dcc_simulation.proofs.CallNodes.{call-nodes-agree}
use Rattle.dcc_simulation.proofs.Next.{next-stands}
use Rattle.dcc_lift.specs.Blocks.{node_in, leaders, place_in, BlockSource, nodes_in, entry_in, block_place, IsBlockAt}
use Rattle.dcc_lift.proofs.ChainLaws.{is_leader, entry_is_leader}
use Rattle.dcc_lift.proofs.BlockLaws.{HasBlock}
use Rattle.dcc_lift.proofs.ShownRuns.{call-soon}
use Rattle.dcc_lift.proofs.Lifting.{call-block}
use Rattle.dcc_lift.proofs.RunScenes.{Runs, layout, e, within, NoneBegins, located_at, scene_at, before-is, sound-at, block-at, AtNode, stands_here, is_at, node_here, graph_here, clean_instruction, is_node_here, inner_goes, clean_step}
use Rattle.dcc_lift.proofs.RunArrives.{InBlock}
use Rattle.dcc_lift.proofs.RunNodes.{Through, one-step, foul-through}
use Rattle.dcc_lift.proofs.RunChains.{node, foul, next, next_stack}

-- entering a block leaves the waiting activations as they are
entering-waiting : (block : Option Block) (t : Inner) → (entering block t).waiting ≡ t.waiting
entering-waiting (Some block) t = refl
entering-waiting None t = refl

called-waiting : (fill : ℕ) (results : List Loc) (depth : ℕ) (arguments : List ℕ) (graph : Graph) (t : Inner)
    → (calling_step fill results depth arguments (Some graph) t).waiting
    ≡ record { caller = t.running; results = results } ∷ t.waiting
called-waiting fill results depth arguments graph t =
    let begun : Inner = record t {
      running = activation graph (filled graph.bits fill) (callee_base t.running.base depth);
      waiting = record { caller = t.running; results = results } ∷ t.waiting;
    } in
    let passed : Inner = passing 0 graph.params arguments begun in
    entering-waiting (slice_get passed.running.graph.blocks 0) passed
    ∙ (passing-alike 0 graph.params arguments begun).waiting

first-frame : (a : Activation) (callers : List Activation) (frame : LiveFrame) (frames : List LiveFrame)
    → map (λ (x : Activation). x.frame) (a ∷ callers) ≡ frame ∷ frames → a.frame ≡ frame
first-frame a callers frame frames same = cc

first-of : (x y : Activation) (xs ys : List Activation) → x ∷ xs ≡ y ∷ ys → x ≡ y
first-of x y xs ys same = cc

first-place : (x : ℕ) (xs : List ℕ) (at : ℕ) → x ≡ at → place_in (x ∷ xs) at ≡ 0
first-place x xs at same = ap (λ b. if b then 0 else suc (place_in xs at)) (eq-eqb x at same)

module _ (c : Runs) (entry : ℕ) (is_entry : IsEntry c.image (layout c) entry) (s : Machine) (stack : Stack)
    (t : Inner)
    (a : AtNode c entry s stack t) (target : ℕ)
    (is : (node c entry is_entry s stack t a).instr.op ≡ CallOp target) where
  abbrev scene : BlockSource
  scene = scene_at c entry is_entry

  abbrev p : Procedure
  p = (scene).procedure

  abbrev height : ℕ
  height = (stands_here c entry is_entry s stack t a).height

  abbrev after : Machine
  after = next c entry is_entry s stack t a

  abbrev after_stack : Stack
  after_stack = next_stack c entry is_entry s stack t a

  -- The procedure that is called.

  call-stands : StandsAt c.image (layout c) s.ip (CallOp target)
  call-stands = ((node c entry is_entry s stack t a).instr, (node_here c entry is_entry s stack t a).2.instr, is)

  is_target : IsEntry c.image (layout c) target
  is_target = called is_entry (node_here c entry is_entry s stack t a).2.node call-stands

  abbrev home : BlockSource
  home = scene_at c target is_target

  -- the called procedure isn't the entry procedure, which nothing calls
  other : ((layout c).start_ip == target) ≡ false
  other = elim (decided ((layout c).start_ip == target)) [
    | inr different ↦ different
    | inl same ↦
        absurd (c.is.of_file.is_program.procs.no_construct EntryReturn s.ip (record {
          entry = entry;
          is_entry = is_entry;
          node = (node_here c entry is_entry s stack t a).2.node;
          stands =
              entry_return (calls (subst (λ n. StandsAt c.image (layout c) s.ip (CallOp n))
              (sym (eqb-true (layout c).start_ip target same)) call-stands));
        }))
  ]

  entry_is : entry_in home ≡ target
  entry_is = (located_at c target is_target).entry_is

  leader : is_leader (nodes_in home) (entry_in home) target ≡ true
  leader =
      subst (λ n. is_leader (nodes_in home) (entry_in home) n ≡ true) entry_is
      (entry_is_leader (nodes_in home) (entry_in home) c.image.ip (sound-at c target is_target))

  first : HasBlock home (located_at c target is_target).graph.blocks (block_place home target) target
  first = block-at c target is_target target leader

  -- the first block of its graph is that of its entry
  place_is : block_place home target ≡ 0
  place_is =
      let none : (home).before ≡ 0 = before-is c target is_target ∙ ap (λ b. if b then 1 else 0) other in
      let begins : place_in (leaders (nodes_in home) (entry_in home)) target ≡ 0 =
      first-place (entry_in home) _ target entry_is in
      omega (arith, none, begins)

  -- The block of the CALL.

  module _ (has : Contains t.running.graph.blocks t.running.block) (at_is : t.running.block.at ≡ s.ip)
      (rest_is : t.running.rest ≡ t.running.block.stmts) where
    abbrev callee : Procedure
    callee = (home).procedure

    stmts_are : t.running.rest ≡ calling p height (Some callee)
    stmts_are =
        rest_is
        ∙ (call-block c.image c.program c.p c.is.of_file c.is.translation entry is_entry (located_at c entry is_entry)
        t.running.block (node c entry is_entry s stack t a) target a.agree.stands.newest.before height
        (subst (λ (g : Graph). Contains g.blocks t.running.block) (graph_here c entry is_entry s stack t a) has)
        (ap (node_in (nodes_in scene)) at_is ∙ (node_here c entry is_entry s stack t a).1) is
        (subst (λ n. IsAt c.image (layout c) entry n a.agree.stands.newest.before (pos height)) (sym at_is)
        (is_at c entry is_entry s stack t a))).stmts
        ∙ ap (calling p height) (located_at c target is_target).procedure_found

    abbrev begun : Inner
    begun = block_step c.p.graphs c.fill (calling p height (Some callee)) t

    -- A clean CALL.

    module _ (clean : foul c entry is_entry s stack t a ≡ None) where
      agreed : AreCoupled (e c) after after_stack begun × ((begun).running.block ≡ (first).block)
          × ((begun).running.rest ≡ (first).block.stmts) × ((begun).running.begins ≡ true)
      agreed =
          call-nodes-agree (e c) s stack (node c entry is_entry s stack t a).instr t p
          (node c entry is_entry s stack t a)
          height c.fill target callee (located_at c target is_target).graph (first).block
          (clean_instruction c entry is_entry s stack t a clean) (is_node_here c entry is_entry s stack t a clean) is
          a.agree.coupled has at_is c.small (located_at c target is_target).procedure_found
          (located_at c target is_target).graph_found
          (ap (slice_get (located_at c target is_target).graph.blocks) (sym place_is) ∙ (first).found)

      went : (v : StackStands c.image (layout c) after after_stack)
          × (v.newest ∷ v.callers
          ≡ activations_after (node c entry is_entry s stack t a).instr.op (top_in (layout c) s) (word_in s Bp)
          (after).ip
          (a.agree.stands.newest ∷ a.agree.stands.callers))
      went =
          next-stands (e c) s stack (node c entry is_entry s stack t a).instr
          (clean_instruction c entry is_entry s stack t a clean) a.agree.coupled.goes (agreed).0.coupled.goes

      arrives : (after).ip ≡ target
      arrives =
          sym (went).0.place
          ∙ ap (λ (x : Activation). x.at)
          (first-of (went).0.newest _ (went).0.callers _
          ((went).1
          ∙ ap (λ op. activations_after op (top_in (layout c) s) (word_in s Bp) (after).ip
          (a.agree.stands.newest ∷ a.agree.stands.callers)) is))

      callee-node : AtNode c target after after_stack begun
      callee-node = record {
        agree = (agreed).0;
        here =
            ap (λ (f : LiveFrame). f.entry)
            (first-frame (agreed).0.stands.newest (agreed).0.stands.callers _ stack.frames
            ((agreed).0.stands.frames ∙ ap (λ op. frames_after op (top_in (layout c) s) stack.frames) is));
        waits =
            subst (NoneBegins c)
            (sym (ap (λ o. (calling_step c.fill (results_of callee) (height + 2)
            (map (value_in t) (arguments_of p height callee)) o called_from).waiting)
            (ap (graph_at c.p.graphs) entry_is ∙ (located_at c target is_target).graph_found)
            ∙ called-waiting c.fill (results_of callee) (height + 2) (map (value_in t) (arguments_of p height callee))
            (located_at c target is_target).graph called_from))
            (refl, a.waits);
      }
        where
          called_from : Inner
          called_from = record t {
            running = record t.running { rest = taking_all_back p height 0 (given_back callee); begins = false };
          }

      in-callee : InBlock c (within c after after_stack) begun
      in-callee =
          let graph = graph_here c target is_target after after_stack begun callee-node in
          record {
            state_of = after;
            stack = after_stack;
            same = refl;
            entry = target;
            is_entry = is_target;
            at_node = callee-node;
            leader = subst (λ n. is_leader (nodes_in home) (entry_in home) n ≡ true) (sym arrives) leader;
            is_block =
                subst (λ n. IsBlockAt home n (begun).running.block) (sym arrives)
                (subst (IsBlockAt home target) (sym (agreed).1) (first).is_block);
            among =
                subst (λ (g : Graph). Contains g.blocks (begun).running.block) (sym graph)
                (subst (Contains (located_at c target is_target).graph.blocks) (sym (agreed).1)
                (contained (located_at c target is_target).graph.blocks (block_place home target) (first).block
                (first).found));
            begins = (agreed).3;
            rest_is = (agreed).2 ∙ ap (λ (b : Block). b.stmts) (sym (agreed).1);
          }

    pub call-through : Through c s stack (block_step c.p.graphs c.fill t.running.rest t)
    call-through =
        subst (λ l. Through c s stack (block_step c.p.graphs c.fill l t)) (sym stmts_are)
        (by (foul c entry is_entry s stack t a) refl)
      where
        by : (o : Option Foul) → foul c entry is_entry s stack t a ≡ o → Through c s stack begun
        by (Some found) fouled =
            foul-through c entry is_entry s stack t begun a found fouled
            (call-soon c.p c.fill (results_of callee) (callee).proc.entry (arguments_of p height callee) (height + 2)
            (taking_all_back p height 0 (given_back callee)) t (inner_goes c entry is_entry s stack t a))
        by None clean =
            one-step c s stack begun (within c after after_stack)
            (clean_step c entry is_entry s stack t a clean) (still_related (in-callee clean))
