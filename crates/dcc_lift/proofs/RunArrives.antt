-- Where both runs come to a block, and which procedures wait.
use Rattle.std.proofs.Common.{◌≡◌, ℕ, pos, true, false, if◌then◌else◌, List, [], ◌∷◌, ◌++◌, slice_get, Contains, Option, Some, None, refl, sym, ap, ap₂, ◌∙◌, subst}
use Rattle.std.specs.List.{list_any}
use Rattle.std.proofs.lemmas.List.Folds.{list_any-append}
use Rattle.dcc_prog.specs.declared.procedure.Node.{Node}
use Rattle.dcc_machine.specs.declared.instr.Instr.{Instr}
use Rattle.dcc_machine.specs.declared.instr.Op.TheVariants.{Call as CallOp}
use Rattle.dcc_machine.specs.Machine.{State as Machine}
use Rattle.dcc_prog.specs.Trail.{IsEntry}
use Rattle.dcc_prog.specs.Found.{IsNodeFound}
use Rattle.dcc_prog.specs.Clean.{Stack}
use Rattle.dcc_prog.specs.Watch.{Watch}
use Rattle.dcc_stack.specs.Accepted.{IsAt}
use Rattle.dcc_stack.specs.Standing.{Activation, Stand, StandsIn, WaitsFor, called}
use Rattle.dcc_ir.specs.declared.syntax.Loc.{Loc}
use Rattle.dcc_ir.specs.Tree.{Expr, Stmt, Call, Block, Graph}
use Rattle.dcc_ir.specs.Run.{State as Inner, Waiting, is_call, entering, going_to}
use Rattle.dcc_ir.proofs.PathLaws.{clash}
use Rattle.dcc_ir.proofs.ReachedLaws.{contained}
use Rattle.dcc_simulation.specs.Coupled.{IsActivationOf, WaitsAfterCall, AreWaiting, AreCoupled}
use Rattle.dcc_simulation.specs.Nodes.{procedures_in}
use Rattle.dcc_simulation.specs.Procedures.{Procedure, procedure_at, given_back}
use Rattle.dcc_simulation.specs.Statements.{calling, taking_all_back}
use Rattle.dcc_simulation.specs.Passed.{exit_of}
use Rattle.dcc_lift.specs.Blocks.{node_in, nodes_in, entry_in, block_place, IsBlockAt}
use Rattle.dcc_lift.proofs.ListTests.{or_there}
use Rattle.dcc_lift.proofs.CallFree.{IsCallFree, back-free}
use Rattle.dcc_lift.proofs.ChainLaws.{is_leader}
use Rattle.dcc_lift.proofs.ShownRuns.{is_return, Resumes}
use Rattle.dcc_lift.proofs.Lifting.{procedure_of, node-at, IsCallBlock, call-block}
use Rattle.dcc_lift.proofs.RunScenes.{Runs, newest-in, e, machine, inner, within, located_at, scene_at, block-at, leader-has, AtNode, graph_here, goes, mark_is}

-- What is left of a block after its Call.

-- a list in which a test passes somewhere
passes-there : (before rest : List Stmt) (results : List Loc) (entry : ℕ) (arguments : List Expr) (depth : ℕ)
    → list_any is_call (before ++ Call results entry arguments depth ∷ rest) ≡ true
passes-there before rest results entry arguments depth =
    list_any-append is_call before (Call results entry arguments depth ∷ rest)
    ∙ or_there (list_any is_call before) true refl

rest-after : (caller : Procedure) (height : ℕ) (callee : Option Procedure) (before rest : List Stmt)
    (results : List Loc) (entry : ℕ) (arguments : List Expr) (depth : ℕ)
    → before ++ Call results entry arguments depth ∷ rest ≡ calling caller height callee → IsCallFree rest
rest-after caller height None [] rest results entry arguments depth same = cc
rest-after caller height None (stmt ∷ before) rest results entry arguments depth same = cc
rest-after caller height (Some callee) [] rest results entry arguments depth same =
    let tail : rest ≡ taking_all_back caller height 0 (given_back callee) = cc in
    ap (list_any is_call) tail ∙ back-free caller height 0 (given_back callee)
rest-after caller height (Some callee) (stmt ∷ before) rest results entry arguments depth same =
    let tail : before ++ Call results entry arguments depth ∷ rest ≡ taking_all_back caller height 0
    (given_back callee)
    = cc in
    absurd (clash (passes-there before rest results entry arguments depth)
    (ap (list_any is_call) tail ∙ back-free caller height 0 (given_back callee)))

-- the end of a CALL's block gives nothing back
call-goes : (p : Procedure) (target : ℕ) (places : List ℕ) → is_return (exit_of p (CallOp target) places) ≡ false
call-goes p target [] = refl
call-goes p target (place ∷ []) = refl
call-goes p target (place ∷ other ∷ places) = refl

module _ (c : Runs) where
  -- a procedure that waits, and the block in which its CALL stands
  pub record IsCaller (a : Activation) (target : ℕ) (w : Waiting) : Type 0 where
    pub is_entry : IsEntry c.image c.program.layout a.frame.entry
    pub height : ℕ
    pub is_at : IsAt c.image c.program.layout a.frame.entry a.at a.before (pos height)
    pub node : Node
    pub found :
        node_in (nodes_in (scene_at c a.frame.entry is_entry)) a.at ≡ Some node
    pub is_node : IsNodeFound c.image c.program.layout a.frame.entry (a.at, node)
    pub calls : node.instr.op ≡ CallOp target
    pub block :
        IsCallBlock c.image c.program c.p c.is.of_file c.is.translation a.frame.entry is_entry
        (located_at c a.frame.entry is_entry) target w.caller.block.at height node
        w.caller.block
    pub free : IsCallFree w.caller.rest

  waiting-block : (a callee : Activation) (w : Waiting) (memory : List ℕ) (top bp : ℕ)
      → IsActivationOf (e c) a w.caller → WaitsAfterCall a callee w
      → WaitsFor c.image c.program.layout memory a callee → StandsIn c.image c.program.layout memory a top bp
      → IsCaller a callee.frame.entry w
  waiting-block a callee w memory top bp active after waits stands =
      let is_entry = stands.is_at.is_entry in
      let x = located_at c a.frame.entry is_entry in
      let node =
      node-at c.image c.program c.p c.is.of_file c.is.translation a.frame.entry is_entry x a.at
      (record { before = a.before; trail = stands.is_at.trail }) in
      let same : node.0.instr ≡ waits.instr = one-some (sym node.2.instr ∙ waits.stands) in
      let calls : node.0.instr.op ≡ CallOp callee.frame.entry = ap (λ (i : Instr). i.op) same ∙ waits.calls in
      let graph : w.caller.graph ≡ x.graph = one-some (sym active.graph ∙ x.graph_found) in
      let block =
      call-block c.image c.program c.p c.is.of_file c.is.translation a.frame.entry is_entry x w.caller.block node.0
      callee.frame.entry a.before stands.height
      (subst (λ (g : Graph). Contains g.blocks w.caller.block) graph after.block)
      (ap (node_in (nodes_in (scene_at c a.frame.entry is_entry))) after.at ∙ node.1) calls
      (subst (λ n. IsAt c.image c.program.layout a.frame.entry n a.before (pos stands.height))
      (sym after.at) stands.is_at)
      in
      record {
        is_entry = is_entry;
        height = stands.height;
        is_at = stands.is_at;
        node = node.0;
        found = node.1;
        is_node = node.2;
        calls = calls;
        block = block;
        free =
            rest-after (procedure_of c.image c.program c.p a.frame.entry x) stands.height
            (procedure_at (procedures_in c.program) callee.frame.entry) after.before w.caller.rest w.results
            callee.frame.entry after.arguments after.depth (sym after.stmts ∙ block.stmts);
      }
    where
      one-some : {X : Type 0} {y z : X} → Some y ≡ Some z → y ≡ z
      one-some same = cc

  -- the innermost caller, where one waits
  pub caller-of : (a : Activation) (callers : List Activation) (w : Waiting) (waiting : List Waiting)
      (memory : List ℕ)
      (top bp : ℕ) → AreWaiting (e c) a callers (w ∷ waiting)
      → Stand c.image c.program.layout memory (a ∷ callers) top bp
      → (caller : Activation) × (older : List Activation) × (callers ≡ caller ∷ older)
      × IsCaller caller a.frame.entry w
  caller-of a [] w waiting memory top bp are stand = absurd are
  caller-of a (caller ∷ older) w waiting memory top bp are (called stands waits rest) = (
    caller,
    older,
    refl,
    waiting-block caller a w memory a.frame.base a.caller_bp are.0 are.1 waits (newest-in rest),
  )

  -- the caller that waits goes on in its block, which gives nothing back
  resumes-by : (a : Activation) (callers : List Activation) (waiting : List Waiting) (memory : List ℕ) (top bp : ℕ)
      → AreWaiting (e c) a callers waiting
      → Stand c.image c.program.layout memory (a ∷ callers) top bp → Resumes waiting
  resumes-by a callers [] memory top bp are stand = tt
  resumes-by a callers (w ∷ waiting) memory top bp are stand =
      let x = caller-of a callers w waiting memory top bp are stand in
      let caller = x.3 in (
        caller.free,
        ap is_return caller.block.exit
            ∙ call-goes (procedure_of c.image c.program c.p x.0.frame.entry
            (located_at c x.0.frame.entry caller.is_entry))
            a.frame.entry _,
      )

  pub resumes : (s : Machine) (stack : Stack) (t : Inner) → AreCoupled (e c) s stack t
      → Resumes t.waiting
  resumes s stack t agree =
      resumes-by agree.stands.newest agree.stands.callers t.waiting s.memory _ _ agree.coupled.waiting
      agree.stands.stand

  -- Blocks.

  -- both runs are about to begin the same block
  pub record InBlock (w : Watch) (t : Inner) : Type 0 where
    pub state_of : Machine
    pub stack : Stack
    pub same : w ≡ within c state_of stack
    pub entry : ℕ
    pub is_entry : IsEntry c.image c.program.layout entry
    pub at_node : AtNode c entry state_of stack t
    pub leader :
        is_leader (nodes_in (scene_at c entry is_entry))
        (entry_in (scene_at c entry is_entry)) state_of.ip
        ≡ true
    pub is_block : IsBlockAt (scene_at c entry is_entry) state_of.ip t.running.block
    pub among : Contains t.running.graph.blocks t.running.block
    pub begins : t.running.begins ≡ true
    pub rest_is : t.running.rest ≡ t.running.block.stmts

  -- the run comes to a block of its graph
  abbrev entered : (s : Machine) (stack : Stack) (u : Inner) (block : Block) → AreCoupled (e c) s stack u
      → AreCoupled (e c) s stack (entering (Some block) u)
  entered s stack u block agree =
      let both = agree.coupled in
      record {
        stands = agree.stands;
        coupled = record {
          goes = both.goes;
          running = both.running;
          newest = record {
            graph = both.newest.graph;
            bits = both.newest.bits;
            base = both.newest.base;
            values = both.newest.values;
          };
          waiting = both.waiting;
          words = both.words;
          flags = record {
            carry = both.flags.carry;
            zero = both.flags.zero;
            negative = both.flags.negative;
            overflow = both.flags.overflow;
          };
          input = both.input;
          events = both.events;
          segments = both.segments;
          carried = both.carried;
        };
      }

  -- the runs come to the block of a leader
  pub arrived : (entry : ℕ) (is_entry : IsEntry c.image c.program.layout entry) (s : Machine) (stack : Stack)
      (u : Inner)
      → AtNode c entry s stack u
      → is_leader (nodes_in (scene_at c entry is_entry))
      (entry_in (scene_at c entry is_entry)) s.ip ≡ true
      → InBlock (within c s stack)
      (going_to (block_place (scene_at c entry is_entry) s.ip) u)
  arrived entry is_entry s stack u a leader =
      let scene = scene_at c entry is_entry in
      let place = block_place scene s.ip in
      let graph = graph_here c entry is_entry s stack u a in
      let there = block-at c entry is_entry s.ip leader in
      let found : slice_get u.running.graph.blocks place ≡ Some there.block =
      ap (λ (g : Graph). slice_get g.blocks place) graph ∙ there.found in
      subst (λ o. InBlock (within c s stack) (entering o u)) (sym found) (record {
        state_of = s;
        stack = stack;
        same = refl;
        entry = entry;
        is_entry = is_entry;
        at_node = record { agree = entered s stack u there.block a.agree; here = a.here; waits = a.waits };
        leader = leader;
        is_block = there.is_block;
        among = contained u.running.graph.blocks place there.block found;
        begins = refl;
        rest_is = refl;
      })

  -- the machine is at the mark of its block, and the inner run too
  pub block-mark : (w : Watch) (t : Inner) (b : InBlock w t)
      → (machine c).mark w ≡ Some (record { entry = b.entry; at = b.state_of.ip })
  block-mark w t b =
      ap (machine c).mark b.same
      ∙ mark_is c b.entry b.is_entry b.state_of b.stack t b.at_node true
      (leader-has c b.entry b.is_entry b.state_of.ip b.leader)

  pub inner-mark : (w : Watch) (t : Inner) (b : InBlock w t)
      → (inner c).mark t ≡ Some (record { entry = b.entry; at = b.state_of.ip })
  inner-mark w t b =
      let x = located_at c b.entry b.is_entry in
      let graph = graph_here c b.entry b.is_entry b.state_of b.stack t b.at_node in
      ap (λ begins. if begins then Some (record { entry = t.running.graph.entry; at = t.running.block.at }) else None)
      b.begins
      ∙ ap₂ (λ entry at. Some (record { entry = entry; at = at }))
      (ap (λ (g : Graph). g.entry) graph ∙ ap (λ (g : Graph). g.entry) x.is_graph.graph_is ∙ x.entry_is)
      b.is_block.at_is
