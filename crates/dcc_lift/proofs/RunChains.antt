-- Both runs through the instructions of a block, but for a RET: each does what its statements do, up to the end of the
-- block.
use Rattle.std.proofs.Common.{◌≡◌, ℕ, suc, Bool, true, false, ◌==◌, if◌then◌else◌, List, [], ◌∷◌, ◌++◌, map, flat_map, Contains, Option, Some, None, option_map, refl, sym, ap, ◌∙◌, subst, arith}
use Rattle.std.specs.List.{list_any}
use Rattle.dcc_run.specs.End.{is_over}
use Rattle.dcc_run.specs.Watched.{state, IsQuiet, IsQuietUntil}
use Rattle.dcc_run.specs.Shadows.{ComesTo, still_related, both_over}
use Rattle.dcc_run.proofs.PaceLaws.{quiet_before}
use Rattle.dcc_prog.specs.declared.procedure.Node.{Node}
use Rattle.dcc_machine.specs.declared.instr.Op.{Op}
use Rattle.dcc_machine.specs.declared.instr.Op.TheVariants.{Call, Ret}
use Rattle.dcc_machine.specs.Machine.{State as Machine}
use Rattle.dcc_machine.specs.Step.{step as machine_step}
use Rattle.dcc_prog.specs.Trail.{IsEntry}
use Rattle.dcc_prog.specs.Clean.{LiveFrame, Stack, Foul, top_in, foul_of, stack_after}
use Rattle.dcc_prog.specs.CleanLaws.{moves_frames}
use Rattle.dcc_prog.proofs.CleanLaws.{frames-stay}
use Rattle.dcc_ir.specs.Tree.{Stmt, Block}
use Rattle.dcc_ir.specs.Run.{State as Inner, execute, going_to, exit_step, block_step}
use Rattle.dcc_ir.proofs.ExecuteLaws.{execute-within, block-executed}
use Rattle.dcc_simulation.specs.Coupled.{AreCoupled}
use Rattle.dcc_simulation.specs.Nodes.{procedures_in, StepAgrees, agree, over, leads_to}
use Rattle.dcc_simulation.specs.Passed.{exit_of}
use Rattle.dcc_simulation.specs.Statements as placed
use Rattle.dcc_simulation.proofs.NodesAgree.{nodes-agree}
use Rattle.dcc_simulation.proofs.ExitsLead.{exits-lead}
use Rattle.dcc_lift.specs.Blocks.{Nodes, node_in, successors_in, is_call, calls_in, IsChain, BlockSource, nodes_in, entry_in, block_place, stmts_at, node_exit, exit_at, last_of}
use Rattle.dcc_lift.specs.Sound.{GoesOnAt}
use Rattle.dcc_lift.proofs.ListTests.{any_contained}
use Rattle.dcc_lift.proofs.NodeLaws.{node_in_has, node_in_holds}
use Rattle.dcc_lift.proofs.ChainLaws.{is_leader, has_successor, IsOnward, onward_tells, joins_no_leader, last_goes_to_leaders}
use Rattle.dcc_lift.proofs.ShownRuns.{soon-shown}
use Rattle.dcc_lift.proofs.Lifting.{stmts-at}
use Rattle.dcc_lift.proofs.RunScenes.{Runs, layout, e, machine, inner, within, NoneBegins, located_at, scene_at, sound-at, inner-has, AtNode, stands_here, is_at, node_here, clean_instruction, is_node_here, goes, inner_goes, clean_step, mark_is}
use Rattle.dcc_lift.proofs.RunArrives.{InBlock, arrived, resumes}
use Rattle.dcc_lift.proofs.RunNodes.{leads-elsewhere, goes-where, leads-among, newest-frame, only-one, Through, one-step, stmts-free, chain-free, foul-through}

-- an operation that moves frames and calls nothing is a RET
ret-of : (op : Op) → moves_frames op ≡ true → is_call op ≡ false → (count : ℕ) × (op ≡ Ret count)
ret-of (Call target) moves other = cc
ret-of (Ret count) moves other = (count, refl)
ret-of op moves other = cc

module _ (c : Runs) (entry : ℕ) (is_entry : IsEntry c.image (layout c) entry) where
  abbrev scene : BlockSource
  scene = scene_at c entry is_entry

  abbrev nodes : Nodes
  nodes = nodes_in scene

  abbrev begin : ℕ
  begin = entry_in scene

  -- The instruction where the runs agree.

  module _ (s : Machine) (stack : Stack) (t : Inner) (a : AtNode c entry s stack t) where
    abbrev pub node : Node
    node = (node_here c entry is_entry s stack t a).0

    abbrev pub foul : Option Foul
    foul = foul_of c.program stack s (Some node.instr)

    -- the machine, its stack and the inner run after it
    abbrev pub next : Machine
    next = machine_step (layout c).cpu s

    abbrev pub next_stack : Stack
    next_stack = stack_after (layout c) (Some node.instr) s next stack

    abbrev pub done : Inner
    done = execute (stmts_at scene s.ip) t

    pub stmts_are : stmts_at scene s.ip
        ≡ placed.node_stmts (layout c).cpu (procedures_in c.program) (scene).procedure
        (stands_here c entry is_entry s stack t a).height node
    stmts_are =
        stmts-at c.image c.program c.p c.is.of_file c.is.translation entry is_entry
        (located_at c entry is_entry) s.ip node
        a.agree.stands.newest.before (stands_here c entry is_entry s stack t a).height
        (is_at c entry is_entry s stack t a) (node_here c entry is_entry s stack t a).1

    -- after the instruction the machine agrees with the run after its statements
    pub node-agrees : foul ≡ None → moves_frames node.instr.op ≡ false
        → StepAgrees (e c) s stack node.instr done
    node-agrees clean apart =
        subst (λ l. StepAgrees (e c) s stack node.instr (execute l t)) (sym stmts_are)
        (nodes-agree (e c) s stack node.instr t (scene).procedure node
        (stands_here c entry is_entry s stack t a).height (clean_instruction c entry is_entry s stack t a clean)
        (is_node_here c entry is_entry s stack t a clean) apart a.agree.coupled)

    -- the runs are then at the next instruction of the procedure
    pub next-node : moves_frames node.instr.op ≡ false → AreCoupled (e c) next next_stack done
        → AtNode c entry next next_stack done
    next-node apart after = record {
      agree = after;
      here =
          ap (λ (f : LiveFrame). f.entry)
          (newest-frame after.stands.newest a.agree.stands.newest after.stands.callers a.agree.stands.callers
          (after.stands.frames
          ∙ frames-stay node.instr.op (top_in (layout c) s) stack.frames apart
          ∙ sym a.agree.stands.frames))
          ∙ a.here;
      waits = subst (NoneBegins c) (sym (execute-within (stmts_at scene s.ip) t).waiting) a.waits;
    }

    -- the end of the instruction's block leads to where the machine goes on
    pub next-leads : foul ≡ None → moves_frames node.instr.op ≡ false → is_over next.end ≡ false
        → leads_to (exit_of (scene).procedure node.instr.op node.succ.items) done ≡ Some next.ip
    next-leads clean apart on =
        ap (λ l. leads_to (exit_of (scene).procedure node.instr.op node.succ.items) (execute l t)) stmts_are
        ∙ exits-lead (e c) s stack node.instr t (scene).procedure node
        (stands_here c entry is_entry s stack t a).height
        (clean_instruction c entry is_entry s stack t a clean) (is_node_here c entry is_entry s stack t a clean) apart
        a.agree.coupled on

    pub next-among : foul ≡ None → moves_frames node.instr.op ≡ false → is_over next.end ≡ false
        → Contains node.succ.items next.ip
    next-among clean apart on =
        leads-among (scene).procedure node.instr.op node.succ.items done next.ip (next-leads clean apart on)

    -- the end of the block, where it is the last
    pub exit-leads : foul ≡ None → moves_frames node.instr.op ≡ false → is_over next.end ≡ false
        → t.running.block.exit ≡ exit_at scene s.ip
        → exit_step (done).running.block.exit done ≡ going_to (block_place scene next.ip) done
    exit-leads clean apart on exit_is =
        let exit : (done).running.block.exit
        ≡ exit_of (scene).procedure node.instr.op (map (block_place scene) node.succ.items) =
        ap (λ (b : Block). b.exit) (execute-within (stmts_at scene s.ip) t).block
        ∙ exit_is
        ∙ ap (node_exit scene) (node_here c entry is_entry s stack t a).1 in
        ap (λ x. exit_step x done) exit
        ∙ goes-where (exit_of (scene).procedure node.instr.op (map (block_place scene) node.succ.items)) done
        (block_place scene next.ip)
        (leads-elsewhere (block_place scene) (scene).procedure node.instr.op node.succ.items done
        ∙ ap (option_map (block_place scene)) (next-leads clean apart on))

    -- What becomes of it: its step is foul, it is a RET, or the runs agree after it.

    pub data Outcome : Type 0 where
      fouled : (by : Foul) → foul ≡ Some by → Outcome
      returning : (count : ℕ) → foul ≡ None → node.instr.op ≡ Ret count → Outcome
      agreeing : foul ≡ None → moves_frames node.instr.op ≡ false → StepAgrees (e c) s stack node.instr done → Outcome

    pub outcome : calls_in (node_in nodes s.ip) ≡ false → Outcome
    outcome none = by foul refl
      where
        no-call : is_call node.instr.op ≡ false
        no-call = sym (ap calls_in (node_here c entry is_entry s stack t a).1) ∙ none

        clean : (b : Bool) → moves_frames node.instr.op ≡ b → foul ≡ None → Outcome
        clean true moves is = let ret = ret-of node.instr.op moves no-call in returning ret.0 is ret.1
        clean false apart is = agreeing is apart (node-agrees is apart)

        by : (o : Option Foul) → foul ≡ o → Outcome
        by (Some found) is = fouled found is
        by None is = clean (moves_frames node.instr.op) refl is

    -- the inner run's block after its statements
    pub block-on : (rest : List Stmt) → calls_in (node_in nodes s.ip) ≡ false
        → block_step c.p.graphs c.fill (stmts_at scene s.ip ++ rest) t
        ≡ (if is_over (done).end then done else block_step c.p.graphs c.fill rest done)
    block-on rest none =
        block-executed c.p.graphs c.fill (stmts_at scene s.ip) rest t (stmts-free c entry is_entry s.ip none)
        (inner_goes c entry is_entry s stack t a)

    -- both have ended
    pub ended : (rest : List Stmt) → calls_in (node_in nodes s.ip) ≡ false → foul ≡ None
        → is_over next.end ≡ true → (done).end ≡ next.end → (done).events ≡ next.events
        → Through c s stack (block_step c.p.graphs c.fill (stmts_at scene s.ip ++ rest) t)
    ended rest none clean ends end events =
        subst (Through c s stack)
        (sym (block-on rest none ∙ ap (λ b. if b then done else block_step c.p.graphs c.fill rest done)
        (ap is_over end ∙ ends)))
        (one-step c s stack done (within c next next_stack) (clean_step c entry is_entry s stack t a clean)
        (both_over ends end events))

  -- The last instruction.

  module _ (s : Machine) (stack : Stack) (t : Inner) (a : AtNode c entry s stack t)
      (none : calls_in (node_in nodes s.ip) ≡ false) (chain : IsChain nodes begin s.ip [])
      (exit_is : t.running.block.exit ≡ exit_at scene s.ip) where
    last-agrees : foul s stack t a ≡ None → moves_frames (node s stack t a).instr.op ≡ false
        → StepAgrees (e c) s stack (node s stack t a).instr (done s stack t a)
        → Through c s stack (block_step c.p.graphs c.fill (stmts_at scene s.ip ++ []) t)
    last-agrees clean apart (over ends end events) = ended s stack t a [] none clean ends end events
    last-agrees clean apart (agree after) =
        let on : is_over (next s stack t a).end ≡ false = ap is_over after.coupled.goes in
        let here = next-node s stack t a apart after in
        let went : has_successor nodes s.ip (next s stack t a).ip ≡ true =
        ap (λ o. list_any (λ n. n == (next s stack t a).ip) (successors_in o))
        (node_here c entry is_entry s stack t a).1
        ∙ any_contained (node s stack t a).succ.items (next s stack t a).ip (next-among s stack t a clean apart on) in
        let leader =
        last_goes_to_leaders nodes begin c.image.ip (sound-at c entry is_entry) s.ip []
        (next s stack t a).ip chain went in
        let run =
        block-on s stack t a [] none
        ∙ ap (λ b. if b then done s stack t a else exit_step (done s stack t a).running.block.exit (done s stack t a))
        (ap is_over after.coupled.running)
        ∙ exit-leads s stack t a clean apart on exit_is in
        subst (Through c s stack) (sym run)
        (one-step c s stack (going_to (block_place scene (next s stack t a).ip) (done s stack t a))
        (within c (next s stack t a) (next_stack s stack t a))
        (clean_step c entry is_entry s stack t a clean)
        (still_related (arrived c entry is_entry (next s stack t a) (next_stack s stack t a) (done s stack t a) here
        leader)))

    pub last-through :
        ((count : ℕ) → foul s stack t a ≡ None → (node s stack t a).instr.op ≡ Ret count
        → Through c s stack (block_step c.p.graphs c.fill (stmts_at scene s.ip ++ []) t))
        → Through c s stack (block_step c.p.graphs c.fill (stmts_at scene s.ip ++ []) t)
    last-through returns = by (outcome s stack t a none)
      where
        by : Outcome s stack t a → Through c s stack (block_step c.p.graphs c.fill (stmts_at scene s.ip ++ []) t)
        by (fouled found is) =
            foul-through c entry is_entry s stack t _ a found is
            (soon-shown c.p c.fill (stmts_at scene s.ip ++ []) t (chain-free c entry is_entry [] s.ip none chain)
            (inner_goes c entry is_entry s stack t a) (resumes c s stack t a.agree))
        by (returning count clean is) = returns count clean is
        by (agreeing clean apart x) = last-agrees clean apart x

  -- An instruction before others.

  module _ (to : ℕ) (rest : List ℕ) (s : Machine) (stack : Stack) (t : Inner) (a : AtNode c entry s stack t)
      (none : calls_in (node_in nodes s.ip) ≡ false) (chain : IsChain nodes begin s.ip (to ∷ rest))
      (exit_is : t.running.block.exit ≡ exit_at scene (last_of to rest)) where
    abbrev later : List Stmt
    later = flat_map (stmts_at scene) (to ∷ rest)

    onwards : IsOnward nodes begin s.ip to
    onwards = onward_tells nodes begin c.image.ip (sound-at c entry is_entry) s.ip to chain.0

    succ_is : (node s stack t a).succ.items ≡ to ∷ []
    succ_is = sym (ap successors_in (node_here c entry is_entry s stack t a).1) ∙ onwards.succ

    -- the rest of the block
    abbrev Later : Type 0
    Later =
        (s' : Machine) (stack' : Stack) (t' : Inner) → AtNode c entry s' stack' t'
        → calls_in (node_in nodes s'.ip) ≡ false → IsChain nodes begin s'.ip rest
        → t'.running.block.exit ≡ exit_at scene (last_of s'.ip rest)
        → Through c s' stack'
        (block_step c.p.graphs c.fill (flat_map (stmts_at scene) (s'.ip ∷ rest)) t')

    inner-quiet : (here : AtNode c entry (next s stack t a) (next_stack s stack t a) (done s stack t a))
        → (next s stack t a).ip ≡ to → IsQuiet (machine c) (within c (next s stack t a) (next_stack s stack t a))
    inner-quiet here at = record {
      unmarked =
          mark_is c entry is_entry (next s stack t a) (next_stack s stack t a) (done s stack t a) here false
          (inner-has c entry is_entry (next s stack t a).ip
          (node_in_has nodes (next s stack t a).ip _
          (node_here c entry is_entry (next s stack t a) (next_stack s stack t a) (done s stack t a) here).1)
          (subst (λ n. is_leader nodes begin n ≡ false) (sym at)
          (joins_no_leader nodes begin c.image.ip (sound-at c entry is_entry) to onwards.joins)));
      running = goes c entry is_entry (next s stack t a) (next_stack s stack t a) (done s stack t a) here;
      clean = refl;
    }

    on-through : (clean : foul s stack t a ≡ None)
        → AtNode c entry (next s stack t a) (next_stack s stack t a) (done s stack t a)
        → (next s stack t a).ip ≡ to
        → Through c (next s stack t a) (next_stack s stack t a)
        (block_step c.p.graphs c.fill (flat_map (stmts_at scene) ((next s stack t a).ip ∷ rest)) (done s stack t a))
        → is_over (done s stack t a).end ≡ false
        → Through c s stack
        (block_step c.p.graphs c.fill (stmts_at scene s.ip ++ later) t)
    on-through clean here at y on =
        let step = sym (clean_step c entry is_entry s stack t a clean) in
        let v : Inner =
        block_step c.p.graphs c.fill (flat_map (stmts_at scene) ((next s stack t a).ip ∷ rest)) (done s stack t a) in
        let run : block_step c.p.graphs c.fill (stmts_at scene s.ip ++ later) t
        ≡ block_step c.p.graphs c.fill (flat_map (stmts_at scene) ((next s stack t a).ip ∷ rest)) (done s stack t a) =
        block-on s stack t a later none
        ∙ ap (λ b. if b then done s stack t a else block_step c.p.graphs c.fill later (done s stack t a)) on
        ∙ ap (λ n. block_step c.p.graphs c.fill (flat_map (stmts_at scene) (n ∷ rest)) (done s stack t a)) (sym at) in
        subst (Through c s stack) (sym run) (record {
          steps = suc y.steps;
          some = omega arith;
          quiet =
              quiet_before (machine c) y.steps (within c s stack)
              (subst (IsQuiet (machine c)) step (inner-quiet here at))
              (subst (IsQuietUntil (machine c) y.steps) step y.quiet);
          more = y.more;
          more_quiet = y.more_quiet;
          comes =
              subst (λ w. ComesTo (machine c) (inner c) (InBlock c) (state (machine c) y.steps w)
              (state (inner c) y.more v)) step y.comes;
        })

    mid-agrees : Later → foul s stack t a ≡ None → moves_frames (node s stack t a).instr.op ≡ false
        → StepAgrees (e c) s stack (node s stack t a).instr (done s stack t a)
        → Through c s stack
        (block_step c.p.graphs c.fill (stmts_at scene s.ip ++ later) t)
    mid-agrees go clean apart (over ends end events) =
        ended s stack t a later none clean ends end events
    mid-agrees go clean apart (agree after) =
        let on : is_over (next s stack t a).end ≡ false = ap is_over after.coupled.goes in
        let here = next-node s stack t a apart after in
        let at : (next s stack t a).ip ≡ to =
        only-one (node s stack t a).succ.items to (next s stack t a).ip succ_is
        (next-among s stack t a clean apart on) in
        on-through clean here at
        (go (next s stack t a) (next_stack s stack t a) (done s stack t a) here
        (subst (λ n. calls_in (node_in nodes n) ≡ false) (sym at) onwards.next_calls)
        (subst (λ n. IsChain nodes begin n rest) (sym at) chain.1)
        (ap (λ (b : Block). b.exit) (execute-within (stmts_at scene s.ip) t).block
        ∙ exit_is ∙ ap (λ n. exit_at scene (last_of n rest)) (sym at)))
        (ap is_over after.coupled.running)

    -- a RET has no successor
    none-returns : (count : ℕ) → (node s stack t a).instr.op ≡ Ret count → ⊥
    none-returns count is =
        none-of-one
        (subst (λ op. GoesOnAt op (node s stack t a).succ.items) is
        (node_in_holds (λ (found : ℕ × Node). GoesOnAt found.1.instr.op found.1.succ.items) nodes s.ip
        (node s stack t a)
        (sound-at c entry is_entry).agree (node_here c entry is_entry s stack t a).1)) succ_is
      where
        none-of-one : (node s stack t a).succ.items ≡ [] → (node s stack t a).succ.items ≡ to ∷ [] → ⊥
        none-of-one e f = cc

    pub mid-through : Later
        → Through c s stack
        (block_step c.p.graphs c.fill (stmts_at scene s.ip ++ later) t)
    mid-through go = by (outcome s stack t a none)
      where
        by : Outcome s stack t a
            → Through c s stack
            (block_step c.p.graphs c.fill (stmts_at scene s.ip ++ later) t)
        by (fouled found is) =
            foul-through c entry is_entry s stack t _ a found is
            (soon-shown c.p c.fill (stmts_at scene s.ip ++ later) t
            (chain-free c entry is_entry (to ∷ rest) s.ip none chain) (inner_goes c entry is_entry s stack t a)
            (resumes c s stack t a.agree))
        by (returning count clean is) = absurd (none-returns count is)
        by (agreeing clean apart x) = mid-agrees go clean apart x
