-- Each step of the inner run keeps where it stands, whether the machine's run is clean or not.
use Rattle.std.proofs.Common.{◌≡◌, ℕ, zero, suc, ◌+◌, pos, Bool, true, false, List, [], ◌∷◌, map, flat_map, Option, Some, None, refl, sym, ap, ◌∙◌, subst, true≢false}
use Rattle.std.specs.Prelude.{if◌then◌else◌, slice_get, option_map, Contains}
use Rattle.std.proofs.lemmas.List.{append-nil}
use Rattle.dcc_run.specs.End.{is_over}
use Rattle.dcc_run.specs.System.{after}
use Rattle.dcc_machine.specs.declared.image.Image.{Image}
use Rattle.dcc_prog.specs.declared.frame.Program.{Program as Analysed}
use Rattle.dcc_machine.specs.declared.instr.Op.{Op}
use Rattle.dcc_machine.specs.declared.instr.Op.TheVariants.{Call as CallOp}
use Rattle.dcc_machine.specs.declared.instr.Instr.{Instr}
use Rattle.dcc_prog.specs.Trail.{operation_in, IsEntry, called}
use Rattle.dcc_stack.specs.Accepted.{IsAt}
use Rattle.dcc_ir.specs.Location.{filled}
use Rattle.dcc_ir.specs.Tree.{Stmt, Block, Graph, Program}
use Rattle.dcc_ir.specs.WellFormed.{IsProgram}
use Rattle.dcc_ir.specs.Run.{State as Inner, value_in, execute, activation, entering, passing, callee_base, calling, graph_at, exit_step, block_step, step}
use Rattle.dcc_ir.proofs.ExecuteLaws.{execute-within, block-executed}
use Rattle.dcc_ir.proofs.FitStates.{IsFit, scene-fits}
use Rattle.dcc_ir.proofs.ReachedLaws.{IsGood, within-of, step-good}
use Rattle.dcc_ir.proofs.StepLaws.{passing-alike}
use Rattle.dcc_simulation.specs.Nodes.{leads_to}
use Rattle.dcc_simulation.specs.Passed.{exit_of}
use Rattle.dcc_simulation.specs.Procedures.{Procedure, given_back}
use Rattle.dcc_simulation.specs.Statements.{results_of, arguments_of, taking_all_back}
use Rattle.dcc_simulation.specs.Statements as placed
use Rattle.dcc_lift.specs.Blocks.{node_in, is_call, calls_in, last_of, BlockSource, nodes_in, entry_in, block_place, stmts_at, node_exit}
use Rattle.dcc_lift.specs.Translated.{IsTranslated}
use Rattle.dcc_lift.specs.Translation.{prelude_block}
use Rattle.dcc_lift.proofs.CallFree.{IsCallFree, back-free}
use Rattle.dcc_lift.proofs.ChainLaws.{last_goes_to_leaders}
use Rattle.dcc_lift.proofs.Lifting.{IsCallBlock, call-block}
use Rattle.dcc_lift.proofs.RunReturns.{call-onward}
use Rattle.dcc_lift.proofs.NeverForms.{is_followed, is_followed_in, followed-none}
use Rattle.dcc_lift.proofs.NeverSteps.{here, IsRunning, afresh, goes-on}
use Rattle.dcc_lift.proofs.NeverChains.{is-running, IsGoing, going-later, IsThrough, through}
use Rattle.dcc_lift.proofs.LocatedBlocks.{chain-free, located_at, sound_at}
use Rattle.dcc_lift.proofs.NeverStands.{entering-waiting, procedure_at, graph_of, scene_of_entry, leads, Here, Follows, AtCall, AtBlock, AtPrelude, Stands, at_block, at_call, at_prelude, AllWait, Keeps, bits-of, entered-follows, arrives, entry-leads, entry-follows, graph-begins, IsAtEnd, end-keeps}

-- Blocks are entered by runs that go on, with numbers that fit.

entered-on : (block : Option Block) (u : Inner) → is_over (entering block u).end ≡ false → is_over u.end ≡ false
entered-on None u on = cc
entered-on (Some block) u on = on

pub entered-fit : (block : Option Block) (u : Inner) → IsFit (entering block u) → IsFit u
entered-fit None u fit = record { values = fit.values; memory = fit.memory; console = fit.console }
entered-fit (Some block) u fit = record { values = fit.values; memory = fit.memory; console = fit.console }

-- a CALL
called-op : (op : Op) → is_call op ≡ true → (target : ℕ) × (op ≡ CallOp target)
called-op (CallOp target) e = (target, refl)
called-op op e = cc

module _ (image : Image) (program : Analysed) (p : Program) (well : IsProgram p) (is : IsTranslated image program p)
    (fill : ℕ) where
  open program use {layout}

  abbrev KeepsHere : Inner → Type 0
  KeepsHere t = Keeps image program p is t

  abbrev Waits : Inner → Type 0
  Waits t = AllWait image program p is t.waiting

  -- Through what is left of a block.

  going : (t : Inner) → IsGood p t → is_over t.end ≡ false → IsGoing p t.running.rest t
  going t good on = record { within = within-of p well t (good.active on) good.safe; fit = good.safe.fit }

  module _ (t : Inner) (good : IsGood p t) (on : is_over t.end ≡ false) (free : IsCallFree t.running.rest) where
    -- after its statements
    abbrev executed : Inner
    executed = execute t.running.rest t

    abbrev ended : Inner
    ended = exit_step executed.running.block.exit executed

    fit-after : is_over executed.end ≡ false → IsFit executed
    fit-after still =
        (going-later p well t.running.rest [] t free
        (subst (λ l. IsGoing p l t) (sym (append-nil t.running.rest)) (going t good on)) still).fit

    graph-after : (entry : ℕ) (is_entry : IsEntry image layout entry)
        → t.running.graph ≡ graph_of image program p is entry is_entry
        → executed.running.graph ≡ graph_of image program p is entry is_entry
    graph-after entry is_entry graph_is = (execute-within t.running.rest t).graph ∙ graph_is

    runs-after : (entry : ℕ) (is_entry : IsEntry image layout entry)
        → t.running.graph ≡ graph_of image program p is entry is_entry → is_over executed.end ≡ false
        → IsRunning image program p is.of_file is.translation entry is_entry
        (located_at image program p is entry is_entry) executed
    runs-after entry is_entry graph_is still = record {
      running = is-running executed.end still;
      bits =
          bits-of image program p is entry is_entry executed.running.graph (graph-after entry is_entry graph_is);
      fits = scene-fits executed (fit-after still);
    }

    waits-after : Waits t → Waits executed
    waits-after wait = subst (AllWait image program p is) (sym (execute-within t.running.rest t).waiting) wait

    -- the step is through the statements and the block's end
    free-step : (is_over executed.end ≡ false → is_over ended.end ≡ false → KeepsHere ended)
        → is_over (block_step p.graphs fill t.running.rest t).end ≡ false
        → KeepsHere (block_step p.graphs fill t.running.rest t)
    free-step ends =
        subst (λ (v : Inner). is_over v.end ≡ false → KeepsHere v) (sym same) (by (is_over executed.end) refl)
      where
        same : block_step p.graphs fill t.running.rest t ≡ (if is_over executed.end then executed else ended)
        same =
            ap (λ l. block_step p.graphs fill l t) (sym (append-nil t.running.rest))
            ∙ block-executed p.graphs fill t.running.rest [] t free on

        by : (b : Bool) → is_over executed.end ≡ b → is_over (if b then executed else ended).end ≡ false
            → KeepsHere (if b then executed else ended)
        by true over still = absurd (true≢false (sym over ∙ still))
        by false e still = ends e still

    module _ (a : AtBlock image program p is t) where
      abbrev scene : BlockSource
      scene = scene_of_entry image program p is a.entry a.is_entry

      abbrev last : ℕ
      last = last_of a.at a.is_block.rest

      stmts-are : flat_map (stmts_at scene) (a.at ∷ a.is_block.rest) ≡ t.running.rest
      stmts-are = sym (a.rest_is ∙ a.is_block.stmts_are)

      -- the block's instructions
      pub block-through : is_over executed.end ≡ false
          → IsThrough image program p well is.of_file is.translation a.entry a.is_entry
          (located_at image program p is a.entry a.is_entry) last executed
      block-through still =
          subst (λ l. IsThrough image program p well is.of_file is.translation a.entry a.is_entry
          (located_at image program p is a.entry a.is_entry) last (execute l t)) stmts-are
          (through image program p well is.of_file is.translation a.entry a.is_entry
          (located_at image program p is a.entry a.is_entry) a.is_block.rest a.at a.before t a.trail a.is_block.chain
          a.follows (bits-of image program p is a.entry a.is_entry t.running.graph a.graph_is)
          (subst (λ l. IsGoing p l t) (sym stmts-are) (going t good on)) (subst IsCallFree (sym stmts-are) free)
          (subst (λ l. is_over (execute l t).end ≡ false) (sym stmts-are) still))

      pub block-exit : (still : is_over executed.end ≡ false)
          → t.running.block.exit
          ≡ exit_of (procedure_at image program p is a.entry a.is_entry) (block-through still).is_here.node.instr.op
          (map (block_place scene) (block-through still).is_here.node.succ.items)
      block-exit still = a.is_block.exit_is ∙ ap (node_exit scene) (block-through still).is_here.found

      block-end : is_over executed.end ≡ false → IsAtEnd image program p is executed
      block-end still =
          let x = located_at image program p is a.entry a.is_entry in
          let procedure = procedure_at image program p is a.entry a.is_entry in
          let th = block-through still in
          record {
            entry = a.entry;
            is_entry = a.is_entry;
            last = last;
            before = th.before;
            is_here = th.is_here;
            graph_is = graph-after a.entry a.is_entry a.graph_is;
            exit = ap (λ (b : Block). b.exit) (execute-within t.running.rest t).block ∙ block-exit still;
            leaders = λ b goes.
                last_goes_to_leaders (nodes_in scene) (entry_in scene) image.ip
                (sound_at image program p is a.entry a.is_entry) a.at a.is_block.rest b a.is_block.chain goes;
            follows = λ next told.
                subst (Follows image program p is a.entry a.is_entry next (last ∷ th.before)) (sym th.is)
                (goes-on image program p is.of_file is.translation a.entry a.is_entry x last th.before th.is_here next
                th.from th.follows
                (subst (IsRunning image program p is.of_file is.translation a.entry a.is_entry x) th.is
                (runs-after a.entry a.is_entry a.graph_is still))
                (λ e. subst (λ v. leads_to (exit_of procedure th.is_here.node.instr.op th.is_here.node.succ.items) v
                ≡ Some next) th.is told));
          }

    call-end : AtCall image program p is t.running.graph t.running.block t.running.rest → is_over executed.end ≡ false
        → IsAtEnd image program p is executed
    call-end a still =
        let x = located_at image program p is a.entry a.is_entry in
        let procedure = procedure_at image program p is a.entry a.is_entry in
        let scene = scene_of_entry image program p is a.entry a.is_entry in
        let sound = sound_at image program p is a.entry a.is_entry in
        let call : calls_in (node_in (nodes_in scene) a.at) ≡ true =
        ap calls_in a.is_here.found ∙ ap is_call a.calls in
        let none : is_followed_in (operation_in image layout a.at) ≡ false =
        ap (λ f. is_followed_in (option_map (λ (i : Instr). i.op) f)) a.is_here.is_node.instr
        ∙ ap is_followed a.calls in
        record {
          entry = a.entry;
          is_entry = a.is_entry;
          last = a.at;
          before = a.before;
          is_here = a.is_here;
          graph_is = graph-after a.entry a.is_entry a.graph_is;
          exit =
              ap (λ (b : Block). b.exit) (execute-within t.running.rest t).block ∙ a.exit
              ∙ ap (λ op. exit_of procedure op (map (block_place scene) a.is_here.node.succ.items)) (sym a.calls);
          leaders = λ b goes.
              last_goes_to_leaders (nodes_in scene) (entry_in scene) image.ip sound a.at [] b
              (call-onward (nodes_in scene) (entry_in scene) image.ip sound a.at call) goes;
          follows = λ next told.
              afresh image program p is.of_file is.translation a.entry a.is_entry x next (a.at ∷ a.before) executed
              (followed-none image layout a.at a.before none) (runs-after a.entry a.is_entry a.graph_is still);
        }

    prelude-ends : AtPrelude image program p is t → Waits t → is_over executed.end ≡ false → is_over ended.end ≡ false
        → KeepsHere ended
    prelude-ends a wait still =
        let scene = scene_of_entry image program p is a.entry a.is_entry in
        let graph = graph-after a.entry a.is_entry a.graph_is in
        let place = block_place scene layout.start_ip in
        let exit : executed.running.block.exit ≡ (prelude_block image layout scene).exit =
        ap (λ (b : Block). b.exit) ((execute-within t.running.rest t).block ∙ a.block_is) in
        subst (λ exit. is_over (exit_step exit executed).end ≡ false → KeepsHere (exit_step exit executed)) (sym exit)
        (λ on_end. record {
          stands =
              arrives image program p is a.entry a.is_entry layout.start_ip [] executed (sym a.entry_is) graph
              (subst (λ n. leads image program p is a.entry a.is_entry n ≡ true) a.entry_is
              (entry-leads image program p is a.entry a.is_entry))
              (λ block. entered-follows image program p is a.entry a.is_entry layout.start_ip [] executed block
              (entry-follows image program p is a.entry a.is_entry layout.start_ip executed
              (is-running executed.end still) (fit-after still) graph));
          waiting =
              subst (AllWait image program p is)
              (sym (entering-waiting (slice_get executed.running.graph.blocks place) executed)) (waits-after wait);
        })

  -- Calls.

  module _ (t : Inner) (good : IsGood p t) (on : is_over t.end ≡ false) (a : AtBlock image program p is t)
      (calls : calls_in (node_in (nodes_in (scene_of_entry image program p is a.entry a.is_entry)) a.at) ≡ true)
      (wait : Waits t) where
    abbrev is_here : Here image program p is a.entry a.is_entry a.at a.before
    is_here =
        here image program p is.of_file is.translation a.entry a.is_entry
        (located_at image program p is a.entry a.is_entry) a.at a.before a.trail

    abbrev target : (n : ℕ) × (is_here.node.instr.op ≡ CallOp n)
    target = called-op is_here.node.instr.op (sym (ap calls_in is_here.found) ∙ calls)

    is_target : IsEntry image layout target.0
    is_target =
        called a.is_entry (record { before = a.before; trail = a.trail })
        (is_here.node.instr, is_here.is_node.instr, target.1)

    abbrev caller : Procedure
    caller = procedure_at image program p is a.entry a.is_entry

    abbrev callee : Procedure
    callee = procedure_at image program p is target.0 is_target

    abbrev back : List Stmt
    back = taking_all_back caller is_here.height 0 (given_back callee)

    block : IsCallBlock image program p is.of_file is.translation a.entry a.is_entry
        (located_at image program p is a.entry a.is_entry) target.0 t.running.block.at is_here.height is_here.node
        t.running.block
    block =
        let scene = scene_of_entry image program p is a.entry a.is_entry in
        let there = a.is_block.at_is in
        call-block image program p is.of_file is.translation a.entry a.is_entry
        (located_at image program p is a.entry a.is_entry) t.running.block is_here.node target.0 a.before is_here.height
        (subst (λ (g : Graph). Contains g.blocks t.running.block) a.graph_is (good.active on).stands)
        (ap (node_in (nodes_in scene)) there ∙ is_here.found) target.1
        (subst (λ n. IsAt image layout a.entry n a.before (pos is_here.height)) (sym there) is_here.is_at)

    rest-is : t.running.rest ≡ placed.calling caller is_here.height (Some callee)
    rest-is =
        a.rest_is ∙ block.stmts
        ∙ ap (placed.calling caller is_here.height) (located_at image program p is target.0 is_target).procedure_found

    -- the callee begins, and the caller waits after its Call
    begins : (values : List ℕ)
        → IsGood p (calling fill (results_of callee) (is_here.height + 2) values
        (Some (graph_of image program p is target.0 is_target))
        (record t { running = record t.running { rest = back; begins = false } }))
        → is_over (calling fill (results_of callee) (is_here.height + 2) values
        (Some (graph_of image program p is target.0 is_target))
        (record t { running = record t.running { rest = back; begins = false } })).end ≡ false
        → KeepsHere (calling fill (results_of callee) (is_here.height + 2) values
        (Some (graph_of image program p is target.0 is_target))
        (record t { running = record t.running { rest = back; begins = false } }))
    begins values after still =
        let graph = graph_of image program p is target.0 is_target in
        let waits : Inner = record t { running = record t.running { rest = back; begins = false } } in
        let begun : Inner = record waits {
          running =
              activation graph (filled graph.bits fill) (callee_base waits.running.base (is_here.height + 2));
          waiting = record { caller = waits.running; results = results_of callee } ∷ waits.waiting;
        } in
        let given : Inner = passing 0 graph.params values begun in
        let same = passing-alike 0 graph.params values begun in
        let first = slice_get given.running.graph.blocks 0 in
        record {
          stands =
              graph-begins image program p is target.0 is_target given
              (is-running given.end (entered-on first given still)) (entered-fit first given after.safe.fit) same.graph;
          waiting =
              subst (AllWait image program p is) (sym (entering-waiting first given ∙ same.waiting)) (
                record {
                  entry = a.entry;
                  is_entry = a.is_entry;
                  at = a.at;
                  before = a.before;
                  is_here = is_here;
                  target = target.0;
                  calls = target.1;
                  graph_is = a.graph_is;
                  exit = block.exit;
                  free = back-free caller is_here.height 0 (given_back callee);
                },
                wait,
              );
        }

    call-step : IsGood p (block_step p.graphs fill t.running.rest t)
        → is_over (block_step p.graphs fill t.running.rest t).end ≡ false
        → KeepsHere (block_step p.graphs fill t.running.rest t)
    call-step =
        let x = located_at image program p is target.0 is_target in
        let found : graph_at p.graphs callee.proc.entry ≡ Some x.graph =
        ap (graph_at p.graphs) x.entry_is ∙ x.graph_found in
        let waits : Inner = record t { running = record t.running { rest = back; begins = false } } in
        let values = map (value_in t) (arguments_of caller is_here.height callee) in
        subst (λ l. IsGood p (block_step p.graphs fill l t) → is_over (block_step p.graphs fill l t).end ≡ false
        → KeepsHere (block_step p.graphs fill l t)) (sym rest-is)
        (subst (λ o. IsGood p (calling fill (results_of callee) (is_here.height + 2) values o waits)
        → is_over (calling fill (results_of callee) (is_here.height + 2) values o waits).end ≡ false
        → KeepsHere (calling fill (results_of callee) (is_here.height + 2) values o waits)) (sym found)
        (begins values))

  -- Steps.

  block-step : (t : Inner) → IsGood p t → is_over t.end ≡ false → Keeps image program p is t
      → IsGood p (block_step p.graphs fill t.running.rest t)
      → is_over (block_step p.graphs fill t.running.rest t).end ≡ false
      → KeepsHere (block_step p.graphs fill t.running.rest t)
  block-step t good on keeps after = by keeps.stands
    where
      free-keeps : IsCallFree t.running.rest
          → ((free : IsCallFree t.running.rest) → is_over (execute t.running.rest t).end ≡ false
          → IsAtEnd image program p is (execute t.running.rest t))
          → is_over (block_step p.graphs fill t.running.rest t).end ≡ false
          → KeepsHere (block_step p.graphs fill t.running.rest t)
      free-keeps free ends =
          free-step t good on free (λ still on_end.
          end-keeps image program p is (execute t.running.rest t) (ends free still)
          (waits-after t good on free keeps.waiting) on_end)

      at-block : (a : AtBlock image program p is t) → (b : Bool)
          → calls_in (node_in (nodes_in (scene_of_entry image program p is a.entry a.is_entry)) a.at) ≡ b
          → is_over (block_step p.graphs fill t.running.rest t).end ≡ false
          → KeepsHere (block_step p.graphs fill t.running.rest t)
      at-block a true calls = call-step t good on a calls keeps.waiting after
      at-block a false none =
          free-keeps
          (subst IsCallFree (sym (a.rest_is ∙ a.is_block.stmts_are))
          (chain-free (scene_of_entry image program p is a.entry a.is_entry) image.ip
          (sound_at image program p is a.entry a.is_entry) a.is_block.rest a.at none a.is_block.chain))
          (λ free still. block-end t good on free a still)

      by : Stands image program p is t → is_over (block_step p.graphs fill t.running.rest t).end ≡ false
          → KeepsHere (block_step p.graphs fill t.running.rest t)
      by (at_block a) =
          at-block a (calls_in (node_in (nodes_in (scene_of_entry image program p is a.entry a.is_entry)) a.at)) refl
      by (at_call a) = free-keeps a.free (λ free still. call-end t good on free a still)
      by (at_prelude a) =
          let free : IsCallFree t.running.rest =
          subst IsCallFree (sym (a.rest_is ∙ ap (λ (b : Block). b.stmts) a.block_is)) refl in
          free-step t good on free (λ still on_end. prelude-ends t good on free a keeps.waiting still on_end)

  -- where a state isn't over it stands so
  pub record IsKept (t : Inner) : Type 0 where
    pub good : IsGood p t
    pub keeps : is_over t.end ≡ false → Keeps image program p is t

  pub step-kept : (t : Inner) → IsKept t → IsKept (step p fill t)
  step-kept t kept = record {
    good = step-good p well fill t kept.good;
    keeps = by (is_over t.end) refl (step-good p well fill t kept.good);
  }
    where
      by : (b : Bool) → is_over t.end ≡ b → IsGood p (if b then t else block_step p.graphs fill t.running.rest t)
          → is_over (if b then t else block_step p.graphs fill t.running.rest t).end ≡ false
          → KeepsHere (if b then t else block_step p.graphs fill t.running.rest t)
      by true over good on = absurd (true≢false (sym over ∙ on))
      by false e good on = block-step t kept.good e (kept.keeps e) good on

  pub after-kept : (n : ℕ) (t : Inner) → IsKept t → IsKept (after (step p fill) n t)
  after-kept zero t kept = kept
  after-kept (suc n) t kept = after-kept n (step p fill t) (step-kept t kept)
