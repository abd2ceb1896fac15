-- Where a run of the inner language stands, on any fill and input: at the begin of a block, with a mirror of its
-- values; after a Call; or at the prelude's block.
use Rattle.std.proofs.Common.{◌≡◌, ℕ, Bool, true, false, List, [], ◌∷◌, map, Option, Some, None, refl, sym, ap, ◌∙◌, subst, true≢false}
use Rattle.std.specs.Prelude.{◌==◌, slice_get, option_map, Contains}
use Rattle.std.specs.List.{list_any}
use Rattle.dcc_run.specs.End.{Running, is_over}
use Rattle.dcc_machine.specs.declared.image.Image.{Image}
use Rattle.dcc_prog.specs.declared.frame.Program.{Program as Analysed}
use Rattle.dcc_machine.specs.declared.instr.Op.{Op}
use Rattle.dcc_machine.specs.declared.instr.Op.TheVariants.{Call as CallOp}
use Rattle.dcc_prog.specs.Trail.{IsTrail, IsEntry}
use Rattle.dcc_ir.specs.declared.syntax.Loc.{Loc}
use Rattle.dcc_ir.specs.Tree.{Stmt, Exit, Ret as RetTo, Block, Graph, Program}
use Rattle.dcc_ir.specs.Run.{State as Inner, Waiting, value_in, setting, entering, going_to, giving, returning, exit_step}
use Rattle.dcc_ir.proofs.FitStates.{IsFit, scene-fits}
use Rattle.dcc_ir.proofs.StepLaws.{giving-alike}
use Rattle.dcc_ops.specs.Temporaries.{temporary_bits}
use Rattle.dcc_simulation.specs.Nodes.{leads_to}
use Rattle.dcc_simulation.specs.Passed.{exit_of}
use Rattle.dcc_simulation.specs.Procedures.{Procedure}
use Rattle.dcc_lift.specs.Blocks.{successors_in, BlockSource, nodes_in, entry_in, block_place, IsBlockAt}
use Rattle.dcc_lift.specs.Translated.{IsTranslated}
use Rattle.dcc_lift.specs.Translation.{prelude_block}
use Rattle.dcc_lift.proofs.CallFree.{IsCallFree}
use Rattle.dcc_lift.proofs.ListTests.{any_contained}
use Rattle.dcc_lift.proofs.ChainLaws.{is_leader, has_successor, entry_is_leader}
use Rattle.dcc_lift.proofs.Lifting.{procedure_of}
use Rattle.dcc_lift.proofs.RunNodes.{leads-elsewhere, goes-where, leads-among}
use Rattle.dcc_lift.proofs.NeverSteps.{IsHere, Followed, afresh}
use Rattle.dcc_lift.proofs.NeverChains.{LeadsNowhere, gives_back, is_stuck, leads-nowhere}
use Rattle.dcc_lift.proofs.LocatedBlocks.{located_at, scene_at, sound_at, block-at, BeginsWith, entry_first, prelude_first, begins-with}

-- What stays.

pub entering-waiting : (block : Option Block) (u : Inner) → (entering block u).waiting ≡ u.waiting
entering-waiting None u = refl
entering-waiting (Some block) u = refl

giving-rest : (results : List Loc) (values : List ℕ) (u : Inner)
    → (giving results values u).running.rest ≡ u.running.rest
giving-rest [] values u = refl
giving-rest (location ∷ results) [] u = refl
giving-rest (location ∷ results) (n ∷ values) u = giving-rest results values (setting location n u)

module _ (image : Image) (program : Analysed) (p : Program) (is : IsTranslated image program p) where
  open program use {layout}

  abbrev pub procedure_at : (entry : ℕ) → IsEntry image layout entry → Procedure
  procedure_at entry is_entry = procedure_of image program p entry (located_at image program p is entry is_entry)

  abbrev pub graph_of : (entry : ℕ) → IsEntry image layout entry → Graph
  graph_of entry is_entry = (located_at image program p is entry is_entry).graph

  abbrev pub scene_of_entry : (entry : ℕ) → IsEntry image layout entry → BlockSource
  scene_of_entry entry is_entry = scene_at image program p is entry is_entry

  abbrev pub leads : (entry : ℕ) → IsEntry image layout entry → ℕ → Bool
  leads entry is_entry at =
      is_leader (nodes_in (scene_of_entry entry is_entry)) (entry_in (scene_of_entry entry is_entry)) at

  abbrev pub Here : (entry : ℕ) → IsEntry image layout entry → ℕ → List ℕ → Type 0
  Here entry is_entry at before =
      IsHere image program p is.of_file is.translation entry is_entry (located_at image program p is entry is_entry) at
      before

  abbrev pub Follows : (entry : ℕ) → IsEntry image layout entry → ℕ → List ℕ → Inner → Type 0
  Follows entry is_entry at before t =
      Followed image program p is.of_file is.translation entry is_entry
      (located_at image program p is entry is_entry) at before t

  -- an activation goes on after the Call of its block
  pub record AtCall (graph : Graph) (block : Block) (rest : List Stmt) : Type 0 where
    pub entry : ℕ
    pub is_entry : IsEntry image layout entry
    pub at : ℕ
    pub before : List ℕ
    pub is_here : Here entry is_entry at before
    pub target : ℕ
    pub calls : is_here.node.instr.op ≡ CallOp target
    pub graph_is : graph ≡ graph_of entry is_entry
    pub exit :
        block.exit
        ≡ exit_of (procedure_at entry is_entry) (CallOp target)
        (map (block_place (scene_of_entry entry is_entry)) is_here.node.succ.items)
    pub free : IsCallFree rest

  -- the run is about to begin a block, with a trail to it
  pub record AtBlock (t : Inner) : Type 0 where
    pub entry : ℕ
    pub is_entry : IsEntry image layout entry
    pub at : ℕ
    pub before : List ℕ
    pub trail : IsTrail image layout entry (at ∷ before)
    pub graph_is : t.running.graph ≡ graph_of entry is_entry
    pub leader : leads entry is_entry at ≡ true
    pub is_block : IsBlockAt (scene_of_entry entry is_entry) at t.running.block
    pub rest_is : t.running.rest ≡ t.running.block.stmts
    pub follows : Follows entry is_entry at before t

  -- the run is about to begin the prelude's block
  pub record AtPrelude (t : Inner) : Type 0 where
    pub entry : ℕ
    pub is_entry : IsEntry image layout entry
    pub entry_is : entry ≡ layout.start_ip
    pub graph_is : t.running.graph ≡ graph_of entry is_entry
    pub block_is : t.running.block ≡ prelude_block image layout (scene_of_entry entry is_entry)
    pub rest_is : t.running.rest ≡ t.running.block.stmts

  pub data Stands (t : Inner) : Type 0 where
    at_block : AtBlock t → Stands t
    at_call : AtCall t.running.graph t.running.block t.running.rest → Stands t
    at_prelude : AtPrelude t → Stands t

  abbrev pub AllWait : List Waiting → Type 0
  AllWait [] = Unit {0}
  AllWait (w ∷ waiting) = AtCall w.caller.graph w.caller.block w.caller.rest × AllWait waiting

  pub record Keeps (t : Inner) : Type 0 where
    pub stands : Stands t
    pub waiting : AllWait t.waiting

  -- Graphs have the temporaries of operations.
  pub bits-of : (entry : ℕ) (is_entry : IsEntry image layout entry) (graph : Graph) → graph ≡ graph_of entry is_entry
      → graph.bits ≡ temporary_bits
  bits-of entry is_entry graph same =
      ap (λ (g : Graph). g.bits) same
      ∙ ap (λ (g : Graph). g.bits) (located_at image program p is entry is_entry).is_graph.graph_is

  -- Blocks are entered.

  pub entered-follows : (entry : ℕ) (is_entry : IsEntry image layout entry) (at : ℕ) (before : List ℕ) (u : Inner)
      (block : Block) → Follows entry is_entry at before u → Follows entry is_entry at before (entering (Some block) u)
  entered-follows entry is_entry at before u block f =
      let m = f.mirrors in
      record {
        machine = f.machine;
        mirrors = record {
          goes = m.goes;
          eight = m.eight;
          code = m.code;
          running = m.running;
          bits = m.bits;
          fits = record { values = m.fits.values; len = m.fits.len; bytes = m.fits.bytes };
          words = m.words;
          flags = m.flags;
        };
        here = f.here;
        passed = f.passed;
      }

  -- a leader's block
  pub arrives : (entry : ℕ) (is_entry : IsEntry image layout entry) (at : ℕ) (before : List ℕ) (u : Inner)
      → IsTrail image layout entry (at ∷ before) → u.running.graph ≡ graph_of entry is_entry
      → leads entry is_entry at ≡ true
      → ((block : Block) → Follows entry is_entry at before (entering (Some block) u))
      → Stands (going_to (block_place (scene_of_entry entry is_entry) at) u)
  arrives entry is_entry at before u trail graph_is leader follows =
      let place = block_place (scene_of_entry entry is_entry) at in
      let there = block-at image program p is entry is_entry at leader in
      let found : slice_get u.running.graph.blocks place ≡ Some there.block =
      ap (λ (g : Graph). slice_get g.blocks place) graph_is ∙ there.found in
      subst (λ o. Stands (entering o u)) (sym found) (at_block (record {
        entry = entry;
        is_entry = is_entry;
        at = at;
        before = before;
        trail = trail;
        graph_is = graph_is;
        leader = leader;
        is_block = there.is_block;
        rest_is = refl;
        follows = follows there.block;
      }))

  -- the entry begins a block
  pub entry-leads : (entry : ℕ) (is_entry : IsEntry image layout entry) → leads entry is_entry entry ≡ true
  entry-leads entry is_entry =
      let scene = scene_of_entry entry is_entry in
      subst (λ n. is_leader (nodes_in scene) (entry_in scene) n ≡ true)
      (located_at image program p is entry is_entry).entry_is
      (entry_is_leader (nodes_in scene) (entry_in scene) image.ip (sound_at image program p is entry is_entry))

  -- a mirror at the entry begins anew
  pub entry-follows : (entry : ℕ) (is_entry : IsEntry image layout entry) (at : ℕ) (u : Inner) → u.end ≡ Running
      → IsFit u → u.running.graph ≡ graph_of entry is_entry → Follows entry is_entry at [] u
  entry-follows entry is_entry at u running fit graph_is =
      afresh image program p is.of_file is.translation entry is_entry (located_at image program p is entry is_entry) at
      [] u refl (record {
        running = running;
        bits = bits-of entry is_entry u.running.graph graph_is;
        fits = scene-fits u fit;
      })

  -- the first block of a graph
  pub graph-begins : (entry : ℕ) (is_entry : IsEntry image layout entry) (u : Inner) → u.end ≡ Running → IsFit u
      → u.running.graph ≡ graph_of entry is_entry → Stands (going_to 0 u)
  graph-begins entry is_entry u running fit graph_is = by (begins-with image program p is entry is_entry)
    where
      by : BeginsWith image program p is entry is_entry → Stands (going_to 0 u)
      by (entry_first place) =
          subst (λ n. Stands (going_to n u)) place
          (arrives entry is_entry entry [] u refl graph_is (entry-leads entry is_entry)
          (λ block. entered-follows entry is_entry entry [] u block
          (entry-follows entry is_entry entry u running fit graph_is)))
      by (prelude_first same found) =
          subst (λ o. Stands (entering o u))
          (sym (ap (λ (g : Graph). slice_get g.blocks 0) graph_is ∙ found))
          (at_prelude (record {
            entry = entry;
            is_entry = is_entry;
            entry_is = same;
            graph_is = graph_is;
            block_is = refl;
            rest_is = refl;
          }))

  -- Ends of blocks.

  -- the statements of a block are executed, up to those of an instruction from which blocks alone are reached
  pub record IsAtEnd (u : Inner) : Type 0 where
    pub entry : ℕ
    pub is_entry : IsEntry image layout entry
    pub last : ℕ
    pub before : List ℕ
    pub is_here : Here entry is_entry last before
    pub graph_is : u.running.graph ≡ graph_of entry is_entry
    pub exit :
        u.running.block.exit
        ≡ exit_of (procedure_at entry is_entry) is_here.node.instr.op
        (map (block_place (scene_of_entry entry is_entry)) is_here.node.succ.items)
    pub leaders :
        (b : ℕ) → has_successor (nodes_in (scene_of_entry entry is_entry)) last b ≡ true → leads entry is_entry b ≡ true
    pub follows :
        (next : ℕ)
        → leads_to (exit_of (procedure_at entry is_entry) is_here.node.instr.op is_here.node.succ.items) u ≡ Some next
        → Follows entry is_entry next (last ∷ before) u

  -- a caller goes on
  pub returned-keeps : (values : List ℕ) (waiting : List Waiting) (u : Inner) → AllWait waiting
      → is_over (returning values waiting u).end ≡ false → Keeps (returning values waiting u)
  returned-keeps values [] u wait on = cc
  returned-keeps values (w ∷ waiting) u wait on =
      let back : Inner = record u { running = w.caller; waiting = waiting } in
      let same = giving-alike w.results values back in
      record {
        stands =
            at_call (subst (λ g. AtCall g (giving w.results values back).running.block
            (giving w.results values back).running.rest) (sym same.graph)
            (subst (λ b. AtCall w.caller.graph b (giving w.results values back).running.rest) (sym same.block)
            (subst (AtCall w.caller.graph w.caller.block) (sym (giving-rest w.results values back)) wait.0)));
        waiting = subst AllWait (sym same.waiting) wait.1;
      }

  -- the run comes to a block, or goes back, or is over
  pub end-keeps : (u : Inner) → IsAtEnd u → AllWait u.waiting → is_over (exit_step u.running.block.exit u).end ≡ false
      → Keeps (exit_step u.running.block.exit u)
  end-keeps u a wait on =
      subst (λ exit. is_over (exit_step exit u).end ≡ false → Keeps (exit_step exit u)) (sym a.exit)
      (by (leads_to (exit_of procedure op a.is_here.node.succ.items) u) refl) on
    where
      procedure : Procedure
      procedure = procedure_at a.entry a.is_entry

      op : Op
      op = a.is_here.node.instr.op

      place : ℕ → ℕ
      place at = block_place (scene_of_entry a.entry a.is_entry) at

      exit : Exit
      exit = exit_of procedure op (map place a.is_here.node.succ.items)

      nowhere : (exit : Exit) → LeadsNowhere u exit → is_over (exit_step exit u).end ≡ false → Keeps (exit_step exit u)
      nowhere (RetTo _) (gives_back values) still =
          returned-keeps (map (value_in u) values) u.waiting u wait still
      nowhere exit (is_stuck over) still = absurd (true≢false (sym over ∙ still))

      by : (o : Option ℕ) → leads_to (exit_of procedure op a.is_here.node.succ.items) u ≡ o
          → is_over (exit_step exit u).end ≡ false → Keeps (exit_step exit u)
      by None told still =
          nowhere exit
          (leads-nowhere exit u
          (leads-elsewhere place procedure op a.is_here.node.succ.items u ∙ ap (option_map place) told)) still
      by (Some next) told still =
          let goes : exit_step exit u ≡ going_to (place next) u =
          goes-where exit u (place next)
          (leads-elsewhere place procedure op a.is_here.node.succ.items u ∙ ap (option_map place) told) in
          let has = leads-among procedure op a.is_here.node.succ.items u next told in
          let trail : IsTrail image layout a.entry (next ∷ a.last ∷ a.before) =
          (subst (λ l. Contains l next) (a.is_here.is_node.succ a.before a.is_here.trail) has, a.is_here.trail) in
          let leader = a.leaders next
          (ap (λ o. list_any (λ n. n == next) (successors_in o)) a.is_here.found
          ∙ any_contained a.is_here.node.succ.items next has) in
          subst Keeps (sym goes) (record {
            stands =
                arrives a.entry a.is_entry next (a.last ∷ a.before) u trail a.graph_is leader
                (λ block. entered-follows a.entry a.is_entry next (a.last ∷ a.before) u block (a.follows next told));
            waiting =
                subst AllWait (sym (entering-waiting (slice_get u.running.graph.blocks (place next)) u)) wait;
          })
