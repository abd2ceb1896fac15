-- Where both runs are at an instruction of a procedure: which node that is, and what the watched machine's step is.
use Rattle.std.proofs.Common.{◌≡◌, ◌<◌, inl, inr, ℕ, pos, Bool, true, false, ◌||◌, ◌==◌, if◌then◌else◌, List, [], ◌∷◌, ◌++◌, length, Some, None, refl, sym, ap, ap₂, ◌∙◌, subst, true≢false, eqb-true}
use Rattle.std.specs.List.{list_any}
use Rattle.dcc_run.specs.End.{is_over}
use Rattle.dcc_run.specs.ProgramPoint.{ProgramPoint}
use Rattle.dcc_run.specs.Watched.{Watched}
use Rattle.dcc_run.specs.Shadows.{kept_mark, only}
use Rattle.dcc_num.specs.declared.Reg.TheVariants.{Bp}
use Rattle.dcc_machine.specs.declared.image.Image.{Image}
use Rattle.dcc_prog.specs.declared.procedure.Layout.{Layout}
use Rattle.dcc_prog.specs.declared.procedure.Node.{Node}
use Rattle.dcc_prog.specs.declared.frame.Program.{Program as Analysed}
use Rattle.dcc_machine.specs.Machine.{State as Machine, word_in}
use Rattle.dcc_machine.specs.Step.{step as machine_step}
use Rattle.dcc_prog.specs.Trail.{IsEntry}
use Rattle.dcc_prog.specs.Found.{IsNodeFound}
use Rattle.dcc_prog.specs.Clean.{LiveFrame, Stack, Foul, top_in, foul_of, stack_after}
use Rattle.dcc_prog.specs.Watch.{InProcedures, Stopped, Watch, next_instruction, next_foul, is_foul, made, watch_step, place_of, watched_machine}
use Rattle.dcc_prog.proofs.WatchLaws.{watch_moves}
use Rattle.dcc_stack.specs.Accepted.{IsAt}
use Rattle.dcc_stack.specs.Standing.{Activation, StandsIn, Stand, first, called}
use Rattle.dcc_stack.proofs.FormLaws.{in-form}
use Rattle.dcc_stack.proofs.ApartLaws.{writes-apart}
use Rattle.dcc_ir.specs.Tree.{Block, Graph, Program}
use Rattle.dcc_ir.specs.Run.{State as Inner, Waiting, graph_at, watched_inner}
use Rattle.dcc_ir.specs.Keeps.{has_block}
use Rattle.dcc_ir.specs.Flow.{flow_of, graph_or_none}
use Rattle.dcc_ir.proofs.PathLaws.{decided}
use Rattle.dcc_simulation.specs.Coupled.{Setting, AreCoupled}
use Rattle.dcc_simulation.specs.Laws.{IsCleanInstruction}
use Rattle.dcc_simulation.specs.Nodes.{procedures_in, IsLifting, IsNodeHere}
use Rattle.dcc_simulation.specs.Procedures.{procedure_at}
use Rattle.dcc_simulation.proofs.FoundProcedures.{numbered}
use Rattle.dcc_lift.specs.Blocks.{Nodes, node_in, BlockSource, nodes_in, entry_in, block_place}
use Rattle.dcc_lift.specs.Sound.{AreSound}
use Rattle.dcc_lift.specs.Translation.{prelude_block}
use Rattle.dcc_lift.specs.Translated.{setting, IsTranslated}
use Rattle.dcc_lift.proofs.ListTests.{or_there}
use Rattle.dcc_lift.proofs.NodeLaws.{is_node, prelude_no_node}
use Rattle.dcc_lift.proofs.ChainLaws.{is_leader}
use Rattle.dcc_lift.proofs.BlockLaws.{has_block as graph_has_block, HasBlock}
use Rattle.dcc_lift.proofs.TranslationLaws.{front_of}
use Rattle.dcc_lift.proofs.LocatedBlocks.{front-length as located-front, blocks-are as located-blocks, block-at as located-block}
use Rattle.dcc_lift.proofs.Lifting.{Located, procedure_of, scene_of, before_of, node-among, locate, sound, node-at, lifting}

-- the newest procedure stands at a height
pub newest-in : {image : Image} {layout : Layout} {memory : List ℕ} {a : Activation} {callers : List Activation}
    {top bp : ℕ}
    → Stand image layout memory (a ∷ callers) top bp → StandsIn image layout memory a top bp
newest-in (first begins stands) = stands
newest-in (called stands waits stand) = stands

-- both runs of an analysed file and its translation, on a fill
pub record Runs : Type 0 where
  pub image : Image
  pub program : Analysed
  pub p : Program
  pub is : IsTranslated image program p
  pub fill : ℕ
  pub small : fill < 65536

module _ (c : Runs) where
  abbrev pub layout : Layout
  layout = c.program.layout

  abbrev pub e : Setting
  e = setting c.image c.program c.p

  -- the machine's run, of which the places of blocks are marked, and the program's
  abbrev pub machine : Watched Watch ProgramPoint
  machine = only (has_block c.p) (watched_machine c.program)

  abbrev pub inner : Watched Inner ProgramPoint
  inner = watched_inner c.p c.fill

  -- the machine in procedures
  abbrev pub within : Machine → Stack → Watch
  within s stack = record { machine = s; stage = InProcedures stack }

  pub lifted : IsLifting e
  lifted = lifting c.image c.program c.p c.is.of_file c.is.translation

  -- Procedures.

  abbrev pub located_at : (entry : ℕ) → IsEntry c.image layout entry → Located c.image c.program c.p entry
  located_at entry is_entry = (locate c.image c.program c.p c.is.of_file c.is.translation entry is_entry).0

  abbrev pub scene_at : (entry : ℕ) → IsEntry c.image layout entry → BlockSource
  scene_at entry is_entry = scene_of c.image c.program c.p entry (located_at entry is_entry)

  pub before-is : (entry : ℕ) (is_entry : IsEntry c.image layout entry)
      → (scene_at entry is_entry).before ≡ before_of c.image c.program c.p entry
  before-is entry is_entry = (locate c.image c.program c.p c.is.of_file c.is.translation entry is_entry).1

  pub sound-at : (entry : ℕ) (is_entry : IsEntry c.image layout entry)
      → AreSound (nodes_in (scene_at entry is_entry)) (entry_in (scene_at entry is_entry)) c.image.ip
  sound-at entry is_entry = sound c.image c.program c.p c.is.of_file c.is.translation entry is_entry
      (located_at entry is_entry)

  -- one block comes before those of instructions at most
  front-length : (entry : ℕ) (is_entry : IsEntry c.image layout entry)
      → length (front_of c.image layout (scene_at entry is_entry)) ≡ (scene_at entry is_entry).before
  front-length entry is_entry = located-front c.image c.program c.p c.is entry is_entry

  pub blocks-are : (entry : ℕ) (is_entry : IsEntry c.image layout entry)
      → (located_at entry is_entry).graph.blocks
      ≡ front_of c.image layout (scene_at entry is_entry) ++ (located_at entry is_entry).is_graph.blocks
  blocks-are entry is_entry = located-blocks c.image c.program c.p c.is entry is_entry

  -- the block of a leader is found at its place
  pub block-at : (entry : ℕ) (is_entry : IsEntry c.image layout entry) (at : ℕ)
      → is_leader (nodes_in (scene_at entry is_entry)) (entry_in (scene_at entry is_entry)) at ≡ true
      → HasBlock (scene_at entry is_entry) (located_at entry is_entry).graph.blocks
      (block_place (scene_at entry is_entry) at) at
  block-at entry is_entry at leader = located-block c.image c.program c.p c.is entry is_entry at leader

  -- which blocks the program has
  pub block-there : (entry : ℕ) (is_entry : IsEntry c.image layout entry) (at : ℕ)
      → has_block c.p (record { entry = entry; at = at })
      ≡ (list_any (λ block. block.at == at) (front_of c.image layout (scene_at entry is_entry))
      || is_leader (nodes_in (scene_at entry is_entry)) (entry_in (scene_at entry is_entry)) at)
  block-there entry is_entry at =
      let x = located_at entry is_entry in
      let scene = scene_at entry is_entry in
      ap (λ o. (flow_of (graph_or_none o)).has at) x.graph_found
      ∙ ap (list_any (λ (block : Block). block.at == at)) (blocks-are entry is_entry)
      ∙ graph_has_block scene c.image.ip (sound-at entry is_entry) (front_of c.image layout scene)
      (front-length entry is_entry) x.is_graph.blocks x.is_graph.blocks_are at

  pub leader-has : (entry : ℕ) (is_entry : IsEntry c.image layout entry) (at : ℕ)
      → is_leader (nodes_in (scene_at entry is_entry)) (entry_in (scene_at entry is_entry)) at ≡ true
      → has_block c.p (record { entry = entry; at = at }) ≡ true
  leader-has entry is_entry at leader =
      block-there entry is_entry at
      ∙ or_there (list_any (λ block. block.at == at) (front_of c.image layout (scene_at entry is_entry))) _ leader

  -- no block begins at another instruction
  pub inner-has : (entry : ℕ) (is_entry : IsEntry c.image layout entry) (at : ℕ)
      → is_node (nodes_in (scene_at entry is_entry)) at ≡ true
      → is_leader (nodes_in (scene_at entry is_entry)) (entry_in (scene_at entry is_entry)) at ≡ false
      → has_block c.p (record { entry = entry; at = at }) ≡ false
  inner-has entry is_entry at node none =
      block-there entry is_entry at ∙ ap₂ (λ a b. a || b) (first (scene.before == 0)) none
    where
      scene : BlockSource
      scene = scene_at entry is_entry

      other : (c.image.ip == at) ≡ false
      other = elim (decided (c.image.ip == at)) [
        | inl same ↦
            absurd (prelude_apart (subst (λ n. is_node (nodes_in scene) n ≡ true)
            (sym (eqb-true c.image.ip at same)) node))
        | inr different ↦ different
      ]
        where
          prelude_apart : is_node (nodes_in scene) c.image.ip ≡ true → ⊥
          prelude_apart there =
              true≢false (sym there ∙ prelude_no_node (nodes_in scene) (entry_in scene) c.image.ip
              (sound-at entry is_entry))

      first : (b : Bool)
          → list_any (λ block. block.at == at) (if b then [] else prelude_block c.image layout scene ∷ []) ≡ false
      first true = refl
      first false = ap (λ b. b || false) other

  -- Both runs at an instruction.

  -- no caller's block is about to begin
  abbrev pub NoneBegins : List Waiting → Type 0
  NoneBegins [] = Unit {0}
  NoneBegins (w ∷ waiting) = (w.caller.begins ≡ false) × NoneBegins waiting

  -- the runs agree in the procedure with that entry
  pub record AtNode (entry : ℕ) (s : Machine) (stack : Stack) (t : Inner) : Type 0 where
    pub agree : AreCoupled e s stack t
    pub here : agree.stands.newest.frame.entry ≡ entry
    pub waits : NoneBegins t.waiting

  module _ (entry : ℕ) (is_entry : IsEntry c.image layout entry) (s : Machine) (stack : Stack) (t : Inner)
      (a : AtNode entry s stack t) where
    abbrev pub nodes : Nodes
    nodes = nodes_in (scene_at entry is_entry)

    pub stands_here : StandsIn c.image layout s.memory a.agree.stands.newest (top_in layout s) (word_in s Bp)
    stands_here = newest-in a.agree.stands.stand

    pub is_at : IsAt c.image layout entry s.ip a.agree.stands.newest.before (pos stands_here.height)
    is_at =
        subst (λ n. IsAt c.image layout n s.ip a.agree.stands.newest.before (pos stands_here.height)) a.here
        (subst (λ n. IsAt c.image layout a.agree.stands.newest.frame.entry n a.agree.stands.newest.before
        (pos stands_here.height)) a.agree.stands.place stands_here.is_at)

    pub node_here : (node : Node) × (node_in nodes s.ip ≡ Some node) × IsNodeFound c.image layout entry (s.ip, node)
    node_here =
        node-at c.image c.program c.p c.is.of_file c.is.translation entry is_entry (located_at entry is_entry) s.ip
        (record { before = a.agree.stands.newest.before; trail = is_at.trail })

    pub fetched : next_instruction layout.cpu s ≡ Some node_here.0.instr
    fetched =
        (writes-apart in-form).fetched layout.cpu c.image c.program s node_here.0.instr c.is.of_file
        a.agree.stands.segments node_here.2.instr

    pub graph_here : t.running.graph ≡ (located_at entry is_entry).graph
    graph_here =
        one-graph
        (sym (subst (λ n. graph_at c.p.graphs n ≡ Some t.running.graph) a.here a.agree.coupled.newest.graph)
        ∙ (located_at entry is_entry).graph_found)
      where
        one-graph : {g h : Graph} → Some g ≡ Some h → g ≡ h
        one-graph same = cc

    -- what is needed of a clean instruction
    abbrev pub clean_instruction : foul_of c.program stack s (Some node_here.0.instr) ≡ None
        → IsCleanInstruction e s stack node_here.0.instr
    clean_instruction clean = record {
      of_file = c.is.of_file;
      numbered = numbered e lifted;
      stands = a.agree.stands;
      found = node_here.2.instr;
      clean = clean;
    }

    pub is_node_here : (clean : foul_of c.program stack s (Some node_here.0.instr) ≡ None)
        → IsNodeHere e s stack node_here.0.instr (clean_instruction clean)
        (procedure_of c.image c.program c.p entry (located_at entry is_entry)) node_here.0 stands_here.height
    is_node_here clean = record {
      lifting = lifted;
      procedure =
          subst (λ n. procedure_at (procedures_in c.program) n
          ≡ Some (procedure_of c.image c.program c.p entry (located_at entry is_entry))) (sym a.here)
          (located_at entry is_entry).procedure_found;
      node_is = node-among nodes s.ip node_here.0 node_here.1;
      instr_is = refl;
      stands = stands_here;
      height_is = refl;
    }

    -- Steps of the watched machine.

    pub goes : is_over s.end ≡ false
    goes = ap is_over a.agree.coupled.goes

    pub inner_goes : is_over t.end ≡ false
    inner_goes = ap is_over a.agree.coupled.running

    foul_is : next_foul c.program (within s stack) ≡ foul_of c.program stack s (Some node_here.0.instr)
    foul_is = ap (foul_of c.program stack s) fetched

    pub clean_step : foul_of c.program stack s (Some node_here.0.instr) ≡ None
        → watch_step c.program (within s stack)
        ≡ within (machine_step layout.cpu s)
        (stack_after layout (Some node_here.0.instr) s (machine_step layout.cpu s) stack)
    clean_step clean =
        watch_moves c.program (within s stack) goes refl (foul_is ∙ clean)
        ∙ ap (λ found. record {
          machine = machine_step layout.cpu s;
          stage = InProcedures (stack_after layout found s (machine_step layout.cpu s) stack);
        }) fetched

    pub foul_step : (foul : Foul) → foul_of c.program stack s (Some node_here.0.instr) ≡ Some foul
        → watch_step c.program (within s stack) ≡ record { machine = s; stage = Stopped foul }
    foul_step foul found =
        ap (λ b. if b || is_foul (within s stack) then within s stack else made layout
        (next_foul c.program (within s stack)) (within s stack)) goes
        ∙ ap (λ o. made layout o (within s stack)) (foul_is ∙ found)

    -- the place where the machine stands
    pub place_is : place_of layout (within s stack) ≡ Some (record { entry = entry; at = s.ip })
    place_is =
        ap (λ (frames : List LiveFrame). place_of layout
        (within s (record { frames = frames; written = stack.written })))
        (sym a.agree.stands.frames)
        ∙ ap (λ n. Some (record { entry = n; at = s.ip })) a.here

    pub mark_is : (kept : Bool) → has_block c.p (record { entry = entry; at = s.ip }) ≡ kept
        → machine.mark (within s stack) ≡ (if kept then Some (record { entry = entry; at = s.ip }) else None)
    mark_is kept same =
        ap (kept_mark (has_block c.p)) place_is
        ∙ ap (λ b. if b then Some (record { entry = entry; at = s.ip }) else None) same
