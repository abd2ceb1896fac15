-- Which addresses the graph of a lifted procedure takes that exposes no local byte: those of arguments in memory alone,
-- and if it moves SP by sums, those of SP, to which temporaries are set.
use Rattle.std.proofs.Common.{◌≡◌, ℕ, ◌*◌, ◌<◌, ◌≤◌, Bool, true, false, ◌==◌, ◌&&◌, ◌||◌, List, [], ◌∷◌, ◌++◌, map, Option, Some, None, refl, sym, ap, ◌∙◌, subst}
use Rattle.std.specs.Prelude.{if◌then◌else◌}
use Rattle.std.specs.List.{list_all, list_any, flat_map}
use Rattle.std.proofs.lemmas.Bool.{or_left, or_right}
use Rattle.dcc_machine.specs.declared.image.Image.{Image}
use Rattle.dcc_prog.specs.declared.procedure.Node.{Node}
use Rattle.dcc_prog.specs.declared.frame.Program.{Program as Analysed}
use Rattle.dcc_machine.specs.SpAndBp.{is_sp_move}
use Rattle.dcc_prog.specs.Frame.{argument_word}
use Rattle.dcc_prog.specs.Trail.{IsEntry}
use Rattle.dcc_stack.specs.Accepted.{IsFrameFor}
use Rattle.dcc_stack.specs.Slots.{exposes_of}
use Rattle.dcc_ir.specs.Tree.{Block, Program}
use Rattle.dcc_ir.specs.Use.{exit_exprs}
use Rattle.dcc_ir.specs.WellFormed.{is_memory}
use Rattle.dcc_simulation.specs.Passed.{argument_param}
use Rattle.dcc_simulation.specs.Procedures.{Procedure}
use Rattle.dcc_simulation.proofs.FoundProcedures.{frame-for}
use Rattle.dcc_lift.specs.Blocks.{BlockSource, Nodes, node_in, height_in, node_stmts, stmts_at, node_exit, exit_at, last_of, leaders, nodes_in, entry_in, block_place, AreBlocksAt}
use Rattle.dcc_lift.specs.Translated.{setting, IsTranslated}
use Rattle.dcc_lift.specs.Translation.{prelude_block}
use Rattle.dcc_lift.proofs.FormBlocks.{args-few}
use Rattle.dcc_lift.proofs.FormScenes.{procedure_at_entry, graph_of_entry, instruction-at, lifted}
use Rattle.dcc_lift.proofs.LocatedBlocks.{located_at, scene_at, blocks-are}
use Rattle.dcc_lift.proofs.TranslationLaws.{front_of}
use Rattle.dcc_pipe.specs.TypedFrames.{moves_sp}
use Rattle.dcc_pipe.proofs.OperationAddresses.{passes, all_told, told-appended}
use Rattle.dcc_pipe.proofs.NodeAddresses.{op-told}
use Rattle.dcc_pipe.proofs.ExitAddresses.{exit-passes}

both : (a b : Bool) → a ≡ true → b ≡ true → (a && b) ≡ true
both true b e f = f
both false b e f = e

-- one of these instructions moves SP by a sum, where such a node is among them
node-moves : (nodes : Nodes) (at : ℕ) (node : Node) → node_in nodes at ≡ Some node → is_sp_move node.instr.op ≡ true
    → list_any (λ (found : ℕ × Node). is_sp_move found.1.instr.op) nodes ≡ true
node-moves [] at node is moves = absurd cc
node-moves (found ∷ nodes) at node is moves =
    by (found.0 == at) is (λ later. node-moves nodes at node later moves)
  where
    rest : Bool
    rest = list_any (λ (found : ℕ × Node). is_sp_move found.1.instr.op) nodes

    by : (b : Bool) → (if b then Some found.1 else node_in nodes at) ≡ Some node
        → (node_in nodes at ≡ Some node → rest ≡ true) → (is_sp_move found.1.instr.op || rest) ≡ true
    by true is later =
        let same : found.1 ≡ node = cc in
        or_left (is_sp_move found.1.instr.op) rest (subst (λ (n : Node). is_sp_move n.instr.op ≡ true) (sym same) moves)
    by false is later = or_right (is_sp_move found.1.instr.op) rest (later is)

-- all addresses of a block pass a test, but for those of sums of the frame, where they may be set; so those of blocks
abbrev pub block_told : (ℕ → Bool) → Bool → Block → Bool
block_told test sums b = all_told test sums b.stmts && list_all (passes test) (exit_exprs b.exit)

abbrev pub blocks_told : (ℕ → Bool) → Bool → List Block → Bool
blocks_told test sums blocks = list_all (block_told test sums) blocks

module _ (image : Image) (program : Analysed) (p : Program) (is : IsTranslated image program p) (entry : ℕ)
    (is_entry : IsEntry image program.layout entry) where
  abbrev q : Procedure
  q = procedure_at_entry image program p is entry is_entry

  abbrev scene : BlockSource
  scene = scene_at image program p is entry is_entry

  frame : IsFrameFor image program entry q.frame
  frame =
      frame-for (setting image program p) (lifted image program p is) entry is_entry q
      (located_at image program p is entry is_entry).procedure_found

  few : q.frame.args ≤ 32
  few = args-few image program p is entry is_entry

  module _ (none : q.frame.exposed.local ≡ 0)
      (memory : (n : ℕ) → n < q.frame.args → is_memory (argument_param q n).put ≡ exposes_of q.frame (argument_word n))
      (test : ℕ → Bool)
      (tested : (n : ℕ) → n < q.frame.args → exposes_of q.frame (argument_word n) ≡ true → (d : ℕ) → 2 * n ≤ d
      → d < 32768 → test d ≡ true) where
    -- sums may be set if the procedure moves SP so
    abbrev sums : Bool
    sums = moves_sp q.proc

    stmts-told : (at : ℕ) → all_told test sums (stmts_at scene at) ≡ true
    stmts-told at = go (node_in (nodes_in scene) at) refl
      where
        nothing : (height : Option ℕ) → all_told test sums (node_stmts scene height None) ≡ true
        nothing None = refl
        nothing (Some height) = refl

        go : (o : Option Node) → node_in (nodes_in scene) at ≡ o
            → all_told test sums (node_stmts scene (height_in scene.heights at) o) ≡ true
        go None e = nothing (height_in scene.heights at)
        go (Some node) e =
            let here = instruction-at image program p is entry is_entry at node e in
            subst (λ h. all_told test sums (node_stmts scene h (Some node)) ≡ true) (sym here.height_is)
            (op-told image program entry q frame none few test tested at here.height here.before is.of_file here.is_at
            node.instr.op (node.instr, here.found.instr, refl) sums scene.cpu scene.procedures node refl
            (node-moves (nodes_in scene) at node e) here.have)

    all-stmts-told : (places : List ℕ) → all_told test sums (flat_map (stmts_at scene) places) ≡ true
    all-stmts-told [] = refl
    all-stmts-told (at ∷ places) =
        told-appended test sums (stmts_at scene at) (flat_map (stmts_at scene) places) (stmts-told at) (all-stmts-told places)

    end-passes : (at : ℕ) → list_all (passes test) (exit_exprs (exit_at scene at)) ≡ true
    end-passes at = go (node_in (nodes_in scene) at)
      where
        go : (o : Option Node) → list_all (passes test) (exit_exprs (node_exit scene o)) ≡ true
        go None = refl
        go (Some node) = exit-passes q few memory test tested node.instr.op (map (block_place scene) node.succ.items)

    all-blocks-told : (places : List ℕ) (blocks : List Block) → AreBlocksAt scene places blocks
        → blocks_told test sums blocks ≡ true
    all-blocks-told [] [] are = refl
    all-blocks-told [] (b ∷ blocks) are = absurd are
    all-blocks-told (at ∷ places) [] are = absurd are
    all-blocks-told (at ∷ places) (b ∷ blocks) are =
        let here = are.0 in
        both (block_told test sums b) (blocks_told test sums blocks)
        (both (all_told test sums b.stmts) (list_all (passes test) (exit_exprs b.exit))
        (ap (all_told test sums) here.stmts_are ∙ all-stmts-told (at ∷ here.rest))
        (ap (λ e. list_all (passes test) (exit_exprs e)) here.exit_is ∙ end-passes (last_of at here.rest)))
        (all-blocks-told places blocks are.1)

    front-told : (blocks : List Block) → blocks_told test sums blocks ≡ true
        → blocks_told test sums (front_of image program.layout scene ++ blocks) ≡ true
    front-told blocks are = by (scene.before == 0)
      where
        by : (b : Bool) → blocks_told test sums ((if b then [] else prelude_block image program.layout scene ∷ []) ++ blocks) ≡ true
        by true = are
        by false = are

    pub graph-told : blocks_told test sums (graph_of_entry image program p is entry is_entry).blocks ≡ true
    graph-told =
        let x = located_at image program p is entry is_entry in
        ap (blocks_told test sums) (blocks-are image program p is entry is_entry)
        ∙ front-told x.is_graph.blocks
        (all-blocks-told (leaders (nodes_in scene) (entry_in scene)) x.is_graph.blocks x.is_graph.blocks_are)
