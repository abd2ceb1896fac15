-- The graph of each procedure has few statements on flags, and so has the whole program.
use Rattle.std.proofs.Common.{◌≡◌, ◌≤◌, ℕ, ◌+◌, ◌==◌, Bool, true, false, cond, if◌then◌else◌, List, [], ◌∷◌, ◌++◌, map, All, refl, sym, ap, ◌∙◌, subst, arith}
use Rattle.std.specs.Prelude.{count_by, flat_map}
use Rattle.std.specs.List.{AllZip}
use Rattle.std.proofs.lemmas.List.Elements.{All-head, All-tail}
use Rattle.dcc_machine.specs.declared.image.Image.{Image}
use Rattle.dcc_prog.specs.declared.procedure.Layout.{Layout}
use Rattle.dcc_prog.specs.declared.procedure.Node.{Node}
use Rattle.dcc_prog.specs.declared.procedure.Proc.{Proc}
use Rattle.dcc_prog.specs.declared.frame.Frame.{Frame}
use Rattle.dcc_prog.specs.declared.frame.Program.{Program as Analysed}
use Rattle.dcc_machine.specs.declared.instr.Op.{Op}
use Rattle.dcc_machine.specs.MzImage.{IsLoaded}
use Rattle.dcc_prog.specs.Layout.{HasLayout}
use Rattle.dcc_prog.specs.Trail.{IsEntry}
use Rattle.dcc_prog.specs.Analysed.{AreHeightsOf, IsFrameOf}
use Rattle.dcc_prog.specs.Found.{IsFound, AreFound}
use Rattle.dcc_machine.specs.Writes.{writes_flag}
use Rattle.dcc_ir.specs.Tree.{Stmt, Block, Graph, Program}
use Rattle.dcc_simulation.specs.Nodes.{procedures_in}
use Rattle.dcc_simulation.specs.Procedures.{Procedure, procedures_of}
use Rattle.dcc_simulation.specs.Statements as placed
use Rattle.dcc_lift.specs.FlagStmts.{is_setter_of, is_other_flag_stmt, has_carry_in, graph_stmts, HasFewFlagStmts}
use Rattle.dcc_lift.specs.Blocks.{BlockSource, nodes_in, entry_in}
use Rattle.dcc_lift.specs.Sound.{AreSound}
use Rattle.dcc_lift.specs.Translated.{IsTranslated}
use Rattle.dcc_lift.specs.Translation.{prelude_block, IsGraphOf, scenes_of}
use Rattle.dcc_lift.proofs.FoundSound.{found-sound}
use Rattle.dcc_lift.proofs.TranslationLaws.{front_of, graph-blocks}
use Rattle.dcc_lift.proofs.Lifting.{zip-map}
use Rattle.dcc_lift.proofs.Totals.{total, total-is, total-append}
use Rattle.dcc_lift.proofs.FlagCounts.{counted}
use Rattle.dcc_lift.proofs.FlagNodes.{node-few}
use Rattle.dcc_lift.proofs.FlagMembers.{blocks-counted}

abbrev stmts_of : List Block → List Stmt
stmts_of blocks = flat_map (λ (b : Block). b.stmts) blocks

module _ (image : Image) (layout : Layout) (scene : BlockSource) (graph : Graph) (is : IsGraphOf image layout scene
    graph)
    (sound : AreSound (nodes_in scene) (entry_in scene) image.ip) where
  -- the block of the prelude counts nothing
  front-counted : (test : Stmt → Bool) → total (counted test) (prelude_block image layout scene).stmts ≡ 0
      → (blocks : List Block)
      → total (counted test) (stmts_of (front_of image layout scene ++ blocks))
      ≡ total (counted test) (stmts_of blocks)
  front-counted test none blocks = go (scene.before == 0)
    where
      first : List Stmt
      first = (prelude_block image layout scene).stmts

      nothing : (a b c : ℕ) → c ≡ a + b → a ≡ 0 → c ≡ b
      nothing a b c whole left = omega (arith, whole, left)

      go : (b : Bool)
          → total (counted test) (stmts_of ((if b then [] else prelude_block image layout scene ∷ []) ++ blocks))
          ≡ total (counted test) (stmts_of blocks)
      go true = refl
      go false =
          nothing (total (counted test) first) (total (counted test) (stmts_of blocks))
          (total (counted test) (first ++ stmts_of blocks)) (total-append (counted test) first (stmts_of blocks)) none

  -- a count of the graph's statements is no more than one of the instructions
  graph-counted : (test : Stmt → Bool) (does : Op → Bool)
      → total (counted test) (prelude_block image layout scene).stmts ≡ 0
      → ((height : ℕ) (node : Node)
      → total (counted test) (placed.node_stmts scene.cpu scene.procedures scene.procedure height node)
      ≤ cond (does node.instr.op) 1 0)
      → count_by test (graph_stmts graph)
      ≤ count_by (λ (found : ℕ × Node). does found.1.instr.op) (nodes_in scene)
  graph-counted test does none few =
      let blocks_are : graph.blocks ≡ front_of image layout scene ++ is.blocks =
      ap (λ (g : Graph). g.blocks) is.graph_is ∙ graph-blocks image layout scene is.blocks in
      let whole : count_by test (graph_stmts graph) ≡ total (counted test) (stmts_of is.blocks) =
      total-is (counted test) (graph_stmts graph)
      ∙ ap (λ blocks. total (counted test) (stmts_of blocks)) blocks_are
      ∙ front-counted test none is.blocks in
      let all =
      blocks-counted (λ node. cond (does node.instr.op) 1 0) scene image.ip sound (counted test) few is.blocks
      is.blocks_are in
      subst (λ n. n ≤ count_by (λ (found : ℕ × Node). does found.1.instr.op) (nodes_in scene)) (sym whole)
      (subst (λ n. total (counted test) (stmts_of is.blocks) ≤ n)
      (sym (total-is (λ (found : ℕ × Node). cond (does found.1.instr.op) 1 0) (nodes_in scene))) all)

  pub graph-few : HasFewFlagStmts scene.procedure.proc graph
  graph-few = record {
    setters = λ flag. graph-counted (is_setter_of flag) (λ op. writes_flag op flag) refl
        (λ height node. (node-few scene.cpu scene.procedures scene.procedure height node).setters flag);
    others = graph-counted is_other_flag_stmt has_carry_in refl
        (λ height node. (node-few scene.cpu scene.procedures scene.procedure height node).others);
  }

module _ (image : Image) (layout : Layout) (all : List Procedure) (all-procs : List Proc)
    (all-found : AreFound image layout all-procs) (loaded : IsLoaded image) (has : HasLayout image layout) where
  abbrev IsReached : Proc → Type 0
  IsReached proc = IsEntry image layout proc.entry

  pub graphs-few : (before : ℕ) (procs : List Proc) (frames : List Frame) (heights : List (List (ℕ × ℕ)))
      (graphs : List Graph) → AllZip (IsFrameOf image layout) procs frames
      → AllZip (AreHeightsOf image layout) procs heights
      → AllZip (IsGraphOf image layout) (scenes_of layout all before (procedures_of layout procs frames) heights) graphs
      → All (IsFound image layout) procs → All IsReached procs → AllZip HasFewFlagStmts procs graphs
  graphs-few before [] frames heights [] framed high are found reached = tt
  graphs-few before [] frames heights (graph ∷ graphs) framed high are found reached = absurd are
  graphs-few before (proc ∷ procs) [] heights graphs framed high are found reached = absurd framed
  graphs-few before (proc ∷ procs) (frame ∷ frames) [] graphs framed high are found reached = absurd high
  graphs-few before (proc ∷ procs) (frame ∷ frames) (h ∷ heights) [] framed high are found reached = absurd are
  graphs-few before (proc ∷ procs) (frame ∷ frames) (h ∷ heights) (graph ∷ graphs) framed high are found reached =
      let scene : BlockSource = record {
        cpu = layout.cpu;
        procedures = all;
        procedure = record { proc = proc; frame = frame; delta = layout.delta };
        heights = h;
        before = before;
      } in (
        graph-few image layout scene graph are.0
            (found-sound image layout all-procs all-found loaded has proc (All-head IsReached proc procs reached)
            (All-head (IsFound image layout) proc procs found)),
        graphs-few 0 procs frames heights graphs framed.1 high.1 are.1
            (All-tail (IsFound image layout) proc procs found) (All-tail IsReached proc procs reached),
      )

-- a translated program has few statements on flags
pub translation-few : (image : Image) (program : Analysed) (p : Program) → IsTranslated image program p
    → AllZip HasFewFlagStmts program.procs.items p.graphs
translation-few image program p is =
    let layout = program.layout in
    let procs = is.of_file.is_program.procs in
    graphs-few image layout (procedures_in program) program.procs.items procs is.of_file.loaded
    is.of_file.is_program.layout 1 program.procs.items program.cells.frames.items
    (map (λ found. found.entries) program.heights.at.items) p.graphs is.of_file.is_program.cells.frames
    (zip-map (AreHeightsOf image layout) (λ found. found.entries) program.procs.items program.heights.at.items
    is.of_file.is_program.heights.at)
    is.translation.graphs procs.found procs.reached
