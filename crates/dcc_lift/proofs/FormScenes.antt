-- What is known of a translated program's procedures: the instructions at their offsets, and where their blocks stand.
use Rattle.std.proofs.Common.{◌≡◌, ℕ, ◌<◌, ◌≤◌, Bool, true, false, if◌then◌else◌, List, [], ◌∷◌, ◌++◌, length, drop, Option, Some, None, refl, sym, subst, arith}
use Rattle.std.specs.Prelude.{pos}
use Rattle.std.proofs.lemmas.Option.{slice_get_within}
use Rattle.dcc_machine.specs.declared.image.Image.{Image}
use Rattle.dcc_prog.specs.declared.procedure.Layout.{Layout}
use Rattle.dcc_prog.specs.declared.procedure.Node.{Node}
use Rattle.dcc_prog.specs.declared.frame.Program.{Program as Analysed}
use Rattle.dcc_machine.specs.declared.instr.Op.{Op}
use Rattle.dcc_machine.specs.declared.instr.Op.TheVariants.{Call as CallOp}
use Rattle.dcc_prog.specs.Trail.{code_within, IsEntry}
use Rattle.dcc_prog.specs.Height.{GivesHeight}
use Rattle.dcc_prog.specs.Found.{IsNodeFound}
use Rattle.dcc_machine.specs.WellFormed.{IsOperation}
use Rattle.dcc_prog.specs.Construct.{is_system}
use Rattle.dcc_machine.proofs.WellFormedLaws.{AreBytes, instruction-operation}
use Rattle.dcc_stack.specs.Accepted.{IsAt}
use Rattle.dcc_stack.proofs.FormHeights.{no-system, heights-fit}
use Rattle.dcc_ir.specs.Tree.{Stmt, Block, Graph, Program}
use Rattle.dcc_simulation.specs.Procedures.{Procedure}
use Rattle.dcc_simulation.specs.Nodes.{procedures_in, IsLifting}
use Rattle.dcc_simulation.specs.Statements as placed
use Rattle.dcc_simulation.proofs.TabledOperands.{HavePlaces, instruction-placed}
use Rattle.dcc_lift.specs.Blocks.{Nodes, node_in, is_call, calls_in, BlockSource, nodes_in, entry_in, block_place, height_in, node_stmts, stmts_at}
use Rattle.dcc_lift.specs.Translated.{setting, IsTranslated}
use Rattle.dcc_lift.proofs.CodeBounds.{bytes-dropped, code-bytes, loaded-bytes}
use Rattle.dcc_lift.proofs.ChainLaws.{is_leader}
use Rattle.dcc_lift.proofs.BlockLaws.{leader_block}
use Rattle.dcc_lift.proofs.TranslationLaws.{front_of}
use Rattle.dcc_lift.proofs.FoundSound.{listed-found}
use Rattle.dcc_lift.proofs.Lifting.{Located, procedure_of, told-at, lifting}
use Rattle.dcc_lift.proofs.LocatedBlocks.{located_at, scene_at, sound_at, front-length, blocks-are}
use Rattle.dcc_lift.proofs.FormPlaces.{are_sound}
use Rattle.dcc_lift.proofs.FormNodes.{IsNoCall, working-sound}
use Rattle.dcc_lift.proofs.FormFlags.{are_plain, working-plain}

no-call : (op : Op) → is_call op ≡ false → IsNoCall op
no-call (CallOp target) is = cc
no-call op is = tt

-- sound statements that read flags plainly
pub record AreWork (stmts : List Stmt) : Type 0 where
  pub sound : are_sound stmts ≡ true
  pub plain : are_plain stmts ≡ true

pub no-work : AreWork []
no-work = record { sound = refl; plain = refl }

-- a procedure of the program, where it is translated
pub record Translated : Type 0 where
  pub procedure : Procedure
  pub scene : BlockSource
  pub nodes : Nodes
  pub graph : Graph

module _ (image : Image) (program : Analysed) (p : Program) (is : IsTranslated image program p) where
  abbrev pub layout : Layout
  layout = program.layout

  pub lifted : IsLifting (setting image program p)
  lifted = lifting image program p is.of_file is.translation

  module _ (entry : ℕ) (is_entry : IsEntry image layout entry) where
    abbrev x : Located image program p entry
    x = located_at image program p is entry is_entry

    abbrev scene : BlockSource
    scene = scene_at image program p is entry is_entry

    abbrev pub procedure_at_entry : Procedure
    procedure_at_entry = procedure_of image program p entry x

    abbrev pub graph_of_entry : Graph
    graph_of_entry = x.graph

    abbrev pub nodes_at : Nodes
    nodes_at = nodes_in scene

    abbrev pub translated_at : Translated
    translated_at =
        record { procedure = procedure_at_entry; scene = scene; nodes = nodes_at; graph = graph_of_entry }

    abbrev pub leads : ℕ → Bool
    leads at = is_leader nodes_at (entry_in scene) at

    -- Blocks.

    abbrev pub front : List Block
    front = front_of image layout scene

    -- the block of a leader has a place in the graph
    pub place-fits : (at : ℕ) → leads at ≡ true → block_place scene at < length graph_of_entry.blocks
    place-fits at leader =
        let there =
        leader_block scene image.ip (sound_at image program p is entry is_entry) front
        (front-length image program p is entry is_entry) x.is_graph.blocks
        x.is_graph.blocks_are at leader in
        let inside = slice_get_within (front ++ x.is_graph.blocks) _ there.block there.found in
        subst (λ l. block_place scene at < length l) (sym (blocks-are image program p is entry is_entry)) inside

    -- Instructions.

    -- what is known of the instruction at an offset
    pub record IsInstructionAt (at : ℕ) (node : Node) : Type 0 where
      pub before : List ℕ
      pub height : ℕ
      pub is_at : IsAt image layout entry at before (pos height)
      pub height_is : height_in x.heights at ≡ Some height
      pub found : IsNodeFound image layout entry (at, node)
      pub well : IsOperation node.instr.op
      pub have : HavePlaces node.instr.op

    code-small : (at : ℕ) → AreBytes (drop at (code_within image layout))
    code-small at =
        bytes-dropped at (code_within image layout) (code-bytes image layout (loaded-bytes image is.of_file.loaded))

    pub instruction-at : (at : ℕ) (node : Node) → node_in nodes_at at ≡ Some node → IsInstructionAt at node
    instruction-at at node e =
        let found : IsNodeFound image layout entry (at, node) =
        subst (λ n. IsNodeFound image layout n (at, node)) x.entry_is
        (listed-found image layout program.procs.items is.of_file.is_program.procs is.of_file.loaded
        is.of_file.is_program.layout x.proc (subst (IsEntry image layout) (sym x.entry_is) is_entry) x.found at node
        e) in
        let before = found.node.before in
        let told = told-at image program p is.of_file is.translation entry is_entry x at node e in
        let gives : GivesHeight image layout entry (at ∷ before) (pos told.0) = told.2 before found.node.trail in
        let is_at : IsAt image layout entry at before (pos told.0) =
        record { is_entry = is_entry; trail = found.node.trail; gives = gives } in
        let none : is_system node.instr.op ≡ false =
        no-system layout.cpu image program is.of_file entry at before (pos told.0) is_at node.instr.op
        (node.instr, found.instr, refl) in
        let code = drop at (code_within image layout) in
        record {
          before = before;
          height = told.0;
          is_at = is_at;
          height_is = told.1;
          found = found;
          well = instruction-operation layout.cpu at code node.instr (code-small at) found.instr;
          have = instruction-placed layout.cpu at code node.instr (code-small at) found.instr none;
        }

    -- a height is small
    pub height-small : (at : ℕ) (node : Node) (here : IsInstructionAt at node) → here.height ≤ 32766
    height-small at node here =
        let fits = heights-fit layout.cpu image program is.of_file entry at here.before (pos here.height) here.is_at in
        let bound = fits.bound in
        let same : here.height ≡ fits.number = one-number fits.is in
        omega (arith, bound, same)
      where
        one-number : {m n : ℕ} → pos m ≡ pos n → m ≡ n
        one-number e = cc

    none-stmts : (height : Option ℕ) → node_stmts scene height None ≡ []
    none-stmts None = refl
    none-stmts (Some height) = refl

    -- the statements of an instruction that is no CALL
    pub work-at : (at : ℕ) → calls_in (node_in nodes_at at) ≡ false → AreWork (stmts_at scene at)
    work-at at calls = go (node_in nodes_at at) refl calls
      where
        moved : (op : Op) (b : Bool) (stmts : List Stmt) → AreWork stmts → AreWork (if b then [] else stmts)
        moved op true stmts work = no-work
        moved op false stmts work = work

        go : (o : Option Node) → node_in nodes_at at ≡ o → calls_in o ≡ false
            → AreWork (node_stmts scene (height_in x.heights at) o)
        go None e none = subst AreWork (sym (none-stmts (height_in x.heights at))) no-work
        go (Some node) e none =
            let here = instruction-at at node e in
            let op = node.instr.op in
            let procedures = procedures_in program in
            let apart = no-call op none in
            subst (λ h. AreWork (node_stmts scene h (Some node))) (sym here.height_is)
            (moved op (placed.moves_frame op)
            (placed.working_stmts layout.cpu procedures procedure_at_entry here.height op node.number) (record {
              sound =
                  working-sound layout.cpu procedures procedure_at_entry here.height op node.number here.well here.have
                  apart;
              plain = working-plain layout.cpu procedures procedure_at_entry here.height op node.number apart;
            }))
