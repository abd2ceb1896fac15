-- The program that stands for all procedures, statement by statement. What it does is told in specs/Lifted.antt.
use Rattle.std.specs.Prelude.{◌≡◌, ℕ, ◌-◌, ◌*◌, ◌/◌, ◌%◌, ◌==◌, Bool, if◌then◌else◌, List, [], ◌∷◌, ◌++◌, map, flat_map}
use Rattle.std.specs.Prelude.{slice_index, take, drop}
use Rattle.std.specs.Int.{from_bool}
use Rattle.std.specs.List.{AllZip}
use Rattle.dcc_num.specs.declared.Reg.{Reg}
use Rattle.dcc_num.specs.declared.Reg.TheVariants.{Ax, Cx, Dx, Bx, Si, Di}
use Rattle.dcc_num.specs.declared.Half.TheVariants.{Low, High}
use Rattle.dcc_num.specs.declared.FlagName.{FlagName}
use Rattle.dcc_num.specs.declared.FlagName.TheVariants.{Cf, Zf, Sf, Of}
use Rattle.dcc_num.specs.declared.Flags.{Flags}
use Rattle.dcc_machine.specs.declared.image.Image.{Image}
use Rattle.dcc_prog.specs.declared.procedure.Layout.{Layout}
use Rattle.dcc_prog.specs.declared.procedure.Proc.{Proc}
use Rattle.dcc_machine.specs.Load.{load_segment}
use Rattle.dcc_machine.specs.Machine.{reg_number}
use Rattle.dcc_ir.specs.declared.syntax.Loc.TheVariants.{Half, Flag}
use Rattle.dcc_prog.specs.declared.frame.Heights.{Heights}
use Rattle.dcc_prog.specs.declared.frame.Cells.{Cells}
use Rattle.dcc_ir.specs.Tree.{Const, Stmt, Set, Goto, Block, Graph, Program}
use Rattle.dcc_simulation.specs.Procedures.{Procedure, procedures_of, pushed_of}
use Rattle.dcc_ops.specs.Temporaries.{temporary_bits}
use Rattle.dcc_simulation.specs.Passed.{params_of}
use Rattle.dcc_lift.specs.Blocks.{BlockSource, nodes_in, entry_in, leaders, block_place, AreBlocksAt}

-- the word registers whose halves are locations, in the order of their numbers
abbrev pub general_registers : List Reg
general_registers = Ax ∷ Cx ∷ Dx ∷ Bx ∷ Si ∷ Di ∷ []

-- a word register begins with a value
abbrev pub register_starting : List ℕ → Reg → List Stmt
register_starting regs r =
    Set (Half r Low) (Const 8 (slice_index regs (reg_number r) % 256))
    ∷ Set (Half r High) (Const 8 (slice_index regs (reg_number r) / 256)) ∷ []

abbrev pub flag_starting : FlagName → Bool → Stmt
flag_starting f set = Set (Flag f) (Const 1 (from_bool set))

abbrev pub flags_starting : Flags → List Stmt
flags_starting flags =
    flag_starting Cf flags.cf ∷ flag_starting Zf flags.zf ∷ flag_starting Sf flags.sf ∷ flag_starting Of flags.of ∷ []

-- the block of the prelude, at the offset where the program begins: registers and flags take what the prelude leaves
abbrev pub prelude_block : Image → Layout → BlockSource → Block
prelude_block image layout scene = record {
  at = image.ip;
  stmts = flat_map (register_starting layout.regs) general_registers ++ flags_starting layout.flags;
  exit = Goto (block_place scene layout.start_ip);
}

-- the bytes of the image in the data segment
unfoldable pub data_image : Image → Layout → List ℕ
data_image image layout = take 65536 (drop ((layout.ds - load_segment) * 16) image.bytes.items)

-- the graph of a procedure, with its own blocks; where the prelude's block comes before them the graph takes nothing
abbrev pub graph_with : Image → Layout → BlockSource → List Block → Graph
graph_with image layout scene blocks = record {
  entry = entry_in scene;
  params = if scene.before == 0 then params_of scene.procedure else [];
  local = scene.procedure.frame.exposed.local;
  pushed = pushed_of scene.procedure;
  blocks = if scene.before == 0 then blocks else prelude_block image layout scene ∷ blocks;
  bits = temporary_bits;
}

pub record IsGraphOf (image : Image) (layout : Layout) (scene : BlockSource) (g : Graph) : Type 0 where
  pub blocks : List Block
  pub blocks_are : AreBlocksAt scene (leaders (nodes_in scene) (entry_in scene)) blocks
  pub graph_is : g ≡ graph_with image layout scene blocks

-- the scenes of procedures among all, in their order, with the heights of each; the first graph has a block before
-- those of its instructions
abbrev pub scenes_of : Layout → List Procedure → ℕ → List Procedure → List (List (ℕ × ℕ)) → List BlockSource
scenes_of layout all before (procedure ∷ procedures) (heights ∷ rest) =
    record { cpu = layout.cpu; procedures = all; procedure = procedure; heights = heights; before = before }
    ∷ scenes_of layout all 0 procedures rest
scenes_of layout all before _ _ = []

abbrev pub program_scenes : Layout → List Proc → Heights → Cells → List BlockSource
program_scenes layout procs heights cells =
    let procedures = procedures_of layout procs cells.frames.items in
    scenes_of layout procedures 1 procedures (map (λ found. found.entries) heights.at.items)

-- a graph for each procedure, the entry procedure's first, and the image's data segment
pub record IsTranslation (image : Image) (layout : Layout) (procs : List Proc) (heights : Heights) (cells : Cells)
    (p : Program) : Type 0 where
  pub graphs : AllZip (IsGraphOf image layout) (program_scenes layout procs heights cells) p.graphs
  pub image_is : p.image ≡ data_image image layout
  pub lo_is : p.lo ≡ layout.lo
  pub hi_is : p.hi ≡ layout.hi
