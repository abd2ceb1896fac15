-- The frames of a text's functions: which arguments and which local variables are in memory. Local variables that are
-- not `auto` have no address by the dialect itself (`&` takes a name with a place alone).
use Rattle.std.specs.Prelude.{◌≡◌, ℕ, Bool, true, ◌||◌, not, if◌then◌else◌, List, [], ◌∷◌, ◌++◌, map, filter, replicate}
use Rattle.std.specs.Prelude.{codes}
use Rattle.std.specs.List.{AllZip, list_all, list_any, range_with_len}
use Rattle.dcc_machine.specs.declared.cpu.Cpu.{Cpu}
use Rattle.dcc_machine.specs.declared.image.Image.{Image}
use Rattle.dcc_prog.specs.declared.procedure.Node.{Node}
use Rattle.dcc_prog.specs.declared.procedure.Proc.{Proc}
use Rattle.dcc_prog.specs.declared.frame.Frame.{Frame}
use Rattle.dcc_prog.specs.declared.frame.Program.{Program as Analysed}
use Rattle.dcc_prog.specs.Analysed.{IsProgramOf}
use Rattle.dcc_prog.specs.Frame.{argument_word}
use Rattle.dcc_machine.specs.SpAndBp.{is_sp_move}
use Rattle.dcc_stack.specs.Slots.{exposes_of}
use Rattle.dcc_simulation.specs.Procedures.{Procedure}
use Rattle.dcc_simulation.specs.Nodes.{procedures_in}
use Rattle.dcc_c.specs.declared.syntax.Class.{Class}
use Rattle.dcc_c.specs.declared.syntax.Class.TheVariants.{Plain, Auto, Register}
use Rattle.dcc_c.specs.Placement.{is_auto, takes_address}
use Rattle.dcc_c.specs.Tree.{Word, Variable, Function, Tree}
use Rattle.dcc_shape.specs.Carried.{UsesAddressesAlone}
use Rattle.dcc_variables.specs.Functions.{function_name}
use Rattle.dcc_variables.specs.Variables.{frame_array}

-- an argument word is in memory just where the frame exposes a byte of it
abbrev pub argument_class : Frame → ℕ → Class
argument_class frame number = if exposes_of frame (argument_word number) then Auto else Plain

-- the arguments of the stack come first, and so many others after them are `register`
abbrev pub param_classes : Frame → ℕ → List Class
param_classes frame others = map (argument_class frame) (range_with_len 0 frame.args) ++ replicate others Register

-- the procedure moves SP by ADD, SUB, INC or DEC, whose flags tell of SP's address
abbrev pub moves_sp : Proc → Bool
moves_sp proc = list_any (λ (found : ℕ × Node). is_sp_move found.1.instr.op) proc.nodes.entries

-- Arrays.

-- The array of a frame has the local bytes that the frame exposes. Where it exposes none, there may be one byte, if the
-- procedure moves SP by ADD, SUB, INC or DEC. It stands for no cell, and of it the function uses nothing but the address:
-- what is reckoned from that goes to variables in no memory, but for single bits, as flags are.
pub data HasArrayOf (p : Procedure) (f : Function) : ℕ → Type 0 where
  exposed : HasArrayOf p f p.frame.exposed.local
  for_moves : p.frame.exposed.local ≡ 0 → moves_sp p.proc ≡ true → UsesAddressesAlone f → HasArrayOf p f 1

-- Frames.

-- The function keeps in memory just the arguments and the local bytes whose address may be computed. It takes the
-- address of no other parameter.
pub record HasTypedFrame (p : Procedure) (f : Function) : Type 0 where
  pub others : ℕ
  pub params : map (λ (v : Variable). v.class) f.params ≡ param_classes p.frame others
  pub bytes : ℕ
  pub array : HasArrayOf p f bytes
  pub locals : filter (λ (v : Variable). is_auto v.class) f.locals ≡ frame_array bytes
  pub addresses : list_all (λ v. is_auto v.class || not (takes_address f.body v.name)) f.params ≡ true

-- the first procedure's function is `start`; each other is named after its procedure's entry
abbrev pub procedure_names : List Procedure → List Word
procedure_names [] = []
procedure_names (first ∷ others) = codes "start" ∷ map (λ (p : Procedure). function_name p.proc.entry) others

-- one function for each procedure, by its name, and with its frame
pub record AreTypedFrames (procedures : List Procedure) (functions : List Function) : Type 0 where
  pub names : map (λ (f : Function). f.name) functions ≡ procedure_names procedures
  pub frames : AllZip HasTypedFrame procedures functions

-- the functions of the tree have the typed frames of the procedures that are found in the image on the processor
pub record HasTypedFrames (cpu : Cpu) (image : Image) (tree : Tree) : Type 0 where
  pub program : Analysed
  pub is_program : IsProgramOf cpu image program
  pub functions : AreTypedFrames (procedures_in program) tree.functions
