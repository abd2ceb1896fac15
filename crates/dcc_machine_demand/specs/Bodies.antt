-- The procedures of a program, each with what the analyses tell of it in one place.
use Rattle.std.specs.Prelude.{ℕ, ◌==◌, List, [], ◌∷◌, map, zip, find, Option, Some, None, if◌then◌else◌}
use Rattle.dcc_machine.specs.declared.instr.Op.{Op}
use Rattle.dcc_prog.specs.declared.procedure.Node.{Node}
use Rattle.dcc_prog.specs.declared.procedure.Proc.{Proc}
use Rattle.dcc_prog.specs.declared.frame.Frame.{Frame}
use Rattle.dcc_prog.specs.declared.frame.Program.{Program}

-- a procedure with its frame and with the heights of the stack at its instructions, by their offsets
pub record Body : Type 0 where
  pub proc : Proc
  pub frame : Frame
  pub heights : List (ℕ × ℕ)

abbrev pub entry_of : Body → ℕ
entry_of body = body.proc.entry

-- the instructions by their offsets
abbrev pub nodes_of : Body → List (ℕ × Node)
nodes_of body = body.proc.nodes.entries

-- the procedures of a program, in its order
abbrev pub bodies_of : Program → List Body
bodies_of program =
    map (λ found. record { proc = found.0; frame = found.1.0; heights = found.1.1.entries })
    (zip program.procs.items (zip program.cells.frames.items program.heights.at.items))

-- the procedure with that entry
abbrev pub body_at : List Body → ℕ → Option Body
body_at bodies entry = find (λ body. entry_of body == entry) bodies

-- An instruction, with the height of the stack before it.
pub record Point : Type 0 where
  pub node : Node
  pub height : ℕ

abbrev pub op_of : Point → Op
op_of point = point.node.instr.op

-- what the list has at an offset
abbrev pub find_at : {A : Type 0} → List (ℕ × A) → ℕ → Option A
find_at [] at = None
find_at (found ∷ rest) at = if found.0 == at then Some found.1 else find_at rest at

abbrev pub point_with : Option Node → Option ℕ → Option Point
point_with (Some node) (Some height) = Some (record { node = node; height = height })
point_with _ _ = None

-- the instruction at an offset
abbrev pub point_at : Body → ℕ → Option Point
point_at body at = point_with (find_at (nodes_of body) at) (find_at body.heights at)
