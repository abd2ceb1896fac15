-- The instructions of a procedure with their heights. This stands between the definitions and the code; no public
-- contract rests on it.
use Rattle.std.specs.Prelude.{ℕ, List, [], ◌∷◌}
use Rattle.dcc_prog.specs.declared.procedure.Node.{Node}
use Rattle.dcc_frames.specs.declared.steps.Step.{Step}

-- each instruction with the height that stands for it
abbrev pub steps_of : List (ℕ × Node) → List (ℕ × ℕ) → List Step
steps_of [] heights = []
steps_of (node ∷ nodes) [] = []
steps_of (node ∷ nodes) (height ∷ heights) =
    (record { at = node.0; op = node.1.instr.op; height = height.1 }) ∷ steps_of nodes heights
