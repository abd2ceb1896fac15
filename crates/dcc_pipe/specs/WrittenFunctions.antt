-- Functions of a text as code writes them, each by a plan of its graph.
use Rattle.std.specs.Prelude.{◌≡◌, List, [], ◌∷◌, codes}
use Rattle.std.specs.List.{AllZip}
use Rattle.dcc_ir.specs.Tree.{Graph}
use Rattle.dcc_c.specs.Tree.{Word, Function}
use Rattle.dcc_control.specs.Plan.{Plan}
use Rattle.dcc_variables.specs.Functions.{function_name}
use Rattle.dcc_pipe.specs.Control.{IsControlOf}
use Rattle.dcc_pipe.specs.WholeText.{text_function}

-- the function is that of the graph with this name, by some plan for a text
pub record IsFunctionBy (name : Word) (graph : Graph) (f : Function) : Type 0 where
  pub plan : Plan
  pub is_control : IsControlOf graph plan
  pub is : f ≡ text_function plan name graph

-- the function is named after the entry of its graph
abbrev pub IsOwnFunction : Graph → Function → Type 0
IsOwnFunction graph f = IsFunctionBy (function_name graph.entry) graph f

-- The first graph's function is `start`; each other one is named after the entry of its graph.
abbrev pub AreFunctionsBy : List Graph → List Function → Type 0
AreFunctionsBy [] [] = Unit {0}
AreFunctionsBy (first ∷ others) (f ∷ functions) =
    IsFunctionBy (codes "start") first f × AllZip IsOwnFunction others functions
AreFunctionsBy graphs functions = ⊥
