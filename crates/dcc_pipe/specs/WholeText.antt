-- The text of a program, with a function for each graph: its global variables, and functions with the parameters and
-- variables of their graphs, the assignments that open the bytes of arguments, and the text of a plan of the graph.
use Rattle.std.specs.Prelude.{◌≡◌, ◌<◌, ◌≤◌, Bool, List, [], ◌∷◌, length, map, drop, codes, All, Some}
use Rattle.dcc_ir.specs.declared.syntax.Loc.{Loc}
use Rattle.dcc_ir.specs.Tree.{Stmt as Statement, Call, Graph, Program}
use Rattle.dcc_ir.specs.Run.{graph_at}
use Rattle.dcc_ir.specs.WellFormed.{all_ret_widths}
use Rattle.dcc_live.specs.Start.{begins_live}
use Rattle.dcc_c.specs.Tree.{Word, Stmt, Lines, line, Global, Function, Tree}
use Rattle.dcc_control.specs.Plan.{Plan}
use Rattle.dcc_plan.specs.Programs.{GivesFew}
use Rattle.dcc_plan.specs.PlanText.{plan_text}
use Rattle.dcc_variables.specs.FunctionLaws.{HasFewNames}
use Rattle.dcc_variables.specs.Functions.{function_name, function_spelling, function_of, openings}
use Rattle.dcc_pipe.specs.Control.{Control, AreControls}
use Rattle.dcc_tidy.specs.Tidied.{text_levels}
use Rattle.dcc_pipe.specs.Textable.{TakesApart, IsTextable}

-- the bytes of arguments that are opened: those that are live where the graph begins
abbrev pub opened : Graph → Loc → Bool
opened graph location = begins_live graph location

-- the statements, and then the lines
abbrev pub before_lines : List Stmt → Lines → Lines
before_lines [] lines = lines
before_lines (stmt ∷ stmts) lines = line stmt 0 (before_lines stmts lines)

-- the body of the graph's function: what opens it, and the text of the plan
abbrev pub body_of : Plan → Graph → Lines
body_of plan graph =
    before_lines (openings (opened graph) graph) (plan_text (function_spelling graph) graph plan)

-- the function of a graph by this plan, its lines not counted yet
abbrev pub text_function : Plan → Word → Graph → Function
text_function plan name graph = function_of graph name (body_of plan graph) 0

-- the functions of the graphs after the first
abbrev pub other_functions : Control → List Graph → List Function
other_functions control graphs = map (λ graph. text_function (control graph) (function_name graph.entry) graph) graphs

abbrev pub text_functions : Control → List Graph → List Function
text_functions control [] = []
text_functions control (first ∷ others) =
    text_function (control first) (codes "start") first ∷ other_functions control others

-- the text of a program by the control, with these global variables
abbrev pub whole_text : Control → List Global → Program → Tree
whole_text control globals p = record {
  version = 1;
  lo = p.lo;
  hi = p.hi;
  globals = globals;
  functions = text_functions control p.graphs;
}

-- The tree is a text of the program with these global variables, whose control has a plan of each graph.
pub record IsWholeText (globals : List Global) (p : Program) (tree : Tree) : Type 0 where
  pub control : Control
  pub controls : AreControls control p
  pub is : tree ≡ whole_text control globals p

-- A Call takes one value at most, of a graph that has a Ret.
abbrev pub TakesFew : Program → Statement → Type 0
TakesFew p (Call results entry arguments depth) =
    (length results ≤ 1)
    × ((callee : Graph) → graph_at (drop 1 p.graphs) entry ≡ Some callee → 0 < length results
    → 0 < length (all_ret_widths callee))
TakesFew p stmt = Unit {0}

-- What a program needs for its text: returns give at most one value, and calls take at most one, of graphs that return;
-- no location takes two arguments, and names have numbers.
pub record FitsText (p : Program) : Type 0 where
  pub textable : IsTextable text_levels p
  pub gives : All (λ g. All GivesFew g.blocks) p.graphs
  pub takes : All (λ g. All (λ b. All (TakesFew p) b.stmts) g.blocks) p.graphs
  pub apart : All TakesApart p.graphs
  pub few : All HasFewNames p.graphs
