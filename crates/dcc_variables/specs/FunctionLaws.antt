-- Laws of the names of functions, of their parameters and of their variables, and of what has names in a function.
use Rattle.std.specs.Prelude.{◌≡◌, ◌^◌, ◌<◌, true, ◌++◌, length, map, All}
use Rattle.dcc_ir.specs.Tree as inner
use Rattle.dcc_ir.specs.Use.{exprs_of, writes_of, exit_exprs}
use Rattle.dcc_ir.specs.WellFormed.{is_stmt, IsGraph, IsProgram}
use Rattle.dcc_c.specs.Rules.{all_differ, names_of, known_names, own_variables, declared_in}
use Rattle.dcc_c.specs.Tree.{Function, Tree}
use Rattle.dcc_text.specs.Allowed.{AreDeclared}
use Rattle.dcc_text.specs.Holding.{Locations, IsSpelling, IsWithin}
use Rattle.dcc_variables.specs.Functions.{function_names, parameters, function_spelling, own_declarations}
use Rattle.dcc_variables.specs.Globals.{HaveNames}
use Rattle.dcc_variables.specs.Laws.{AreFew}
use Rattle.dcc_variables.specs.Variables.{shape_of}

-- Each variable and each parameter has a number of 64 bits, and the array of the frame's bytes ends within memory.
pub record HasFewNames (graph : inner.Graph) : Type 0 where
  pub variables : AreFew (shape_of graph)
  pub params : length graph.params < 2 ^ 32

-- the locations of a graph that have variables or are parameters
abbrev pub has_name : inner.Graph → Locations
has_name graph location = (function_spelling graph).named location ≡ true

-- Variables and parameters of different locations have different names, and the array has another one.
abbrev pub FunctionNamesDiffer : Type 0
FunctionNamesDiffer = (graph : inner.Graph) → HasFewNames graph → IsSpelling (function_spelling graph)

-- A function with the parameters and variables of a graph declares all that the spelling names.
abbrev pub FunctionNamesAreDeclared : Type 0
FunctionNamesAreDeclared = (graph : inner.Graph) (tree : Tree) (f : Function) → IsGraph graph → HasFewNames graph
    → f.params ≡ parameters graph → f.locals ≡ own_declarations graph
    → AreDeclared (declared_in tree f) (function_spelling graph)

-- Global variables that have names of their own, and the functions of a program's graphs, have different names.
abbrev pub KnownNamesDiffer : Type 0
KnownNamesDiffer = (p : inner.Program) (tree : Tree) → IsProgram p → HaveNames tree.globals
    → map (λ f. f.name) tree.functions ≡ function_names p.graphs → all_differ (known_names tree) ≡ true

-- The parameters and the variables of each function have names of their own, where the global variables do.
abbrev pub OwnNamesDiffer : Type 0
OwnNamesDiffer = (p : inner.Program) (graph : inner.Graph) (tree : Tree) (f : Function) → IsProgram p → IsGraph graph
    → HasFewNames graph → HaveNames tree.globals
    → map (λ f. f.name) tree.functions ≡ function_names p.graphs
    → f.params ≡ parameters graph → f.locals ≡ own_declarations graph
    → all_differ (names_of (own_variables f) ++ known_names tree) ≡ true

-- A statement of the graph is well formed; what it reads and writes has a name, and the addresses that it takes have
-- places.
pub record IsServedStmt (graph : inner.Graph) (stmt : inner.Stmt) : Type 0 where
  pub formed : is_stmt graph.bits stmt ≡ true
  pub within : All (IsWithin (function_spelling graph) (has_name graph)) (exprs_of stmt)
  pub written : All (has_name graph) (writes_of stmt)

-- each statement of a block, and its end, is served: what they read and write has a name
pub record IsServedByFunction (graph : inner.Graph) (block : inner.Block) : Type 0 where
  pub stmts : All (IsServedStmt graph) block.stmts
  pub exits : All (IsWithin (function_spelling graph) (has_name graph)) (exit_exprs block.exit)

-- What a graph reads and writes, with its calls, has names, and the addresses that it takes have places.
abbrev pub FunctionsAreServed : Type 0
FunctionsAreServed = (graph : inner.Graph) → IsGraph graph → All (IsServedByFunction graph) graph.blocks
