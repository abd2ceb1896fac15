-- Laws of the variables of a text.
use Rattle.std.specs.Prelude.{◌≡◌, ℕ, ◌<◌, ◌≤◌, ◌^◌, true, false, List, [], ◌∷◌, length, All}
use Rattle.dcc_ir.specs.Families.{Family}
use Rattle.dcc_ir.specs.Run as run
use Rattle.dcc_ir.specs.Tree as inner
use Rattle.dcc_ir.specs.Use.{exit_exprs}
use Rattle.dcc_ir.specs.WellFormed.{IsGraph, IsProgram}
use Rattle.dcc_c.specs.Rules.{declared_in}
use Rattle.dcc_c.specs.Run as c
use Rattle.dcc_c.specs.Tree.{Function, Tree}
use Rattle.dcc_text.specs.Allowed.{AreDeclared}
use Rattle.dcc_text.specs.Holding.{Locations, Alike, IsSpelling, Holds, IsWithin}
use Rattle.dcc_text.specs.Laws.{IsStep}
use Rattle.dcc_variables.specs.Variables.{Shape, shape_of, declarations, graph_spelling}

-- Each variable has a number of 64 bits, and the array of the frame's bytes ends within memory.
pub record AreFew (shape : Shape) : Type 0 where
  pub bits : length shape.bits < 2 ^ 32
  pub cells : shape.cells ≤ 65536
  pub frame : shape.frame < 65536

-- the locations of a graph that have variables
abbrev pub named : inner.Graph → Locations
named graph = λ location. (graph_spelling graph).named location ≡ true

-- the family in which the locations that have variables matter everywhere
abbrev pub mentioned : inner.Graph → Family
mentioned graph block stmts = named graph

-- Variables of different locations have different names, and the array has another one.
abbrev pub NamesDiffer : Type 0
NamesDiffer = (graph : inner.Graph) → AreFew (shape_of graph) → IsSpelling (graph_spelling graph)

-- A function with the variables of a graph declares all that the spelling names.
abbrev pub NamesAreDeclared : Type 0
NamesAreDeclared = (graph : inner.Graph) (tree : Tree) (f : Function) → IsGraph graph → AreFew (shape_of graph)
    → f.params ≡ [] → f.locals ≡ declarations (shape_of graph) → AreDeclared (declared_in tree f) (graph_spelling graph)

-- The first state of a text with the variables of a program of one graph, and with its first memory, stands for the
-- program's.
abbrev pub FirstStatesHold : Alike → Type 0
FirstStatesHold AreAlike = (p : inner.Program) (graph : inner.Graph) (tree : Tree) (f : Function) (fill : ℕ)
    (input : List ℕ) → AreAlike [] [] → p.graphs ≡ graph ∷ [] → IsProgram p → AreFew (shape_of graph)
    → tree.hi ≡ p.hi → c.first_memory tree fill ≡ run.first_memory p fill → f.params ≡ []
    → f.locals ≡ declarations (shape_of graph)
    → Holds (graph_spelling graph) (named graph) AreAlike (run.first_state p fill input) (c.first_state tree f fill input)

-- What a well-formed graph without calls reads and writes has variables, and what addresses it takes have places.
pub record IsServed (graph : inner.Graph) (block : inner.Block) : Type 0 where
  pub stmts : All (IsStep (graph_spelling graph) (named graph) (named graph)) block.stmts
  pub exits : All (IsWithin (graph_spelling graph) (named graph)) (exit_exprs block.exit)

abbrev pub GraphsAreServed : Type 0
GraphsAreServed = (graph : inner.Graph) → IsGraph graph
    → All (λ block. All (λ stmt. run.is_call stmt ≡ false) block.stmts) graph.blocks
    → All (IsServed graph) graph.blocks
