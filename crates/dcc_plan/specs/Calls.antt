-- What makes functions of a text the functions of a program's graphs, and when the text stands for the program.
use Rattle.std.specs.Prelude.{◌≡◌, ℕ, ◌⊎◌, Bool, true, ◌||◌, ◌&&◌, not, List, [], ◌∷◌, drop, flat_map, All, Contains}
use Rattle.std.specs.Prelude.{Some}
use Rattle.std.specs.List.{list_all}
use Rattle.dcc_ir.specs.declared.syntax.Loc.{Loc}
use Rattle.dcc_ir.specs.declared.syntax.Put.{Put}
use Rattle.dcc_ir.specs.declared.syntax.Put.TheVariants.{Memory, One, Two}
use Rattle.dcc_ir.specs.declared.syntax.Param.{Param}
use Rattle.dcc_ir.specs.Live.{is_among, block_in}
use Rattle.dcc_ir.specs.Run as inner_run
use Rattle.dcc_ir.specs.Tree as inner
use Rattle.dcc_ir.specs.WellFormed.{is_stmt, IsCall}
use Rattle.dcc_c.specs.Placement.{is_auto, takes_address}
use Rattle.dcc_c.specs.Run as text_run
use Rattle.dcc_c.specs.Run.{function_in}
use Rattle.dcc_c.specs.Tree.{Tree}
use Rattle.dcc_text.specs.Holding.{Locations, Holds, Setting, AreWaiting, IsWithin}
use Rattle.dcc_variables.specs.FunctionLaws.{HasFewNames, has_name}
use Rattle.dcc_variables.specs.Functions.{function_name, function_spelling, IsFunctionOf}

-- Params.

-- the locations that take the bytes of an argument word
abbrev pub byte_places : Put → List Loc
byte_places (Two low high) = low ∷ high ∷ []
byte_places _ = []

-- all locations that take an argument or a part of it
abbrev pub places : Put → List Loc
places Memory = []
places (One location) = location ∷ []
places (Two low high) = low ∷ high ∷ []

-- the locations that take the bytes of words, of all params; `all_places`: the locations that params set
abbrev pub all_byte_places : List Param → List Loc
all_byte_places params = flat_map (λ p. byte_places p.put) params

abbrev pub all_places : List Param → List Loc
all_places params = flat_map (λ p. places p.put) params

-- no location stands twice in the list
abbrev pub locations_differ : List Loc → Bool
locations_differ [] = true
locations_differ (location ∷ others) = not (is_among others location) && locations_differ others

-- Graphs.

-- There are few names. No location takes two arguments. What matters has a name.
pub record IsNamed (setting : Setting) (graph : inner.Graph) : Type 0 where
  pub few : HasFewNames graph
  pub apart : locations_differ (all_places graph.params) ≡ true
  pub named : (block : inner.Block) (stmts : List inner.Stmt) (location : Loc)
      → setting.matters graph block stmts location → has_name graph location

-- for each graph, the bytes of argument words that its function opens
abbrev pub Opens : Type 0
Opens = inner.Graph → Loc → Bool

-- Functions.

-- A graph other than the first has a function of its name in the text, whose body takes the addresses of no parameters
-- but those that are in memory. The bytes of argument words that matter where the graph begins are opened.
pub record IsCallable (opens : Opens) (setting : Setting) (tree : Tree) (graph : inner.Graph) : Type 0 where
  pub function : IsFunctionOf graph (function_name graph.entry) (setting.function graph)
  pub found : function_in tree.functions (function_name graph.entry) ≡ Some (setting.function graph)
  pub unplaced : list_all (λ v. is_auto v.class || not (takes_address (setting.function graph).body v.name))
      (setting.function graph).params ≡ true
  pub opened : (location : Loc) → is_among (all_byte_places graph.params) location ≡ true
      → setting.matters graph (block_in graph 0) (block_in graph 0).stmts location → opens graph location ≡ true
  pub named : (location : Loc) → opens graph location ≡ true → has_name graph location

-- The setting is that of a program's functions in a text.
pub record AreFunctions (opens : Opens) (setting : Setting) (p : inner.Program) (tree : Tree) : Type 0 where
  pub spelled : (graph : inner.Graph) → setting.spelling graph ≡ function_spelling graph
  pub graphs : All (IsNamed setting) p.graphs
  pub others : All (IsCallable opens setting tree) (drop 1 p.graphs)

-- States.

-- The text stands for the program: it runs the function of the running graph, variables without a value hold this
-- fill, it holds these locations, and its calls that wait stand for those that wait, whose results have variables.
pub record StandsFor (setting : Setting) (fill : ℕ) (Has : Locations) (i : inner_run.State) (t : text_run.State)
    : Type 0 where
  pub function : t.frame.function ≡ setting.function i.running.graph
  pub filled : t.fill ≡ fill
  pub holds : Holds (setting.spelling i.running.graph) Has (AreWaiting setting) i t
  pub results : All (λ w. All (has_name w.caller.graph) w.results) i.waiting

-- what matters where the running graph stands
abbrev pub StandsThere : Setting → ℕ → inner_run.State → text_run.State → Type 0
StandsThere setting fill i t =
    StandsFor setting fill (setting.matters i.running.graph i.running.block i.running.rest) i t

-- What a Call needs so that its text begins the callee: it is well formed and agrees with the callee, what it reads is
-- held before it, its results have variables, and what matters after it but for these is held before it.
pub record IsReadyCall (setting : Setting) (p : inner.Program) (graph : inner.Graph) (block : inner.Block)
    (rest : List inner.Stmt) (results : List Loc) (entry : ℕ) (arguments : List inner.Expr) (depth : ℕ) : Type 0 where
  pub formed : is_stmt graph.bits (inner.Call results entry arguments depth) ≡ true
  pub agrees : IsCall p graph results entry arguments
  pub within : All (IsWithin (setting.spelling graph)
      (setting.matters graph block (inner.Call results entry arguments depth ∷ rest))) arguments
  pub written : All (has_name graph) results
  pub left : (location : Loc) → setting.matters graph block rest location → Contains results location
      ⊎ setting.matters graph block (inner.Call results entry arguments depth ∷ rest) location
