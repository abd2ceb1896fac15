-- How code puts temporaries in the place of locations. No public contract rests on it.
use Rattle.std.specs.Prelude.{◌≡◌, ℕ, suc, ◌+◌, ◌<◌, List, [], ◌∷◌, length, map, option_map, get_or, Option, Some, None}
use Rattle.dcc_ir.specs.declared.syntax.Loc.{Loc}
use Rattle.dcc_ir.specs.declared.syntax.Loc.TheVariants.{Temp}
use Rattle.dcc_ir.specs.Tree.{Stmt, Set, Fetch, Store, Div, Call, Dos, Block, Graph}
use Rattle.dcc_ir.specs.declared.syntax.Graph.{Graph as GraphOf}
use Rattle.dcc_ir.specs.Views.{graph_of}
use Rattle.dcc_flow.specs.Access.{access_of, block_access_of}
use Rattle.dcc_passes.specs.Renaming.{renamed, renamed_exit, renamed_param}
use Rattle.dcc_webs.specs.declared.renaming.Renamer.{Renamer as RenamerOf}
use Rattle.dcc_webs.specs.Names.{Names, names_of, at_writes, before_one, before_all, at_exit}
use Rattle.dcc_webs.specs.declared.classes.Temps.{Temps as TempsOf}
use Rattle.dcc_webs.specs.Classes.{class_in, AreClasses, AreTemps}
use Rattle.dcc_webs.specs.Walk.{Facts, base, live_at, last_names, origins_before, all_links}

-- the number of a location, or 0
abbrev pub number_or : Option ℕ → ℕ
number_or (Some n) = n
number_or None = 0

-- the temporary of a location, where the numbers of its block begin at the base and each number has this temporary
abbrev pub temp_by : List ℕ → ℕ → Names → Loc → Loc
temp_by temps base names location = Temp (get_or temps (base + number_or (names.number location)) 0)

abbrev pub temp_in : RenamerOf → Loc → Loc
temp_in r = temp_by r.temps.now r.base (names_of r.names.now)

-- the statement with each location that it reads replaced
abbrev pub with_reads : (Loc → Loc) → Stmt → Stmt
with_reads name (Set location e) = Set location (renamed name e)
with_reads name (Fetch location width address) = Fetch location width (renamed name address)
with_reads name (Store width address e) = Store width (renamed name address) (renamed name e)
with_reads name (Div location e) = Div location (renamed name e)
with_reads name (Call results entry arguments depth) = Call results entry (map (renamed name) arguments) depth
with_reads name (Dos number place argument) = Dos number place (option_map (renamed name) argument)

-- the statement with each location that it writes replaced
abbrev pub with_writes : (Loc → Loc) → Stmt → Stmt
with_writes name (Set location e) = Set (name location) e
with_writes name (Fetch location width address) = Fetch (name location) width address
with_writes name (Store width address e) = Store width address e
with_writes name (Div location e) = Div (name location) e
with_writes name (Call results entry arguments depth) = Call (map name results) entry arguments depth
with_writes name (Dos number place argument) = Dos number (option_map name place) argument

-- the temporaries of numbers, each class of numbers that these links join having one of its own
pub record AreTempsOf (bits : List ℕ) (origins : List Loc) (links : List (ℕ × ℕ)) (temps : TempsOf) : Type 0 where
  pub classes : List ℕ
  pub count : length classes ≡ length origins
  pub below : (x : ℕ) → x < length classes → class_in classes x < length classes
  pub own : (x : ℕ) → x < length classes → class_in classes (class_in classes x) ≡ class_in classes x
  pub joined : AreClasses links classes
  pub temps_are : AreTemps bits origins classes temps

module _ (temps : List ℕ) where
  -- the statement over temporaries, where these are the numbers after it
  abbrev pub stmt_over : ℕ → Names → Stmt → Stmt
  stmt_over base after stmt =
      with_reads (temp_by temps base (before_one (access_of stmt) after))
      (with_writes (temp_by temps base (at_writes (access_of stmt) after)) stmt)

  abbrev pub stmts_over : ℕ → Names → List Stmt → List Stmt
  stmts_over base after [] = []
  stmts_over base after (stmt ∷ rest) =
      stmt_over base (before_all (map access_of rest) after) stmt ∷ stmts_over base after rest

  -- the block over temporaries, where its numbers begin there and these locations are live at its end
  abbrev pub block_over : ℕ → List Loc → Block → Block
  block_over base live block =
      let after = at_exit live (block_access_of block).last in
      record block {
        stmts = stmts_over base after block.stmts;
        exit = renamed_exit (temp_by temps base after) block.exit;
      }

  -- blocks over temporaries, from the place of the first of them on
  abbrev pub blocks_over : Facts → ℕ → List Block → List Block
  blocks_over facts place [] = []
  blocks_over facts place (block ∷ blocks) =
      block_over (base facts place) (live_at facts place) block ∷ blocks_over facts (suc place) blocks

  -- the graph over temporaries
  abbrev pub graph_over : Facts → List ℕ → Graph → Graph
  graph_over facts bits graph = record graph {
    params = map (renamed_param (temp_by temps 0 (last_names facts 0))) graph.params;
    blocks = blocks_over facts 0 graph.blocks;
    bits = bits;
  }

-- the second graph is the first one over temporaries, one for each class of numbers that links join
pub record IsSplitBy (facts : Facts) (graph : Graph) (after : GraphOf) : Type 0 where
  pub temps : TempsOf
  pub temps_are : AreTempsOf graph.bits (origins_before facts (length facts.accesses)) (all_links facts) temps
  pub is : graph_of after ≡ graph_over temps.of.items facts temps.bits.items graph
