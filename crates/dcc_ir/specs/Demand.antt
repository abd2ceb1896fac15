-- Which locations are needed before a statement: those whose value a test, a store, a division, a DOS call, an argument
-- of a call or a value given back may come to use (liveness by demand). A call passes its arguments and results alone.
use Rattle.std.specs.Prelude.{◌≡◌, ℕ, Bool, true, false, List, [], ◌∷◌, ◌++◌, flat_map, Contains, slice_get}
use Rattle.std.specs.Prelude.{option_to_list, Some}
use Rattle.dcc_ir.specs.declared.syntax.Loc.{Loc}
use Rattle.dcc_ir.specs.Tree.{Stmt, Set, Fetch, Store, Div, Call, Dos, Exit, If, Switch, Ret, Block, Graph}
use Rattle.dcc_ir.specs.Use.{reads_of, writes_of}
use Rattle.dcc_ir.specs.Flow.{targets}

-- the statement only makes a value for a location: a Set or a Load
abbrev pub is_assignment : Stmt → Bool
is_assignment (Set location e) = true
is_assignment (Fetch location width address) = true
is_assignment stmt = false

-- the locations that a statement uses whatever is needed after it
abbrev pub uses_of : Stmt → List Loc
uses_of (Store width address e) = reads_of address ++ reads_of e
uses_of (Div location e) = reads_of e
uses_of (Call results entry arguments depth) = flat_map reads_of arguments
uses_of (Dos number place argument) = flat_map reads_of (option_to_list argument)
uses_of stmt = []

-- the locations of which a statement makes the value that it sets
abbrev pub makes_of : Stmt → List Loc
makes_of (Set location e) = reads_of e
makes_of (Fetch location width address) = reads_of address
makes_of stmt = []

-- the locations that a block's end uses: those of its test, or of the values that it gives back
abbrev pub tests_of : Exit → List Loc
tests_of (If test one other) = reads_of test
tests_of (Switch e places) = reads_of e
tests_of (Ret values) = flat_map reads_of values
tests_of exit = []

-- the location is needed in the block before these statements, which are its last ones; the least relation by the
-- rules
pub data IsNeededIn (graph : Graph) : Block → List Stmt → Loc → Type 0 where
  used : {block : Block} {stmt : Stmt} {rest : List Stmt} {location : Loc} → Contains (uses_of stmt) location
      → IsNeededIn graph block (stmt ∷ rest) location
  made_of : {block : Block} {stmt : Stmt} {rest : List Stmt} {location to : Loc} → Contains (writes_of stmt) to
      → Contains (makes_of stmt) location → IsNeededIn graph block rest to
      → IsNeededIn graph block (stmt ∷ rest) location
  left : {block : Block} {stmt : Stmt} {rest : List Stmt} {location : Loc} → ¬ Contains (writes_of stmt) location
      → IsNeededIn graph block rest location → IsNeededIn graph block (stmt ∷ rest) location
  tested : {block : Block} {location : Loc} → Contains (tests_of block.exit) location
      → IsNeededIn graph block [] location
  goes : {block next : Block} {place : ℕ} {location : Loc} → Contains (targets block.exit) place
      → slice_get graph.blocks place ≡ Some next → IsNeededIn graph next next.stmts location
      → IsNeededIn graph block [] location
