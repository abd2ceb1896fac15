-- How a text names what a graph has: its locations and the addresses in its frame.
use Rattle.std.specs.Prelude.{ℕ, Bool, List, Option}
use Rattle.dcc_ir.specs.declared.syntax.Loc.{Loc}
use Rattle.dcc_c.specs.declared.syntax.CType.{CType}
use Rattle.dcc_c.specs.Tree.{Word}

-- what an address in the frame goes by: the name of a variable with a place, or of an array, and how many bytes the
-- address lies above that place
pub record Placed : Type 0 where
  pub name : Word
  pub is_array : Bool
  pub above : ℕ

-- How a text names what a graph has. Each location has a variable, by its name and type; where the variable is settled
-- it holds the location's value itself, else its low bits are the value. Addresses in the frame go by their distances
-- from the frame's base.
pub record Spelling : Type 0 where
  -- the widths of the temporaries
  pub bits : List ℕ
  -- the locations that have variables
  pub named : Loc → Bool
  pub name : Loc → Word
  pub type : Loc → CType
  pub settled : Loc → Bool
  pub place : ℕ → Option Placed
  -- the function that stands for the graph with an entry
  pub function : ℕ → Word
