-- What the procedures of a program change, by the entries of their graphs.
use Rattle.std.specs.Prelude.{◌≡◌, ℕ, suc, ◌<◌, Bool, true, false, ◌↔◌, List, [], ◌∷◌, length, get_or, slice_get, Some}
use Rattle.dcc_ir.specs.declared.syntax.Loc.{Loc}
use Rattle.dcc_ir.specs.Tree.{Program}
use Rattle.dcc_ir.specs.Run.{no_graph}
use Rattle.dcc_ir.specs.Passing.{passed}
use Rattle.dcc_demand.specs.Changes.{Changes}
use Rattle.dcc_sums.specs.Instance.{procedures_of}
use Rattle.dcc_modref.specs.States.{told_in}
use Rattle.dcc_modref.specs.Losses.{GraphLoses}

-- the list tells just of the procedures that change the location
abbrev pub TellsJust : Program → Loc → List Bool → Type 0
TellsJust p location changed = (entry : ℕ) → (told_in changed entry ≡ true) ↔ Changes (procedures_of p) entry location

-- for each half and flag that passes, in their order, a list tells just of the procedures that change it
pub record AreChanges (p : Program) (lists : List (List Bool)) : Type 0 where
  pub count : length lists ≡ length passed
  pub exact : (place : ℕ) (location : Loc) (changed : List Bool) → slice_get passed place ≡ Some location
      → slice_get lists place ≡ Some changed → TellsJust p location changed

-- While they are looked for. No public contract rests on what follows.

-- how many procedures aren't told of
abbrev pub untold : List Bool → ℕ
untold [] = 0
untold (true ∷ changed) = untold changed
untold (false ∷ changed) = suc (untold changed)

-- the list tells of procedures that change the location alone
pub record AreTelling (p : Program) (location : Loc) (changed : List Bool) : Type 0 where
  pub count : length changed ≡ 65536
  pub sound : (entry : ℕ) → told_in changed entry ≡ true → Changes (procedures_of p) entry location

-- the list tells of the graph's procedure if the graph loses the location
abbrev pub IsSettled : Program → Loc → List Bool → ℕ → Type 0
IsSettled p location changed place =
    let graph = get_or p.graphs place no_graph in
    GraphLoses (told_in changed) graph location → told_in changed graph.entry ≡ true

-- the lists before and after graphs were looked at, where the answer was whether a further one loses the location
pub record HasLooked (p : Program) (location : Loc) (before after : List Bool) (new : Bool) (places : ℕ → Type 0)
    : Type 0 where
  pub less : new ≡ true → untold after < untold before
  pub same : new ≡ false → after ≡ before
  pub settled : new ≡ false → (place : ℕ) → places place → IsSettled p location before place
