-- How code tells which temporaries are alone. No public contract rests on it.
use Rattle.std.specs.Prelude.{◌≡◌, nat_le, Bool, List, ◌++◌, flat_map}
use Rattle.dcc_ir.specs.declared.syntax.Loc.{Loc}
use Rattle.dcc_ir.specs.Tree.{Graph}
use Rattle.dcc_ir.specs.Live.{is_among}
use Rattle.dcc_ir.specs.Joinable.{times_in}
use Rattle.dcc_flow.specs.Access.{Access, BlockAccess}
use Rattle.dcc_flow.specs.Marks.{members, with_all, empty}
use Rattle.dcc_passes.specs.Renaming.{param_places}
use Rattle.dcc_fold.specs.Joinable.{all_writes, all_reads}
use Rattle.dcc_fold.specs.declared.alone.Alone.{Alone as AloneOf}

-- what a statement writes and reads, and what a block does, by what is told of them
abbrev pub written_by : Access → List Loc
written_by a = a.writes

abbrev pub read_by : Access → List Loc
read_by a = a.reads

abbrev pub block_writes : BlockAccess → List Loc
block_writes b = flat_map written_by b.stmts

abbrev pub block_reads : BlockAccess → List Loc
block_reads b = flat_map read_by b.stmts ++ b.last

-- the sets have the locations of the list, and those that stand there more than once
abbrev pub IsCounted : List Bool → List Bool → List Loc → Type 0
IsCounted seen again list =
    (location : Loc) → (members seen location ≡ is_among list location)
    × (members again location ≡ nat_le 2 (times_in list location))

-- what is counted of a graph
pub record AreCounted (graph : Graph) (alone : AloneOf) : Type 0 where
  pub params : (location : Loc) → members alone.params location ≡ is_among (param_places graph.params) location
  pub writes : IsCounted alone.writes.seen alone.writes.again (all_writes graph)
  pub reads : IsCounted alone.reads.seen alone.reads.again (all_reads graph)
