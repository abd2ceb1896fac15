-- Which locations are told to be wanted before which points, as code keeps it: by the places of graphs, the places of
-- their blocks, and the number of statements that are done.
use Rattle.std.specs.Prelude.{ℕ, ◌==◌, Bool, ◌&&◌, List, [], map, get_or}
use Rattle.std.specs.Global.{Vec}
use Rattle.dcc_ir.specs.declared.syntax.Loc.{Loc}
use Rattle.dcc_ir.specs.Live.{is_among}
use Rattle.dcc_ir.specs.Location.{same_location}
use Rattle.dcc_summaries.specs.declared.points.Point.{Point}
use Rattle.dcc_summaries.specs.declared.table.Want.{Want}

abbrev pub lists_of : {A : Type 0} → List (Vec A) → List (List A)
lists_of lists = map (λ v. v.items) lists

-- The locations of the table by the number of statements done, by block and by graph; a list that isn't there is
-- empty.

abbrev pub row_of : List (List Loc) → ℕ → List Loc
row_of rows done = get_or rows done []

abbrev pub block_rows : List (Vec (List Loc)) → ℕ → List (List Loc)
block_rows blocks block = get_or (lists_of blocks) block []

abbrev pub graph_rows : List (Vec (Vec (List Loc))) → ℕ → List (Vec (List Loc))
graph_rows graphs place = get_or (lists_of graphs) place []

-- the locations before a point
abbrev pub row_at : List (Vec (Vec (List Loc))) → Point → List Loc
row_at graphs at = row_of (block_rows (graph_rows graphs at.graph) at.block) at.done

-- Whether a location is in the table before a point.

abbrev pub told_here : List (List Loc) → ℕ → Loc → Bool
told_here rows done location = is_among (row_of rows done) location

abbrev pub told_in_block : List (Vec (List Loc)) → ℕ → ℕ → Loc → Bool
told_in_block blocks block done location = told_here (block_rows blocks block) done location

abbrev pub told_in_graph : List (Vec (Vec (List Loc))) → ℕ → ℕ → ℕ → Loc → Bool
told_in_graph graphs place block done location = told_in_block (graph_rows graphs place) block done location

abbrev pub told_in : List (Vec (Vec (List Loc))) → Want → Bool
told_in graphs x = told_in_graph graphs x.at.graph x.at.block x.at.done x.location

-- the two wants are one: the same location before the same point
abbrev pub same_want : Want → Want → Bool
same_want x y =
    (x.at.graph == y.at.graph)
    && ((x.at.block == y.at.block) && ((x.at.done == y.at.done) && same_location x.location y.location))
