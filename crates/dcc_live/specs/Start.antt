-- What is live where a graph begins, by a search along its edges.
use Rattle.std.specs.Prelude.{◌≡◌, ℕ, zero, suc, Bool, true, ◌&&◌, ◌||◌, not, ◌↔◌, length}
use Rattle.std.specs.List.{list_any}
use Rattle.dcc_ir.specs.declared.syntax.Loc.{Loc}
use Rattle.dcc_ir.specs.Tree.{Graph}
use Rattle.dcc_ir.specs.Families.{IsLiveAtStart}
use Rattle.dcc_ir.specs.Flow.{targets}
use Rattle.dcc_ir.specs.Live.{reads_first, writes, block_in}

-- along at most so many edges from the block the location is read before it is written
abbrev pub is_read_along : ℕ → Graph → Loc → ℕ → Bool
is_read_along zero graph location place =
    let block = block_in graph place in reads_first block.stmts block.exit location
is_read_along (suc edges) graph location place =
    let block = block_in graph place in
    reads_first block.stmts block.exit location
    || (not (writes block.stmts location) && list_any (is_read_along edges graph location) (targets block.exit))

-- the location is live where the graph begins: no way to a read needs more edges than the graph has blocks
abbrev pub begins_live : Graph → Loc → Bool
begins_live graph location = is_read_along (length graph.blocks) graph location 0

-- the search finds just what is live there
abbrev pub BeginsLiveIsLive : Type 0
BeginsLiveIsLive = (graph : Graph) (location : Loc)
    → (begins_live graph location ≡ true) ↔ IsLiveAtStart graph 0 location
