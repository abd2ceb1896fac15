-- What is tidied of a prepared program keeps the runs and the blocks, and has what a text needs of each graph.
use Rattle.std.proofs.Common.{◌≡◌, ℕ, List, [], ap₂, sym, subst, arith}
use Rattle.dcc_ir.specs.Keeps.{Keeps}
use Rattle.dcc_ir.specs.Tree.{Graph, Program}
use Rattle.dcc_ir.specs.Use.{graph_exprs}
use Rattle.dcc_ir.specs.WellFormed.{IsProgram}
use Rattle.dcc_ir.proofs.ZipLaws.{all_zipped, map_zipped, weaker_zipped}
use Rattle.dcc_lift.specs.Lifted.{IsShallow}
use Rattle.dcc_passes.specs.Kinds.{BlockStaysInKind, StaysInKind}
use Rattle.dcc_passes.specs.Replaced.{StandsFor, with_graphs}
use Rattle.dcc_passes.specs.Tidied.{IsTidied}
use Rattle.dcc_passes.proofs.ReplacedLaws.{left-from}
use Rattle.dcc_tidy.specs.Tidied.{text_levels, IsTidiedGraph}
use Rattle.dcc_tidy.proofs.KindLaws.{kind-addresses}
use Rattle.dcc_tidy.proofs.GraphLaws.{graphs-tidied}
use Rattle.dcc_pipe.specs.Textable.{levels, IsTextable}
use Rattle.dcc_pipe.specs.Simplified.{HasEachChanged, IsSimplified}
use Rattle.dcc_pipe.proofs.ReplacedLaws.{HasSameBlocks, blocks-stay}
use Rattle.dcc_pipe.proofs.ReturnLaws.{end_of, ends, ret-end}
use Rattle.dcc_pipe.proofs.SimplifiedLaws.{deepest-of, none-deeper, never-stuck}

-- Graphs.

graph-shallow : (ids : List ℕ) (g h : Graph) → IsTidiedGraph ids g h → IsShallow levels g → IsShallow text_levels h
graph-shallow ids g h left shallow =
    let few = deepest-of levels (graph_exprs g) shallow in
    none-deeper text_levels (graph_exprs h) (left.stands.depth (omega (arith, few)))

kind-blocks : (g h : Graph) → StaysInKind g h → HasSameBlocks g h
kind-blocks g h is = record { entry = is.entry; addresses = kind-addresses g h is }

-- each block ends in a return where the other's does
pub kind-ends : (g h : Graph) → StaysInKind g h → ends h ≡ ends g
kind-ends g h is =
    map_zipped (BlockStaysInKind g.bits h.bits) end_of end_of
    (λ b c pair. ap₂ (λ at ret. (at, ret)) pair.at (ret-end g.bits h.bits b.exit c.exit pair.given)) g.blocks h.blocks
    is.blocks

-- Programs.

pub program-tidied : (ids : List ℕ) (p q : Program) → IsTextable levels p → HasEachChanged (IsTidiedGraph ids) p q
    → IsSimplified text_levels p q
program-tidied ids p q textable is =
    let each = graphs-tidied ids p.graphs q.graphs is.graphs in
    let stand = weaker_zipped IsTidied StandsFor (λ g h tidy. tidy.stands) p.graphs q.graphs each in
    let same : with_graphs p.image p.lo p.hi q.graphs ≡ q =
    λ i. record { graphs = q.graphs; image = sym is.image i; lo = sym is.lo i; hi = sym is.hi i } in
    let left = left-from p.image p.lo p.hi [] p.graphs q.graphs stand textable.formed in
    let keeps = subst (Keeps p) same left.keeps in
    record {
      textable = record {
        formed = subst IsProgram same left.formed;
        shallow =
            all_zipped (IsTidiedGraph ids) (IsShallow levels) (IsShallow text_levels) (graph-shallow ids) p.graphs q.graphs is.graphs
            textable.shallow;
        never_stuck = never-stuck p q keeps.runs textable.never_stuck;
      };
      keeps = keeps;
      places = λ place.
          blocks-stay p q place
          (weaker_zipped IsTidied HasSameBlocks (λ g h tidy. kind-blocks g h tidy.kind) p.graphs q.graphs each);
    }
