use Rattle.std.proofs.Common.{arith}
use Rattle.dcc_ir.specs.Views.{graph_of}
use Rattle.dcc_passes.proofs.TidiedLaws.{tidied-refl, tidied-trans}
use Rattle.dcc_tidy.proofs.tidying.rounds.Goals as goal

pub loop-init : goal.loop-init
loop-init g c = (tidied-refl (graph_of c.args.graph) c.requires, omega arith)

pub loop-preserved : goal.loop-preserved
loop-preserved g c = (
  tidied-trans (graph_of c.args.graph) (graph_of c.loop.left) (graph_of c.in_ok-left.left) c.loop.invariant.0
      c.in_ok-left.ensures.tidied,
  omega (arith, c.loop.invariant.1, c.in_ok-left.ensures.depth),
)

pub round-requires : goal.round-requires
round-requires g c = c.loop.invariant.0.formed
