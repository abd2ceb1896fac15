use Rattle.std.proofs.Common.{length, ap, sym, subst, arith}
use Rattle.dcc_ir.specs.Views.{graph_of}
use Rattle.dcc_flow.specs.Edges.{AreWithin}
use Rattle.dcc_flow.proofs.RowLaws.{length_rows, length_successors, successors_within}
use Rattle.dcc_flow.proofs.search.order.Goals as goal

pub order_of-requires-clause-some : goal.order_of-requires-clause-some
order_of-requires-clause-some c =
    let size = length_rows c.in_ok-next.next.items in
    omega (arith, size, ap length c.in_ok-next.ensures, length_successors (graph_of c.args.g.now), c.requires.begins)

pub order_of-requires-clause-next : goal.order_of-requires-clause-next
order_of-requires-clause-next c = subst AreWithin (sym c.in_ok-next.ensures) (successors_within (graph_of c.args.g.now) c.requires)
