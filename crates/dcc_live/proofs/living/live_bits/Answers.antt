use Rattle.std.proofs.Common.{sym, subst, length}
use Rattle.dcc_ir.specs.Views.{graph_of}
use Rattle.dcc_flow.specs.Edges.{rows, AreWithin}
use Rattle.dcc_flow.specs.Uses.{AreUses}
use Rattle.dcc_flow.proofs.RowLaws.{successors_within}
use Rattle.dcc_live.specs.First.{AreTold}
use Rattle.dcc_live.proofs.LiveLaws.{live_bits_are}
use Rattle.dcc_live.proofs.living.live_bits.Goals as goal

pub solve-requires-clause-next : goal.solve-requires-clause-next
solve-requires-clause-next g c = subst AreWithin (sym c.in_ok-next.ensures) (successors_within (graph_of c.args.g.now) c.requires.graph)

pub returns : goal.returns
returns g c =
    let graph = graph_of c.args.g.now in
    let places = c.args.places.now in
    let used = c.in_ok-table.table.used.items in
    let written = c.in_ok-table.table.written.items in
    let answer = c.in_ok-answer.answer.items in
    live_bits_are graph c.requires.graph places used written answer
    (subst (λ rows. AreTold places rows used written) c.requires.rows c.in_ok-table.ensures)
    (subst (λ next. AreUses next used written (length places) answer) c.in_ok-next.ensures
    (subst (λ n. AreUses (rows c.in_ok-next.next.items) used written n answer) c.len.ensures c.in_ok-answer.ensures.exact))
