use Rattle.dcc_flags.proofs.WholeLaws.{form_stays, graph_formed, may_replace}
use Rattle.dcc_flags.proofs.laws.folded_graphs_stand.Goals as goal

pub returns : goal.returns
returns c graph is order searched kept exact = record {
  formed = graph_formed graph is order searched kept exact;
  form = form_stays graph is order searched kept exact;
  keeps = may_replace graph is order searched kept exact;
}
