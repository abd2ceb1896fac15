use Rattle.std.proofs.lemmas.Result.{IfOk-weaker}
use Rattle.dcc_ir.specs.Views.{graph_of}
use Rattle.dcc_pipe.proofs.passes.simplified_graph.Goals as goal

pub returns : goal.returns
returns c = IfOk-weaker c.without_dead-2.result _ _ (λ after last. record {
  wanted = graph_of c.in_ok-wanted.wanted;
  folded = graph_of c.in_ok-folded.folded;
  first = c.in_ok-wanted.ensures.without;
  flags = c.in_ok-folded.ensures;
  last = last;
}) c.without_dead-2.ensures.without
