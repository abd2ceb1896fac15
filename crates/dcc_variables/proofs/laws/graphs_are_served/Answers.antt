use Rattle.dcc_ir.proofs.ListLaws.{all_had}
use Rattle.dcc_text.specs.Laws.{IsStep}
use Rattle.dcc_variables.specs.Laws.{named, IsServed}
use Rattle.dcc_variables.specs.Variables.{graph_spelling}
use Rattle.dcc_variables.proofs.Steps.{stmt-step, exit-within}
use Rattle.dcc_variables.proofs.laws.graphs_are_served.Goals as goal

pub returns : goal.returns
returns c graph formed no_calls =
    all_had (IsServed graph) graph.blocks (λ block inside. record {
      stmts = all_had (IsStep (graph_spelling graph) (named graph) (named graph)) block.stmts (stmt-step graph formed no_calls block inside);
      exits = exit-within graph formed no_calls block inside;
    })
