use Rattle.dcc_ir.specs.Views.{graph_of}
use Rattle.dcc_struct.proofs.GotoStructured.{goto-answer, paced-answer}
use Rattle.dcc_struct.proofs.builder.tested.Goals as goal

pub returns-clause-structured : goal.returns-clause-structured
returns-clause-structured c = goto-answer (graph_of c.args.graph.now) c.requires c.goto_plan.result c.goto_plan.ensures

pub returns-clause-paced : goal.returns-clause-paced
returns-clause-paced c = paced-answer (graph_of c.args.graph.now) c.requires c.goto_plan.result c.goto_plan.ensures
