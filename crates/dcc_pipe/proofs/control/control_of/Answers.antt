use Rattle.std.proofs.Common.{ap, ◌∙◌}
use Rattle.std.proofs.lemmas.Result.{IfOk-weaker}
use Rattle.dcc_ir.specs.Views.{graph_of}
use Rattle.dcc_control.specs.Complete.{completed}
use Rattle.dcc_control.specs.GotoPlan.{goto_plan}
use Rattle.dcc_pipe.specs.Control.{IsControlOf}
use Rattle.dcc_struct.proofs.GotoStructured.{on-answer}
use Rattle.dcc_pipe.proofs.ControlLaws.{goto-control}
use Rattle.dcc_pipe.proofs.control.control_of.Goals as goal

pub returns : goal.returns
returns c =
    let graph = graph_of c.args.graph.now in
    on-answer (IsControlOf graph) (completed (goto_plan graph)) (goto-control graph c.requires) c.completed.result
    (IfOk-weaker c.completed.result _ _ (λ items same. same ∙ ap completed c.in_ok-goto_plan.ensures) c.completed.ensures)
