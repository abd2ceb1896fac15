use Rattle.std.proofs.Common.{◌≡◌, refl, ap, ◌∙◌, sym, subst, length, arith}
use Rattle.std.specs.Prelude.{IfOk}
use Rattle.std.proofs.lemmas.Result.{IfOk-weaker}
use Rattle.dcc_ir.specs.Views.{graph_of}
use Rattle.dcc_flow.specs.Edges.{AreWithin}
use Rattle.dcc_flow.proofs.RowLaws.{length_rows, length_successors, successors_within}
use Rattle.dcc_control.specs.Complete.{completed}
use Rattle.dcc_control.specs.Told.{told_loops}
use Rattle.dcc_control.specs.Valid.{IsPlanOf}
use Rattle.dcc_control.specs.Views.{plan_of}
use Rattle.dcc_plan_check.specs.Structured.{BeginsReturns}
use Rattle.dcc_struct.proofs.GotoStructured.{on-answer}
use Rattle.dcc_pipe.specs.Control.{IsTold}
use Rattle.dcc_pipe.proofs.ControlLaws.{told-valid, told-returns}
use Rattle.dcc_pipe.proofs.control.structured_plan.Goals as goal

pub reduced-requires : goal.reduced-requires
reduced-requires c =
    let graph = graph_of c.args.graph.now in
    let few = ap length c.in_ok-next.ensures in
    let listed = length_rows c.in_ok-next.next.items in
    let blocks = length_successors graph in
    record {
      within = subst AreWithin (sym c.in_ok-next.ensures) (successors_within graph c.requires);
      entry = omega (arith, few, listed, blocks, c.requires.begins);
    }

pub returns : goal.returns
returns c =
    let graph = graph_of c.args.graph.now in
    let plan = plan_of c.in_ok-plan.plan.items in
    let structured = c.in_ok-plan.ensures in
    let made : IfOk c.completed.result (λ items. plan_of items.items ≡ completed (told_loops plan)) =
    IfOk-weaker c.completed.result _ _ (λ items same. same ∙ ap completed c.in_ok-told_loops.ensures)
    c.completed.ensures in
    record {
      valid = on-answer (IsPlanOf graph) (completed (told_loops plan)) (told-valid graph plan structured.structured.valid)
          c.completed.result made;
      told = on-answer IsTold (completed (told_loops plan)) (record { untold = plan; is = refl }) c.completed.result made;
      returns = on-answer (BeginsReturns graph) (completed (told_loops plan))
          (told-returns graph plan structured.structured.valid structured.paced) c.completed.result made;
    }
