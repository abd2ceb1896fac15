use Rattle.std.proofs.Common.{sym, subst, ◌≡◌, ◌≤◌, suc}
use Rattle.dcc_ir.specs.Tree.{Graph}
use Rattle.dcc_ir.specs.Views.{graph_of}
use Rattle.dcc_ir.specs.Measure.{deepest}
use Rattle.dcc_ir.specs.Use.{graph_exprs}
use Rattle.dcc_passes.specs.Tidied.{IsTidied}
use Rattle.dcc_loads.specs.Sets.{with_sets}
use Rattle.dcc_loads.proofs.SetLaws.{sets-tidied, sets-depth}
use Rattle.dcc_loads.proofs.sets.loads_as_sets.Goals as goal

pub returns : goal.returns
returns c =
    let g = graph_of c.args.g in
    let same : record g { blocks = _ } ≡ with_sets g = λ i. record g { blocks = c.in_ok-blocks.ensures i } in
    record {
      sets = same;
      tidied = subst (IsTidied g) (sym same) (sets-tidied g c.requires);
      depth = subst (λ (h : Graph). deepest (graph_exprs h) ≤ suc (deepest (graph_exprs g))) (sym same) (sets-depth g);
    }
