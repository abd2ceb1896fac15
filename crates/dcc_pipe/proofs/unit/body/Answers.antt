use Rattle.std.proofs.Common.{ap, ◌∙◌}
use Rattle.std.proofs.lemmas.Result.{IfOk-weaker}
use Rattle.dcc_ir.specs.Live.{is_among}
use Rattle.dcc_ir.specs.Views.{graph_of}
use Rattle.dcc_variables.specs.Functions.{openings_from}
use Rattle.dcc_variables.specs.Views.{shape_in, spelling_in}
use Rattle.dcc_control.specs.Views.{plan_of}
use Rattle.dcc_pipe.proofs.UnitLaws.{body-is}
use Rattle.dcc_pipe.proofs.unit.body.Goals as goal

pub returns : goal.returns
returns c =
    let head = c.args.head.now in
    let g = graph_of c.args.graph.now in
    let s = spelling_in head in
    IfOk-weaker c.joined.result _ _ (λ all joins.
    body-is (plan_of c.args.plan.now) g (shape_in head.variables) head.params.items c.in_ok-wanted.wanted.items c.in_ok-first.first.items
    c.in_ok-first-2.first.items c.in_ok-second.second.items all.items c.requires.shape c.requires.params
    (c.in_ok-first.ensures
    ∙ ap (λ ls. openings_from s (is_among ls) 0 head.params.items) c.as_slice.ensures.value) c.in_ok-wanted.ensures
    c.in_ok-first-2.ensures
    c.in_ok-second.ensures joins) c.joined.ensures
