use Rattle.std.proofs.Common.{map, ap₂, ◌∙◌}
use Rattle.std.proofs.lemmas.Result.{IfOk-weaker}
use Rattle.dcc_ir.specs.Views.{graph_of}
use Rattle.dcc_flow.specs.Access.{block_access_in}
use Rattle.dcc_flow.specs.Marks.{with_all}
use Rattle.dcc_flow.proofs.MentionLaws.{marked_mentions}
use Rattle.dcc_flow.proofs.mentions.mentioned.Goals as goal

pub returns : goal.returns
returns c =
    let mentions = c.in_ok-mentions.mentions.items in
    let blocks = map block_access_in c.in_ok-accesses.accesses.items in
    IfOk-weaker c.those_in.result _ _
    (λ list is.
    is ∙ marked_mentions (graph_of c.args.g.now) c.args.among.now _ mentions blocks
    (c.in_ok-add_all.ensures ∙ ap₂ with_all c.new-marks.ensures c.as_slice.ensures.value) c.in_ok-mentions.ensures c.in_ok-accesses.ensures)
    c.those_in.ensures
