use Rattle.std.proofs.Common.{map}
use Rattle.std.proofs.lemmas.Result.{IfOk-weaker}
use Rattle.dcc_ir.specs.Views.{graph_of}
use Rattle.dcc_flow.specs.Access.{block_access_in}
use Rattle.dcc_flow.proofs.MentionLaws.{mentions_are}
use Rattle.dcc_flow.proofs.mentions.all_mentioned.Goals as goal

pub returns : goal.returns
returns c =
    IfOk-weaker c.all_mentions.result _ _
    (λ list is. mentions_are (graph_of c.args.g.now) list.items (map block_access_in c.in_ok-accesses.accesses.items) is c.in_ok-accesses.ensures)
    c.all_mentions.ensures
