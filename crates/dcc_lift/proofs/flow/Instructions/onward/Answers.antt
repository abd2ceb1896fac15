use Rattle.std.proofs.Common.{◌≡◌, ◌∷◌, [], get_or, Some, ap, sym, ◌∙◌}
use Rattle.std.specs.Option.{option_copied}
use Rattle.dcc_lift.specs.Blocks.{node_in}
use Rattle.dcc_lift.specs.Known.{nodes_of}
use Rattle.dcc_lift.proofs.IncomingLaws.{single, joins-rises}
use Rattle.dcc_lift.proofs.flow.Instructions.onward.Goals as goal

pub returns-in-len1-clause-ascends : goal.returns-in-len1-clause-ascends
returns-in-len1-clause-ascends c =
    let nodes = nodes_of c.args.self.now in
    let node = c.in_ok-at.field-0.now in
    let found : node_in nodes c.args.at ≡ Some node = sym c.at.ensures ∙ ap option_copied c.in_ok-at.was in
    let succ : node.succ.items ≡ get_or c.as_slice.result.now 0 0 ∷ [] = sym c.as_slice.ensures
    ∙ single c.as_slice.result.now c.in-len1.len_at_least c.in-len1.len_below in
    joins-rises nodes c.args.self.now.start c.args.at (get_or c.as_slice.result.now 0 0) node found succ
    (sym c.joins.ensures ∙ c.if-joins.true)
