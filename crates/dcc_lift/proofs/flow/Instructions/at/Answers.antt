use Rattle.std.proofs.Common.{◌∙◌}
use Rattle.dcc_lift.specs.Known.{nodes_of}
use Rattle.dcc_lift.proofs.LeaderLaws.{node_from_lookup}
use Rattle.dcc_lift.proofs.flow.Instructions.at.Goals as goal

pub returns : goal.returns
returns c = c.get.ensures.value ∙ node_from_lookup (nodes_of c.args.self.now) c.args.at
