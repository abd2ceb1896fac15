use Rattle.dcc_prog.proofs.TrailLaws.{node-entry, node-successor}
use Rattle.dcc_procs.proofs.laws.entry_and_successors_are_nodes.Goals as goal

pub returns : goal.returns
returns c = record { entry = node-entry; successor = node-successor }
