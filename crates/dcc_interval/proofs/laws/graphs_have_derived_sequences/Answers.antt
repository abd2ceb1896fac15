use Rattle.dcc_interval.proofs.ExistLaws.{derives}
use Rattle.dcc_interval.proofs.laws.graphs_have_derived_sequences.Goals as goal

pub returns : goal.returns
returns c = derives
