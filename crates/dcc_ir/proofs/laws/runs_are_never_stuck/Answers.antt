use Rattle.dcc_ir.proofs.UnstuckLaws.{never_stuck}
use Rattle.dcc_ir.proofs.laws.runs_are_never_stuck.Goals as goal

pub returns : goal.returns
returns c = never_stuck
