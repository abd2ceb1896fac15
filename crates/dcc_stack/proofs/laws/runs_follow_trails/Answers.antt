use Rattle.dcc_stack.proofs.TableRuns.{runs-follow}
use Rattle.dcc_stack.proofs.laws.runs_follow_trails.Goals as goal

pub returns : goal.returns
returns c = runs-follow
