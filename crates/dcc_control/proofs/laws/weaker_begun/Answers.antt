use Rattle.dcc_control.proofs.WeakerLaws.{follows-still}
use Rattle.dcc_control.proofs.laws.weaker_begun.Goals as goal

pub returns : goal.returns
returns c = follows-still
