use Rattle.dcc_passes.proofs.FollowLaws.{followed-stands}
use Rattle.dcc_passes.proofs.followed_stands.Goals as goal

pub returns : goal.returns
returns g c = λ before after kind fine is. followed-stands before after g.L.SomeLink.link kind fine is
