use Rattle.dcc_prog.proofs.WatchedAlike.{watch-alike}
use Rattle.dcc_prog.proofs.laws.programs_watch_alike.Goals as goal

pub returns : goal.returns
returns c = watch-alike
