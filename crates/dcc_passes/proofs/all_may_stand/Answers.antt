use Rattle.std.specs.Prelude.{[]}
use Rattle.dcc_passes.proofs.ReplacedLaws.{left-from}
use Rattle.dcc_passes.proofs.all_may_stand.Goals as goal

pub returns : goal.returns
returns c = λ image lo hi before after all formed. left-from image lo hi [] before after all formed
