use Rattle.std.proofs.Common.{refl}
use Rattle.dcc_top.proofs.PromiseLaws.{promises-told, promises-cut}
use Rattle.dcc_top.proofs.top.dcc.Goals as goal

pub returns-in-Ok-clause-promises : goal.returns-in-Ok-clause-promises
returns-in-Ok-clause-promises g c = promises-told _ c.in-Ok.reply c.in-Ok.ensures.replies c.answer.ensures.tells

pub returns-in-Err-clause-promises : goal.returns-in-Err-clause-promises
returns-in-Err-clause-promises g c = promises-cut _ _ c.in-Err.ensures.replies refl refl
