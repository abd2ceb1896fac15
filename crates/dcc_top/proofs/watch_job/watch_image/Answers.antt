use Rattle.std.proofs.Common.{[], refl, subst, sym}
use Rattle.dcc_top.specs.Answer.{AllowsWatched, image_unwatched}
use Rattle.dcc_top.proofs.AnswerLaws.{answers-nothing}
use Rattle.dcc_top.proofs.WatchedJobLaws.{program-own, image-of_watched, image-cut_watched}
use Rattle.dcc_top.proofs.watch_job.watch_image.Goals as goal

pub watch_program-requires-clause-program : goal.watch_program-requires-clause-program
watch_program-requires-clause-program g c = program-own c.args.cpu c.args.image.now c.in-Ok.program c.in-Ok.ensures.program

pub returns-in-Ok-clause-ran : goal.returns-in-Ok-clause-ran
returns-in-Ok-clause-ran g c =
    image-of_watched c.args.cpu c.args.image.now c.in-Ok.program c.args.steps _ _ _ _ c.watch_program.result c.in-Ok.ensures.accepted c.in-Ok.ensures.program c.watch_program.ensures.ran

pub returns-in-Ok-clause-broke_off : goal.returns-in-Ok-clause-broke_off
returns-in-Ok-clause-broke_off g c =
    image-cut_watched c.args.cpu c.args.image.now c.in-Ok.program c.args.steps _ _ c.watch_program.result c.in-Ok.ensures.accepted c.in-Ok.ensures.program c.watch_program.ensures.broke_off

pub returns-in-Err-clause-ran : goal.returns-in-Err-clause-ran
returns-in-Err-clause-ran g c =
    let left = g.I.Source.left c.args.input.now in
    answers-nothing (AllowsWatched c.args.cpu c.args.image.now c.args.steps left left) _ c.from.result
    (subst (λ reply. AllowsWatched c.args.cpu c.args.image.now c.args.steps left left reply []) (sym c.from.ensures) (image_unwatched c.in-Err.refusal c.in-Err.ensures.refused refl))
