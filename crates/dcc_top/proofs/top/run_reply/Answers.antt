use Rattle.std.proofs.Common.{refl}
use Rattle.dcc_commands.specs.Words.{Execute}
use Rattle.dcc_top.specs.Answer.{ran_no_file}
use Rattle.dcc_top.specs.Execution.{machine_of, Finishes}
use Rattle.dcc_top.proofs.StatusLaws.{run_statuses, run-status}
use Rattle.dcc_top.proofs.ReplyLaws.{replies-run, replies-no_image}
use Rattle.dcc_top.proofs.ExecuteLaws.{reply-of_run, cut-of_run}
use Rattle.dcc_top.proofs.top.run_reply.Goals as goal

pub returns-in-Ok : goal.returns-in-Ok
returns-in-Ok g c =
    let run = c.args.run in
    let e = c.execute.ensures in
    replies-run (Finishes (machine_of run.cpu c.in-Ok.image) run.steps _ _) run_statuses
    (run-status (machine_of run.cpu c.in-Ok.image) run.steps _ _) refl refl
    (Execute run.file.now run.steps run.cpu) run.file.now 262144 refl _ _ _ c.execute.result c.in-Ok.image c.in-Ok.ensures.asks e.ran
    (reply-of_run (g.H.Shelf.files c.args.shelf.now) run.file.now run.steps run.cpu c.in-Ok.image _ _ _ _
    c.execute.result c.in-Ok.ensures.image e.ran)
    (cut-of_run (g.H.Shelf.files c.args.shelf.now) run.file.now run.steps run.cpu c.in-Ok.image _ _ c.execute.result
    c.in-Ok.ensures.image e.broke_off)
    e.faults

pub returns-in-Err : goal.returns-in-Err
returns-in-Err g c =
    replies-no_image (Execute c.args.run.file.now c.args.run.steps c.args.run.cpu) c.args.run.file.now refl _ _ _ _ _
    c.in-Err.reply
    c.in-Err.ensures.asks c.in-Err.ensures.refused
    (ran_no_file c.in-Err.ensures.refused refl)
