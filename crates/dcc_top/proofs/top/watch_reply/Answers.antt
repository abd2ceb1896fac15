use Rattle.std.proofs.Common.{refl}
use Rattle.dcc_commands.specs.Words.{ExecuteWatched}
use Rattle.dcc_top.specs.Answer.{AllowsWatched, no_image, watched_no_file}
use Rattle.dcc_top.proofs.StatusLaws.{watched_statuses, watched-status}
use Rattle.dcc_top.proofs.ReplyLaws.{replies-run, replies-no_image}
use Rattle.dcc_top.proofs.WatchedJobLaws.{reply-of_watched, cut-of_watched}
use Rattle.dcc_top.proofs.top.watch_reply.Goals as goal

pub returns-in-Ok : goal.returns-in-Ok
returns-in-Ok g c =
    let run = c.args.run in
    let e = c.watch_image.ensures in
    replies-run (AllowsWatched run.cpu c.in-Ok.image run.steps _ _) watched_statuses
    (watched-status run.cpu c.in-Ok.image run.steps _ _) refl refl
    (ExecuteWatched run.file.now run.steps run.cpu) run.file.now 262144 refl _ _ _ c.watch_image.result c.in-Ok.image
    c.in-Ok.ensures.asks e.ran
    (reply-of_watched (g.H.Shelf.files c.args.shelf.now) run.file.now run.steps run.cpu c.in-Ok.image _ _ _ _
    c.watch_image.result c.in-Ok.ensures.image e.ran)
    (cut-of_watched (g.H.Shelf.files c.args.shelf.now) run.file.now run.steps run.cpu c.in-Ok.image _ _
    c.watch_image.result c.in-Ok.ensures.image e.broke_off)
    e.faults

pub returns-in-Err : goal.returns-in-Err
returns-in-Err g c =
    replies-no_image (ExecuteWatched c.args.run.file.now c.args.run.steps c.args.run.cpu) c.args.run.file.now refl _ _ _ _ _
    c.in-Err.reply
    c.in-Err.ensures.asks c.in-Err.ensures.refused
    (watched_no_file (no_image c.in-Err.ensures.refused) refl)
