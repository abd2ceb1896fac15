use Rattle.std.proofs.Common.{refl}
use Rattle.dcc_top.proofs.ReplyLaws.{replies-usage, replies-trial}
use Rattle.dcc_top.proofs.top.reply_for.Goals as goal

pub returns-in-None-clause-replies : goal.returns-in-None-clause-replies
returns-in-None-clause-replies g c =
    replies-usage _ _ _ _ _ _ (rw c.deref.ensures.value at c.in-None.ensures.job) refl

pub returns-in-Some-Make-clause-replies : goal.returns-in-Some-Make-clause-replies
returns-in-Some-Make-clause-replies g c =
    let job = rw (c.deref.ensures.value, c.in-Some-Make.field-0-is) at c.in-Some-Make.ensures.job in
    rw job (c.make_reply.ensures (g.I.Source.left c.args.input.now) (g.I.Source.faults c.args.input.now))

pub write_trial-requires : goal.write_trial-requires
write_trial-requires g c = rw c.in-Some-Try.field-0-is at c.in-Some-Try.ensures.sized

pub returns-in-Some-Try-clause-replies : goal.returns-in-Some-Try-clause-replies
returns-in-Some-Try-clause-replies g c =
    let job = rw (c.deref.ensures.value, c.in-Some-Try.field-0-is) at c.in-Some-Try.ensures.job in
    let attempt = c.in-Some-Try.attempt in
    let w = c.write_trial.ensures in
    let sized = rw c.in-Some-Try.field-0-is at c.in-Some-Try.ensures.sized in
    rw job (replies-trial attempt.seed attempt.size attempt.steps sized (g.H.Shelf.files c.args.shelf.now)
    (g.H.Shelf.asked c.args.shelf.now) (g.H.Shelf.absences c.args.shelf.now) (g.H.Shelf.faults c.args.shelf.now)
    (g.I.Source.left c.args.input.now) (g.I.Source.faults c.args.input.now) _ c.write_trial.result
    w.answers w.cut_short w.output_faults w.write_failed)

pub returns-in-Some-Execute-clause-replies : goal.returns-in-Some-Execute-clause-replies
returns-in-Some-Execute-clause-replies g c =
    let job = rw (c.deref.ensures.value, c.in-Some-Execute.field-0-is) at c.in-Some-Execute.ensures.job in
    rw job c.run_reply.ensures

pub returns-in-Some-ExecuteText-clause-replies : goal.returns-in-Some-ExecuteText-clause-replies
returns-in-Some-ExecuteText-clause-replies g c =
    let job = rw (c.deref.ensures.value, c.in-Some-ExecuteText.field-0-is) at c.in-Some-ExecuteText.ensures.job in
    rw job c.runc_reply.ensures

pub returns-in-Some-ExecuteWatched-clause-replies : goal.returns-in-Some-ExecuteWatched-clause-replies
returns-in-Some-ExecuteWatched-clause-replies g c =
    let job = rw (c.deref.ensures.value, c.in-Some-ExecuteWatched.field-0-is) at c.in-Some-ExecuteWatched.ensures.job in
    rw job c.watch_reply.ensures

pub returns-in-Some-Assemble-clause-replies : goal.returns-in-Some-Assemble-clause-replies
returns-in-Some-Assemble-clause-replies g c =
    let job = rw (c.deref.ensures.value, c.in-Some-Assemble.field-0-is) at c.in-Some-Assemble.ensures.job in
    rw job (c.assemble_reply.ensures (g.I.Source.left c.args.input.now) (g.I.Source.faults c.args.input.now))
