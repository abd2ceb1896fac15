use Rattle.std.proofs.Common.{refl}
use Rattle.dcc_commands.specs.Words.{Make}
use Rattle.dcc_top.specs.Answer.{for_product, unmade, no_image}
use Rattle.dcc_top.proofs.ReplyLaws.{replies-made, replies-no_image}
use Rattle.dcc_top.proofs.make_job.make_reply.Goals as goal

pub returns-in-Ok : goal.returns-in-Ok
returns-in-Ok g c = λ left faults.
    let w = c.write_product.ensures in
    replies-made c.args.product c.args.name.now c.args.cpu _ left faults _ c.write_product.result c.in-Ok.image
    c.in-Ok.ensures.asks c.in-Ok.ensures.image
    w.answers w.cut_short w.output_faults w.write_failed

pub returns-in-Err : goal.returns-in-Err
returns-in-Err g c = λ left faults.
    replies-no_image (Make c.args.product c.args.name.now c.args.cpu) c.args.name.now refl _ left faults _ _
    c.in-Err.reply c.in-Err.ensures.asks c.in-Err.ensures.refused
    (for_product (unmade (no_image c.in-Err.ensures.refused)) refl)
