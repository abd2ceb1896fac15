use Rattle.std.proofs.Common.{◌<◌, length, ◌∙◌, arith}
use Rattle.dcc_flags.proofs.TableLaws.{past_step}
use Rattle.dcc_flags.proofs.reaching.moved_past.Goals as goal

pub loop-place-preserved : goal.loop-place-preserved
loop-place-preserved c =
    let inside : c.loop-place.place < length c.args.stmts.now = omega arith in
    past_step c.args.f c.loop-place.source c.moved-source.result c.args.block c.loop-place.place c.args.stmts.now
    c.index-stmts-place.result inside c.index-stmts-place.is c.moved-source.ensures
    ∙ c.loop-place.invariant
