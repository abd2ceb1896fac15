use Rattle.std.proofs.Common.{refl, arith}
use Rattle.dcc_webs.proofs.ClassLaws.{place_step}
use Rattle.dcc_webs.proofs.classes.places.Goals as goal

pub loop-x-preserved : goal.loop-x-preserved
loop-x-preserved c =
    place_step c.args.bits.now c.args.origins.now c.args.class.now c.loop-x.temps.of.items c.note.new.temps.of.items c.loop-x.temps.bits.items c.note.new.temps.bits.items c.loop-x.x _ c.width.result _ (omega arith)
    (omega (arith, c.requires)) refl c.width.ensures c.in_ok-note.ensures.of c.in_ok-note.ensures.bits c.loop-x.invariant
