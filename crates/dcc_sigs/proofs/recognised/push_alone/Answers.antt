use Rattle.std.proofs.Common.{map}
use Rattle.dcc_sigs.specs.Recognised.{told_by}
use Rattle.dcc_sigs.proofs.Telling.{told-more}
use Rattle.dcc_sigs.proofs.recognised.push_alone.Goals as goal

pub loop-sig-preserved : goal.loop-sig-preserved
loop-sig-preserved c =
    told-more c.args.code.now c.args.entries.now c.args.sigs.now c.args.entry c.loop-sig.sig-index c.sig-item.result
    (map told_by c.loop-sig.found.items) (map told_by c.args.found.now.items) (map told_by c.push_if_alone.new.found.items)
    c.loop-sig-test.true c.sig-item.is c.loop-sig.invariant (c.in_ok-push_if_alone.ensures c.args.sigs.now c.requires)
