use Rattle.std.proofs.Common.{◌≡◌, sym, ap, ◌∙◌, arith}
use Rattle.dcc_flow.specs.Marks.{members}
use Rattle.dcc_fold.proofs.AloneLaws.{none-counted, taken-again, taken-first}
use Rattle.dcc_fold.proofs.alone.counted.Goals.{then-contains+in_ok-add, else-contains}
use Rattle.dcc_fold.proofs.alone.counted.Goals as goal

pub loop-location-init : goal.loop-location-init
loop-location-init c = none-counted _ _ c.new-seen.ensures c.new-again.ensures

pub loop-location-preserved : goal.loop-location-preserved
loop-location-preserved c = elim c.if-contains.branch [
  | then-contains+in_ok-add w ↦
      let same : c.if-contains.again ≡ w.add.new.self = cc in
      taken-again c.loop-location.seen c.loop-location.again c.add-in-loop-location.new.self c.if-contains.again c.args.list.now c.loop-location.location-index _ c.loop-location-test.true
      c.loop-location.invariant (sym c.contains.ensures ∙ w.if-contains.true) c.in_ok-add-2.ensures (ap members same ∙ w.in_ok-add.ensures)
  | else-contains w ↦
      let same : c.if-contains.again ≡ c.loop-location.again = cc in
      taken-first c.loop-location.seen c.loop-location.again c.add-in-loop-location.new.self c.if-contains.again c.args.list.now c.loop-location.location-index _ c.loop-location-test.true
      c.loop-location.invariant (sym c.contains.ensures ∙ w.if-contains.false) c.in_ok-add-2.ensures same
]
