use Rattle.std.proofs.Common.{◌≡◌, length, sym, ap, ◌∙◌, arith}
use Rattle.dcc_localise.specs.Staying.{stays_in}
use Rattle.dcc_localise.proofs.KeptLaws.{last_stays, last_goes}
use Rattle.dcc_localise.proofs.trim.kept.Goals as goal

pub loop-item-preserved-then-not-has : goal.loop-item-preserved-then-not-has
loop-item-preserved-then-not-has g c =
    let stays = stays_in c.args.stays.now in
    let fewer = c.pop.new.self.items in
    let place : c.len.result ≡ length fewer = omega (arith, c.len.ensures) in
    last_goes stays c.args.items.items c.loop-item.rest.items fewer c.loop-item.left.items c.in-Some.item c.in-Some.ensures.items c.loop-item.invariant
    (sym (c.has.ensures ∙ ap stays place) ∙ c.if-not-has.true)

pub loop-item-preserved : goal.loop-item-preserved
loop-item-preserved g c =
    let stays = stays_in c.args.stays.now in
    let fewer = c.pop.new.self.items in
    let place : c.len.result ≡ length fewer = omega (arith, c.len.ensures) in
    last_stays stays c.args.items.items c.loop-item.rest.items fewer c.loop-item.left.items c.in-Some.item c.in-Some.ensures.items c.loop-item.invariant
    (sym (c.has.ensures ∙ ap stays place) ∙ c.if-not-has.false) c.push.new.self.items c.in_ok-push.ensures.items
