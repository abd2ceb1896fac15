use Rattle.std.proofs.Common.{◌≡◌, ◌<◌, false, [], ◌∷◌, ◌++◌, length, slice_set, sym, ap, ◌∙◌, subst, arith}
use Rattle.dcc_ir.specs.Live.{is_among}
use Rattle.dcc_flow.specs.Places.{AreAt}
use Rattle.dcc_flow.proofs.PlaceLaws.{at_still, at_more}
use Rattle.dcc_flow.proofs.places.Places.push.Goals as goal

pub invariant_of-self-2 : goal.invariant_of-self-2
invariant_of-self-2 c =
    let list = c.self.inside.list.items in
    let at = c.make_room.new.at.items in
    let x = c.args.location in
    let n = c.number-n.result in
    let still = at_still list c.self.inside.at.items at c.make_room.ensures.same c.make_room.ensures.longer c.self.invariant in
    let inside : n < length at = omega (arith, c.in_ok-make_room.ensures.room) in
    let out = ap (λ l. is_among l x) c.self.view_is ∙ c.requires in
    let last : c.len-place.result ≡ length list = omega (arith, c.len-place.ensures) in
    subst (λ l. AreAt l (slice_set at n c.len-place.result)) (sym c.in_ok-push.ensures.items)
    (subst (λ k. AreAt (list ++ x ∷ []) (slice_set at n k)) (sym last) (at_more list at x n c.number-n.ensures inside out still))
