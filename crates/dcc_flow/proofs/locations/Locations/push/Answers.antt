use Rattle.std.proofs.Common.{◌<◌, ◌*◌, ◌/◌, ◌%◌, ◌^◌, length, slice_set, bit_or, sym, subst, arith}
use Rattle.dcc_flow.specs.Marks.{AreThoseOf}
use Rattle.dcc_flow.proofs.MarkLaws.{those_still, those_more}
use Rattle.dcc_flow.proofs.locations.Locations.push.Goals as goal

pub invariant_of-self-2 : goal.invariant_of-self-2
invariant_of-self-2 c =
    let list = c.self.inside.list.items in
    let words = c.make_room.new.has.items in
    let n = c.number-n.result in
    let word = c.index_mut.result.now in
    let still = those_still list c.self.inside.has.items words c.make_room.ensures.same c.self.invariant in
    let inside : n / 64 < length words = omega (arith, c.in_ok-make_room.ensures.room) in
    subst (λ l. AreThoseOf l (slice_set words (n / 64) (bit_or word (1 * 2 ^ (n % 64) % 2 ^ 64)))) (sym c.in_ok-push.ensures.items)
    (those_more list words c.args.location n word c.number-n.ensures inside c.index_mut.ensures.value still)
