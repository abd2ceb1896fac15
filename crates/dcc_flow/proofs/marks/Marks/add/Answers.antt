use Rattle.std.proofs.Common.{◌≡◌, ◌<◌, true, false, length, get_or, slice_set, sym, ap, ◌∙◌, subst, arith}
use Rattle.std.proofs.lemmas.List.{get_or_read}
use Rattle.dcc_flow.specs.Marks.{with_one, location_number, members, AreNoted}
use Rattle.dcc_flow.proofs.MarkLaws.{marked, marked_still, same_members, noted_still, noted_more}
use Rattle.dcc_flow.proofs.marks.Marks.add.Goals as goal

pub invariant_of-self-then-not-index : goal.invariant_of-self-then-not-index
invariant_of-self-then-not-index c =
    let has = c.make_room.new.has.items in
    let noted = c.self.inside.noted.items in
    let x = c.args.location in
    let still = noted_still c.self.inside.has.items has noted c.make_room.ensures.same c.self.invariant in
    subst (λ n. AreNoted (slice_set has n true) c.push.new.self.items) (sym c.number-n.ensures)
    (subst (AreNoted (slice_set has (location_number x) true)) (sym c.in_ok-push.ensures.items) (noted_more has noted x still))

pub returns-in_ok-push : goal.returns-in_ok-push
returns-in_ok-push c =
    let has = c.make_room.new.has.items in
    let x = c.args.location in
    let inside : location_number x < length has = omega (arith, c.number-n.ensures, c.in_ok-make_room.ensures.room) in
    ap (λ n. members (slice_set has n true)) c.number-n.ensures ∙ marked has x inside
    ∙ ap (λ m. with_one m x) (same_members c.self.inside.has.items has c.make_room.ensures.same ∙ ap members c.self.view_is)

pub returns-else-not-index : goal.returns-else-not-index
returns-else-not-index c =
    let has = c.make_room.new.has.items in
    let x = c.args.location in
    let inside : c.number-n.result < length has = omega (arith, c.in_ok-make_room.ensures.room) in
    let there : members has x ≡ true =
    sym (ap (λ n. get_or has n false) c.number-n.ensures) ∙ sym (get_or_read has c.number-n.result c.index.result.now inside c.index.ensures false) ∙ c.if-not-index.false in
    marked_still has x there
    ∙ ap (λ m. with_one m x) (same_members c.self.inside.has.items has c.make_room.ensures.same ∙ ap members c.self.view_is)
