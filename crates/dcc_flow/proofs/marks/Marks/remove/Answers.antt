use Rattle.std.proofs.Common.{◌<◌, false, length, slice_set, ap, ◌∙◌, arith}
use Rattle.dcc_flow.specs.Marks.{without_one, location_number, members}
use Rattle.dcc_flow.proofs.MarkLaws.{unmarked, unmarked_still}
use Rattle.dcc_flow.proofs.marks.Marks.remove.Goals as goal

pub returns-then-n-len : goal.returns-then-n-len
returns-then-n-len c =
    let has = c.self.inside.has.items in
    let x = c.args.location in
    let inside : location_number x < length has = omega (arith, c.number-n.ensures) in
    ap (λ n. members (slice_set has n false)) c.number-n.ensures ∙ unmarked has x inside
    ∙ ap (λ h. without_one (members h) x) c.self.view_is

pub returns-else-n-len : goal.returns-else-n-len
returns-else-n-len c =
    unmarked_still c.args.self.now c.args.location (omega (arith, ap length c.self.view_is, c.number-n.ensures))
