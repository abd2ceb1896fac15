use Rattle.std.proofs.Common.{◌≡◌, subst, sym, ◌∙◌}
use Rattle.dcc_encode.specs.Encoding.{IsStandard}
use Rattle.dcc_encode.proofs.Orders.{standard_is_unique}
use Rattle.dcc_asm.proofs.step.is_standard.Goals as goal

pub returns-in-Some : goal.returns-in-Some
returns-in-Some c =
    let cpu = c.args.cpu in
    let at = c.args.at in
    let op = c.args.op in
    let best = c.in-Some.best.items in
    let told : IsStandard cpu at op best = rw c.in-Some.is at c.in_ok-best.ensures in
    let slice : c.as_slice.result.now ≡ best = c.as_slice.ensures in (
      λ same. subst (IsStandard cpu at op) (sym slice ∙ c.is_same.ensures.0 same) told,
      λ is. c.is_same.ensures.1 (slice ∙ standard_is_unique cpu at op best c.args.bytes.now told is),
    )
