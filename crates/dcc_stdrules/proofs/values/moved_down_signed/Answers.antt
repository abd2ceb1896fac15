use Rattle.std.proofs.Common.{◌≡◌, ◌∙◌, subst, ℤ, IfSome}
use Rattle.dcc_ir.specs.Value.{pattern_at}
use Rattle.dcc_ir.proofs.ShiftLaws.{signed_down, signed_passed}
use Rattle.dcc_stdrules.proofs.values.moved_down_signed.Goals as goal

pub returns-clause-value : goal.returns-clause-value
returns-clause-value c =
    let z = c.in_ok-z.ensures in
    let moved = signed_passed c.in_ok-z.z c.min.result z.low z.high ∙ signed_down _ c.in_ok-z.z c.args.count c.min.result z.value c.min.ensures z.low z.high in
    subst (λ (x : ℤ). IfSome c.pattern.result (λ r. r ≡ pattern_at c.args.width x)) moved c.pattern.ensures.value
