use Rattle.std.proofs.Common.{◌∙◌, ap, ℕ, ℤ, pos, of_z, w64, nat_eq}
use Rattle.std.specs.Int.{int_rem_euclid}
use Rattle.dcc_num.specs.Numbers.{signed_of, wrapped_of}
use Rattle.dcc_num.proofs.Shifts.{signed_down_for, parity_is}
use Rattle.dcc_num.proofs.shift.moved_down_signed.Goals as goal

pub returns-clause-bits : goal.returns-clause-bits
returns-clause-bits c =
    let z = c.signed.ensures in
    let moved = signed_down_for (signed_of c.args.w c.args.a) _ c.args.count _ z.value c.min.ensures (record { low = z.low; high = z.high }) c.requires.moved in
    c.wrapped.ensures.bits ∙ ap (wrapped_of c.args.w) moved.1

pub returns-clause-out : goal.returns-clause-out
returns-clause-out c =
    let z = c.signed.ensures in
    let moved = signed_down_for (signed_of c.args.w c.args.a) _ c.args.count _ z.value c.min.ensures (record { low = z.low; high = z.high }) c.requires.moved in
    ap (λ (x : ℤ). nat_eq (of_z w64 x) 1) c.rem_euclid.ensures.value
    ∙ ap (λ (x : ℤ). nat_eq (of_z w64 (int_rem_euclid x (pos 2))) 1) moved.0
    ∙ ap (λ (n : ℕ). nat_eq n 1) (parity_is _)
