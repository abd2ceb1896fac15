use Rattle.std.proofs.Common.{sym, subst, ◌<◌, ℤ, w64, of_z}
use Rattle.dcc_num.proofs.Quotients.{signed_nonzero, can_divide, division_computed}
use Rattle.dcc_num.proofs.quotient.idiv.Goals as goal

pub nonzero_div-quotient : goal.nonzero_div-quotient
nonzero_div-quotient c =
    let z = c.signed_dividend-dividend.ensures in
    let d = c.signed-by.ensures in (
      subst (λ (x : ℤ). 0 < of_z w64 x) (sym d.value) (signed_nonzero c.args.w c.args.by c.requires.divisor c.if-by-eq0.false),
      can_divide c.signed_dividend-dividend.result c.signed-by.result z.size (record { low = d.low; high = d.high }),
    )

pub nonzero_rem-dividend : goal.nonzero_rem-dividend
nonzero_rem-dividend c =
    let z = c.signed_dividend-dividend.ensures in
    let d = c.signed-by.ensures in (
      subst (λ (x : ℤ). 0 < of_z w64 x) (sym d.value) (signed_nonzero c.args.w c.args.by c.requires.divisor c.if-by-eq0.false),
      can_divide c.signed_dividend-dividend.result c.signed-by.result z.size (record { low = d.low; high = d.high }),
    )

pub returns-clause-division : goal.returns-clause-division
returns-clause-division c =
    let z = c.signed_dividend-dividend.ensures in
    let d = c.signed-by.ensures in
    division_computed c.args.w c.args.high c.args.low c.args.by _ _ _ _ _ z.value d.value z.size (record { low = d.low; high = d.high })
    c.if-by-eq0.false c.fits.ensures c.if-not-fits.false c.wrapped.ensures.bits c.wrapped-2.ensures.bits
