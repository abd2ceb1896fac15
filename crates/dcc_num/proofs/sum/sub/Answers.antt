use Rattle.dcc_num.proofs.Sums.{difference_computed}
use Rattle.dcc_num.proofs.sum.sub.Goals as goal

pub returns-clause-difference : goal.returns-clause-difference
returns-clause-difference c =
    let a = c.signed.ensures in
    let b = c.signed-2.ensures in
    difference_computed c.args.w c.args.a c.args.b c.args.borrow _ _ _ _ _ _ _ _ _ _ _
    c.from-3.ensures c.from.ensures c.from-2.ensures c.from-5.ensures c.limit.ensures c.limit-2.ensures
    a.value b.value c.from-4.ensures (record { low = a.low; high = a.high }) (record { low = b.low; high = b.high }) c.fits.ensures c.flags_of.ensures
