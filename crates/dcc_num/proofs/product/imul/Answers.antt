use Rattle.dcc_num.proofs.Products.{product_computed}
use Rattle.dcc_num.proofs.product.imul.Goals as goal

pub returns-clause-product : goal.returns-clause-product
returns-clause-product c =
    let a = c.signed.ensures in
    let b = c.signed-2.ensures in
    product_computed c.args.w c.args.a c.args.b _ _ _ _ _ _ _ a.value b.value c.bits.ensures.bits
    (record { low = a.low; high = a.high }) (record { low = b.low; high = b.high })
    c.wrapped-low.ensures.bits c.wrapped-high.ensures.bits c.extension.ensures c.flags_of.ensures
