use Rattle.std.proofs.Common.{◌≡◌, arith}
use Rattle.dcc_shape.proofs.ShapeLaws.{if-ok}
use Rattle.dcc_shape.proofs.shape.has_addresses_of.Goals as goal

pub returns : goal.returns
returns c =
    let none : c.args.frame.now.exposed.local ≡ 0 = omega (arith, c.if-frame-gt0.false) in
    if-ok c.uses_addresses_alone.result (λ answer told. (λ is any. told.0 is, λ alone. told.1 (alone none)))
    c.uses_addresses_alone.ensures
