use Rattle.std.proofs.Common.{◌^◌, arith}
use Rattle.dcc_interval.proofs.PlaceLaws.{place_of, few}
use Rattle.dcc_interval.proofs.headers.count.Goals as goal

pub returns-clause-few : goal.returns-clause-few
returns-clause-few c = few c.args.headers.now (2 ^ 32) c.requires (λ n t.
    let there = place_of c.args.headers.now n t in
    let fits = c.type_inv.headers there.0 in
    omega (arith, there.2))
