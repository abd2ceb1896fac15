use Rattle.std.proofs.Common.{◌≤◌, length, sym, ap, subst, arith}
use Rattle.std.proofs.Math.Dec.{eqb}
use Rattle.std.proofs.lemmas.List.{length-map}
use Rattle.std.specs.List.{IsDistinct}
use Rattle.dcc_shape.proofs.KnownLaws.{few-numbers}
use Rattle.dcc_shape.proofs.places.count.Goals as goal

pub overflow_cast-result : goal.overflow_cast-result
overflow_cast-result c =
    let ats = c.args.ats.now in
    let few : length ats ≤ 65536 = few-numbers ats (λ n. omega (arith, c.type_inv.ats n)) (subst (IsDistinct eqb) (sym c.requires) c.len.ensures.unique) in
    omega (arith, few, ap length c.requires, length-map c.args.nodes.now.entries (λ e. e.0), c.len.ensures.len)
