use Rattle.std.proofs.Common.{◌≡◌, false, get_or, ap, ◌∙◌, arith}
use Rattle.std.specs.Prelude.{◌&&◌, ◌||◌, nat_le, nat_lt}
use Rattle.dcc_check.proofs.places.mark.Goals as goal

pub returns : goal.returns
returns c = λ k lt.
    let end : c.loop-k.k ≡ c.args.to = omega arith in
    c.loop-k.invariant k lt ∙ ap (λ n. (nat_le c.args.from k && nat_lt k n) || get_or c.args.marks.now k false) end
