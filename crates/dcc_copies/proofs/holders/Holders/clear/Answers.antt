use Rattle.std.proofs.Common.{sym, subst, slice_set, arith}
use Rattle.dcc_copies.specs.Holders.{IsPlain}
use Rattle.dcc_copies.proofs.HolderLaws.{cleared, forgotten}
use Rattle.dcc_copies.proofs.holders.Holders.clear.Goals as goal

pub loop-place-preserved-then-place-len : goal.loop-place-preserved-then-place-len
loop-place-preserved-then-place-len c =
    let pairs = c.loop-place.self.pairs.items in
    let fewer = c.pop.new.self.items in
    subst (λ pair. IsPlain (record { pairs = slice_set pairs c.in-Some.place pair; noted = fewer })) (sym c.alone.ensures)
    (cleared pairs c.loop-place.self.noted.items fewer c.in-Some.place c.in-Some.ensures.items
    (omega (arith, c.if-place-len.true, c.len.ensures)) c.loop-place.invariant)

pub loop-place-preserved : goal.loop-place-preserved
loop-place-preserved c =
    forgotten c.loop-place.self.pairs.items c.loop-place.self.noted.items c.pop.new.self.items c.in-Some.place
    c.in-Some.ensures.items (omega (arith, c.if-place-len.false, c.len.ensures)) c.loop-place.invariant
