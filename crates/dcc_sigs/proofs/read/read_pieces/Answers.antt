use Rattle.std.proofs.Common.{◌-◌, length, arith}
use Rattle.dcc_sigs.specs.Steps.{lent_pieces}
use Rattle.dcc_sigs.proofs.Pieces.{offends-first, lent-more, piece-lent, ends-unfed}
use Rattle.dcc_sigs.proofs.read.read_pieces.Goals as goal

pub returns-in-Some-clause-refused : goal.returns-in-Some-clause-refused
returns-in-Some-clause-refused c =
    let ps = c.args.pieces.now in
    let place = c.loop-place.place in
    let test = c.loop-place-test.true in
    let done = c.in_ok-kind.ensures (lent_pieces ps) place c.loop-place.invariant (lent-more ps place (omega (arith, test)))
    (piece-lent ps place _ (omega (arith, test))) in
    offends-first (lent_pieces ps) place c.loop-place.begun c.in-Some.kind c.fault_at.result c.loop-place.invariant
    (rw c.in-Some.is at done) c.fault_at.ensures

pub returns-else-is_empty-clause-refused : goal.returns-else-is_empty-clause-refused
returns-else-is_empty-clause-refused c =
    ends-unfed c.args.pieces.now c.loop-place.place (length c.args.pieces.now - 1) c.loop-place.begun _
    c.fault_at-else-is_empty.result c.is_empty.result c.loop-place.invariant
    (omega (arith, c.loop-place-test.false, c.loop-place.auto.place-end)) (omega (arith, c.requires.some)) c.is_empty.ensures
    c.if-is_empty.false c.fault_at-else-is_empty.ensures
