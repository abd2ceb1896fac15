use Rattle.dcc_print.proofs.JoinedLaws.{numbers-joined}
use Rattle.dcc_print.proofs.declaration.push_numbers.Goals as goal

pub returns-after-loop-n : goal.returns-after-loop-n
returns-after-loop-n c =
    numbers-joined c.args.numbers.now c.loop-n.n-index _ _ _ c.in-len1-up.len_at_least c.loop-n-test.false c.in_ok-write-in-len1-up.ensures.bytes c.loop-n.invariant
