use Rattle.std.proofs.Common.{◌≡◌, ◌++◌, map, get_or, drop}
use Rattle.dcc_interval.proofs.loops.look_up.Given as goal

abbrev pub invariant-loop-number : goal.invariant-loop-number
invariant-loop-number l = l.list.items ++ map (λ n. get_or l.table.items n 0) (drop l.number-index l.numbers)
    ≡ l.initial.list.items ++ map (λ n. get_or l.table.items n 0) l.numbers
