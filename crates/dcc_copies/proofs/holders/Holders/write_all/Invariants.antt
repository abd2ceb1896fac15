use Rattle.std.proofs.Common.{take}
use Rattle.dcc_copies.specs.Held.{all_written}
use Rattle.dcc_copies.specs.Holders.{holders_of, name_by, IsPassed}
use Rattle.dcc_copies.proofs.holders.Holders.write_all.Given as goal

abbrev pub invariant-loop-at : goal.invariant-loop-at
invariant-loop-at l =
    IsPassed l.names.of.items (holders_of l.initial.self) (holders_of l.self)
    (all_written (name_by l.names.of.items) (take l.at l.locations))
