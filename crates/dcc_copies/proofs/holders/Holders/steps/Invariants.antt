use Rattle.std.proofs.Common.{map, take}
use Rattle.dcc_ir.specs.Views.{stmt_of}
use Rattle.dcc_copies.specs.Holders.{holders_of, AreRead}
use Rattle.dcc_copies.proofs.holders.Holders.steps.Given as goal

abbrev pub invariant-loop-at : goal.invariant-loop-at
invariant-loop-at l =
    AreRead l.names.of.items (holders_of l.initial.self) (holders_of l.self) (map stmt_of (take l.at l.stmts))
