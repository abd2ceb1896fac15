use Rattle.std.proofs.Common.{◌≡◌, map, drop}
use Rattle.dcc_ir.specs.Views.{stmt_of}
use Rattle.dcc_flags.specs.Sources.{moved_past}
use Rattle.dcc_flags.proofs.reaching.moved_past.Given as goal

abbrev pub invariant-loop-place : goal.invariant-loop-place
invariant-loop-place l =
    moved_past l.f l.source l.block l.place (drop l.place (map stmt_of l.stmts))
    ≡ moved_past l.f l.initial.source l.block 0 (map stmt_of l.stmts)
