use Rattle.std.proofs.Common.{◌≡◌, map, drop}
use Rattle.dcc_ir.specs.Views.{stmt_of, exit_of}
use Rattle.dcc_flags.specs.Sources.{mixes}
use Rattle.dcc_flags.proofs.kept.mixes.Given as goal

abbrev pub invariant-loop-k : goal.invariant-loop-k
invariant-loop-k l =
    mixes l.f l.source l.place l.k (drop l.k (map stmt_of l.block.stmts.items)) (exit_of l.block.end)
    ≡ mixes l.f l.initial.source l.place 0 (map stmt_of l.block.stmts.items) (exit_of l.block.end)
