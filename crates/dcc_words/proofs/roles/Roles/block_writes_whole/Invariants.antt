use Rattle.std.proofs.Common.{◌≡◌, drop, map}
use Rattle.std.specs.List.{list_all}
use Rattle.dcc_ir.specs.Views.{stmt_of}
use Rattle.dcc_words.specs.Words.{writes_whole}
use Rattle.dcc_words.specs.Roles.{role_of}
use Rattle.dcc_words.proofs.roles.Roles.block_writes_whole.Given as goal

abbrev pub invariant-loop-stmt : goal.invariant-loop-stmt
invariant-loop-stmt l =
    list_all (writes_whole (role_of l.self)) (map stmt_of (drop l.stmt-index l.stmts.items))
    ≡ list_all (writes_whole (role_of l.self)) (map stmt_of l.stmts.items)
