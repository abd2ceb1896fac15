use Rattle.std.proofs.Common.{◌≡◌, drop, map}
use Rattle.std.specs.List.{list_all}
use Rattle.dcc_ir.specs.Views.{block_of}
use Rattle.dcc_words.specs.Words.{writes_whole}
use Rattle.dcc_words.specs.Roles.{role_of}
use Rattle.dcc_words.proofs.roles.Roles.write_whole.Given as goal

abbrev pub invariant-loop-block : goal.invariant-loop-block
invariant-loop-block l =
    list_all (λ b. list_all (writes_whole (role_of l.self)) b.stmts) (map block_of (drop l.block-index l.blocks.items))
    ≡ list_all (λ b. list_all (writes_whole (role_of l.self)) b.stmts) (map block_of l.blocks.items)
