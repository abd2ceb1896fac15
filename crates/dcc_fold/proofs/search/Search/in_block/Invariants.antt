use Rattle.std.proofs.Common.{refl}
use Rattle.dcc_ir.specs.Views.{stmt_of, block_of, graph_of}
use Rattle.dcc_fold.specs.Known.{known_of}
use Rattle.dcc_fold.proofs.BlockLaws.{ComesIn}
use Rattle.dcc_fold.proofs.search.Search.in_block.Given as goal

abbrev pub invariant-loop-stmt : goal.invariant-loop-stmt
invariant-loop-stmt l =
    ComesIn (graph_of l.self.chains.graph.now) stmt_of l.block.stmts.items (block_of l.block) refl (known_of l.initial.known) (known_of l.known) l.stmt-index
