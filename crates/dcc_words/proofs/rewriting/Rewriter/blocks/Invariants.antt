use Rattle.std.proofs.Common.{map}
use Rattle.std.specs.List.{AllZip}
use Rattle.dcc_ir.specs.Views.{block_of}
use Rattle.dcc_words.specs.Words.{IsBlockInWords}
use Rattle.dcc_words.specs.Roles.{role_of}
use Rattle.dcc_words.proofs.rewriting.Rewriter.blocks.Given as goal

abbrev pub invariant-loop-block : goal.invariant-loop-block
invariant-loop-block l = AllZip (IsBlockInWords (role_of l.self.roles.now)) (map block_of l.yielded) (map block_of l.after.items)
