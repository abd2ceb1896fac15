use Rattle.std.proofs.Common.{refl}
use Rattle.dcc_ir.specs.Views.{block_of}
use Rattle.dcc_words.specs.Words.{IsBlockInWords}
use Rattle.dcc_words.specs.Roles.{role_of}
use Rattle.dcc_words.proofs.StepLaws.{zip-pushed}
use Rattle.dcc_words.proofs.rewriting.Rewriter.blocks.Goals as goal

pub loop-block-preserved : goal.loop-block-preserved
loop-block-preserved c =
    zip-pushed block_of (IsBlockInWords (role_of c.args.self.now.roles.now)) c.loop-block.yielded c.loop-block.after.items c.in-Some.block _ c.push.new.self.items
    c.in_ok-push.ensures.items c.loop-block.invariant (record { at = refl; stmts = c.in_ok-stmts.ensures; exit = c.in_ok-end.ensures })
