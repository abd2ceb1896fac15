use Rattle.std.proofs.Common.{arith}
use Rattle.dcc_flow.proofs.WordLaws.{flowed_all}
use Rattle.dcc_flow.proofs.bits.flow_words.Goals as goal

pub returns-clause-words : goal.returns-clause-words
returns-clause-words g c =
    flowed_all c.loop-k.words c.args.words.now c.args.used.now c.args.out.now c.args.written.now c.loop-k.k c.loop-k.changed (omega arith) c.loop-k.invariant.words
