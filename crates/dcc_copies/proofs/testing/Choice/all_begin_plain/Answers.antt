use Rattle.std.specs.Prelude.{All}
use Rattle.std.proofs.Common.{subst}
use Rattle.std.proofs.lemmas.List.{take_all}
use Rattle.dcc_copies.specs.Choice.{begins_of, BeginPlain}
use Rattle.dcc_copies.proofs.LoopLaws.{all-taken-at}
use Rattle.dcc_copies.proofs.testing.Choice.all_begin_plain.Goals as goal

pub loop-at-preserved : goal.loop-at-preserved
loop-at-preserved c =
    all-taken-at (BeginPlain (begins_of c.args.self.now)) c.args.places.now c.loop-at.at 0 c.loop-at-test.true
    c.loop-at.invariant (c.begins_plain.ensures c.if-not-begins_plain.false)

pub returns : goal.returns
returns c = λ is.
    subst (All (BeginPlain (begins_of c.args.self.now))) (take_all c.loop-at.at c.args.places.now c.loop-at-test.false)
    c.loop-at.invariant
