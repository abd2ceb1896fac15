use Rattle.std.proofs.Common.{◌<◌, ◌++◌, length, ap, ◌∙◌, rules}
use Rattle.std.proofs.lemmas.List.{length-set, take_all}
use Rattle.dcc_lift.specs.Incoming.{incoming_of}
use Rattle.dcc_lift.proofs.IncomingLaws.{noted, noted-step}
use Rattle.dcc_lift.proofs.edges.note.Goals as goal

pub loop-to-preserved : goal.loop-to-preserved
loop-to-preserved c =
    let room : c.from-place.result < length c.loop-to.table = search rules in
    record {
      len = length-set c.loop-to.table c.from-place.result c.with.result ∙ c.loop-to.invariant.len;
      told = λ to edges start.
          noted-step c.loop-to.table c.args.from c.from-place.result to c.args.successors.now edges c.loop-to.to-index
          c.with.result room c.loop-to-test.true
          c.from-place.ensures c.with.ensures (c.loop-to.invariant.told to edges start);
    }

pub returns : goal.returns
returns c = λ to edges start.
    c.loop-to.invariant.told to edges start
    ∙ ap (λ l. incoming_of (edges ++ noted c.args.from to l))
    (take_all c.loop-to.to-index c.args.successors.now c.loop-to-test.false)
