use Rattle.std.proofs.Common.{◌≡◌, map, rules}
use Rattle.std.proofs.lemmas.Iterator.{items_from_collect, YieldsList-from_map}
use Rattle.std.proofs.lemmas.Iterator.Consumers.{YieldsList-from_rest}
use Rattle.std.proofs.lemmas.Result.{IfOk-weaker}
use Rattle.dcc_map.specs.Comparison.{ArePairs}
use Rattle.dcc_map.proofs.TallyLaws.{pair_of, pairs_are}
use Rattle.dcc_map.proofs.tally.Tally.pairs.Goals as goal

pub returns : goal.returns
returns c both tallies =
    let counts = c.args.self.now.counts in
    IfOk-weaker c.collect.result (λ pairs. pairs.items ≡ map pair_of counts.entries) (λ pairs. ArePairs both pairs.items)
    (λ pairs is. pairs_are both counts pairs.items is c.iter.ensures.ordered tallies.some tallies.counts)
    (items_from_collect c.collect.result c.collect.ensures.ran
    (YieldsList-from_map _ pair_of (YieldsList-from_rest counts.entries cc) c.map.ensures.closure (λ x r q k. search rules)))
