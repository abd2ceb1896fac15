use Rattle.dcc_interval.proofs.PartLaws.{covered, one_holds}
use Rattle.dcc_interval.proofs.laws.intervals_part_graphs.Goals as goal

pub returns : goal.returns
returns c = λ edge entry level are n r.
    let there = covered edge entry level are r in
    record { place = there.0; inside = there.1; holds = there.2; alone = λ other t. one_holds edge entry level are other there.0 n t there.2 }
