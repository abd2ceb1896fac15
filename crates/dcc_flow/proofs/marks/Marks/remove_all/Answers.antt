use Rattle.std.proofs.Common.{◌∙◌, arith}
use Rattle.dcc_flow.proofs.MarkLaws.{remove_at, remove_end}
use Rattle.dcc_flow.proofs.marks.Marks.remove_all.Goals as goal

pub loop-location-preserved : goal.loop-location-preserved
loop-location-preserved c =
    remove_at c.loop-location.self c.remove.new.self c.args.locations.now c.loop-location.location-index _ (omega arith) c.remove.ensures
    ∙ c.loop-location.invariant

pub returns : goal.returns
returns c = remove_end c.loop-location.self _ c.args.locations.now c.loop-location.location-index (omega arith) c.loop-location.invariant
