use Rattle.std.proofs.Common.{◌∙◌, arith}
use Rattle.dcc_flow.proofs.PlaceLaws.{places_step, places_end}
use Rattle.dcc_flow.proofs.places.Places.add_all.Goals as goal

pub loop-location-preserved : goal.loop-location-preserved
loop-location-preserved c =
    places_step c.loop-location.self c.add.new.self c.args.locations.now c.loop-location.location-index _ (omega arith) c.in_ok-add.ensures
    ∙ c.loop-location.invariant

pub returns : goal.returns
returns c = places_end c.loop-location.self _ c.args.locations.now c.loop-location.location-index (omega arith) c.loop-location.invariant
