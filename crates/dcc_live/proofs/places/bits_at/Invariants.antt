use Rattle.std.proofs.Common.{◌≡◌, length, take}
use Rattle.dcc_live.specs.First.{TellsOf}
use Rattle.dcc_live.proofs.places.bits_at.Given as goal

abbrev pub invariant-loop-location : goal.invariant-loop-location
invariant-loop-location g l = record {
  len : length l.bits ≡ length l.places;
  tells : TellsOf l.places (take l.location-index l.locations) l.bits;
}
