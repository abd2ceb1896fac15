use Rattle.std.proofs.Common.{◌≡◌, drop}
use Rattle.dcc_ir.specs.Live.{is_among}
use Rattle.dcc_modref.proofs.state.is_among.Given as goal

abbrev pub invariant-loop-other : goal.invariant-loop-other
invariant-loop-other l = is_among (drop l.other-index l.locations) l.location ≡ is_among l.locations l.location
