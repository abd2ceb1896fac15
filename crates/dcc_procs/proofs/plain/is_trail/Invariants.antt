use Rattle.std.proofs.Common.{◌-◌, ◌↔◌, drop}
use Rattle.dcc_prog.specs.Trail.{IsTrail}
use Rattle.dcc_procs.proofs.plain.is_trail.Given as goal

-- the offsets are a trail where those from the one before on are
abbrev pub invariant-loop-place : goal.invariant-loop-place
invariant-loop-place l =
    IsTrail l.image l.layout l.entry (drop (l.place - 1) l.trail) ↔ IsTrail l.image l.layout l.entry l.trail
