use Rattle.std.proofs.Common.{◌≡◌, take}
use Rattle.dcc_ir.specs.Plain.{values_of}
use Rattle.dcc_ir.proofs.plain.scene.held_by.Given as goal

-- the value after the locations so far
abbrev pub invariant-loop-h : goal.invariant-loop-h
invariant-loop-h l = l.value ≡ values_of l.bits l.fill (take l.h-index l.held) l.location
