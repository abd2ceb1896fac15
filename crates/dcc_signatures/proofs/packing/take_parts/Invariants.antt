use Rattle.std.proofs.Common.{◌≡◌, ◌++◌, map, take}
use Rattle.dcc_ir.specs.Views.{stmt_of}
use Rattle.dcc_signatures.specs.Packed as spec
use Rattle.dcc_signatures.proofs.packing.take_parts.Given as goal

abbrev pub invariant-loop-place : goal.invariant-loop-place
invariant-loop-place l =
    map stmt_of l.stmts.items ≡ map stmt_of l.initial.stmts.items ++ map (spec.taking_part l.temporary l.double) (take l.place-index l.places)
