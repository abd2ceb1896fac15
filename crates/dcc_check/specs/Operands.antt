-- What is told of an expression as an operand.
use Rattle.std.specs.Prelude.{Bool, ◌&&◌, not, List, [], Some, None}
use Rattle.dcc_c.specs.Kinds.{of_type, Offence, offence, only_if}
use Rattle.dcc_c.specs.Partial.{PartialExpr, place_of}
use Rattle.dcc_c.specs.Offences as offences
use Rattle.dcc_check.specs.declared.operand.Operand.{Operand}

-- the operand that an expression is
abbrev pub operand : offences.BodyContext → PartialExpr → Operand
operand scene e = record { ty = offences.told_type scene.names e; at = place_of e }

-- the place that an expression is
abbrev pub target : offences.BodyContext → PartialExpr → Operand
target scene e = record { ty = offences.told_place scene.names e; at = place_of e }

-- what offends in the value of a `switch` beside what offends inside it
abbrev pub selector_offences : offences.BodyContext → PartialExpr → Bool → List Offence
selector_offences scene e done = elim (offences.told_type scene.names e) [
  | Some type ↦ only_if (done && not (offences.is_switch_type type)) (offence of_type (place_of e))
  | None ↦ []
]
