use Rattle.std.proofs.Common.{map, take, string_bytes}
use Rattle.dcc_c.specs.declared.syntax.Func.{Func}
use Rattle.dcc_value.specs.Places.{AreFirst}
use Rattle.dcc_prepare.proofs.prepare.function_places.Given as goal

-- the places of the names so far
abbrev pub invariant-loop-i : goal.invariant-loop-i
invariant-loop-i l = AreFirst l.places (map (λ (f : Func). string_bytes f.name) (take l.i l.functions))
