use Rattle.std.proofs.Common.{◌≡◌, map, take}
use Rattle.dcc_control.specs.GotoPlan as spec
use Rattle.dcc_control.proofs.goto_plan.case_lists.Given as goal

abbrev pub invariant-loop-n : goal.invariant-loop-n
invariant-loop-n l =
    map (λ list. list.items) l.lists.items ≡ map (λ target. spec.places_from 0 target (take l.n l.places)) (spec.distinct l.places)
