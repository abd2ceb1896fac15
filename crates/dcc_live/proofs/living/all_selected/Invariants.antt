use Rattle.std.proofs.Common.{◌≡◌, map, take}
use Rattle.dcc_flow.specs.Marks.{selected}
use Rattle.dcc_live.proofs.living.all_selected.Given as goal

abbrev pub invariant-loop-b : goal.invariant-loop-b
invariant-loop-b l = map (λ v. v.items) l.lists.items ≡ map (selected l.places) (take l.b-index l.bits.items)
