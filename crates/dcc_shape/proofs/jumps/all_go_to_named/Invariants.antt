-- so far each `goto` goes to the label of one of the offsets
use Rattle.std.proofs.Common.{◌≡◌, Bool, true, take}
use Rattle.std.specs.List.{list_all}
use Rattle.dcc_c.specs.Tree.{Word}
use Rattle.dcc_c.specs.Views.{stmt_of}
use Rattle.dcc_shape.specs.Spots.{goal_passes}
use Rattle.dcc_shape.specs.Known.{AreNamed}
use Rattle.dcc_shape.proofs.jumps.all_go_to_named.Given as goal

abbrev pub invariant-loop-seen : goal.invariant-loop-seen
invariant-loop-seen l = (test : Word → Bool) → AreNamed l.known test
    → list_all (λ s. goal_passes test (stmt_of s.stmt.now)) (take l.seen-index l.list) ≡ true
