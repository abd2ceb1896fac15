-- those of the addresses so far
use Rattle.std.proofs.Common.{◌≡◌, ℕ, take}
use Rattle.std.specs.Prelude.{◌&&◌}
use Rattle.std.specs.BTreeSet.{contains}
use Rattle.std.specs.Ordering.{nat_cmp}
use Rattle.dcc_flow.specs.Edges.{is_in}
use Rattle.dcc_shape.proofs.jumps.meetings.Given as goal

abbrev pub invariant-loop-at : goal.invariant-loop-at
invariant-loop-at l =
    (n : ℕ) → contains nat_cmp l.known n ≡ (is_in (take l.at-index l.ats) n && contains nat_cmp l.edges.twice n)
