use Rattle.std.proofs.Common.{◌≡◌, ℕ, ◌+◌, ◌-◌, ◌≤◌, length, get_or}
use Rattle.dcc_flow.proofs.places.make_room.Given as goal

abbrev pub invariant-loop-at : goal.invariant-loop-at
invariant-loop-at l = record {
  same : (n : ℕ) → get_or l.at.items n 0 ≡ get_or l.initial.at.items n 0;
  longer : length l.initial.at.items ≤ length l.at.items;
}

abbrev pub decreases-loop-at : goal.decreases-loop-at
decreases-loop-at l = l.place + 1 - length l.at.items
