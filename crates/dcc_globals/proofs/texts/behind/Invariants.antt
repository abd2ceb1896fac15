-- the borders so far are counted
use Rattle.std.proofs.Common.{◌≡◌, ◌+◌, ◌≤◌, ℕ, length, get_or}
use Rattle.dcc_globals.specs.Gaps.{text_from}
use Rattle.dcc_globals.specs.Marks.{data_of}
use Rattle.dcc_globals.proofs.texts.behind.Given as goal

abbrev pub invariant-loop-at : goal.invariant-loop-at
invariant-loop-at l = record {
  whole : length l.table.items ≡ 65537;
  each : (k : ℕ) → l.at ≤ k → k ≤ 65536 → get_or l.table.items k 0 ≡ text_from (data_of l.runs.source) k;
  count : l.count ≡ text_from (data_of l.runs.source) l.at;
  small : l.at + l.count ≤ 65536;
}

abbrev pub decreases-loop-at : goal.decreases-loop-at
decreases-loop-at l = l.at
