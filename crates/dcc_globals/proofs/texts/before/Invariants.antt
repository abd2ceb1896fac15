-- the borders so far are counted
use Rattle.std.proofs.Common.{◌≡◌, ◌≤◌, ℕ, length, get_or}
use Rattle.dcc_globals.specs.Gaps.{text_before}
use Rattle.dcc_globals.specs.Marks.{data_of}
use Rattle.dcc_globals.proofs.texts.before.Given as goal

abbrev pub invariant-loop-at : goal.invariant-loop-at
invariant-loop-at l = record {
  whole : length l.table.items ≡ 65537;
  each : (k : ℕ) → k ≤ l.at → get_or l.table.items k 0 ≡ text_before (data_of l.runs.source) k;
  count : l.count ≡ text_before (data_of l.runs.source) l.at;
  small : l.count ≤ l.at;
}
