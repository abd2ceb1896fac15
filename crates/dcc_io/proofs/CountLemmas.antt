-- Counts over several calls.
use Rattle.std.proofs.Common.{ℕ, ◌≤◌, arith}
use Rattle.dcc_io.specs.Count.{Rose}

-- a count that has risen from a later value has risen from an earlier one
pub Rose-since : (earlier before now : ℕ) → earlier ≤ before → Rose before now → Rose earlier now
Rose-since earlier before now le rose = omega arith

-- a count that has risen stays so
pub Rose-later : (before now later : ℕ) → Rose before now → now ≤ later → Rose before later
Rose-later before now later rose le = omega arith
