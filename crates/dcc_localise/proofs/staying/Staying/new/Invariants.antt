use Rattle.std.proofs.Common.{◌≡◌, ℕ, drop}
use Rattle.dcc_ir.specs.Views.{program_of, summaries_of}
use Rattle.dcc_localise.specs.Staying.{stays_at, told}
use Rattle.dcc_localise.proofs.staying.Staying.new.Given as goal

abbrev pub invariant-loop-place : goal.invariant-loop-place
invariant-loop-place l =
    (entry : ℕ) → told l.by_entry.entries entry
    ≡ stays_at (drop l.place (program_of l.p).graphs) (drop l.place (summaries_of l.sums)) entry
