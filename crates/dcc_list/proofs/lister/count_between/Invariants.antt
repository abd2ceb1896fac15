use Rattle.std.proofs.Common.{◌≡◌, ◌<◌, ◌≤◌, ◌+◌, ◌-◌, ℕ, List, false, length}
use Rattle.dcc_machine.specs.declared.instr.Instr.{Instr}
use Rattle.dcc_list.specs.Listed.{begins_line, offset_of}
use Rattle.dcc_list.specs.MarkViews.{AreMarks}
use Rattle.dcc_list.proofs.lister.count_between.Given as goal

-- no line of its own begins within the bytes so far
abbrev pub invariant-loop-count : goal.invariant-loop-count
invariant-loop-count l =
    (0 < l.count) × (l.count ≤ 16) × (l.place + l.count ≤ length l.image.bytes.items)
    × ((prelude : List Instr) → AreMarks l.image l.program prelude l.marks → (k : ℕ) → 0 < k → k < l.count
    → begins_line l.image l.program prelude (offset_of l.image.cs (l.place + k)) ≡ false)

abbrev pub decreases-loop-count : goal.decreases-loop-count
decreases-loop-count l = 16 - l.count
