use Rattle.std.proofs.Common.{◌≡◌, ◌-◌, List}
use Rattle.dcc_machine.specs.declared.instr.Instr.{Instr}
use Rattle.dcc_machine.specs.Code.{code_of}
use Rattle.dcc_prog.specs.Layout.{IsRun, offset_after}
use Rattle.dcc_list.specs.Listed.{offsets_from}
use Rattle.dcc_list.specs.MarkViews.{IsLeft}
use Rattle.dcc_list.proofs.marks.mark_prelude.Given as goal

-- the rest of the prelude is left to mark
abbrev pub invariant-loop-at : goal.invariant-loop-at
invariant-loop-at l =
    (prelude : List Instr) → IsRun l.program.layout.cpu (code_of l.image) l.image.ip prelude
    → offset_after l.image.ip prelude ≡ l.program.layout.start_ip
    → IsLeft l.program.layout.cpu (code_of l.image) l.at l.program.layout.start_ip l.marks l.initial.marks
    (offsets_from l.image.ip prelude)

abbrev pub decreases-loop-at : goal.decreases-loop-at
decreases-loop-at l = l.start - l.at
