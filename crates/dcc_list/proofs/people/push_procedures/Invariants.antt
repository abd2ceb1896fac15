use Rattle.std.proofs.Common.{◌≡◌, ◌++◌, take}
use Rattle.dcc_list.specs.Text.{text_of}
use Rattle.dcc_list.specs.Listed.{procedure_lines}
use Rattle.dcc_list.proofs.people.push_procedures.Given as goal

-- the lines of the procedures so far are appended
abbrev pub invariant-loop-i : goal.invariant-loop-i
invariant-loop-i l =
    l.text.items ≡ l.initial.text.items ++ text_of (procedure_lines l.program.layout.start_ip l.at
    (take l.i l.program.procs.items) l.program.cells.frames.items l.program.heights.ret.items)
