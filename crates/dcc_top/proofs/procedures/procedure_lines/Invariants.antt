use Rattle.std.proofs.Common.{◌≡◌, take, string_bytes}
use Rattle.dcc_top.specs.Procedures.{lines_of}
use Rattle.dcc_top.proofs.procedures.procedure_lines.Given as goal

-- the lines of the procedures so far
abbrev pub invariant-loop-i : goal.invariant-loop-i
invariant-loop-i l =
    string_bytes l.lines
    ≡ lines_of (take l.i l.program.procs.items) l.program.cells.frames.items l.program.heights.ret.items
