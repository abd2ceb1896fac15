use Rattle.std.proofs.Common.{◌≡◌, map}
use Rattle.dcc_c.specs.ReadingStatements as statements
use Rattle.dcc_reader.specs.Parts.{before_list}
use Rattle.dcc_reader.specs.PartialViews.{case_of}
use Rattle.dcc_reader.specs.ReaderViews.{reader_of}
use Rattle.dcc_read.proofs.arm.read_cases.Given as goal

-- the cases so far, before those that are read from here on
abbrev pub invariant-loop-left : goal.invariant-loop-left
invariant-loop-left l =
    before_list (map case_of l.numbers.items) (statements.read_cases l.left (reader_of l.r)) ≡ statements.read_cases l.calls (reader_of l.fn.r)

abbrev pub decreases-loop-left : goal.decreases-loop-left
decreases-loop-left l = l.left
