use Rattle.std.proofs.Common.{◌≡◌, map}
use Rattle.dcc_c.specs.ReadingStatements.{more_arguments, read_arguments}
use Rattle.dcc_reader.specs.Parts.{before_list}
use Rattle.dcc_reader.specs.PartialViews.{expr_of}
use Rattle.dcc_reader.specs.ReaderViews.{reader_of}
use Rattle.dcc_read.proofs.call.read_arguments.Given as goal

-- the arguments so far, before those that are read from here on
abbrev pub invariant-loop-left : goal.invariant-loop-left
invariant-loop-left l =
    before_list (map expr_of l.arguments.items) (more_arguments l.left (reader_of l.r)) ≡ read_arguments l.calls (reader_of l.fn.r)

abbrev pub decreases-loop-left : goal.decreases-loop-left
decreases-loop-left l = l.left
