use Rattle.std.proofs.Common.{◌≡◌, map}
use Rattle.dcc_c.specs.Reading.{got}
use Rattle.dcc_c.specs.ReadingText as texts
use Rattle.dcc_reader.specs.Parts.{before_list}
use Rattle.dcc_reader.specs.BegunViews.{begun_of}
use Rattle.dcc_reader.specs.PartialViews.{function_of}
use Rattle.dcc_reader.specs.ReaderViews.{reader_of}
use Rattle.dcc_read.proofs.function.read_functions.Given as goal

-- the functions so far, before those that are read from here on
abbrev pub invariant-loop-left : goal.invariant-loop-left
invariant-loop-left l =
    before_list (map function_of l.functions.items) (texts.read_functions l.left (reader_of l.r))
    ≡ texts.with_functions l.calls (got (begun_of l.fn.begun) (reader_of l.fn.r))

abbrev pub decreases-loop-left : goal.decreases-loop-left
decreases-loop-left l = l.left
