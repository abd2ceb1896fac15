use Rattle.std.proofs.Common.{◌≡◌, map}
use Rattle.dcc_c.specs.ReadingStatements as statements
use Rattle.dcc_reader.specs.Parts.{before_list}
use Rattle.dcc_reader.specs.PartialViews.{number_of}
use Rattle.dcc_reader.specs.ReaderViews.{reader_of}
use Rattle.dcc_reader.proofs.declaration.more_values.Given as goal

-- the values so far, before those that are read from here on
abbrev pub invariant-loop-left : goal.invariant-loop-left
invariant-loop-left l =
    before_list (map number_of l.values.items) (statements.more_values l.left (reader_of l.r))
    ≡ before_list (map number_of l.fn.values.items) (statements.more_values l.calls (reader_of l.fn.r))

abbrev pub decreases-loop-left : goal.decreases-loop-left
decreases-loop-left l = l.left
