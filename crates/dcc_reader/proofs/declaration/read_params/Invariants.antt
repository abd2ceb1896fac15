use Rattle.std.proofs.Common.{◌≡◌, map}
use Rattle.dcc_c.specs.ReadingStatements as statements
use Rattle.dcc_reader.specs.Parts.{before_list}
use Rattle.dcc_reader.specs.PartialViews.{variable_of}
use Rattle.dcc_reader.specs.ReaderViews.{reader_of}
use Rattle.dcc_reader.proofs.declaration.read_params.Given as goal

-- the parameters so far, before those that are read from here on
abbrev pub invariant-loop-left : goal.invariant-loop-left
invariant-loop-left l =
    before_list (map variable_of l.params.items) (statements.more_params l.left (reader_of l.r)) ≡ statements.read_params l.calls (reader_of l.fn.r)

abbrev pub decreases-loop-left : goal.decreases-loop-left
decreases-loop-left l = l.left
