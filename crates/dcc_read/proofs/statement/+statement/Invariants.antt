use Rattle.std.proofs.Common.{◌≡◌, ◌+◌, ◌*◌, ◌≤◌, false}
use Rattle.dcc_c.specs.ReadingStatements as statements
use Rattle.dcc_reader.specs.AroundViews.{around_of}
use Rattle.dcc_read.specs.Lines.{before_lines}
use Rattle.dcc_reader.specs.ReaderViews.{reader_of}
use Rattle.dcc_read.proofs.LineLaws.{before_arms}
use Rattle.dcc_read.proofs.statement.+statement.Given as goal

abbrev pub decreases-read_stmt : goal.decreases-read_stmt
decreases-read_stmt l = l.calls * 4

abbrev pub decreases-read_if : goal.decreases-read_if
decreases-read_if l = l.calls * 4 + 3

abbrev pub decreases-read_while : goal.decreases-read_while
decreases-read_while l = l.calls * 4 + 3

abbrev pub decreases-read_do : goal.decreases-read_do
decreases-read_do l = l.calls * 4 + 3

abbrev pub decreases-read_for : goal.decreases-read_for
decreases-read_for l = l.calls * 4 + 3

abbrev pub decreases-read_switch : goal.decreases-read_switch
decreases-read_switch l = l.calls * 4 + 3

abbrev pub decreases-read_block : goal.decreases-read_block
decreases-read_block l = l.calls * 4 + 2

abbrev pub decreases-read_lines : goal.decreases-read_lines
decreases-read_lines l = l.calls * 4

abbrev pub decreases-read_line : goal.decreases-read_line
decreases-read_line l = l.calls * 4 + 1

abbrev pub decreases-read_arms : goal.decreases-read_arms
decreases-read_arms l = l.calls * 4

abbrev pub decreases-read_arm : goal.decreases-read_arm
decreases-read_arm l = l.calls * 4 + 1

-- the statements so far, before those that are read from here on
abbrev pub invariant-read_lines-loop-left : goal.invariant-read_lines-loop-left
invariant-read_lines-loop-left l = record {
  within : l.left ≤ l.calls;
  read : before_lines l.lines.items (statements.read_lines l.left (around_of l.around) l.labelled l.leaves (reader_of l.r))
      ≡ statements.read_lines l.calls (around_of l.around) false false (reader_of l.fn.r);
}

abbrev pub decreases-read_lines-loop-left : goal.decreases-read_lines-loop-left
decreases-read_lines-loop-left l = l.left

-- the arms so far, before those that are read from here on
abbrev pub invariant-read_arms-loop-left : goal.invariant-read_arms-loop-left
invariant-read_arms-loop-left l = record {
  within : l.left + 1 ≤ l.calls;
  read : before_arms l.arms.items (statements.read_more_arms l.left (around_of l.around) (reader_of l.r))
      ≡ statements.read_arms l.calls (around_of l.around) (reader_of l.fn.r);
}

abbrev pub decreases-read_arms-loop-left : goal.decreases-read_arms-loop-left
decreases-read_arms-loop-left l = l.left
