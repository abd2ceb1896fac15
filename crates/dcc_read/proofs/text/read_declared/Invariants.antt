use Rattle.std.proofs.Common.{◌≡◌, ◌+◌, ◌*◌, ◌≤◌, map, None}
use Rattle.std.specs.Prelude.{IfSome}
use Rattle.dcc_c.specs.ReadingText as texts
use Rattle.dcc_reader.specs.PartialViews.{variable_of}
use Rattle.dcc_reader.specs.ReaderViews.{reader_of}
use Rattle.dcc_read.specs.TextViews.{before_globals}
use Rattle.dcc_read.proofs.text.read_declared.Given as goal

-- the variables so far, before what is declared from here on; each that is still to come takes few bytes
abbrev pub invariant-loop-left : goal.invariant-loop-left
invariant-loop-left l = record {
  within : l.left ≤ l.calls;
  low : IfSome l.address (λ a. a + 17179869180 * (l.left + 1) ≤ 4294967295 + 17179869180 * l.calls);
  read : before_globals (map variable_of l.globals.items) (texts.read_declared l.left l.address (reader_of l.r))
      ≡ texts.read_declared l.calls None (reader_of l.fn.r);
}

abbrev pub decreases-loop-left : goal.decreases-loop-left
decreases-loop-left l = l.left
