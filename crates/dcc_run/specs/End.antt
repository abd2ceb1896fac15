-- How a run ends.
use Rattle.std.specs.Prelude.{ℕ, Bool, true, false}

-- the ends of the machine's and of the text's runs; a run that goes on is Running
pub data End : Type 0 where
  Running : End
  -- with this exit code
  Exit : ℕ → End
  -- by a divide fault
  Divide : End
  -- at an instruction that the machine has no row for, at this offset in the code segment
  Outside : ℕ → End
  -- at a statement that the text's meaning has no step for, in this line
  Stuck : ℕ → End

-- whether the run is over
abbrev pub is_over : End → Bool
is_over Running = false
is_over (Exit code) = true
is_over Divide = true
is_over (Outside at) = true
is_over (Stuck line) = true
