-- What faults do to the counts of an input and an output.
use Rattle.std.specs.Prelude.{ℕ, ◌≤◌}
use Rattle.dcc_io.specs.Count.{Rose}

-- The counts of failed reads and of failed writes, before and after something that may tell of such a fault: they never
-- fall, and a fault is told only where its count rose.
pub record CountsFaults (ReadFailed WriteFailed : Type 0) (reads reads_now writes writes_now : ℕ) : Type 0 where
  pub input_faults : reads ≤ reads_now
  pub output_faults : writes ≤ writes_now
  pub read_failed : ReadFailed → Rose reads reads_now
  pub write_failed : WriteFailed → Rose writes writes_now
