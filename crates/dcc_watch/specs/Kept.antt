-- The frames as the code keeps them.
use Rattle.std.specs.Prelude.{ℕ, List}
use Rattle.dcc_watch.specs.declared.frames.Live.{Live}

-- the frames that live, the newest first, and how many there is room for
pub record Kept : Type 0 where
  pub room : ℕ
  pub live : List Live
