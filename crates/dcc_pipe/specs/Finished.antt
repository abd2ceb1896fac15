-- A text as `c` gives it.
use Rattle.std.specs.Prelude.{◌≡◌}
use Rattle.dcc_c.specs.Numbered.{numbered}
use Rattle.dcc_c.specs.Tree.{Tree}
use Rattle.dcc_casts.specs.Casts.{without_casts}
use Rattle.dcc_named.specs.Named.{with_names}
use Rattle.dcc_pipe.specs.Kept.{IsKept}

-- the text of a plain one: what it does at fixed places of memory by names, and without needless casts
abbrev pub finished : Tree → Tree
finished plain = without_casts (with_names plain)

-- The tree is that of the text of a plain one, with its lines counted, and keeps what is told of the plain one.
pub record IsFinishedFrom (plain tree : Tree) : Type 0 where
  pub is : tree ≡ numbered (finished plain)
  pub kept : IsKept plain (finished plain)
