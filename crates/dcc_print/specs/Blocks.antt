-- Parts of blocks.
use Rattle.std.specs.Prelude.{Bool, true, false}
use Rattle.dcc_c.specs.Tree.{Stmt, Label}

abbrev pub is_label : Stmt → Bool
is_label (Label word) = true
is_label _ = false
