-- A graph without the assignments to what is not needed after them.
use Rattle.std.specs.Prelude.{All}
use Rattle.dcc_ir.specs.Tree.{Graph}
use Rattle.dcc_ir.specs.Families.{needed, IsGraphWithout, AllNeeded}

-- Only assignments to locations that are not needed after them are gone, and where an assignment is left, its location
-- is needed after it in the graph that is left.
pub record IsWithoutUnneeded (before after : Graph) : Type 0 where
  pub without : IsGraphWithout (needed before) before after
  pub needed : All (λ b. AllNeeded after b b.stmts) after.blocks
