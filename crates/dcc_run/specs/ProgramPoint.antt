-- Places of a program.
use Rattle.std.specs.Prelude.{ℕ}

-- an offset in the code of the procedure with that entry; two procedures may share code
pub record ProgramPoint : Type 0 where
  pub entry : ℕ
  pub at : ℕ
