-- Blocks in which expressions stand in the place of reads, by what is available along a chain.
use Rattle.std.specs.Prelude.{◌≡◌, ℕ, Bool, false, if◌then◌else◌, List, [], ◌∷◌, ◌++◌}
use Rattle.dcc_ir.specs.declared.syntax.Loc.{Loc}
use Rattle.dcc_ir.specs.declared.syntax.Loc.TheVariants.{Temp}
use Rattle.dcc_ir.specs.declared.syntax.Stmt.{Stmt as Statement}
use Rattle.dcc_ir.specs.Tree.{Expr, Get, Stmt, Set, Block}
use Rattle.dcc_ir.specs.Location.{same_location}
use Rattle.dcc_ir.specs.Use.{exprs_of, exit_exprs}
use Rattle.dcc_ir.specs.Views.{stmt_of}
use Rattle.dcc_substitution.specs.Substitute.{IsSubstitute}
use Rattle.dcc_substitution.specs.Substituted.{IsSubstituteStmt, IsSubstituteExit}
use Rattle.dcc_available.specs.Along.{along}
use Rattle.dcc_available.specs.Known.{Known, IsTold, with_fact}
use Rattle.dcc_available.specs.Within.{StayShallow}

-- what is told is available after these statements
abbrev pub IsSound : Known → List Stmt → Type 0
IsSound known history = (location : Loc) (e : Expr) → IsTold known location e → along history location e

-- The second statements are the first ones with substitutes, after these statements; a Set may go whose location holds
-- the value already.
pub data AreRewritten : List Stmt → List Stmt → List Stmt → Type 0 where
  done : {history : List Stmt} → AreRewritten history [] []
  both : {history : List Stmt} {stmt stmt' : Stmt} {rest rest' : List Stmt}
      → IsSubstituteStmt (along history) stmt stmt' → StayShallow (exprs_of stmt) (exprs_of stmt')
      → AreRewritten (history ++ stmt ∷ []) rest rest' → AreRewritten history (stmt ∷ rest) (stmt' ∷ rest')
  gone : {history : List Stmt} {location : Loc} {e : Expr} {rest rest' : List Stmt}
      → IsSubstitute (along history) e (Get location) → AreRewritten (history ++ Set location e ∷ []) rest rest'
      → AreRewritten history (Set location e ∷ rest) rest'

-- the second block is the first one with substitutes, after these statements
pub record IsRewritten (history : List Stmt) (block new : Block) : Type 0 where
  pub at : new.at ≡ block.at
  pub stmts : AreRewritten history block.stmts new.stmts
  pub exit : IsSubstituteExit (along (history ++ block.stmts)) block.exit new.exit
  pub shallow : StayShallow (exit_exprs block.exit) (exit_exprs new.exit)

-- the statement sets a location to what it holds
abbrev pub sets_itself : Stmt → Bool
sets_itself (Set location (Get other)) = same_location location other
sets_itself _ = false

-- the second list is the first one with the statement at its end, unless that sets a location to what it holds
abbrev pub IsPut : List Statement → Statement → List Statement → Type 0
IsPut stmts stmt news = news ≡ (if sets_itself (stmt_of stmt) then stmts else stmts ++ stmt ∷ [])

-- what is known may have a fact for what the statement just set a temporary to
pub data IsNoted : Stmt → Known → Known → Type 0 where
  nothing : {stmt : Stmt} {known : Known} → IsNoted stmt known known
  noted : {temporary : ℕ} {value : Expr} {known : Known}
      → IsNoted (Set (Temp temporary) value) known (with_fact (record { temporary = temporary; value = value }) known)
