-- Graphs with temporaries of their own, and assignments to them.
use Rattle.std.specs.Prelude.{◌≡◌, ℕ, false, List, [], ◌∷◌, ◌++◌, length, slice_get, Some}
use Rattle.dcc_ir.specs.declared.syntax.Loc.TheVariants.{Temp}
use Rattle.dcc_ir.specs.Tree.{Expr, Stmt, Set, Block, Graph}
use Rattle.dcc_ir.specs.WellFormed.{is_location}

-- the second statements are the first ones, and among them Sets of temporaries that the graph of these widths hasn't
pub data AreWithFresh (bits : List ℕ) : List Stmt → List Stmt → Type 0 where
  done : AreWithFresh bits [] []
  stays : {stmt : Stmt} {rest rest' : List Stmt} → AreWithFresh bits rest rest'
      → AreWithFresh bits (stmt ∷ rest) (stmt ∷ rest')
  comes : {temporary : ℕ} {e : Expr} {rest rest' : List Stmt} → is_location bits (Temp temporary) ≡ false
      → AreWithFresh bits rest rest' → AreWithFresh bits rest (Set (Temp temporary) e ∷ rest')

pub record IsBlockWithFresh (bits : List ℕ) (before after : Block) : Type 0 where
  pub rest : after ≡ record before { stmts = after.stmts }
  pub stmts : AreWithFresh bits before.stmts after.stmts

-- the second graph is the first one with further temporaries, and Sets of these
pub record IsWithFresh (before after : Graph) : Type 0 where
  pub frame : after ≡ record before { blocks = after.blocks; bits = after.bits }
  pub fresh : List ℕ
  pub bits : after.bits ≡ before.bits ++ fresh
  pub count : length after.blocks ≡ length before.blocks
  pub blocks : (place : ℕ) (block new : Block) → slice_get before.blocks place ≡ Some block
      → slice_get after.blocks place ≡ Some new → IsBlockWithFresh before.bits block new
