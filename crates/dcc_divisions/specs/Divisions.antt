-- Divisions that may go: nothing reads what they give, and another one faults where they do.
use Rattle.std.specs.Prelude.{◌≡◌, ◌⊎◌, ℕ, Bool, true, false, List, [], ◌∷◌, All, Contains}
use Rattle.std.specs.List.{AllZip}
use Rattle.dcc_ir.specs.declared.syntax.Loc.{Loc}
use Rattle.dcc_ir.specs.declared.syntax.BinOp.{BinOp}
use Rattle.dcc_ir.specs.declared.syntax.BinOp.TheVariants.{DivS, DivU, RemS, RemU}
use Rattle.dcc_ir.specs.Tree.{Expr, Binary, Stmt, Div, Block, Graph}
use Rattle.dcc_ir.specs.Families.{live}
use Rattle.dcc_ir.specs.Use.{reads_of, writes_of}
use Rattle.dcc_substitution.specs.Available.{leaves_outside}

-- the operator divides signed numbers, for the quotient or for the remainder
abbrev pub divides_signed : BinOp → Bool
divides_signed DivS = true
divides_signed RemS = true
divides_signed operator = false

-- the operator divides unsigned numbers, for the quotient or for the remainder
abbrev pub divides_unsigned : BinOp → Bool
divides_unsigned DivU = true
divides_unsigned RemU = true
divides_unsigned operator = false

-- the two divide the same operands, both signed ones or both unsigned ones, so that one faults where the other does
pub data FaultAlike : Expr → Expr → Type 0 where
  signed :
      {operator other : BinOp} {width : ℕ} {a b : Expr} → divides_signed operator ≡ true → divides_signed other ≡ true
      → FaultAlike (Binary operator width a b) (Binary other width a b)
  unsigned :
      {operator other : BinOp} {width : ℕ} {a b : Expr} → divides_unsigned operator ≡ true
      → divides_unsigned other ≡ true → FaultAlike (Binary operator width a b) (Binary other width a b)

-- the statement writes nothing that the expression reads
pub record Leaves (stmt : Stmt) (e : Expr) : Type 0 where
  pub locations : All (λ read. ¬ Contains (writes_of stmt) read) (reads_of e)
  pub outside : leaves_outside stmt e ≡ true

-- One of the statements, of which the last comes first, is a division that faults alike, and neither it nor a later one
-- writes what the operands read.
pub data IsDivided (e : Expr) : List Stmt → Type 0 where
  here :
      {location : Loc} {other : Expr} {passed : List Stmt} → FaultAlike e other → ¬ Contains (reads_of e) location
      → IsDivided e (Div location other ∷ passed)
  before : {stmt : Stmt} {passed : List Stmt} → Leaves stmt e → IsDivided e passed → IsDivided e (stmt ∷ passed)

-- the first one of the statements is a division that faults alike
pub data DividesFirst (e : Expr) : List Stmt → Type 0 where
  first :
      {location : Loc} {other : Expr} {rest : List Stmt} → FaultAlike e other → DividesFirst e (Div location other ∷ rest)

-- Of the first statements, before which those that are passed stand, of these the last first, the second ones are left.
-- Just divisions are gone whose locations aren't live after them, each where another one that faults alike stands before
-- it, or directly behind it among those that are left.
pub data AreLeft (Live : List Stmt → Loc → Type 0) : List Stmt → List Stmt → List Stmt → Type 0 where
  done : {passed : List Stmt} → AreLeft Live passed [] []
  stays :
      {passed : List Stmt} {stmt : Stmt} {rest left : List Stmt} → AreLeft Live (stmt ∷ passed) rest left
      → AreLeft Live passed (stmt ∷ rest) (stmt ∷ left)
  goes :
      {passed : List Stmt} {location : Loc} {e : Expr} {rest left : List Stmt} → ¬ Live rest location
      → IsDivided e passed ⊎ DividesFirst e left → AreLeft Live (Div location e ∷ passed) rest left
      → AreLeft Live passed (Div location e ∷ rest) left

-- what is left of a block of the graph
pub record IsBlockLeft (graph : Graph) (before after : Block) : Type 0 where
  pub at : after.at ≡ before.at
  pub exit : after.exit ≡ before.exit
  pub stmts : AreLeft (live graph before) [] before.stmts after.stmts

-- The second graph is the first one without divisions of which the location isn't live after them: each that is gone has
-- another one beside it that faults where it does.
pub record IsWithoutDivisions (before after : Graph) : Type 0 where
  pub frame : after ≡ record before { blocks = after.blocks }
  pub blocks : AllZip (IsBlockLeft before) before.blocks after.blocks
