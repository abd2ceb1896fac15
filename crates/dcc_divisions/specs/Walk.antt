-- What stands between the definitions and the code. No public contract rests on it.
use Rattle.std.specs.Prelude.{◌≡◌, ◌⊎◌, ℕ, Bool, true, false, ◌&&◌, ◌||◌, ◌==◌, List, [], map, flat_map, reverse, get_or, slice_get, Some}
use Rattle.dcc_ir.specs.declared.syntax.Loc.{Loc}
use Rattle.dcc_ir.specs.declared.syntax.Stmt.{Stmt as Statement}
use Rattle.dcc_ir.specs.declared.syntax.BinOp.{BinOp}
use Rattle.dcc_ir.specs.Forms.{same_expr}
use Rattle.dcc_ir.specs.Tree.{Expr, Binary, Stmt, Div, Block, Graph}
use Rattle.dcc_ir.specs.Families.{live}
use Rattle.dcc_ir.specs.Use.{reads_of, exit_exprs}
use Rattle.dcc_ir.specs.Views.{stmt_of}
use Rattle.dcc_flow.specs.Marks.{empty, with_all}
use Rattle.dcc_divisions.specs.Divisions.{divides_signed, divides_unsigned, IsDivided, DividesFirst}

-- both operators divide signed numbers, or both divide unsigned ones
abbrev pub divide_alike : BinOp → BinOp → Bool
divide_alike operator other =
    divides_signed operator && divides_signed other || divides_unsigned operator && divides_unsigned other

-- the two divide the same operands alike
abbrev pub fault_alike : Expr → Expr → Bool
fault_alike (Binary f v a b) (Binary g w c d) = divide_alike f g && (v == w) && same_expr a c && same_expr b d
fault_alike e other = false

-- the statements, the last one first
abbrev pub backward : List Statement → List Stmt
backward stmts = map stmt_of (reverse stmts)

-- The statement is a division that may go: its location isn't in the set, and another one that faults alike is among
-- those that are passed, of which the last comes first, or is the first of those that are left.
pub data MayGo (set : Loc → Bool) (passed left : List Stmt) : Stmt → Type 0 where
  may :
      {location : Loc} {e : Expr} → set location ≡ false → IsDivided e passed ⊎ DividesFirst e left
      → MayGo set passed left (Div location e)

-- what is live in the block before these statements is in the set
abbrev pub Covers : Graph → Block → List Stmt → (Loc → Bool) → Type 0
Covers graph block rest set = (location : Loc) → live graph block rest location → set location ≡ true

-- what is live behind the block's statements is among these, or its end reads it
abbrev pub CoversEnd : Graph → Block → List Loc → Type 0
CoversEnd graph block at_end =
    Covers graph block [] (with_all (with_all empty at_end) (flat_map reads_of (exit_exprs block.exit)))

-- so for each of the blocks, by the lists at their places
abbrev pub CoverEnds : Graph → List Block → List (List Loc) → Type 0
CoverEnds graph blocks at_ends =
    (place : ℕ) (block : Block) → slice_get blocks place ≡ Some block
    → CoversEnd graph block (get_or at_ends place [])
