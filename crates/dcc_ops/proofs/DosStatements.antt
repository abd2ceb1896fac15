-- What holds of the statement of each call of DOS holds of those of INT 21h, whatever its number.
use Rattle.std.proofs.Common.{ℕ, Bool, true, false, List, [], ◌∷◌, Option, Some, None}
use Rattle.std.specs.Prelude.{◌==◌, ◌||◌, if◌then◌else◌}
use Rattle.dcc_num.specs.declared.Reg.TheVariants.{Ax, Dx}
use Rattle.dcc_num.specs.declared.Half.TheVariants.{Low}
use Rattle.dcc_ir.specs.declared.syntax.Loc.TheVariants.{Half}
use Rattle.dcc_ir.specs.Tree.{Get, Stmt, Dos}
use Rattle.dcc_ops.specs.Expressions.{word_of}
use Rattle.dcc_ops.specs.Statements.{dos_stmts}

pub dos_all : (P : List Stmt → Type 0) → P []
    → ((number : ℕ) → P (Dos number None (Some (Get (Half Dx Low))) ∷ []))
    → ((number : ℕ) → P (Dos number None (Some (Get (Half Ax Low))) ∷ []))
    → ((number : ℕ) → P (Dos number None (Some (word_of Dx)) ∷ []))
    → ((number : ℕ) → P (Dos number (Some (Half Ax Low)) None ∷ []))
    → (number : Option ℕ) → P (dos_stmts number)
dos_all P none wrote ended text key None = none
dos_all P none wrote ended text key (Some n) = go (n == 0x02) (n == 0x4C) (n == 0x09) ((n == 0x01) || (n == 0x08))
  where
    go : (a b c d : Bool) → P (
        if a then Dos n None (Some (Get (Half Dx Low))) ∷ []
        else if b then Dos n None (Some (Get (Half Ax Low))) ∷ []
        else if c then Dos n None (Some (word_of Dx)) ∷ []
        else if d then Dos n (Some (Half Ax Low)) None ∷ []
        else [])
    go true b c d = wrote n
    go false true c d = ended n
    go false false true d = text n
    go false false false true = key n
    go false false false false = none
