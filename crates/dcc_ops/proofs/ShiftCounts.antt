-- The working of a shift or rotate by each count. That by a constant is that by 1, or else the one that gives OF the
-- constant 0, whichever constant it is.
use Rattle.std.proofs.Common.{◌≡◌, ◌==◌, ℕ, Bool, true, false, List, refl, sym, subst}
use Rattle.std.specs.Prelude.{◌%◌}
use Rattle.dcc_num.specs.declared.Width.{Width}
use Rattle.dcc_machine.specs.declared.instr.Count.{Count}
use Rattle.dcc_machine.specs.declared.instr.Count.TheVariants.{One, Cl, Const as ConstCount}
use Rattle.dcc_machine.specs.declared.instr.Shift.{Shift}
use Rattle.dcc_machine.specs.declared.instr.Shift.TheVariants.{Rol, Ror, Shl, Shr}
use Rattle.dcc_ir.specs.Tree.{Stmt}
use Rattle.dcc_ops.specs.Statements.{shift_working}

-- a test of statements holds of this working by 1, by CL and by a constant that is not 1
pub record HoldsByEach (test : List Stmt → Bool) (operation : Shift) (w : Width) : Type 0 where
  pub one : test (shift_working operation w One) ≡ true
  pub cl : test (shift_working operation w Cl) ≡ true
  pub other : test (shift_working operation w (ConstCount 0)) ≡ true

as_one : (operation : Shift) (w : Width) (n : ℕ) → (n % 32 == 1) ≡ true
    → shift_working operation w (ConstCount n) ≡ shift_working operation w One
as_one Rol w n t = rw t refl
as_one Ror w n t = rw t refl
as_one Shl w n t = rw t refl
as_one Shr w n t = rw t refl
as_one _ w n t = refl

as_other : (operation : Shift) (w : Width) (n : ℕ) → (n % 32 == 1) ≡ false
    → shift_working operation w (ConstCount n) ≡ shift_working operation w (ConstCount 0)
as_other Rol w n t = rw t refl
as_other Ror w n t = rw t refl
as_other Shl w n t = rw t refl
as_other Shr w n t = rw t refl
as_other _ w n t = refl

-- a test that holds of a shift's statements by 1, by CL and by another constant holds by every count
pub holds_by_count : (test : List Stmt → Bool) (operation : Shift) (w : Width) (count : Count)
    → HoldsByEach test operation w → test (shift_working operation w count) ≡ true
holds_by_count test operation w One each = each.one
holds_by_count test operation w Cl each = each.cl
holds_by_count test operation w (ConstCount n) each = by (n % 32 == 1) refl
  where
    by : (b : Bool) → (n % 32 == 1) ≡ b → test (shift_working operation w (ConstCount n)) ≡ true
    by true t = subst (λ stmts. test stmts ≡ true) (sym (as_one operation w n t)) each.one
    by false t = subst (λ stmts. test stmts ≡ true) (sym (as_other operation w n t)) each.other
