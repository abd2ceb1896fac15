use Rattle.std.proofs.Common.{Ok, Err, Result, IfOk, refl, sym, ap, subst, ◌≡◌}
use Rattle.std.specs.declared.alloc.AllocError.{AllocError}
use Rattle.std.proofs.Common.{ℕ, Box, Global}
use Rattle.dcc_ir.specs.declared.syntax.BinOp.{BinOp}
use Rattle.dcc_ir.specs.declared.syntax.Expr.{Expr as Expression, Bin, Const as ConstOf, Get as GetOf, Load', Un', Bin', Widen', Part', Join', Choose', Address as AddressOf}
use Rattle.dcc_ir.specs.Tree.{Expr, Binary}
use Rattle.dcc_ir.specs.Views.{expr_of}
use Rattle.dcc_rules.specs.Views.{numbers_of}
use Rattle.dcc_simplify.specs.Reshaped.{IsDivisionAs, divides, stays}
use Rattle.dcc_simplify.specs.Simplified.{IsSimplified}
use Rattle.dcc_simplify.proofs.statement.Simplifier.division.Goals as goal

-- a call that makes this expression makes one that is as told
made : (R : Expr → Type 0) (it : Expr) (r : Result Expression AllocError) → R it → IfOk r (λ o. expr_of o ≡ it) → IfOk r (λ o. R (expr_of o))
made R it (Err e) h f = tt
made R it (Ok o) h f = subst R (sym f) h

pub returns-in_ok-right-in-Bin : goal.returns-in_ok-right-in-Bin
returns-in_ok-right-in-Bin g c =
    let As = IsSimplified (numbers_of c.args.self.now.rules.now) c.args.self.now.bits.now in
    let left = expr_of c.in-Bin.left.value in
    let right = expr_of c.in-Bin.right.value in
    let first = subst (λ x. As x (expr_of c.in_ok-left-in-Bin.left)) (ap expr_of c.into_inner.ensures) c.in_ok-left-in-Bin.ensures in
    let second = subst (λ x. As x (expr_of c.in_ok-right-in-Bin.right)) (ap expr_of c.into_inner-in-Bin.ensures) c.in_ok-right-in-Bin.ensures in
    made (IsDivisionAs As (expr_of c.args.division))
    (Binary c.in-Bin.operator c.in-Bin.width (expr_of c.in_ok-left-in-Bin.left) (expr_of c.in_ok-right-in-Bin.right)) c.binary.result
    (subst (λ x. IsDivisionAs As (expr_of x) (Binary c.in-Bin.operator c.in-Bin.width (expr_of c.in_ok-left-in-Bin.left) (expr_of c.in_ok-right-in-Bin.right)))
    (sym c.in-Bin.is) (divides first second)) c.binary.ensures

-- what is no operator on two operands stays
other-stays : (As : Expr → Expr → Type 0) (e : Expression) → ((f : BinOp) (w : ℕ) (l r : Box Expression Global) → e ≡ Bin f w l r → ⊥)
    → IsDivisionAs As (expr_of e) (expr_of e)
other-stays As (ConstOf w n) other = stays refl
other-stays As (GetOf l) other = stays refl
other-stays As (Load' w p a) other = stays refl
other-stays As (Un' f w p a) other = stays refl
other-stays As (Bin' f w p a q b) other = absurd (other f w _ _ refl)
other-stays As (Widen' s w p a) other = stays refl
other-stays As (Part' w m p a) other = stays refl
other-stays As (Join' p a q b) other = stays refl
other-stays As (Choose' p a q b r d) other = stays refl
other-stays As (AddressOf d) other = stays refl

pub returns-in_default : goal.returns-in_default
returns-in_default g c = other-stays (IsSimplified (numbers_of c.args.self.now.rules.now) c.args.self.now.bits.now) c.args.division c.in_default.not-Bin
