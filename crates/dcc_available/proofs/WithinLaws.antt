-- Substitutes that get no deeper than a bound.
use Rattle.std.proofs.Common.{◌≡◌, ℕ, zero, suc, ◌-◌, ◌≤◌, Bool, true, false, ◌&&◌, not, List, [], ◌∷◌, ◌++◌, Some, refl, sym, ap, ◌∙◌, subst, arith, true≢false}
use Rattle.std.specs.Prelude.{max, ◌==◌}
use Rattle.std.specs.List.{AllZip}
use Rattle.std.specs.Prelude.{Result, IfOk, Option, None, option_map}
use Rattle.std.proofs.lemmas.Result.{IfOk-weaker}
use Rattle.dcc_ir.specs.declared.syntax.Expr.{Expr as ExprOf}
use Rattle.dcc_ir.specs.Views.{expr_of}
use Rattle.dcc_ir.specs.declared.syntax.Loc.{Loc}
use Rattle.dcc_ir.specs.declared.syntax.UnOp.{UnOp}
use Rattle.dcc_ir.specs.declared.syntax.BinOp.{BinOp}
use Rattle.dcc_ir.specs.Tree.{Expr, Const, Get, Load, Unary, Binary, Widen, Part, Join, Choose, Address, Stmt, Dos}
use Rattle.dcc_ir.specs.Measure.{depth_of, deepest}
use Rattle.dcc_ir.proofs.FitLaws.{both}
use Rattle.dcc_substitution.specs.Substitute.{IsSubstitute, itself, read, load, unary, binary, widen, part, join, choose}
use Rattle.dcc_substitution.specs.Substituted.{IsSubstituteStmt, div, dos, same}
use Rattle.dcc_available.specs.Shape.{is_within}
use Rattle.dcc_available.specs.Known.{Known, IsTold}
use Rattle.dcc_available.specs.Within.{StayShallow, IsSubstituteWithin, AreSubstitutesWithin, IsDividedAlike}
use Rattle.dcc_available.proofs.RewrittenLaws.{deepest-joined}

-- the test tells the depth
some-depth : (depth : ℕ) → not (depth == 0) ≡ true → 1 ≤ depth
some-depth depth some = go depth some
  where
    go : (n : ℕ) → not (n == 0) ≡ true → 1 ≤ n
    go zero is = absurd (true≢false (sym is))
    go (suc n) is = omega arith

pub within_depth : (e : Expr) (depth : ℕ) → is_within e depth ≡ true → depth_of e ≤ depth
within_depth (Const w n) depth is = some-depth depth is
within_depth (Get l) depth is = some-depth depth is
within_depth (Load w a) depth is =
    let parts = both (not (depth == 0)) (is_within a (depth - 1)) is in
    let some = some-depth depth parts.0 in
    let inner = within_depth a (depth - 1) parts.1 in
    omega arith
within_depth (Unary o w a) depth is =
    let parts = both (not (depth == 0)) (is_within a (depth - 1)) is in
    let some = some-depth depth parts.0 in
    let inner = within_depth a (depth - 1) parts.1 in
    omega arith
within_depth (Binary o w a b) depth is =
    let two = both (not (depth == 0) && is_within a (depth - 1)) (is_within b (depth - 1)) is in
    let parts = both (not (depth == 0)) (is_within a (depth - 1)) two.0 in
    let some = some-depth depth parts.0 in
    let one = within_depth a (depth - 1) parts.1 in
    let other = within_depth b (depth - 1) two.1 in
    omega arith
within_depth (Widen s w a) depth is =
    let parts = both (not (depth == 0)) (is_within a (depth - 1)) is in
    let some = some-depth depth parts.0 in
    let inner = within_depth a (depth - 1) parts.1 in
    omega arith
within_depth (Part w k a) depth is =
    let parts = both (not (depth == 0)) (is_within a (depth - 1)) is in
    let some = some-depth depth parts.0 in
    let inner = within_depth a (depth - 1) parts.1 in
    omega arith
within_depth (Join a b) depth is =
    let two = both (not (depth == 0) && is_within a (depth - 1)) (is_within b (depth - 1)) is in
    let parts = both (not (depth == 0)) (is_within a (depth - 1)) two.0 in
    let some = some-depth depth parts.0 in
    let one = within_depth a (depth - 1) parts.1 in
    let other = within_depth b (depth - 1) two.1 in
    omega arith
within_depth (Choose x a b) depth is =
    let three = both (not (depth == 0) && is_within x (depth - 1) && is_within a (depth - 1)) (is_within b (depth - 1)) is in
    let two = both (not (depth == 0) && is_within x (depth - 1)) (is_within a (depth - 1)) three.0 in
    let parts = both (not (depth == 0)) (is_within x (depth - 1)) two.0 in
    let some = some-depth depth parts.0 in
    let first = within_depth x (depth - 1) parts.1 in
    let one = within_depth a (depth - 1) two.1 in
    let other = within_depth b (depth - 1) three.1 in
    omega arith
within_depth (Address d) depth is = some-depth depth is

-- nothing is 0 deep
pub none_within : (e : Expr) (depth : ℕ) → depth ≡ 0 → is_within e depth ≡ false
none_within e depth is = ap (is_within e) is ∙ at_none e
  where
    at_none : (e : Expr) → is_within e 0 ≡ false
    at_none (Const w n) = refl
    at_none (Get l) = refl
    at_none (Load w a) = refl
    at_none (Unary o w a) = refl
    at_none (Binary o w a b) = refl
    at_none (Widen s w a) = refl
    at_none (Part w k a) = refl
    at_none (Join a b) = refl
    at_none (Choose x a b) = refl
    at_none (Address d) = refl

module _ (known : Known) where
  pub stays_within : (depth : ℕ) (e r : Expr) → r ≡ e → IsSubstituteWithin known depth e r
  stays_within depth e r is = subst (IsSubstituteWithin known depth e) (sym is) (record { substitute = itself; shallow = omega arith })

  pub read_within : (depth : ℕ) (l : Loc) (r : Expr) → IsTold known l r → depth_of r ≤ depth → IsSubstituteWithin known depth (Get l) r
  read_within depth l r told less = record { substitute = read told; shallow = omega arith }

  module _ {E : Type 0} (depth less : ℕ) (lower : less ≡ depth - 1) (e : Expr) (r : Result ExprOf E) where
    -- what the last call gives is a substitute, where it gives this
    if-made : (made : Expr) → IsSubstituteWithin known depth e made → IfOk r (λ x. expr_of x ≡ made) → IfOk r (λ x. IsSubstituteWithin known depth e (expr_of x))
    if-made made h gives = IfOk-weaker r (λ x. expr_of x ≡ made) (λ x. IsSubstituteWithin known depth e (expr_of x)) (λ x is. subst (IsSubstituteWithin known depth e) (sym is) h) gives

    pub load_within : (width : ℕ) (a a' : Expr) → e ≡ Load width a → IsSubstituteWithin known less a a' → IfOk r (λ x. expr_of x ≡ Load width a') → IfOk r (λ x. IsSubstituteWithin known depth e (expr_of x))
    load_within width a a' is h = if-made (Load width a') (subst (λ x. IsSubstituteWithin known depth x (Load width a')) (sym is) (record {
      substitute = load h.substitute;
      shallow = let inner = h.shallow in omega arith;
    }))

    pub unary_within : (operator : UnOp) (width : ℕ) (a a' : Expr) → e ≡ Unary operator width a → IsSubstituteWithin known less a a' → IfOk r (λ x. expr_of x ≡ Unary operator width a') → IfOk r (λ x. IsSubstituteWithin known depth e (expr_of x))
    unary_within operator width a a' is h = if-made (Unary operator width a') (subst (λ x. IsSubstituteWithin known depth x (Unary operator width a')) (sym is) (record {
      substitute = unary h.substitute;
      shallow = let inner = h.shallow in omega arith;
    }))

    pub binary_within : (operator : BinOp) (width : ℕ) (a a' b b' : Expr) → e ≡ Binary operator width a b → IsSubstituteWithin known less a a' → IsSubstituteWithin known less b b'
        → IfOk r (λ x. expr_of x ≡ Binary operator width a' b') → IfOk r (λ x. IsSubstituteWithin known depth e (expr_of x))
    binary_within operator width a a' b b' is h k = if-made (Binary operator width a' b') (subst (λ x. IsSubstituteWithin known depth x (Binary operator width a' b')) (sym is) (record {
      substitute = binary h.substitute k.substitute;
      shallow = let one = h.shallow in let other = k.shallow in omega arith;
    }))

    pub widen_within : (signed : Bool) (width : ℕ) (a a' : Expr) → e ≡ Widen signed width a → IsSubstituteWithin known less a a' → IfOk r (λ x. expr_of x ≡ Widen signed width a') → IfOk r (λ x. IsSubstituteWithin known depth e (expr_of x))
    widen_within signed width a a' is h = if-made (Widen signed width a') (subst (λ x. IsSubstituteWithin known depth x (Widen signed width a')) (sym is) (record {
      substitute = widen h.substitute;
      shallow = let inner = h.shallow in omega arith;
    }))

    pub part_within : (width first : ℕ) (a a' : Expr) → e ≡ Part width first a → IsSubstituteWithin known less a a' → IfOk r (λ x. expr_of x ≡ Part width first a') → IfOk r (λ x. IsSubstituteWithin known depth e (expr_of x))
    part_within width first a a' is h = if-made (Part width first a') (subst (λ x. IsSubstituteWithin known depth x (Part width first a')) (sym is) (record {
      substitute = part h.substitute;
      shallow = let inner = h.shallow in omega arith;
    }))

    pub join_within : (a a' b b' : Expr) → e ≡ Join a b → IsSubstituteWithin known less a a' → IsSubstituteWithin known less b b' → IfOk r (λ x. expr_of x ≡ Join a' b') → IfOk r (λ x. IsSubstituteWithin known depth e (expr_of x))
    join_within a a' b b' is h k = if-made (Join a' b') (subst (λ x. IsSubstituteWithin known depth x (Join a' b')) (sym is) (record {
      substitute = join h.substitute k.substitute;
      shallow = let one = h.shallow in let other = k.shallow in omega arith;
    }))

    pub choose_within : (x x' a a' b b' : Expr) → e ≡ Choose x a b → IsSubstituteWithin known less x x' → IsSubstituteWithin known less a a' → IsSubstituteWithin known less b b'
        → IfOk r (λ y. expr_of y ≡ Choose x' a' b') → IfOk r (λ y. IsSubstituteWithin known depth e (expr_of y))
    choose_within x x' a a' b b' is h k m = if-made (Choose x' a' b') (subst (λ y. IsSubstituteWithin known depth y (Choose x' a' b')) (sym is) (record {
      substitute = choose h.substitute k.substitute m.substitute;
      shallow = let first = h.shallow in let one = k.shallow in let other = m.shallow in omega arith;
    }))

  -- a division with substitutes for its operands
  pub divided_within : {E : Type 0} (e : Expr) (r : Result ExprOf E) (width : ℕ) (operator : BinOp) (a a' b b' : Expr) → e ≡ Binary operator width a b → IsSubstituteWithin known 31 a a' → IsSubstituteWithin known 31 b b'
      → IfOk r (λ x. expr_of x ≡ Binary operator width a' b') → IfOk r (λ x. IsDividedAlike known e (expr_of x))
  divided_within e r width operator a a' b b' was h k gives =
      IfOk-weaker r (λ x. expr_of x ≡ Binary operator width a' b') (λ x. IsDividedAlike known e (expr_of x))
      (λ x is. subst (λ y. IsDividedAlike known y (expr_of x)) (sym was) (subst (IsDividedAlike known (Binary operator width a b)) (sym is) (record {
        division = λ l. div h.substitute k.substitute;
        shallow = let one = h.shallow in let other = k.shallow in omega arith;
      }))) gives

  pub divided_same : {E : Type 0} (e : Expr) (r : Result ExprOf E) → IfOk r (λ x. expr_of x ≡ e) → IfOk r (λ x. IsDividedAlike known e (expr_of x))
  divided_same e r gives =
      IfOk-weaker r (λ x. expr_of x ≡ e) (λ x. IsDividedAlike known e (expr_of x))
      (λ x is. subst (IsDividedAlike known e) (sym is) (record { division = λ l. same; shallow = omega arith })) gives

  -- one more expression
  pub one_within : (es rs : List Expr) (e r : Expr) → AreSubstitutesWithin known es rs → IsSubstituteWithin known 32 e r → AreSubstitutesWithin known (es ++ e ∷ []) (rs ++ r ∷ [])
  one_within es rs e r h k = record {
    substitutes = zipped es rs e r h.substitutes k.substitute;
    shallow =
        let one = deepest-joined es (e ∷ []) in
        let other = deepest-joined rs (r ∷ []) in
        let these : deepest rs ≤ max 32 (deepest es) = h.shallow in
        let last = k.shallow in
        omega arith;
  }
    where
      zipped : (xs ys : List Expr) (x y : Expr) → AllZip (IsSubstitute (IsTold known)) xs ys → IsSubstitute (IsTold known) x y → AllZip (IsSubstitute (IsTold known)) (xs ++ x ∷ []) (ys ++ y ∷ [])
      zipped [] [] x y all h = (h, tt)
      zipped [] (y' ∷ ys) x y all h = absurd all
      zipped (x' ∷ xs) [] x y all h = absurd all
      zipped (x' ∷ xs) (y' ∷ ys) x y all h = (all.0, zipped xs ys x y all.1 h)

  pub one_shallow : (e r : Expr) → IsSubstituteWithin known 32 e r → StayShallow (e ∷ []) (r ∷ [])
  one_shallow e r h = let inner = h.shallow in omega arith

  pub two_shallow : (a a' b b' : Expr) → IsSubstituteWithin known 32 a a' → IsSubstituteWithin known 32 b b' → StayShallow (a ∷ b ∷ []) (a' ∷ b' ∷ [])
  two_shallow a a' b b' h k = let one = h.shallow in let other = k.shallow in omega arith

-- a DOS call, with and without an argument
pub dos_some : (Is : Loc → Expr → Type 0) (number : ℕ) (place : Option Loc) (s : Stmt) (a r : Option ExprOf) (e v : ExprOf) → s ≡ Dos number place (option_map expr_of a) → a ≡ Some e → r ≡ Some v
    → IsSubstitute Is (expr_of e) (expr_of v) → IsSubstituteStmt Is s (Dos number place (option_map expr_of r))
dos_some Is number place s a r e v is given gives h =
    subst (λ x. IsSubstituteStmt Is x (Dos number place (option_map expr_of r))) (sym (is ∙ ap (λ o. Dos number place (option_map expr_of o)) given))
    (subst (λ o. IsSubstituteStmt Is (Dos number place (Some (expr_of e))) (Dos number place (option_map expr_of o))) (sym gives) (dos h))

pub dos_none : (Is : Loc → Expr → Type 0) (number : ℕ) (place : Option Loc) (s : Stmt) (a r : Option ExprOf) → s ≡ Dos number place (option_map expr_of a) → a ≡ None → r ≡ None
    → IsSubstituteStmt Is s (Dos number place (option_map expr_of r))
dos_none Is number place s a r is given gives =
    subst (λ x. IsSubstituteStmt Is x (Dos number place (option_map expr_of r))) (sym (is ∙ ap (λ o. Dos number place (option_map expr_of o)) given))
    (subst (λ o. IsSubstituteStmt Is (Dos number place None) (Dos number place (option_map expr_of o))) (sym gives) same)
