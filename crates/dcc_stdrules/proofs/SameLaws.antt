-- Which operators and expressions are the same.
use Rattle.std.proofs.Common.{◌≡◌, ℕ, Bool, true, false, ◌&&◌, List, [], ◌∷◌, get_or, refl, sym, ap, ◌∙◌, subst, true≢false, eqb-true}
use Rattle.std.specs.Prelude.{◌==◌}
use Rattle.dcc_ir.specs.declared.syntax.Loc.{Loc}
use Rattle.dcc_ir.specs.declared.syntax.UnOp.{UnOp}
use Rattle.dcc_ir.specs.declared.syntax.UnOp.TheVariants.{Neg, Not, IsZero}
use Rattle.dcc_ir.specs.declared.syntax.BinOp.{BinOp}
use Rattle.dcc_ir.specs.declared.syntax.BinOp.TheVariants.{Add, Sub, Mul, DivS, DivU, RemS, RemU, And, Or, Xor, Shl, Shr, Sar, Eq, LtS, LtU, LeS, LeU}
use Rattle.dcc_ir.specs.Tree.{Expr, Const, Get, Load, Unary, Binary, Widen, Part, Join, Choose, Address}
use Rattle.dcc_ir.specs.Location.{same_location}
use Rattle.dcc_ir.specs.Forms.{unary_number, binary_number, same_unary, same_binary, same_flag, same_expr}
use Rattle.dcc_ir.proofs.FitLaws.{both}
use Rattle.dcc_ir.proofs.LocationLaws.{location_same}

unary_at : ℕ → UnOp
unary_at n = get_or (Neg ∷ Not ∷ IsZero ∷ []) n Neg

unary_numbered : (f : UnOp) → unary_at (unary_number f) ≡ f
unfolding unary_at
unary_numbered Neg = refl
unary_numbered Not = refl
unary_numbered IsZero = refl

binary_at : ℕ → BinOp
binary_at n = get_or (Add ∷ Sub ∷ Mul ∷ DivS ∷ DivU ∷ RemS ∷ RemU ∷ And ∷ Or ∷ Xor ∷ Shl ∷ Shr ∷ Sar ∷ Eq ∷ LtS ∷ LtU ∷ LeS ∷ LeU ∷ []) n Add

binary_numbered : (f : BinOp) → binary_at (binary_number f) ≡ f
unfolding binary_at
binary_numbered Add = refl
binary_numbered Sub = refl
binary_numbered Mul = refl
binary_numbered DivS = refl
binary_numbered DivU = refl
binary_numbered RemS = refl
binary_numbered RemU = refl
binary_numbered And = refl
binary_numbered Or = refl
binary_numbered Xor = refl
binary_numbered Shl = refl
binary_numbered Shr = refl
binary_numbered Sar = refl
binary_numbered Eq = refl
binary_numbered LtS = refl
binary_numbered LtU = refl
binary_numbered LeS = refl
binary_numbered LeU = refl

pub unary_same : (f g : UnOp) → same_unary f g ≡ true → f ≡ g
unary_same f g t = sym (unary_numbered f) ∙ ap unary_at (eqb-true (unary_number f) (unary_number g) t) ∙ unary_numbered g

pub binary_same : (f g : BinOp) → same_binary f g ≡ true → f ≡ g
binary_same f g t = sym (binary_numbered f) ∙ ap binary_at (eqb-true (binary_number f) (binary_number g) t) ∙ binary_numbered g

flag_same : (a b : Bool) → same_flag a b ≡ true → a ≡ b
flag_same true true t = refl
flag_same true false t = absurd (true≢false (sym t))
flag_same false true t = absurd (true≢false (sym t))
flag_same false false t = refl

-- the test tells that two expressions are one
pub expr_same : (a b : Expr) → same_expr a b ≡ true → a ≡ b
expr_same (Const w n) (Const v m) t =
    let p = both (w == v) (n == m) t in
    ap (λ k. Const k n) (eqb-true w v p.0) ∙ ap (Const v) (eqb-true n m p.1)
expr_same (Get k) (Get l) t = ap Get (location_same k l t)
expr_same (Load w a) (Load v b) t =
    let p = both (w == v) (same_expr a b) t in
    ap (λ k. Load k a) (eqb-true w v p.0) ∙ ap (Load v) (expr_same a b p.1)
expr_same (Unary f w a) (Unary g v b) t =
    let q = both (same_unary f g && w == v) (same_expr a b) t in
    let p = both (same_unary f g) (w == v) q.0 in
    ap (λ h. Unary h w a) (unary_same f g p.0) ∙ ap (λ k. Unary g k a) (eqb-true w v p.1) ∙ ap (Unary g v) (expr_same a b q.1)
expr_same (Binary f w a c) (Binary g v b d) t =
    let r = both (same_binary f g && w == v && same_expr a b) (same_expr c d) t in
    let q = both (same_binary f g && w == v) (same_expr a b) r.0 in
    let p = both (same_binary f g) (w == v) q.0 in
    ap (λ h. Binary h w a c) (binary_same f g p.0) ∙ ap (λ k. Binary g k a c) (eqb-true w v p.1)
    ∙ ap (λ x. Binary g v x c) (expr_same a b q.1) ∙ ap (Binary g v b) (expr_same c d r.1)
expr_same (Widen s w a) (Widen s' v b) t =
    let q = both (same_flag s s' && w == v) (same_expr a b) t in
    let p = both (same_flag s s') (w == v) q.0 in
    ap (λ h. Widen h w a) (flag_same s s' p.0) ∙ ap (λ k. Widen s' k a) (eqb-true w v p.1) ∙ ap (Widen s' v) (expr_same a b q.1)
expr_same (Part w m a) (Part v n b) t =
    let q = both (w == v && m == n) (same_expr a b) t in
    let p = both (w == v) (m == n) q.0 in
    ap (λ k. Part k m a) (eqb-true w v p.0) ∙ ap (λ k. Part v k a) (eqb-true m n p.1) ∙ ap (Part v n) (expr_same a b q.1)
expr_same (Join a c) (Join b d) t =
    let p = both (same_expr a b) (same_expr c d) t in
    ap (λ x. Join x c) (expr_same a b p.0) ∙ ap (Join b) (expr_same c d p.1)
expr_same (Choose x a c) (Choose y b d) t =
    let q = both (same_expr x y && same_expr a b) (same_expr c d) t in
    let p = both (same_expr x y) (same_expr a b) q.0 in
    ap (λ z. Choose z a c) (expr_same x y p.0) ∙ ap (λ z. Choose y z c) (expr_same a b p.1) ∙ ap (Choose y b) (expr_same c d q.1)
expr_same (Address d) (Address f) t = ap Address (eqb-true d f t)
expr_same a b t = absurd (true≢false (sym t))
