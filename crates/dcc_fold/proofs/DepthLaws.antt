-- The test of a bound tells the depth.
use Rattle.std.proofs.Common.{◌≡◌, ℕ, zero, suc, ◌-◌, ◌≤◌, Bool, true, false, ◌&&◌, not, inl, inr, refl, ap, ap₂, ◌∙◌, arith, eqb-true}
use Rattle.std.specs.Prelude.{max, ◌==◌}
use Rattle.dcc_ir.specs.Tree.{Expr, Const, Get, Load, Unary, Binary, Widen, Part, Join, Choose, Address}
use Rattle.dcc_ir.specs.Measure.{depth_of}
use Rattle.dcc_ir.proofs.PathLaws.{decided}
use Rattle.dcc_available.specs.Shape.{is_within}

some-levels : (depth : ℕ) → 1 ≤ depth → not (depth == 0) ≡ true
some-levels depth some = elim (decided (depth == 0)) [
  | inl same ↦ absurd (let zeroth : depth ≡ 0 = eqb-true depth 0 same in omega arith)
  | inr other ↦ ap not other
]

two-within : (a b : Bool) → a ≡ true → b ≡ true → (a && b) ≡ true
two-within a b one also = ap₂ (λ x y. x && y) one also

pub depth-within : (e : Expr) (depth : ℕ) → depth_of e ≤ depth → is_within e depth ≡ true
depth-within (Const w n) depth less = some-levels depth (omega (arith, less))
depth-within (Get l) depth less = some-levels depth (omega (arith, less))
depth-within (Load w a) depth less =
    two-within (not (depth == 0)) (is_within a (depth - 1)) (some-levels depth (omega (arith, less))) (depth-within a (depth - 1) (omega (arith, less)))
depth-within (Unary o w a) depth less =
    two-within (not (depth == 0)) (is_within a (depth - 1)) (some-levels depth (omega (arith, less))) (depth-within a (depth - 1) (omega (arith, less)))
depth-within (Binary o w a b) depth less =
    two-within (not (depth == 0) && is_within a (depth - 1)) (is_within b (depth - 1))
    (two-within (not (depth == 0)) (is_within a (depth - 1)) (some-levels depth (omega (arith, less))) (depth-within a (depth - 1) (omega (arith, less))))
    (depth-within b (depth - 1) (omega (arith, less)))
depth-within (Widen s w a) depth less =
    two-within (not (depth == 0)) (is_within a (depth - 1)) (some-levels depth (omega (arith, less))) (depth-within a (depth - 1) (omega (arith, less)))
depth-within (Part w k a) depth less =
    two-within (not (depth == 0)) (is_within a (depth - 1)) (some-levels depth (omega (arith, less))) (depth-within a (depth - 1) (omega (arith, less)))
depth-within (Join a b) depth less =
    two-within (not (depth == 0) && is_within a (depth - 1)) (is_within b (depth - 1))
    (two-within (not (depth == 0)) (is_within a (depth - 1)) (some-levels depth (omega (arith, less))) (depth-within a (depth - 1) (omega (arith, less))))
    (depth-within b (depth - 1) (omega (arith, less)))
depth-within (Choose x a b) depth less =
    two-within (not (depth == 0) && is_within x (depth - 1) && is_within a (depth - 1)) (is_within b (depth - 1))
    (two-within (not (depth == 0) && is_within x (depth - 1)) (is_within a (depth - 1))
    (two-within (not (depth == 0)) (is_within x (depth - 1)) (some-levels depth (omega (arith, less))) (depth-within x (depth - 1) (omega (arith, less))))
    (depth-within a (depth - 1) (omega (arith, less))))
    (depth-within b (depth - 1) (omega (arith, less)))
depth-within (Address d) depth less = some-levels depth (omega (arith, less))
