-- The code's signed products are those of the definition.
use Rattle.std.proofs.Common.{arith, ◌≡◌, ◌∙◌, ap, ℕ, ◌^◌, ◌≤◌, not, nat_eq, w64, ℤ, pos, negsuc, ◌*ℤ◌, to_z, of_z, FitsSigned, to_z-of_z, lit<, refl}
use Rattle.std.specs.Prelude.{unsigned_abs}
use Rattle.std.specs.Int.Signed.{shr_z, mag_shr}
use Rattle.std.proofs.lemmas.Int.{ints, fits_signed_mul}
use Rattle.dcc_num.specs.declared.Width.{Width}
use Rattle.dcc_num.specs.declared.Flags.{Flags}
use Rattle.dcc_num.specs.Numbers.{bits_of, signed_of, halved_of, wrapped_of}
use Rattle.dcc_num.specs.Product.{signed_product_of, product_flags, extension_of}
use Rattle.dcc_num.proofs.Exact.{IsSmall, small_passed}

pub small_abs : (z : ℤ) → IsSmall z → unsigned_abs z ≤ 32768
small_abs (pos a) p = omega (arith, ints, p.high)
small_abs (negsuc a) p = omega (arith, ints, p.low)

-- a number that fits still does where it is divided
shifted_fits : (z : ℤ) (m : ℕ) → FitsSigned w64 z → FitsSigned w64 (shr_z z m)
shifted_fits z m f = let h = mag_shr z m in record { sfits = omega (arith, f.sfits, h) }

-- what the code computes for a product and for its upper half
product_passed : (x y : ℤ) (n : ℕ) → IsSmall x → IsSmall y
    → (to_z w64 (of_z w64 (to_z w64 (of_z w64 x) *ℤ to_z w64 (of_z w64 y))) ≡ x *ℤ y)
    × (to_z w64 (of_z w64 (shr_z (to_z w64 (of_z w64 (to_z w64 (of_z w64 x) *ℤ to_z w64 (of_z w64 y)))) (2 ^ n))) ≡ halved_of (x *ℤ y) n)
product_passed x y n p q =
    let f : FitsSigned w64 (x *ℤ y) = fits_signed_mul w64 x y 32768 32768 (small_abs x p) (small_abs y q) (lit< tt) in
    let inner : to_z w64 (of_z w64 (to_z w64 (of_z w64 x) *ℤ to_z w64 (of_z w64 y))) ≡ x *ℤ y =
    ap (λ (z : ℤ). to_z w64 (of_z w64 (z *ℤ to_z w64 (of_z w64 y)))) (small_passed p)
    ∙ ap (λ (z : ℤ). to_z w64 (of_z w64 (x *ℤ z))) (small_passed q) ∙ to_z-of_z f in
    (inner, ap (λ (z : ℤ). to_z w64 (of_z w64 (shr_z z (2 ^ n)))) inner ∙ to_z-of_z (shifted_fits (x *ℤ y) (2 ^ n) f) ∙ shifted (x *ℤ y))
  where
    shifted : (z : ℤ) → shr_z z (2 ^ n) ≡ halved_of z n
    shifted (pos a) = refl
    shifted (negsuc a) = refl

triple : {A B C : Type 0} {a x : A} {b y : B} {c z : C} → a ≡ x → b ≡ y → c ≡ z → ◌≡◌ {A = A × B × C} (a, b, c) (x, y, z)
triple p q r = cc

pub product_computed : (w : Width) (a b l h e n : ℕ) (x y : ℤ) (f : Flags)
    → x ≡ signed_of w a → y ≡ signed_of w b → n ≡ bits_of w → IsSmall x → IsSmall y
    → l ≡ wrapped_of w (to_z w64 (of_z w64 (to_z w64 (of_z w64 x) *ℤ to_z w64 (of_z w64 y))))
    → h ≡ wrapped_of w (to_z w64 (of_z w64 (shr_z (to_z w64 (of_z w64 (to_z w64 (of_z w64 x) *ℤ to_z w64 (of_z w64 y)))) (2 ^ n))))
    → e ≡ extension_of w l → f ≡ product_flags (not (nat_eq h e))
    → (l, h, f) ≡ signed_product_of w a b
unfolding signed_product_of
product_computed w a b l h e n x y f ex ey en p q el eh ee ef =
    let passed = product_passed x y n p q in
    let product : x *ℤ y ≡ signed_of w a *ℤ signed_of w b = ap (λ (z : ℤ). z *ℤ y) ex ∙ ap (λ (z : ℤ). signed_of w a *ℤ z) ey in
    let low : l ≡ wrapped_of w (signed_of w a *ℤ signed_of w b) = el ∙ ap (wrapped_of w) (passed.0 ∙ product) in
    let high : h ≡ wrapped_of w (halved_of (signed_of w a *ℤ signed_of w b) (bits_of w)) =
    eh ∙ ap (wrapped_of w) (passed.1 ∙ ap (λ (z : ℤ). halved_of z n) product ∙ ap (λ (k : ℕ). halved_of (signed_of w a *ℤ signed_of w b) k) en) in
    let same : e ≡ extension_of w (wrapped_of w (signed_of w a *ℤ signed_of w b)) = ee ∙ ap (extension_of w) low in
    let flags = ef ∙ ap (λ (k : ℕ). product_flags (not (nat_eq k e))) high
    ∙ ap (λ (k : ℕ). product_flags (not (nat_eq (wrapped_of w (halved_of (signed_of w a *ℤ signed_of w b) (bits_of w))) k))) same in
    triple low high flags
