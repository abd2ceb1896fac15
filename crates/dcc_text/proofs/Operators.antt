-- The operators, by tables.
use Rattle.std.proofs.Common.{◌≡◌, ℕ, ◌-◌, ◌/◌, ◌%◌, ◌^◌, Bool, true, false, ◌==◌, not, Some, None, refl, sym, subst, true≢false}
use Rattle.std.specs.Prelude.{◌&&◌, ◌||◌, if◌then◌else◌, unwrap_or, int_div, int_rem}
use Rattle.std.proofs.lemmas.Bool.{and_parts, not-true}
use Rattle.dcc_ir.specs.declared.syntax.UnOp.{UnOp}
use Rattle.dcc_ir.specs.declared.syntax.UnOp.TheVariants.{Neg, Not, IsZero}
use Rattle.dcc_ir.specs.declared.syntax.BinOp.{BinOp}
use Rattle.dcc_ir.specs.declared.syntax.BinOp.TheVariants.{Add, Sub, Mul, DivS, DivU, RemS, RemU, And, Or, Xor, Shl, Shr, Sar, Eq, LtS, LtU, LeS, LeU}
use Rattle.dcc_ir.specs.Tree.{Expr, Const}
use Rattle.dcc_ir.specs.Value.{is_comparison, is_test, faults_signed, signed_at, pattern_at, unary_value, binary_value, Environment, value_of}
use Rattle.dcc_ir.specs.WellFormed.{is_division, divides_safely}
use Rattle.dcc_c.specs.Tree as tree
use Rattle.dcc_c.specs.Value.{Scope}
use Rattle.dcc_text.specs.Spelled.{Way, Exact, Signed, operand_way, unary_result, unary_text, left_way, right_way, binary_result, symbol}
use Rattle.dcc_text.proofs.Sizes.{Size, bit, bits}
use Rattle.dcc_text.proofs.Ways.{Text}
use Rattle.dcc_text.proofs.Sums.{add-text, sub-text, mul-text, and-text, or-text, xor-text}
use Rattle.dcc_text.proofs.Turns.{neg-text, not-text}
use Rattle.dcc_text.proofs.Comparisons.{eq-text, ltu-text, leu-text, lts-text, les-text, zero-text}
use Rattle.dcc_text.proofs.Shifts.{shl-text, shr-text, sar-text}
use Rattle.dcc_text.proofs.Divisions.{divu-text, remu-text, divs-text, rems-text}

-- the division faults on these numbers
abbrev pub faults : BinOp → ℕ → ℕ → ℕ → Bool
faults DivS width n m = faults_signed width n m
faults RemS width n m = faults_signed width n m
faults DivU width n m = m == 0
faults RemU width n m = m == 0
faults operator width n m = false

-- the size of a result
abbrev pub test_size : UnOp → Size → Size
test_size operator size = if is_test operator then bit else size

abbrev pub result_size : BinOp → Size → Size
result_size operator size = if is_comparison operator then bit else size

-- a division that does not fault has its quotient or remainder
defined : (v : ℕ) (c : Bool) → c ≡ false → v ≡ unwrap_or (if c then None else Some v) 0
defined v c is = rw is refl

module _ (scope : Scope) (way : Way) (size : Size) where
  pub unary-means : (operator : UnOp) (n : ℕ) (a : tree.Expr) → Text scope (operand_way operator way (bits size)) size n a
      → Text scope (unary_result operator way (bits size)) (test_size operator size) (unary_value operator (bits size) n) (unary_text operator (bits size) a)
  unary-means Neg n a x = neg-text scope way size n a x
  unary-means Not n a x = not-text scope way size n a x
  unary-means IsZero n a x = zero-text scope size n a x

  pub binary-means : (operator : BinOp) (n m : ℕ) (a b : tree.Expr) → Text scope (left_way operator way (bits size)) size n a → Text scope (right_way operator way (bits size)) size m b
      → faults operator (bits size) n m ≡ false
      → Text scope (binary_result operator way (bits size)) (result_size operator size) (binary_value operator (bits size) n m) (tree.Binary (symbol operator) a b)
  binary-means Add n m a b x y safe = add-text scope way size n m a b x y
  binary-means Sub n m a b x y safe = sub-text scope way size n m a b x y
  binary-means Mul n m a b x y safe = mul-text scope way size n m a b x y
  binary-means And n m a b x y safe = and-text scope way size n m a b x y
  binary-means Or n m a b x y safe = or-text scope way size n m a b x y
  binary-means Xor n m a b x y safe = xor-text scope way size n m a b x y
  binary-means Shl n m a b x y safe = shl-text scope way size n m a b x y
  binary-means Shr n m a b x y safe = shr-text scope size n m a b x y
  binary-means Sar n m a b x y safe = sar-text scope size n m a b x y
  binary-means Eq n m a b x y safe = eq-text scope size n m a b x y
  binary-means LtS n m a b x y safe = lts-text scope size n m a b x y
  binary-means LtU n m a b x y safe = ltu-text scope size n m a b x y
  binary-means LeS n m a b x y safe = les-text scope size n m a b x y
  binary-means LeU n m a b x y safe = leu-text scope size n m a b x y
  binary-means DivU n m a b x y safe = subst (λ v. Text scope Exact size v (tree.Binary (symbol DivU) a b)) (defined (n / m) (m == 0) safe) (divu-text scope size n m a b x y safe)
  binary-means RemU n m a b x y safe = subst (λ v. Text scope Exact size v (tree.Binary (symbol RemU) a b)) (defined (n % m) (m == 0) safe) (remu-text scope size n m a b x y safe)
  binary-means DivS n m a b x y safe =
      subst (λ v. Text scope Signed size v (tree.Binary (symbol DivS) a b)) (defined (pattern_at (bits size) (int_div (signed_at (bits size) n) (signed_at (bits size) m))) (faults_signed (bits size) n m) safe)
      (divs-text scope size n m a b x y safe)
  binary-means RemS n m a b x y safe =
      subst (λ v. Text scope Signed size v (tree.Binary (symbol RemS) a b)) (defined (pattern_at (bits size) (int_rem (signed_at (bits size) n) (signed_at (bits size) m))) (faults_signed (bits size) n m) safe)
      (rems-text scope size n m a b x y safe)

-- By a constant that is safe no division faults.

unsigned-safe : (m : ℕ) (rest : Bool) → (not (m == 0) && rest) ≡ true → (m == 0) ≡ false
unsigned-safe m rest is = not-true (m == 0) (and_parts (not (m == 0)) rest is).0

signed-safe-by : (width n m : ℕ) → (not (m == 0) && not (true && (m == 2 ^ width - 1))) ≡ true → faults_signed width n m ≡ false
signed-safe-by width n m is =
    let parts = and_parts (not (m == 0)) (not (m == 2 ^ width - 1)) is in
    let some = not-true (m == 0) parts.0 in
    let apart = not-true (m == 2 ^ width - 1) parts.1 in
    rw some (rw apart (never (n == 2 ^ (width - 1))))
  where
    never : (b : Bool) → (b && false) ≡ false
    never true = refl
    never false = refl

pub divides-safely : (scene : Environment) (operator : BinOp) (width n : ℕ) (b : Expr) → (not (is_division operator) || divides_safely operator width b) ≡ true
    → faults operator width n (value_of scene b) ≡ false
divides-safely scene DivU width n (Const w m) is = unsigned-safe m _ is
divides-safely scene RemU width n (Const w m) is = unsigned-safe m _ is
divides-safely scene DivS width n (Const w m) is = signed-safe-by width n m is
divides-safely scene RemS width n (Const w m) is = signed-safe-by width n m is
divides-safely scene DivU width n b is = absurd (true≢false (sym is))
divides-safely scene RemU width n b is = absurd (true≢false (sym is))
divides-safely scene DivS width n b is = absurd (true≢false (sym is))
divides-safely scene RemS width n b is = absurd (true≢false (sym is))
divides-safely scene operator width n b is = refl
