-- Divisions that may fault: their texts fault where they do, and else give their low bits.
use Rattle.std.proofs.Common.{◌≡◌, ℕ, ◌+◌, ◌*◌, ◌/◌, ◌%◌, ◌<◌, ◌≤◌, Bool, true, false, ◌==◌, Some, None, refl, sym, ap, ap₂, ◌∙◌, subst, true≢false, arith}
use Rattle.std.specs.Prelude.{if◌then◌else◌, not, unwrap_or, int_div, int_rem}
use Rattle.std.proofs.lemmas.Bool.Decides.{nat_tests}
use Rattle.std.proofs.Math.Nat.{div-le_self}
use Rattle.dcc_ir.specs.declared.syntax.BinOp.{BinOp}
use Rattle.dcc_ir.specs.declared.syntax.BinOp.TheVariants.{DivS, DivU, RemS, RemU}
use Rattle.dcc_ir.specs.Value.{faults_signed, signed_at, pattern_at, division_at, binary_value}
use Rattle.dcc_ir.specs.WellFormed.{is_division, is_stored_width}
use Rattle.dcc_c.specs.declared.syntax.Base.{Base}
use Rattle.dcc_c.specs.declared.syntax.Base.TheVariants.{Int, Long}
use Rattle.dcc_c.specs.declared.syntax.CBin.{CBin}
use Rattle.dcc_c.specs.declared.syntax.CBin.TheVariants.{Sub, Mul, Div, Rem}
use Rattle.dcc_c.specs.Types.{common_type, convert, wrapped_bits, plain}
use Rattle.dcc_c.specs.Arithmetic.{magnitude, with_sign, same_sign, difference, division_faults, quotient, remainder}
use Rattle.dcc_c.specs.Tree.{Expr, Binary, Cast}
use Rattle.dcc_c.specs.Value.{number, Gives, Divides, and_then, both_values, Scope, value_of}
use Rattle.dcc_text.specs.Spelled.{Low, Exact, Signed, small, left_way, byte_quotient, byte_remainder, division_text}
use Rattle.dcc_text.proofs.Sizes.{Size, bit, byte, word, long, bits, reckons, common-is, kept}
use Rattle.dcc_text.proofs.Meanings.{IsNumber, small-number, cast-number, binary-valued}
use Rattle.dcc_text.proofs.Reckoning.{reckoned-number}
use Rattle.dcc_text.proofs.Signs.{signed_reckons, signed_bits, positive, negative, sign-of}
use Rattle.dcc_text.proofs.Ways.{Text, lowered}
use Rattle.dcc_text.proofs.Wide.{int-kept}
use Rattle.dcc_text.proofs.Operands.{exact-holds, exact-number, signed-common, signed-converted, signed-text, word-signed, long-signed}
use Rattle.dcc_text.proofs.Sums.{mul-sums, sub-sums}
use Rattle.dcc_text.proofs.Shifts.{pattern-fits}
use Rattle.dcc_text.proofs.Divisions.{Parts, div-parts, rem-parts, exact-faults, division-number, signed-quotient, signed-remainder}
use Rattle.dcc_text.proofs.ByteDivisions as byte_laws
use Rattle.dcc_text.proofs.Operators.{faults, binary-means}

-- Where a division faults its text does; else the text has its value's low bits.
pub record Divided (scope : Scope) (operator : BinOp) (size : Size) (n m : ℕ) (e : Expr) : Type 0 where
  pub faulting : faults operator (bits size) n m ≡ true → value_of scope e ≡ Divides
  pub giving : faults operator (bits size) n m ≡ false → Text scope Low size (binary_value operator (bits size) n m) e

-- a division that does not fault has its value
some-value : (v : ℕ) (c : Bool) → c ≡ false → (if c then None else Some v) ≡ Some (unwrap_or (if c then None else Some v) 0)
some-value v c is = rw is refl

no-value : (v : ℕ) (c : Bool) → c ≡ true → (if c then None else Some v) ≡ None
no-value v c is = rw is refl

pub division-some : (operator : BinOp) (width n m : ℕ) → is_division operator ≡ true → faults operator width n m ≡ false → division_at operator width n m ≡ Some (binary_value operator width n m)
division-some DivS width n m is safe = some-value _ (faults_signed width n m) safe
division-some RemS width n m is safe = some-value _ (faults_signed width n m) safe
division-some DivU width n m is safe = some-value _ (m == 0) safe
division-some RemU width n m is safe = some-value _ (m == 0) safe
division-some operator width n m is safe = absurd (true≢false (sym is))

pub division-none : (operator : BinOp) (width n m : ℕ) → is_division operator ≡ true → faults operator width n m ≡ true → division_at operator width n m ≡ None
division-none DivS width n m is fault = no-value _ (faults_signed width n m) fault
division-none RemS width n m is fault = no-value _ (faults_signed width n m) fault
division-none DivU width n m is fault = no-value _ (m == 0) fault
division-none RemU width n m is fault = no-value _ (m == 0) fault
division-none operator width n m is fault = absurd (true≢false (sym is))

-- the dividend times 256
scaled-is : (n : ℕ) → n < 256 → convert Int Int (signed_bits byte n) * 256 % 65536 ≡ n * 256
scaled-is n fits = elim (sign-of byte n fits) [
  | positive low is same ↦ rw same (up n low)
  | negative high is same ↦ rw same (down n fits high)
]
  where
    up : (n : ℕ) → n < 128 → convert Int Int n * 256 % 65536 ≡ n * 256
    up n low = ap (λ k. k * 256 % 65536) (int-kept n (omega (arith, low))) ∙ omega (arith, low)

    down : (n : ℕ) → n < 256 → 128 ≤ n → convert Int Int (n + 65280) * 256 % 65536 ≡ n * 256
    down n fits high = ap (λ k. k * 256 % 65536) (int-kept (n + 65280) (omega (arith, fits))) ∙ omega (arith, fits)

-- faults where the bytes do
scaled-faults : (n m : ℕ) → n < 256 → m < 256 → division_faults Int (n * 256) (signed_bits byte m) ≡ faults_signed 8 n m
scaled-faults n m fits small = elim (sign-of byte m small) [
  | positive low is same ↦ rw same (grind (arith, nat_tests))
  | negative high is same ↦ rw same (grind (arith, nat_tests))
]

quotient-room : (k l : ℕ) → k < 65536 → quotient Int k l < 65536
quotient-room k l room = by (not (same_sign Int k l)) (magnitude Int k / magnitude Int l) (let less = div-le_self (magnitude Int k) (magnitude Int l) in let few = size-room k room in omega (arith, less, few))
  where
    size-room : (k : ℕ) → k < 65536 → magnitude Int k < 65536
    size-room k room = grind (arith, nat_tests)

    by : (c : Bool) (q : ℕ) → q < 65536 → with_sign c Int q < 65536
    by true q few = omega arith
    by false q few = few

module _ (scope : Scope) where
  -- the operator evaluates to a fault
  divides-at : (operator : CBin) (f : Base → ℕ → ℕ → ℕ) → Parts operator f → (a b : Base) (n m : ℕ) (e g : Expr) → IsNumber scope a n e → IsNumber scope b m g
      → division_faults (common_type a b) (convert a (common_type a b) n) (convert b (common_type a b) m) ≡ true → value_of scope (Binary operator e g) ≡ Divides
  divides-at operator f r a b n m e g x y fault =
      r.eager.eager scope e g ∙ binary-valued scope operator a b n m e g x y ∙ r.valuing a b n m
      ∙ ap (λ c. if c then Divides else Gives (number (common_type a b) (f (common_type a b) (convert a (common_type a b) n) (convert b (common_type a b) m)))) fault

  module _ (size : Size) (n m : ℕ) (a b : Expr) where
    exact-divides : (operator : CBin) (f : Base → ℕ → ℕ → ℕ) → Parts operator f → Text scope Exact size n a → Text scope Exact size m b → (m == 0) ≡ true → value_of scope (Binary operator a b) ≡ Divides
    exact-divides operator f r x y none =
        let x_is = exact-holds size x.base x.is in
        let y_is = exact-holds size y.base y.is in
        divides-at operator f r x.base y.base n m a b (exact-number scope size n a x) (exact-number scope size m b y)
        (ap (λ t. division_faults t (convert x.base t n) (convert y.base t m)) (common-is size x.base y.base x_is y_is)
        ∙ ap₂ (division_faults (reckons size)) (kept size x.base n x_is x.fits) (kept size y.base m y_is y.fits) ∙ exact-faults size n m x.fits ∙ none)

    signed-divides : (operator : CBin) (f : Base → ℕ → ℕ → ℕ) → Parts operator f → Text scope Signed size n a → Text scope Signed size m b
        → division_faults (signed_reckons size) (signed_bits size n) (signed_bits size m) ≡ true → value_of scope (Binary operator a b) ≡ Divides
    signed-divides operator f r x y fault =
        divides-at operator f r x.base y.base x.k y.k a b x.number_is y.number_is
        (ap (λ t. division_faults t (convert x.base t x.k) (convert y.base t y.k)) (signed-common size x.base y.base x.is y.is)
        ∙ ap₂ (division_faults (signed_reckons size)) (signed-converted scope size n a x) (signed-converted scope size m b y) ∙ fault)

  -- Signed bytes.

  module _ (n m : ℕ) (a b : Expr) (x : Text scope Signed byte n a) (y : Text scope Signed byte m b) where
    abbrev dividend : Expr
    dividend = Binary Mul (Cast (plain Int) a) (small 256)

    scaled : IsNumber scope Int (n * 256) dividend
    scaled =
        let cast = subst (λ k. IsNumber scope Int k (Cast (plain Int) a)) (signed-converted scope byte n a x) (cast-number scope Int x.base x.k a x.number_is) in
        subst (λ k. IsNumber scope Int k dividend) (scaled-is n x.fits)
        (reckoned-number scope Mul (λ t k l. wrapped_bits t (k * l)) mul-sums.reckons Int Int (signed_bits byte n) 256 _ _ cast (small-number scope 256 (omega arith)))

    -- the divisor as an int
    common : common_type Int y.base ≡ Int
    common = signed-common byte Int y.base refl y.is

    right : convert y.base Int y.k ≡ signed_bits byte m
    right = signed-converted scope byte m b y

    left-kept : convert Int Int (n * 256) ≡ n * 256
    left-kept = int-kept (n * 256) (let f = x.fits in omega (arith, f))

    over-faults : division_faults (common_type Int y.base) (convert Int (common_type Int y.base) (n * 256)) (convert y.base (common_type Int y.base) y.k) ≡ faults_signed 8 n m
    over-faults =
        ap (λ t. division_faults t (convert Int t (n * 256)) (convert y.base t y.k)) common ∙ ap₂ (division_faults Int) left-kept right ∙ scaled-faults n m x.fits y.fits

    inner-divides : faults_signed 8 n m ≡ true → value_of scope (Binary Div dividend b) ≡ Divides
    inner-divides fault = divides-at Div quotient div-parts Int y.base (n * 256) y.k dividend b scaled y.number_is (over-faults ∙ fault)

    quotient-divides : faults_signed 8 n m ≡ true → value_of scope (byte_quotient a b) ≡ Divides
    quotient-divides fault = ap (and_then (λ v. and_then (both_values Div v) (value_of scope (small 256)))) (inner-divides fault)

    remainder-divides : faults_signed 8 n m ≡ true → value_of scope (byte_remainder a b) ≡ Divides
    remainder-divides fault =
        ap (λ o. and_then (λ v. and_then (both_values Sub v) (and_then (λ v. and_then (both_values Mul v) (value_of scope b)) o)) (value_of scope a)) (quotient-divides fault)
        ∙ ap (and_then (λ v. and_then (both_values Sub v) Divides)) x.number_is.valued

    module _ (safe : faults_signed 8 n m ≡ false) where
      abbrev first_quotient : ℕ
      first_quotient = quotient Int (n * 256) (signed_bits byte m)

      over : IsNumber scope Int first_quotient (Binary Div dividend b)
      over =
          subst (λ k. IsNumber scope Int k (Binary Div dividend b)) (ap₂ (quotient Int) left-kept right)
          (subst (λ t. IsNumber scope t (quotient t (convert Int t (n * 256)) (convert y.base t y.k)) (Binary Div dividend b)) common
          (division-number scope Div quotient div-parts Int y.base (n * 256) y.k dividend b scaled y.number_is (over-faults ∙ safe)))

      first-room : first_quotient < 65536
      first-room = quotient-room (n * 256) (signed_bits byte m) (let f = x.fits in omega (arith, f))

      not-by-256 : (k : ℕ) → division_faults Int k 256 ≡ false
      not-by-256 k = grind (arith, nat_tests)

      quotient-number : IsNumber scope Int (quotient Int (signed_bits byte n) (signed_bits byte m)) (byte_quotient a b)
      quotient-number =
          subst (λ k. IsNumber scope Int k (byte_quotient a b)) (ap (λ k. quotient Int k 256) (int-kept first_quotient first-room) ∙ byte_laws.byte-quotient n m x.fits y.fits safe)
          (division-number scope Div quotient div-parts Int Int first_quotient 256 _ _ over (small-number scope 256 (omega arith)) (not-by-256 (convert Int Int first_quotient)))

      pub quotient-text : Text scope Low byte (pattern_at 8 (int_div (signed_at 8 n) (signed_at 8 m))) (byte_quotient a b)
      quotient-text =
          lowered scope Signed byte _ _ (signed-text scope byte _ (byte_quotient a b) (pattern-fits byte (int_div (signed_at 8 n) (signed_at 8 m)))
          (subst (λ k. IsNumber scope Int k (byte_quotient a b)) (signed-quotient byte n m x.fits y.fits safe) quotient-number))

      abbrev whole_quotient : ℕ
      whole_quotient = quotient Int (signed_bits byte n) (signed_bits byte m)

      signed-room : (n : ℕ) → n < 256 → signed_bits byte n < 65536
      signed-room n fits = grind (arith, nat_tests)

      times : IsNumber scope Int (whole_quotient * signed_bits byte m % 65536) (Binary Mul (byte_quotient a b) b)
      times =
          subst (λ k. IsNumber scope Int k (Binary Mul (byte_quotient a b) b))
          (ap₂ (λ k l. k * l % 65536) (int-kept whole_quotient (quotient-room (signed_bits byte n) (signed_bits byte m) (signed-room n x.fits))) right)
          (subst (λ t. IsNumber scope t (wrapped_bits t (convert Int t whole_quotient * convert y.base t y.k)) (Binary Mul (byte_quotient a b) b)) common
          (reckoned-number scope Mul (λ t k l. wrapped_bits t (k * l)) mul-sums.reckons Int y.base whole_quotient y.k _ b quotient-number y.number_is))

      remainder-number : IsNumber scope Int (remainder Int (signed_bits byte n) (signed_bits byte m)) (byte_remainder a b)
      remainder-number =
          let product = whole_quotient * signed_bits byte m % 65536 in
          subst (λ k. IsNumber scope Int k (byte_remainder a b))
          (ap₂ (difference Int) (signed-converted scope byte n a x) (int-kept product (omega arith)) ∙ byte_laws.byte-remainder n m x.fits y.fits)
          (subst (λ t. IsNumber scope t (difference t (convert x.base t x.k) (convert Int t product)) (byte_remainder a b)) (signed-common byte x.base Int x.is refl)
          (reckoned-number scope Sub difference sub-sums.reckons x.base Int x.k product a _ x.number_is times))

      pub remainder-text : Text scope Low byte (pattern_at 8 (int_rem (signed_at 8 n) (signed_at 8 m))) (byte_remainder a b)
      remainder-text =
          lowered scope Signed byte _ _ (signed-text scope byte _ (byte_remainder a b) (pattern-fits byte (int_rem (signed_at 8 n) (signed_at 8 m)))
          (subst (λ k. IsNumber scope Int k (byte_remainder a b)) (signed-remainder byte n m x.fits y.fits) remainder-number))

  -- Whichever division it is.

  defined : (v : ℕ) (c : Bool) → c ≡ false → v ≡ unwrap_or (if c then None else Some v) 0
  defined v c is = rw is refl

  pub divided : (operator : BinOp) (size : Size) (n m : ℕ) (a b : Expr) → is_division operator ≡ true → is_stored_width (bits size) ≡ true → Text scope (left_way operator Low (bits size)) size n a
      → Text scope (left_way operator Low (bits size)) size m b → Divided scope operator size n m (division_text operator (bits size) a b)
  divided DivU size n m a b is stored x y = record {
    faulting = λ fault. exact-divides size n m a b Div quotient div-parts x y fault;
    giving = λ safe. lowered scope Exact size _ _ (binary-means scope Low size DivU n m a b x y safe);
  }
  divided RemU size n m a b is stored x y = record {
    faulting = λ fault. exact-divides size n m a b Rem remainder rem-parts x y fault;
    giving = λ safe. lowered scope Exact size _ _ (binary-means scope Low size RemU n m a b x y safe);
  }
  divided DivS word n m a b is stored x y = record {
    faulting = λ fault. signed-divides word n m a b Div quotient div-parts x y (ap₂ (division_faults Int) (word-signed n) (word-signed m) ∙ fault);
    giving = λ safe. lowered scope Signed word _ _ (binary-means scope Low word DivS n m a b x y safe);
  }
  divided RemS word n m a b is stored x y = record {
    faulting = λ fault. signed-divides word n m a b Rem remainder rem-parts x y (ap₂ (division_faults Int) (word-signed n) (word-signed m) ∙ fault);
    giving = λ safe. lowered scope Signed word _ _ (binary-means scope Low word RemS n m a b x y safe);
  }
  divided DivS long n m a b is stored x y = record {
    faulting = λ fault. signed-divides long n m a b Div quotient div-parts x y (ap₂ (division_faults Long) (long-signed n) (long-signed m) ∙ fault);
    giving = λ safe. lowered scope Signed long _ _ (binary-means scope Low long DivS n m a b x y safe);
  }
  divided RemS long n m a b is stored x y = record {
    faulting = λ fault. signed-divides long n m a b Rem remainder rem-parts x y (ap₂ (division_faults Long) (long-signed n) (long-signed m) ∙ fault);
    giving = λ safe. lowered scope Signed long _ _ (binary-means scope Low long RemS n m a b x y safe);
  }
  divided DivS byte n m a b is stored x y = record {
    faulting = λ fault. quotient-divides n m a b x y fault;
    giving = λ safe. subst (λ v. Text scope Low byte v (byte_quotient a b)) (defined (pattern_at 8 (int_div (signed_at 8 n) (signed_at 8 m))) (faults_signed 8 n m) safe) (quotient-text n m a b x y safe);
  }
  divided RemS byte n m a b is stored x y = record {
    faulting = λ fault. remainder-divides n m a b x y fault;
    giving = λ safe. subst (λ v. Text scope Low byte v (byte_remainder a b)) (defined (pattern_at 8 (int_rem (signed_at 8 n) (signed_at 8 m))) (faults_signed 8 n m) safe) (remainder-text n m a b x y safe);
  }
  divided operator bit n m a b is stored x y = absurd (true≢false (sym stored))
  divided operator size n m a b is stored x y = absurd (true≢false (sym is))
