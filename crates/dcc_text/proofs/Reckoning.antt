-- Operators of a text on numbers of one size: their types and values.
use Rattle.std.proofs.Common.{◌≡◌, ℕ, Bool, true, false, Some, refl, ap, ◌∙◌}
use Rattle.std.specs.Prelude.{if◌then◌else◌, option_and_then}
use Rattle.std.specs.Int.{from_bool}
use Rattle.dcc_c.specs.declared.syntax.Base.{Base}
use Rattle.dcc_c.specs.declared.syntax.Base.TheVariants.{Int}
use Rattle.dcc_c.specs.declared.syntax.CUn.TheVariants.{Minus, Complement}
use Rattle.dcc_c.specs.declared.syntax.CBin.{CBin}
use Rattle.dcc_c.specs.Types.{promoted_type, common_type, convert, plain}
use Rattle.dcc_c.specs.Arithmetic.{negated, complement}
use Rattle.dcc_c.specs.Tree.{Expr, Unary, Binary}
use Rattle.dcc_c.specs.Typing.{unary_type, numbers_type}
use Rattle.dcc_c.specs.Value.{number, truth, Gives, and_then, Scope, both_values, numbers_value, value_of}
use Rattle.dcc_text.proofs.Meanings.{IsNumber, unary-valued, binary-valued, binary-typed}

-- the operator evaluates both operands
pub record IsEager (operator : CBin) : Type 0 where
  pub eager : (scope : Scope) (e g : Expr) → value_of scope (Binary operator e g) ≡ and_then (λ v. and_then (both_values operator v) (value_of scope g)) (value_of scope e)

-- the operator reckons in the common type of its operands
pub record Reckons (operator : CBin) (f : Base → ℕ → ℕ → ℕ) : Type 0 where
  pub eager : IsEager operator
  pub typing : (a b : Base) → numbers_type operator a b ≡ common_type a b
  pub valuing : (a b : Base) (n m : ℕ) → numbers_value operator a n b m ≡ Gives (number (common_type a b) (f (common_type a b) (convert a (common_type a b) n) (convert b (common_type a b) m)))

-- the operator compares in the common type of its operands
pub record Compares (operator : CBin) (f : Base → ℕ → ℕ → Bool) : Type 0 where
  pub eager : IsEager operator
  pub typing : (a b : Base) → numbers_type operator a b ≡ Int
  pub valuing : (a b : Base) (n m : ℕ) → numbers_value operator a n b m ≡ Gives (truth (f (common_type a b) (convert a (common_type a b) n) (convert b (common_type a b) m)))

-- the operator shifts in the type of its left operand
pub record Shifts (operator : CBin) (f : Base → ℕ → Base → ℕ → ℕ) : Type 0 where
  pub eager : IsEager operator
  pub typing : (a b : Base) → numbers_type operator a b ≡ promoted_type a
  pub valuing : (a b : Base) (n m : ℕ) → numbers_value operator a n b m ≡ Gives (number (promoted_type a) (f (promoted_type a) (convert a (promoted_type a) n) b m))

truth-bit : (b : Bool) → (if b then 1 else 0) ≡ from_bool b
truth-bit true = refl
truth-bit false = refl

module _ (scope : Scope) where
  -- of two numbers, whatever their types
  pub reckoned-number : (operator : CBin) (f : Base → ℕ → ℕ → ℕ) → Reckons operator f → (a b : Base) (n m : ℕ) (e g : Expr) → IsNumber scope a n e → IsNumber scope b m g
      → IsNumber scope (common_type a b) (f (common_type a b) (convert a (common_type a b) n) (convert b (common_type a b) m)) (Binary operator e g)
  reckoned-number operator f r a b n m e g x y = record {
    typed = binary-typed scope operator a b n m e g x y ∙ ap (λ t. Some (plain t)) (r.typing a b);
    valued = r.eager.eager scope e g ∙ binary-valued scope operator a b n m e g x y ∙ r.valuing a b n m;
  }

  pub comparing-number : (operator : CBin) (f : Base → ℕ → ℕ → Bool) → Compares operator f → (a b : Base) (n m : ℕ) (e g : Expr) → IsNumber scope a n e → IsNumber scope b m g
      → IsNumber scope Int (from_bool (f (common_type a b) (convert a (common_type a b) n) (convert b (common_type a b) m))) (Binary operator e g)
  comparing-number operator f r a b n m e g x y = record {
    typed = binary-typed scope operator a b n m e g x y ∙ ap (λ t. Some (plain t)) (r.typing a b);
    valued = r.eager.eager scope e g ∙ binary-valued scope operator a b n m e g x y ∙ r.valuing a b n m
        ∙ ap (λ k. Gives (number Int k)) (truth-bit (f (common_type a b) (convert a (common_type a b) n) (convert b (common_type a b) m)));
  }

  pub shifting-number : (operator : CBin) (f : Base → ℕ → Base → ℕ → ℕ) → Shifts operator f → (a b : Base) (n m : ℕ) (e g : Expr) → IsNumber scope a n e → IsNumber scope b m g
      → IsNumber scope (promoted_type a) (f (promoted_type a) (convert a (promoted_type a) n) b m) (Binary operator e g)
  shifting-number operator f r a b n m e g x y = record {
    typed = binary-typed scope operator a b n m e g x y ∙ ap (λ t. Some (plain t)) (r.typing a b);
    valued = r.eager.eager scope e g ∙ binary-valued scope operator a b n m e g x y ∙ r.valuing a b n m;
  }

  -- an operator on one number
  pub negated-number : (a : Base) (n : ℕ) (e : Expr) → IsNumber scope a n e → IsNumber scope (promoted_type a) (negated (promoted_type a) (convert a (promoted_type a) n)) (Unary Minus e)
  negated-number a n e x = record { typed = ap (option_and_then (unary_type Minus)) x.typed; valued = unary-valued scope Minus a n e x }

  pub complement-number : (a : Base) (n : ℕ) (e : Expr) → IsNumber scope a n e → IsNumber scope (promoted_type a) (complement (promoted_type a) (convert a (promoted_type a) n)) (Unary Complement e)
  complement-number a n e x = record { typed = ap (option_and_then (unary_type Complement)) x.typed; valued = unary-valued scope Complement a n e x }
