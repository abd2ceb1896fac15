-- What tests and choices at ends of blocks give in the text.
use Rattle.std.proofs.Common.{◌≡◌, ℕ, zero, suc, ◌<◌, inl, inr, Bool, true, false, ◌==◌, refl, sym, ap, ◌∙◌, subst, true≢false, arith}
use Rattle.std.specs.Prelude.{◌⊎◌, not}
use Rattle.std.specs.Int.{from_bool}
use Rattle.std.proofs.lemmas.Bool.{and_parts, eqb-true}
use Rattle.dcc_ir.specs.Run as inner_run
use Rattle.dcc_ir.specs.Tree as inner
use Rattle.dcc_ir.specs.Value.{width_of, value_of, Fits}
use Rattle.dcc_ir.specs.WellFormed.{is_expr, is_expr_of}
use Rattle.dcc_c.specs.declared.syntax.Base.{Base}
use Rattle.dcc_c.specs.declared.syntax.Base.TheVariants.{Uchar, Int, Uint}
use Rattle.dcc_c.specs.declared.syntax.CUn.TheVariants.{Not}
use Rattle.dcc_c.specs.Run as text_run
use Rattle.dcc_c.specs.Tree.{Tree, Expr, Unary}
use Rattle.dcc_c.specs.Types.{plain, convert, promoted_type}
use Rattle.dcc_c.specs.Value as text_value
use Rattle.dcc_c.specs.Value.{Value, number, converted, truth, is_zero, and_then, unary_value, Gives}
use Rattle.dcc_text.specs.Spelling.{Spelling}
use Rattle.dcc_text.specs.Spelled.{Way, Low, Exact, text}
use Rattle.dcc_text.specs.Holding.{Locations, Alike, IsWithin, Holds}
use Rattle.dcc_text.proofs.Sizes.{Size, bit, word, bits, kept}
use Rattle.dcc_text.proofs.Ways.{Text, carries, word-cast}
use Rattle.dcc_text.proofs.Opposites.{IsTurned, turned-cases, turned-number}
use Rattle.dcc_text.proofs.Texts.{stands, same-size}
use Rattle.dcc_text.proofs.Assignments.{shown-within}
use Rattle.dcc_plan.specs.PlanText.{text_of_way}

-- a bit keeps its number where an operator promotes it
promoted-bit : (base : Base) (k n : ℕ) → carries Exact bit base ≡ true → k ≡ n → n < 2 → convert base (promoted_type base) k ≡ n
promoted-bit Uchar k n is same small = ap (convert Uchar Int) same ∙ kept bit Uchar n is small
promoted-bit Int k n is same small = ap (convert Int Int) same ∙ kept bit Int n is small
promoted-bit base k n is same small = absurd (true≢false (sym is))

truth-opposite : (c : Bool) → is_zero (truth c) ≡ not c
truth-opposite true = refl
truth-opposite false = refl

-- whether the test, or else its opposite, comes to 0
abbrev pub comes_to_zero : Bool → ℕ → Bool
comes_to_zero true n = n == 0
comes_to_zero false n = not (n == 0)

module _ (s : Spelling) (tree : Tree) (Has : Locations) (AreAlike : Alike) (i : inner_run.State) (t : text_run.State) (h : Holds s Has AreAlike i t) (fits : Fits (inner_run.scene_of i)) where
  -- the text of an expression of a size, in each way
  text-of : (e : inner.Expr) (size : Size) (way : Way) → is_expr_of s.bits (bits size) e ≡ true → IsWithin s Has e → Text (text_run.scope_of tree t) way size (inner_run.value_in i e) (text s way false e)
  text-of e size way formed within =
      let (is, width) = and_parts (is_expr s.bits e) (width_of s.bits e == bits size) formed in
      let x = stands s (text_run.scope_of tree t) i.running.values i.running.base i.memory h.memory fits.bytes e is (shown-within s tree Has AreAlike i t h e within) in
      subst (λ widths. Text (text_run.scope_of tree t) way size (value_of (record { bits = widths; values = i.running.values; base = i.running.base; memory = i.memory }) e) (text s way false e)) (sym h.frame.bits)
      (subst (λ z. Text (text_run.scope_of tree t) way z (value_of (record { bits = s.bits; values = i.running.values; base = i.running.base; memory = i.memory }) e) (text s way false e))
      (same-size x.size size (sym x.width ∙ eqb-true (width_of s.bits e) (bits size) width)) (x.gives way false))

  -- a test is 0 or 1
  pub record Tests (e : inner.Expr) : Type 0 where
    pub base : Base
    pub k : ℕ
    pub gives : text_value.value_of (text_run.scope_of tree t) (text s Exact false e) ≡ Gives (number base k)
    pub is : k ≡ inner_run.value_in i e
    pub small : inner_run.value_in i e < 2

  pub test-gives : (e : inner.Expr) → is_expr_of s.bits 1 e ≡ true → IsWithin s Has e → Tests e
  test-gives e formed within = let x = text-of e bit Exact formed within in record { base = x.base; k = x.k; gives = x.number_is.valued; is = x.means; small = x.fits }

  -- a test, or its opposite, comes to a value
  pub record Turns (on : Bool) (e : inner.Expr) (one other : ℕ) : Type 0 where
    pub value : Value
    pub gives : text_value.value_of (text_run.scope_of tree t) (text_of_way s on (inner.If e one other)) ≡ Gives value
    pub zero : is_zero value ≡ comes_to_zero on (inner_run.value_in i e)

  -- the expression comes to 0 where a test comes to another number
  record IsOpposite (n : ℕ) (c : Expr) : Type 0 where
    pub value : Value
    pub gives : text_value.value_of (text_run.scope_of tree t) c ≡ Gives value
    pub zero : is_zero value ≡ not (n == 0)

  told-zero : (b : Bool) → (from_bool (not b) == 0) ≡ not (from_bool b == 0)
  told-zero true = refl
  told-zero false = refl

  -- so the opposite of a comparison does
  by-turned : (n : ℕ) (a c : Expr) → IsTurned a c → Text (text_run.scope_of tree t) Exact bit n a → IsOpposite n c
  by-turned n a c o x =
      let z = turned-number (text_run.scope_of tree t) a c x.base x.k o x.number_is in record {
        value = number Int (from_bool (not z.told));
        gives = z.opposite.valued;
        zero = told-zero z.told ∙ ap (λ k. not (k == 0)) (sym z.is ∙ x.means);
      }

  pub way-gives : (on : Bool) (e : inner.Expr) (one other : ℕ) → is_expr_of s.bits 1 e ≡ true → IsWithin s Has e → Turns on e one other
  way-gives true e one other formed within =
      let x = test-gives e formed within in record { value = number x.base x.k; gives = x.gives; zero = ap (λ k. k == 0) x.is }
  way-gives false e one other formed within =
      let x = text-of e bit Exact formed within in
      let same = promoted-bit x.base x.k (inner_run.value_in i e) x.is x.means x.fits in
      let z = turned-cases (IsOpposite (inner_run.value_in i e)) (Unary Not) (text s Exact false e) (record {
        value = truth (convert x.base (promoted_type x.base) x.k == 0);
        gives = ap (and_then (unary_value Not)) x.number_is.valued;
        zero = truth-opposite (convert x.base (promoted_type x.base) x.k == 0) ∙ ap (λ k. not (k == 0)) same;
      }) (λ c o. by-turned (inner_run.value_in i e) (text s Exact false e) c o x) in
      record { value = z.value; gives = z.gives; zero = z.zero }

  -- a choice is by the value
  pub record Chooses (e : inner.Expr) : Type 0 where
    pub base : Base
    pub k : ℕ
    pub gives : text_value.value_of (text_run.scope_of tree t) (text s Low false e) ≡ Gives (number base k)
    pub is : (converted (plain Uint) (number base k)).bits ≡ inner_run.value_in i e

  pub choice-gives : (e : inner.Expr) → is_expr_of s.bits 16 e ≡ true → IsWithin s Has e → Chooses e
  choice-gives e formed within =
      let x = text-of e word Low formed within in
      record { base = x.base; k = x.k; gives = x.number_is.valued; is = ap (λ k. (converted (plain Uint) (number x.base k)).bits) x.means ∙ word-cast x.base (inner_run.value_in i e) x.is x.fits }

-- a bit is 1 or 0
pub decides : (n : ℕ) → n < 2 → ((n == 0) ≡ false) × ((n == 1) ≡ true) ⊎ ((n == 0) ≡ true) × ((n == 1) ≡ false)
decides zero low = inr (refl, refl)
decides (suc zero) low = inl (refl, refl)
decides (suc (suc k)) low = absurd (omega (arith, low))
