-- What is found in an expression's parts, and in some expressions.
use Rattle.std.proofs.Common.{◌≡◌, ◌≢◌, ◌⊎◌, ℕ, zero, suc, ◌+◌, ◌<◌, ◌≤◌, Bool, true, false, ◌||◌, inl, inr, List, [], ◌∷◌, ◌++◌, length, map, take, get_or, Option, Some, None, refl, sym, ap, ◌∙◌, subst, arith, true≢false, Contains}
use Rattle.std.specs.Prelude.{MatchOption}
use Rattle.std.proofs.lemmas.List.Elements.{Contains-push_cases, Contains-get_or}
use Rattle.dcc_ir.specs.declared.syntax.Loc.{Loc}
use Rattle.dcc_ir.specs.declared.syntax.Loc.TheVariants.{Temp}
use Rattle.dcc_ir.specs.Joinable.{with_value_for}
use Rattle.dcc_ir.specs.Live.{is_among}
use Rattle.dcc_ir.specs.Tree.{Expr, Get, Join}
use Rattle.dcc_ir.specs.Use.{parts_of, reads_of}
use Rattle.dcc_ir.proofs.FitLaws.{either}
use Rattle.dcc_ir.proofs.GraphLaws.{or_there}
use Rattle.dcc_ir.proofs.LocationLaws.{location_itself, Contains-here, Contains-later, Contains-none, Contains-cases}
use Rattle.dcc_ir.specs.Tree.{Graph}
use Rattle.dcc_available.specs.Shape.{is_within}
use Rattle.dcc_available.proofs.StepLaws.{taken-more}
use Rattle.dcc_available.proofs.WithinLaws.{within_depth}
use Rattle.dcc_fold.specs.Joinable.{IsAlone}
use Rattle.dcc_fold.specs.Known.{Known, told}
use Rattle.dcc_fold.specs.Found.{IsFoundIn, IsFoundBy, IsFoundAmong}
use Rattle.dcc_fold.proofs.DepthLaws.{depth-within}
use Rattle.dcc_fold.proofs.FoundLaws.{reads-two, got-one}

some-value : (v w : Expr) → Some v ≡ Some w → v ≡ w
some-value v w is = cc

same-number : (n t : ℕ) → Temp n ≡ Temp t → n ≡ t
same-number n t is = cc

-- an expression reads what two others read
abbrev pub ReadsBoth : Expr → Expr → Expr → Type 0
ReadsBoth e a b = (l : Loc) → is_among (reads_of e) l ≡ (is_among (reads_of a) l || is_among (reads_of b) l)

-- operands that follow each other
pub reads-both : (e a b : Expr) → reads_of e ≡ reads_of (Join a b) → ReadsBoth e a b
reads-both e a b same l = ap (λ xs. is_among xs l) same ∙ reads-two (parts_of a) (parts_of b) l

module _ (graph : Graph) (known : Known) where
  -- A read.

  module _ (whole : Expr) where
    pub none-read : (l : Loc) → ((n : ℕ) → l ≢ Temp n) → (n : ℕ) → ¬ IsFoundBy graph known whole (Get l) n
    none-read l other n found = other n (got-one l n found.0)

    -- of another temporary nothing is found
    pub one-read : (l : Loc) (t : ℕ) → l ≡ Temp t → ¬ IsFoundIn graph known whole t → (n : ℕ) → ¬ IsFoundBy graph known whole (Get l) n
    one-read l t is none n found =
        none (subst (IsFoundIn graph known whole) (same-number n t (sym (got-one l n found.0) ∙ is)) found.1)

    pub not-told : (t : ℕ) → told known t ≡ None → ¬ IsFoundIn graph known whole t
    not-told t none found = absurd (let fails : None ≡ Some found.value = sym none ∙ found.is_told in cc)

    pub too-deep : (t : ℕ) (value : Expr) → told known t ≡ Some value → is_within (with_value_for (Temp t) value whole) 32 ≡ false → ¬ IsFoundIn graph known whole t
    too-deep t value is deep found =
        let same : value ≡ found.value = some-value value found.value (sym is ∙ found.is_told) in
        true≢false (sym (depth-within (with_value_for (Temp t) found.value whole) 32 found.shallow) ∙ subst (λ v. is_within (with_value_for (Temp t) v whole) 32 ≡ false) same deep)

    pub read-found : (l : Loc) (t : ℕ) (value : Expr) → l ≡ Temp t → IsAlone graph t → told known t ≡ Some value → is_within (with_value_for (Temp t) value whole) 32 ≡ true
        → IsFoundBy graph known whole (Get l) t
    read-found l t value is alone told_is within = (
      ap (λ x. is_among (x ∷ []) (Temp t)) is ∙ ap (λ b. b || false) (location_itself (Temp t)),
      record { alone = alone; value = value; is_told = told_is; shallow = within_depth (with_value_for (Temp t) value whole) 32 within },
    )

    -- Parts.

    abbrev pub Finding : Expr → Option ℕ → Type 0
    Finding part found = MatchOption found ((n : ℕ) → ¬ IsFoundBy graph known whole part n) (IsFoundBy graph known whole part)

    pub nothing-read : (e : Expr) → reads_of e ≡ [] → (n : ℕ) → ¬ IsFoundBy graph known whole e n
    nothing-read e none n found = true≢false (sym found.0 ∙ ap (λ xs. is_among xs (Temp n)) none)

    pub same-reads : (e a : Expr) → reads_of e ≡ reads_of a → (found : Option ℕ) → Finding a found → Finding e found
    same-reads e a same None none = λ n found. none n (subst (λ xs. is_among xs (Temp n) ≡ true) same found.0, found.1)
    same-reads e a same (Some t) is = (subst (λ xs. is_among xs (Temp t) ≡ true) (sym same) is.0, is.1)

    pub left-found : (e a b : Expr) → ReadsBoth e a b → (t : ℕ) → IsFoundBy graph known whole a t → IsFoundBy graph known whole e t
    left-found e a b both t is = (both (Temp t) ∙ ap (λ c. c || is_among (reads_of b) (Temp t)) is.0, is.1)

    pub right-found : (e a b : Expr) → ReadsBoth e a b → ((n : ℕ) → ¬ IsFoundBy graph known whole a n) → (found : Option ℕ) → Finding b found → Finding e found
    right-found e a b both none None also = λ n found. elim (either (is_among (reads_of a) (Temp n)) (is_among (reads_of b) (Temp n)) (sym (both (Temp n)) ∙ found.0)) [
      | inl one ↦ none n (one, found.1)
      | inr other ↦ also n (other, found.1)
    ]
    right-found e a b both none (Some t) is = (both (Temp t) ∙ or_there (is_among (reads_of a) (Temp t)) (is_among (reads_of b) (Temp t)) is.0, is.1)

  -- Some expressions.

  abbrev pub FindingAmong : List Expr → Option ℕ → Type 0
  FindingAmong es found = MatchOption found ((n : ℕ) → ¬ IsFoundAmong graph known es n) (IsFoundAmong graph known es)

  pub none-among : (n : ℕ) → ¬ IsFoundAmong graph known [] n
  none-among n found = Contains-none found.reader found.there

  pub one-found : (es : List Expr) (e : Expr) → Contains es e → (t : ℕ) → IsFoundBy graph known e e t → IsFoundAmong graph known es t
  one-found es e there t is = record { reader = e; there = there; found = is }

  pub none-more : (es : List Expr) (e : Expr) → ((n : ℕ) → ¬ IsFoundAmong graph known es n) → ((n : ℕ) → ¬ IsFoundBy graph known e e n) → (n : ℕ) → ¬ IsFoundAmong graph known (es ++ e ∷ []) n
  none-more es e none also n found = elim (Contains-push_cases es e found.reader found.there) [
    | inl before ↦ none n (record { reader = found.reader; there = before; found = found.found })
    | inr same ↦ also n (subst (λ x. IsFoundBy graph known x x n) (sym same) found.found)
  ]

  pub one-among : (e : Expr) (found : Option ℕ) → Finding e e found → FindingAmong (e ∷ []) found
  one-among e None none = none-more [] e none-among none
  one-among e (Some t) is = one-found (e ∷ []) e (Contains-here e []) t is

  pub second-among : (a b : Expr) → ((n : ℕ) → ¬ IsFoundBy graph known a a n) → (found : Option ℕ) → Finding b b found → FindingAmong (a ∷ b ∷ []) found
  second-among a b none None also = none-more (a ∷ []) b (none-more [] a none-among none) also
  second-among a b none (Some t) is = one-found (a ∷ b ∷ []) b (Contains-later a (b ∷ []) b (Contains-here b [])) t is

  -- Of the code's expressions.

  module _ {E : Type 0} (of : E → Expr) (es : List E) (i : ℕ) (e : E) (is : e ≡ get_or es i e) (less : i < length es) where
    pub none-taken : ((n : ℕ) → ¬ IsFoundAmong graph known (map of (take i es)) n) → ((n : ℕ) → ¬ IsFoundBy graph known (of e) (of e) n)
        → (n : ℕ) → ¬ IsFoundAmong graph known (map of (take (i + 1) es)) n
    none-taken none also n found =
        none-more (map of (take i es)) (of e) none also n (subst (λ xs. IsFoundAmong graph known xs n) (taken-more of es i e is less) found)

    pub found-taken : (t : ℕ) → IsFoundBy graph known (of e) (of e) t → IsFoundAmong graph known (map of es) t
    found-taken t found =
        one-found (map of es) (of e) (subst (Contains (map of es)) (ap of (sym is)) (contains-mapped es i e less)) t found
      where
        contains-mapped : (xs : List E) (k : ℕ) (d : E) → k < length xs → Contains (map of xs) (of (get_or xs k d))
        contains-mapped [] k d small = absurd (omega (arith, small))
        contains-mapped (x ∷ xs) zero d small = Contains-here (of x) (map of xs)
        contains-mapped (x ∷ xs) (suc k) d small = Contains-later (of x) (map of xs) (of (get_or xs k d)) (contains-mapped xs k d (omega (arith, small)))
