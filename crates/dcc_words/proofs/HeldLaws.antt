-- What a location holds where halves are parts of words, and what is left of it after a location has taken a value.
use Rattle.std.proofs.Common.{◌≡◌, ℕ, ◌+◌, ◌<◌, Bool, true, false, ◌&&◌, List, [], ◌∷◌, ◌++◌, length, map, inl, inr, refl, sym, ap, ap₂, ◌∙◌, subst, true≢false, eqb-true, arith, Contains}
use Rattle.std.specs.Prelude.{if◌then◌else◌, ◌==◌, ◌/◌, ◌%◌, ◌*◌, ◌^◌}
use Rattle.std.specs.List.{list_all}
use Rattle.std.proofs.lemmas.Bool.{and_parts}
use Rattle.dcc_ir.specs.declared.syntax.Loc.{Loc}
use Rattle.dcc_ir.specs.declared.syntax.Loc.TheVariants.{Temp}
use Rattle.dcc_ir.specs.declared.syntax.Put.{Put}
use Rattle.dcc_ir.specs.declared.syntax.Put.TheVariants.{Memory, One, Two}
use Rattle.dcc_ir.specs.declared.syntax.Param.{Param}
use Rattle.dcc_ir.specs.Location.{same_location, location_width, Values, with_value}
use Rattle.dcc_ir.specs.Value.{Environment, value_of, width_of}
use Rattle.dcc_ir.specs.Joinable.{places_of}
use Rattle.dcc_ir.specs.WellFormed.{is_location, is_put, put_width}
use Rattle.dcc_ir.specs.Run.{State, putting, passing}
use Rattle.dcc_ir.specs.Passes.{with_values, FitIn}
use Rattle.dcc_ir.proofs.PathLaws.{decided}
use Rattle.dcc_ir.proofs.LocationLaws.{location_same, location_itself, location_decided, Contains-here, Contains-later, Contains-none, Contains-cases}
use Rattle.std.proofs.lemmas.List.Elements.{Contains-append_cases}
use Rattle.dcc_passes.specs.Renaming.{param_places}
use Rattle.dcc_words.specs.declared.roles.Role.{Role}
use Rattle.dcc_words.specs.declared.roles.Role.TheVariants.{Alone, Low, High}
use Rattle.dcc_words.specs.Words.{is_alone, are_whole, reading_as, reading, put_as, put_in_words, param_in_words, takes_whole}
use Rattle.dcc_words.proofs.RoleLaws.{IsWord, AreRoles}

-- what a location of that role holds
abbrev pub held : Role → Values → Loc → ℕ
held Alone v l = v l
held (Low word) v l = v (Temp word) / 2 ^ 0 % 2 ^ 8
held (High word) v l = v (Temp word) / 2 ^ 8 % 2 ^ 8

pub reading-held : (role : Role) (scene : Environment) (l : Loc) → value_of scene (reading_as role l) ≡ held role scene.values l
reading-held Alone scene l = refl
reading-held (Low word) scene l = refl
reading-held (High word) scene l = refl

pub alone-is : (role : Role) → is_alone role ≡ true → role ≡ Alone
alone-is Alone is = refl
alone-is (Low word) is = absurd (true≢false (sym is))
alone-is (High word) is = absurd (true≢false (sym is))

pub low-part : (h l : ℕ) → l < 2 ^ 8 → (h * 2 ^ 8 + l) / 2 ^ 0 % 2 ^ 8 ≡ l
low-part h l less = omega (arith, less)

pub high-part : (h l : ℕ) → h < 2 ^ 8 → l < 2 ^ 8 → (h * 2 ^ 8 + l) / 2 ^ 8 % 2 ^ 8 ≡ h
high-part h l less less' = omega (arith, less, less')

part-less : (n : ℕ) → n % 2 ^ 8 < 2 ^ 8
part-less n = omega arith

pub taken-here : (v : Values) (x : Loc) (n : ℕ) (l : Loc) → l ≡ x → with_value v x n l ≡ n
taken-here v x n l same = ap (λ b. if b then n else v l) (subst (λ y. same_location l y ≡ true) same (location_itself l))

pub taken-other : (v : Values) (x : Loc) (n : ℕ) (l : Loc) → (l ≡ x → ⊥) → with_value v x n l ≡ v l
taken-other v x n l other = elim (decided (same_location l x)) [
  | inl t ↦ absurd (other (location_same l x t))
  | inr f ↦ ap (λ b. if b then n else v l) f
]

same-or-not : (l x : Loc) (P : Type 0) → (l ≡ x → P) → ((l ≡ x → ⊥) → P) → P
same-or-not l x P here there = elim (decided (same_location l x)) [
  | inl t ↦ here (location_same l x t)
  | inr f ↦ there (λ same. true≢false (sym (subst (λ y. same_location l y ≡ true) same (location_itself l)) ∙ f))
]

same-number : (m n : ℕ) (P : Type 0) → (m ≡ n → P) → ((m ≡ n → ⊥) → P) → P
same-number m n P here there = elim (decided (m == n)) [
  | inl t ↦ here (eqb-true m n t)
  | inr f ↦ there (λ same. true≢false (sym (subst (λ k. (m == k) ≡ true) same (itself m)) ∙ f))
]
  where
    itself : (m : ℕ) → (m == m) ≡ true
    itself m = grind arith

module _ (bits bits' : List ℕ) (role : Loc → Role) (are : AreRoles bits bits' role) where
  -- a location of the graph
  abbrev Here : Loc → Type 0
  Here l = is_location bits l ≡ true

  -- another location than a word
  other-word : (l x : Loc) (word : ℕ) → IsWord bits bits' word → Here x → Temp word ≡ x → ⊥
  other-word l x word is here same = is.fresh x here (sym same)

  alone-not-low : (l : Loc) (w : ℕ) → role l ≡ Alone → role l ≡ Low w → ⊥
  alone-not-low l w h k = let same = sym h ∙ k in absurd (cc)

  alone-not-high : (l : Loc) (w : ℕ) → role l ≡ Alone → role l ≡ High w → ⊥
  alone-not-high l w h k = let same = sym h ∙ k in absurd (cc)

  pub low-not-high : (l m : Loc) (w w' : ℕ) → role l ≡ Low w → role m ≡ High w' → l ≡ m → ⊥
  low-not-high l m w w' h k is = let same = sym h ∙ ap role is ∙ k in absurd (cc)

  low-same : (l : Loc) (w w' : ℕ) → role l ≡ Low w → role l ≡ Low w' → w ≡ w'
  low-same l w w' h k = let same = sym h ∙ k in cc

  high-same : (l : Loc) (w w' : ℕ) → role l ≡ High w → role l ≡ High w' → w ≡ w'
  high-same l w w' h k = let same = sym h ∙ k in cc

  temp-same : (w w' : ℕ) → Temp w ≡ Temp w' → w ≡ w'
  temp-same w w' same = cc

  -- after one that is no half has taken a value
  pub put-alone : (x : Loc) (n n' : ℕ) (v v' : Values) → role x ≡ Alone → Here x → n' ≡ n → (l : Loc) → Here l
      → ((l ≡ x → ⊥) → held (role l) v' l ≡ v l) → held (role l) (with_value v' x n') l ≡ with_value v x n l
  put-alone x n n' v v' alone here same l here-l holds = same-or-not l x _
      (λ is. ap (λ r. held r (with_value v' x n') l) (ap role is ∙ alone) ∙ taken-here v' x n' l is ∙ same ∙ sym (taken-here v x n l is))
      (λ other. go (role l) refl other (holds other) ∙ sym (taken-other v x n l other))
    where
      go : (r : Role) → role l ≡ r → (l ≡ x → ⊥) → held (role l) v' l ≡ v l → held (role l) (with_value v' x n') l ≡ v l
      go Alone is other holds = ap (λ r. held r (with_value v' x n') l) is ∙ taken-other v' x n' l other ∙ sym (ap (λ r. held r v' l) is) ∙ holds
      go (Low word) is other holds =
          ap (λ r. held r (with_value v' x n') l) is
          ∙ ap (λ m. m / 2 ^ 0 % 2 ^ 8) (taken-other v' x n' (Temp word) (other-word l x word (are.low_word l word is) here)) ∙ sym (ap (λ r. held r v' l) is) ∙ holds
      go (High word) is other holds =
          ap (λ r. held r (with_value v' x n') l) is
          ∙ ap (λ m. m / 2 ^ 8 % 2 ^ 8) (taken-other v' x n' (Temp word) (other-word l x word (are.high_word l word is) here)) ∙ sym (ap (λ r. held r v' l) is) ∙ holds

  -- after a word has taken a value
  pub put-word : (word n : ℕ) (v' : Values) → IsWord bits bits' word → (u : Loc → ℕ) (l : Loc) → Here l
      → (role l ≡ Low word → n / 2 ^ 0 % 2 ^ 8 ≡ u l) → (role l ≡ High word → n / 2 ^ 8 % 2 ^ 8 ≡ u l)
      → ((role l ≡ Low word → ⊥) → (role l ≡ High word → ⊥) → held (role l) v' l ≡ u l)
      → held (role l) (with_value v' (Temp word) n) l ≡ u l
  put-word word n v' is u l here low high others = go (role l) refl
    where
      go : (r : Role) → role l ≡ r → held (role l) (with_value v' (Temp word) n) l ≡ u l
      go Alone is' =
          ap (λ r. held r (with_value v' (Temp word) n) l) is' ∙ taken-other v' (Temp word) n l (is.fresh l here)
          ∙ sym (ap (λ r. held r v' l) is') ∙ others (λ e. alone-not-low l word is' e) (λ e. alone-not-high l word is' e)
      go (Low w) is' = same-number w word _
          (λ same.
          ap (λ r. held r (with_value v' (Temp word) n) l) is' ∙ ap (λ m. m / 2 ^ 0 % 2 ^ 8) (taken-here v' (Temp word) n (Temp w) (ap Temp same))
          ∙ low (is' ∙ ap Low same))
          (λ other.
          ap (λ r. held r (with_value v' (Temp word) n) l) is'
          ∙ ap (λ m. m / 2 ^ 0 % 2 ^ 8) (taken-other v' (Temp word) n (Temp w) (λ e. other (temp-same w word e)))
          ∙ sym (ap (λ r. held r v' l) is') ∙ others (λ e. other (low-same l w word is' e)) (λ e. low-not-high l l w word is' e refl))
      go (High w) is' = same-number w word _
          (λ same.
          ap (λ r. held r (with_value v' (Temp word) n) l) is' ∙ ap (λ m. m / 2 ^ 8 % 2 ^ 8) (taken-here v' (Temp word) n (Temp w) (ap Temp same))
          ∙ high (is' ∙ ap High same))
          (λ other.
          ap (λ r. held r (with_value v' (Temp word) n) l) is'
          ∙ ap (λ m. m / 2 ^ 8 % 2 ^ 8) (taken-other v' (Temp word) n (Temp w) (λ e. other (temp-same w word e)))
          ∙ sym (ap (λ r. held r v' l) is') ∙ others (λ e. low-not-high l l word w e is' refl) (λ e. other (high-same l w word is' e)))

  -- after the lower half of a word has taken a value, where the upper one stays
  pub put-low : (x : Loc) (word n : ℕ) (v v' : Values) → role x ≡ Low word → n < 2 ^ 8 → (l : Loc) → Here l
      → ((l ≡ x → ⊥) → held (role l) v' l ≡ v l)
      → held (role l) (with_value v' (Temp word) (v' (Temp word) / 2 ^ 8 % 2 ^ 8 * 2 ^ 8 + n)) l ≡ with_value v x n l
  put-low x word n v v' is less l here holds =
      let h = v' (Temp word) / 2 ^ 8 % 2 ^ 8 in
      let small = part-less (v' (Temp word) / 2 ^ 8) in
      put-word word (h * 2 ^ 8 + n) v' (are.low_word x word is) (with_value v x n) l here
      (λ low. low-part h n less ∙ sym (taken-here v x n l (are.low_one l x word low is)))
      (λ high.
      let other = λ (same : l ≡ x). low-not-high x l word word is high (sym same) in
      high-part h n small less ∙ sym (ap (λ r. held r v' l) high) ∙ holds other ∙ sym (taken-other v x n l other))
      (λ none none'. let other = λ (same : l ≡ x). none (ap role same ∙ is) in holds other ∙ sym (taken-other v x n l other))

  -- after the upper half has taken one
  pub put-high : (x : Loc) (word n : ℕ) (v v' : Values) → role x ≡ High word → n < 2 ^ 8 → (l : Loc) → Here l
      → ((l ≡ x → ⊥) → held (role l) v' l ≡ v l)
      → held (role l) (with_value v' (Temp word) (n * 2 ^ 8 + v' (Temp word) / 2 ^ 0 % 2 ^ 8)) l ≡ with_value v x n l
  put-high x word n v v' is less l here holds =
      let m = v' (Temp word) / 2 ^ 0 % 2 ^ 8 in
      let small = part-less (v' (Temp word) / 2 ^ 0) in
      put-word word (n * 2 ^ 8 + m) v' (are.high_word x word is) (with_value v x n) l here
      (λ low.
      let other = λ (same : l ≡ x). low-not-high l x word word low is same in
      low-part n m small ∙ sym (ap (λ r. held r v' l) low) ∙ holds other ∙ sym (taken-other v x n l other))
      (λ high. high-part n m less small ∙ sym (taken-here v x n l (are.high_one l x word high is)))
      (λ none none'. let other = λ (same : l ≡ x). none' (ap role same ∙ is) in holds other ∙ sym (taken-other v x n l other))

  -- after both have taken one, in either order
  pub put-both : (low high : Loc) (word m n : ℕ) (v v' : Values) (u : Loc → ℕ) → role low ≡ Low word → role high ≡ High word
      → n / 2 ^ 0 % 2 ^ 8 ≡ u low → n / 2 ^ 8 % 2 ^ 8 ≡ u high → (l : Loc) → Here l
      → ((l ≡ low → ⊥) → (l ≡ high → ⊥) → (held (role l) v' l ≡ v l) × (u l ≡ v l))
      → held (role l) (with_value v' (Temp word) n) l ≡ u l
  put-both low high word m n v v' u is is' lows highs l here holds =
      put-word word n v' (are.low_word low word is) u l here
      (λ e. lows ∙ ap u (are.low_one low l word is e)) (λ e. highs ∙ ap u (are.high_one high l word is' e))
      (λ none none'.
      let both = holds (λ same. none (ap role same ∙ is)) (λ same. none' (ap role same ∙ is')) in
      both.0 ∙ sym both.1)

  -- after results are given back to locations that are no halves
  pub given-held : (results : List Loc) (widths r : List ℕ) (v v' : Values) → list_all (λ l. is_alone (role l)) results ≡ true → list_all (is_location bits) results ≡ true
      → length widths ≡ length results → FitIn widths r → (l : Loc) → Here l → ((Contains results l → ⊥) → held (role l) v' l ≡ v l)
      → held (role l) (with_values v' results r) l ≡ with_values v results r l
  given-held [] [] [] v v' alone heres len fit l here holds = holds (Contains-none l)
  given-held (x ∷ results) (width ∷ widths) (n ∷ r) v v' alone heres len fit l here holds =
      let a = and_parts (is_alone (role x)) (list_all (λ l. is_alone (role l)) results) alone in
      let p = and_parts (is_location bits x) (list_all (is_location bits) results) heres in
      given-held results widths r (with_value v x n) (with_value v' x n) a.1 p.1 (cc) fit.1 l here
      (λ out. put-alone x n n v v' (alone-is (role x) a.0) p.0 refl l here
      (λ other. holds (λ c. Contains-cases x results l ⊥ (λ same. other (sym same)) out c)))
  given-held [] [] (n ∷ r) v v' alone heres len fit l here holds = absurd fit
  given-held (x ∷ results) (width ∷ widths) [] v v' alone heres len fit l here holds = absurd fit
  given-held (x ∷ results) [] r v v' alone heres len fit l here holds = absurd (cc)
  given-held [] (width ∷ widths) r v v' alone heres len fit l here holds = absurd (cc)

  -- Arguments.

  abbrev Held : State → State → Loc → Type 0
  Held s t l = held (role l) t.running.values l ≡ s.running.values l

  pub whole-cases : (low high : Loc) (P : Type 0) → are_whole (role low) (role high) ≡ true → (role low ≡ Alone → role high ≡ Alone → P)
      → ((word : ℕ) → role low ≡ Low word → role high ≡ High word → P) → P
  whole-cases low high P whole alone word = go (role low) (role high) refl refl whole
    where
      go : (a b : Role) → role low ≡ a → role high ≡ b → are_whole a b ≡ true → P
      go Alone Alone h k is = alone h k
      go (Low w) (High w') h k is = word w h (k ∙ ap High (sym (eqb-true w w' is)))
      go Alone (Low w) h k is = absurd (true≢false (sym is))
      go Alone (High w) h k is = absurd (true≢false (sym is))
      go (Low w) Alone h k is = absurd (true≢false (sym is))
      go (Low w) (Low w') h k is = absurd (true≢false (sym is))
      go (High w) Alone h k is = absurd (true≢false (sym is))
      go (High w) (Low w') h k is = absurd (true≢false (sym is))
      go (High w) (High w') h k is = absurd (true≢false (sym is))

  -- after an argument has gone to its place
  putting-held : (j : ℕ) (put : Put) (n : ℕ) (s t : State) → takes_whole role put ≡ true → is_put bits put ≡ true → n < 2 ^ put_width bits put → (l : Loc) → Here l
      → ((Contains (places_of put) l → ⊥) → Held s t l) → Held (putting j put n s) (putting j (put_in_words role put) n t) l
  putting-held j Memory n s t whole formed less l here holds = holds (Contains-none l)
  putting-held j (One x) n s t whole formed less l here holds =
      put-alone x n n s.running.values t.running.values (alone-is (role x) whole) formed refl l here
      (λ other. holds (λ c. Contains-cases x [] l ⊥ (λ same. other (sym same)) (Contains-none l) c))
  putting-held j (Two low high) n s t whole formed less l here holds =
      whole-cases low high (Held (putting j (Two low high) n s) (putting j (put_as (role low) low high) n t) l) whole
      (λ a b.
      subst (λ r. Held (putting j (Two low high) n s) (putting j (put_as r low high) n t) l) (sym a)
      (put-alone high (n / 256) (n / 256) (with_value v low (n % 256)) (with_value v' low (n % 256)) b places.1 refl l here
      (λ other-high. put-alone low (n % 256) (n % 256) v v' a places.0 refl l here
      (λ other-low. holds (out other-low other-high)))))
      (λ word a b.
      subst (λ r. Held (putting j (Two low high) n s) (putting j (put_as r low high) n t) l) (sym a)
      (put-both low high word 0 n v v' (with_value (with_value v low (n % 256)) high (n / 256)) a b
      (low-taken word a b) (high-taken word a b) l here
      (λ other-low other-high. (
        holds (out other-low other-high),
        taken-other (with_value v low (n % 256)) high (n / 256) l other-high ∙ taken-other v low (n % 256) l other-low,
      ))))
    where
      v : Values
      v = s.running.values

      v' : Values
      v' = t.running.values

      places : (is_location bits low ≡ true) × (is_location bits high ≡ true)
      places =
          let p = and_parts (is_location bits low && is_location bits high && (location_width bits low == 8)) (location_width bits high == 8) formed in
          let q = and_parts (is_location bits low && is_location bits high) (location_width bits low == 8) p.0 in
          and_parts (is_location bits low) (is_location bits high) q.0

      out : (l ≡ low → ⊥) → (l ≡ high → ⊥) → Contains (low ∷ high ∷ []) l → ⊥
      out other-low other-high c =
          Contains-cases low (high ∷ []) l ⊥ (λ same. other-low (sym same))
          (λ d. Contains-cases high [] l ⊥ (λ same. other-high (sym same)) (Contains-none l) d) c

      differ : (word : ℕ) → role low ≡ Low word → role high ≡ High word → low ≡ high → ⊥
      differ word a b same = low-not-high low high word word a b same

      low-taken : (word : ℕ) → role low ≡ Low word → role high ≡ High word
          → n / 2 ^ 0 % 2 ^ 8 ≡ with_value (with_value v low (n % 256)) high (n / 256) low
      low-taken word a b =
          omega arith ∙ sym (taken-here v low (n % 256) low refl)
          ∙ sym (taken-other (with_value v low (n % 256)) high (n / 256) low (differ word a b))

      high-taken : (word : ℕ) → role low ≡ Low word → role high ≡ High word
          → n / 2 ^ 8 % 2 ^ 8 ≡ with_value (with_value v low (n % 256)) high (n / 256) high
      high-taken word a b =
          omega (arith, less) ∙ sym (taken-here (with_value v low (n % 256)) high (n / 256) high refl)

  -- after all arguments have gone to their places
  pub passing-held : (j : ℕ) (params : List Param) (a : List ℕ) (s t : State) → list_all (λ p. takes_whole role p.put) params ≡ true
      → list_all (λ p. is_put bits p.put) params ≡ true → FitIn (map (λ q. put_width bits q.put) params) a → (l : Loc) → Here l
      → ((Contains (param_places params) l → ⊥) → Held s t l) → Held (passing j params a s) (passing j (map (param_in_words role) params) a t) l
  passing-held j [] [] s t whole formed fit l here holds = holds (Contains-none l)
  passing-held j (p ∷ params) (n ∷ a) s t whole formed fit l here holds =
      let w = and_parts (takes_whole role p.put) (list_all (λ p. takes_whole role p.put) params) whole in
      let f = and_parts (is_put bits p.put) (list_all (λ p. is_put bits p.put) params) formed in
      passing-held (j + 1) params a (putting j p.put n s) (putting j (put_in_words role p.put) n t) w.1 f.1 fit.1 l here
      (λ out. putting-held j p.put n s t w.0 f.0 fit.0 l here
      (λ out'. holds (λ c. elim (Contains-append_cases (places_of p.put) (param_places params) l c) [
        | inl d ↦ out' d
        | inr d ↦ out d
      ])))
  passing-held j [] (n ∷ a) s t whole formed fit l here holds = absurd fit
  passing-held j (p ∷ params) [] s t whole formed fit l here holds = absurd fit

  -- the memory after arguments
  pub passing-outside : (j : ℕ) (params : List Param) (a : List ℕ) (s t : State) → t.memory ≡ s.memory → t.running.base ≡ s.running.base
      → (passing j (map (param_in_words role) params) a t).memory ≡ (passing j params a s).memory
  passing-outside j [] a s t memory base = memory
  passing-outside j (p ∷ params) [] s t memory base = memory
  passing-outside j (p ∷ params) (n ∷ a) s t memory base =
      let outside = go p.put in
      passing-outside (j + 1) params a (putting j p.put n s) (putting j (put_in_words role p.put) n t) outside.0 outside.1
    where
      two : (r : Role) (low high : Loc) → ((putting j (put_as r low high) n t).memory ≡ s.memory) × ((putting j (put_as r low high) n t).running.base ≡ s.running.base)
      two Alone low high = (memory, base)
      two (Low word) low high = (memory, base)
      two (High word) low high = (memory, base)

      go : (put : Put) → ((putting j (put_in_words role put) n t).memory ≡ (putting j put n s).memory)
          × ((putting j (put_in_words role put) n t).running.base ≡ (putting j put n s).running.base)
      go Memory = (let m = memory in let b = base in cc, base)
      go (One x) = (memory, base)
      go (Two low high) = two (role low) low high
