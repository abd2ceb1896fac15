-- Laws of the variables and the memory of a call that begins.
use Rattle.std.proofs.Common.{◌≡◌, ◌⊎◌, ℕ, zero, suc, ◌+◌, ◌<◌, ◌≤◌, min, List, [], ◌∷◌, length, drop, get_or, inl, inr, refl, sym, ap, ◌∙◌, arith}
use Rattle.std.proofs.lemmas.List.{drop_all, at_drop_more}
use Rattle.dcc_value.specs.declared.value.Value.{Value as Held}
use Rattle.dcc_prepare.specs.declared.program.Variable.{Variable}
use Rattle.dcc_prepare.specs.Frames.{params_holding, with_argument, arguments_put}

-- one of two lists has ended
min_end : (a b : ℕ) → (a ≤ min a b) ⊎ (b ≤ min a b)
min_end zero b = inl (omega arith)
min_end (suc a) zero = inr (omega arith)
min_end (suc a) (suc b) = elim (min_end a b) [ inl le ↦ inl (omega arith) | inr le ↦ inr (omega arith) ]

pub past_min : (i a b : ℕ) → min a b ≤ i → (a ≤ i) ⊎ (b ≤ i)
past_min i a b past = elim (min_end a b) [ inl le ↦ inl (omega (arith, past, le)) | inr le ↦ inr (omega (arith, past, le)) ]

params-none : (base : ℕ) (params : List Variable) → params_holding base params [] ≡ []
params-none base [] = refl
params-none base (v ∷ params) = refl

put-none : (base : ℕ) (params : List Variable) (memory : List ℕ) → arguments_put base params [] memory ≡ memory
put-none base [] memory = refl
put-none base (v ∷ params) memory = refl

pub params-end : (base i : ℕ) (params : List Variable) (arguments : List Held) → (length params ≤ i) ⊎ (length arguments ≤ i) →
    params_holding base (drop i params) (drop i arguments) ≡ []
params-end base i params arguments end = elim end [
  | inl le ↦ ap (λ l. params_holding base l (drop i arguments)) (drop_all i params le)
  | inr le ↦ ap (λ l. params_holding base (drop i params) l) (drop_all i arguments le) ∙ params-none base (drop i params)
]

pub put-end : (base i : ℕ) (params : List Variable) (arguments : List Held) (memory : List ℕ) → (length params ≤ i) ⊎ (length arguments ≤ i) →
    arguments_put base (drop i params) (drop i arguments) memory ≡ memory
put-end base i params arguments memory end = elim end [
  | inl le ↦ ap (λ l. arguments_put base l (drop i arguments) memory) (drop_all i params le)
  | inr le ↦ ap (λ l. arguments_put base (drop i params) l memory) (drop_all i arguments le) ∙ put-none base (drop i params) memory
]

pub put-step : (base i : ℕ) (params : List Variable) (arguments : List Held) (memory : List ℕ) (v d : Variable) (a e : Held) →
    i < length params → i < length arguments → v ≡ get_or params i d → a ≡ get_or arguments i e →
    arguments_put base (drop i params) (drop i arguments) memory
    ≡ arguments_put base (drop (i + 1) params) (drop (i + 1) arguments) (with_argument base v a memory)
put-step base i params arguments memory v d a e within inside is has =
    at_drop_more (λ l. arguments_put base l (drop i arguments) memory) params i d within
    ∙ ap (λ x. arguments_put base (x ∷ drop (i + 1) params) (drop i arguments) memory) (sym is)
    ∙ at_drop_more (λ l. arguments_put base (v ∷ drop (i + 1) params) l memory) arguments i e inside
    ∙ ap (λ x. arguments_put base (drop (i + 1) params) (drop (i + 1) arguments) (with_argument base v x memory)) (sym has)
