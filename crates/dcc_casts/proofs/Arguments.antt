-- Arguments that are passed one after another.
use Rattle.std.proofs.Common.{◌≡◌, ℕ, ◌+◌, ◌<◌, ◌≤◌, ◌⊎◌, inl, inr, List, [], ◌∷◌, map, drop, length, Option, Some, None, get_or, refl, sym, ap, ◌∙◌, arith}
use Rattle.std.specs.Prelude.{slice_get}
use Rattle.std.proofs.lemmas.List.{at_drop_more, drop_all}
use Rattle.std.proofs.lemmas.Option.{slice_get_cases, slice_get-get_or, slice_get_past}
use denote.Ref.{Bor}
use Rattle.std.specs.Option.{IfSome, MatchOption, option_map}
use Rattle.std.specs.List.{HoldsAt}
use Rattle.dcc_c.specs.declared.syntax.CType.{CType}
use Rattle.dcc_c.specs.declared.syntax.CExpr.{CExpr}
use Rattle.dcc_c.specs.Typing.{Declared}
use Rattle.dcc_c.specs.Views.{expr_of}
use Rattle.dcc_casts.specs.Casts.{becoming, passed, passed_to}

pub passed-step : (ds : List Declared) (types : List CType) (es : List CExpr) (i : ℕ) (e : CExpr) → i < length es →
    passed ds (drop i types) (map expr_of (drop i es)) ≡ passed_to ds (slice_get types i) (expr_of (get_or es i e)) ∷ passed ds (drop (i + 1) types) (map expr_of (drop (i + 1) es))
passed-step ds types es i e within =
    ap (λ hs. passed ds (drop i types) (map expr_of hs)) (at_drop_more (λ xs. xs) es i e within) ∙ by (slice_get_cases types i).1
  where
    by : ((t : CType) × (i < length types) × (slice_get types i ≡ Some t) × (get_or types i t ≡ t)) ⊎ ((length types ≤ i) × (slice_get types i ≡ None)) →
        passed ds (drop i types) (expr_of (get_or es i e) ∷ map expr_of (drop (i + 1) es)) ≡ passed_to ds (slice_get types i) (expr_of (get_or es i e)) ∷ passed ds (drop (i + 1) types) (map expr_of (drop (i + 1) es))
    by (inl some) =
        ap (λ ts. passed ds ts (expr_of (get_or es i e) ∷ map expr_of (drop (i + 1) es))) (at_drop_more (λ xs. xs) types i some.0 some.1)
        ∙ ap (λ t. becoming ds t (expr_of (get_or es i e)) ∷ passed ds (drop (i + 1) types) (map expr_of (drop (i + 1) es))) some.3
        ∙ ap (λ o. passed_to ds o (expr_of (get_or es i e)) ∷ passed ds (drop (i + 1) types) (map expr_of (drop (i + 1) es))) (sym some.2)
    by (inr past) =
        ap (λ ts. passed ds ts (expr_of (get_or es i e) ∷ map expr_of (drop (i + 1) es))) (drop_all i types past.0)
        ∙ ap (λ o. passed_to ds o (expr_of (get_or es i e)) ∷ map expr_of (drop (i + 1) es)) (sym past.1)
        ∙ ap (λ ts. passed_to ds (slice_get types i) (expr_of (get_or es i e)) ∷ passed ds ts (map expr_of (drop (i + 1) es))) (sym (drop_all (i + 1) types (omega (arith, past.0))))

pub passed-none : (ds : List Declared) (types : List CType) → passed ds types [] ≡ []
passed-none ds [] = refl
passed-none ds (t ∷ types) = refl

-- what is lent of a list at a place
pub lent-at : (types : List CType) (i : ℕ) (o : Option (Bor CType)) → IfSome o (λ x. x.now ≡ get_or types i x.now) → MatchOption o (length types ≤ i) (λ x. (i < length types) × HoldsAt (λ y. x.now ≡ y) types i) →
    option_map (λ x. x.now) o ≡ slice_get types i
lent-at types i (Some x) same told = sym (slice_get-get_or types i x.now told.0 ∙ ap Some (sym same))
lent-at types i None same told = sym (slice_get_past types i told)
