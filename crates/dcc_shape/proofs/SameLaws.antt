-- The loop headers of a procedure are those of each derived sequence of its graph.
use Rattle.std.proofs.Common.{◌≡◌, ℕ, Bool, false, List, [], ◌∷◌, map, length, refl, sym, ap, ◌∙◌}
use Rattle.std.specs.Prelude.{◌==◌, filter}
use Rattle.dcc_flow.specs.Edges.{leads}
use Rattle.dcc_interval.specs.Intervals.{Interval}
use Rattle.dcc_interval.specs.Derived.{IsDerived, ends_in_one}
use Rattle.dcc_interval.specs.Laws.{AreAlike}
use Rattle.dcc_interval.proofs.AgreeLaws.{are_alike}
use Rattle.dcc_shape.specs.Procedures.{Flow, addresses, place_at, next_of, headers}

-- the last of the numbers is 1
abbrev last_is_one : List ℕ → Bool
last_is_one [] = false
last_is_one (n ∷ []) = n == 1
last_is_one (n ∷ ns) = last_is_one ns

ends-counts : (levels : List (List Interval)) → ends_in_one levels ≡ last_is_one (map (λ (l : List Interval). length l) levels)
ends-counts [] = refl
ends-counts (level ∷ []) = refl
ends-counts (level ∷ next ∷ levels) = ends-counts (next ∷ levels)

module _ (flow : Flow) (levels others : List (List Interval)) (d : IsDerived (leads (next_of flow)) (place_at flow flow.entry) levels)
    (e : IsDerived (leads (next_of flow)) (place_at flow flow.entry) others) where
  alike : AreAlike (leads (next_of flow)) levels others
  alike = are_alike (leads (next_of flow)) (place_at flow flow.entry) levels others d e

  pub heads-same : headers flow levels ≡ headers flow others
  heads-same = ap (λ (t : ℕ → Bool). filter (λ at. t (place_at flow at)) (addresses flow)) (λ i n. alike.headers n i)

  pub one-same : ends_in_one levels ≡ ends_in_one others
  one-same = ends-counts levels ∙ ap last_is_one alike.counts ∙ sym (ends-counts others)
