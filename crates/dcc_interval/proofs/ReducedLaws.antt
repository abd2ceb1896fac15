-- Laws of the reduction of a graph, by the lists of the nodes before each node.
use Rattle.std.proofs.Common.{◌≡◌, ℕ, ◌<◌, Bool, true, false, ◌||◌, inl, inr, List, [], length, get_or, replicate, sym, ap, ◌∙◌, subst, arith}
use Rattle.std.specs.Prelude.{◌==◌}
use Rattle.std.specs.List.{list_all}
use Rattle.std.proofs.lemmas.Bool.{false≢true, cases_lt, eqb-true, eq-eqb, or_cases, or_left}
use Rattle.std.proofs.lemmas.List.{length-replicate, get_or_past}
use Rattle.dcc_flow.specs.Edges.{is_in, leads}
use Rattle.dcc_interval.specs.declared.reduce.Reducing.{Reducing as ReducingOf}
use Rattle.dcc_interval.specs.Graphs.{IsReached}
use Rattle.dcc_interval.specs.Noted.{Noted}
use Rattle.dcc_interval.specs.Reaching.{AreReached, AreTurned}
use Rattle.dcc_interval.specs.Reduction.{IsReduced}
use Rattle.dcc_interval.specs.Reducing.{regions_of, AreAlone, AreRegions, comes_to, at_in, marked_in, IsReducing, AreLeft, AreDone}
use Rattle.dcc_interval.proofs.ReachLaws.{edge_within, none_marked}
use Rattle.dcc_interval.proofs.CollapseLaws.{same_test}
use Rattle.dcc_interval.proofs.NumberLaws.{alone_region, alone_whole}
use Rattle.dcc_interval.proofs.JoinedLaws.{joined_first, reduced, reached_over, reached_back, reduced_over}
use Rattle.dcc_interval.proofs.TryLaws.{below, each_passes, all_pass}

module _ (next : List (List ℕ)) (entry : ℕ) (sources : List (List ℕ)) (graph : AreTurned next entry sources) where
  abbrev edge : ℕ → ℕ → Bool
  edge = comes_to sources

  listed_edge : (m n : ℕ) → edge m n ≡ true → IsReached (leads next) entry m × (leads next m n ≡ true)
  listed_edge m n t = elim (cases_lt n (length next)) [
    | inl less ↦ (graph.exact m n less).0 t
    | inr past ↦ absurd (false≢true (sym (ap (λ l. is_in l m) (get_or_past sources n [] (omega (arith, past, graph.count)))) ∙ t))
  ]

  same_edge : (m n : ℕ) → IsReached (leads next) entry m → leads next m n ≡ edge m n
  same_edge m n r =
      same_test (leads next m n) (edge m n) (λ e. (graph.exact m n (edge_within next graph.within m n e)).1 (r, e)) (λ t. (listed_edge m n t).1)

  inside : entry < length sources
  inside = omega (arith, graph.inside, graph.count)

  pub reducing_first : (r : ReducingOf) → AreAlone (length next) (regions_of r.regions) → r.headers.items ≡ replicate (length next) false → IsReducing sources entry r
  reducing_first r alone none = record {
    whole = subst (λ k. AreRegions k (regions_of r.regions)) (sym graph.count) (alone_whole (length next) (regions_of r.regions) alone);
    marks = ap length none ∙ length-replicate {A = Bool} (length next) false ∙ sym graph.count;
    listed = λ m n t. reached_over (leads next) edge entry same_edge (listed_edge m n t).0;
    joined = joined_first edge entry (at_in r) (marked_in r)
        (λ n s. alone_region (length next) (regions_of r.regions) alone n (let less = below sources entry inside s in omega (arith, less, graph.count)))
        (λ n. ap (λ l. get_or l n false) none ∙ none_marked (length next) n);
  }

  pub left_first : (r : ReducingOf) (found : Noted) → AreReached next entry found → (nodes : List ℕ) → nodes ≡ found.list → AreLeft sources entry r nodes
  left_first r found are nodes is = record {
    reached = λ n t. reached_over (leads next) edge entry same_edge ((are.exact n).0 (subst (λ l. is_in l n ≡ true) is t));
    all = λ n s own. subst (λ l. is_in l n ≡ true) (sym is) ((are.exact n).1 (reached_back (leads next) edge entry same_edge s));
  }

  pub reduced_last : (r : ReducingOf) → IsReducing sources entry r → AreDone sources entry r → (left : List ℕ) → AreLeft sources entry r left
      → (one : Bool) → one ≡ list_all (λ n. at_in r n == entry || at_in r n == entry) left → IsReduced (leads next) entry (marked_in r) one
  reduced_last r reducing done left are one told =
      reduced_over edge (leads next) entry (λ m n s. sym (same_edge m n (reached_back (leads next) edge entry same_edge s))) (marked_in r) one
      (reduced edge entry (at_in r) (marked_in r) reducing.joined done one (
        λ h n s.
            let own = reducing.joined.own n s in
            let t = are.all (at_in r n) (reducing.joined.reached n s) own in
            elim (or_cases (at_in r (at_in r n) == entry) (at_in r (at_in r n) == entry)
            (each_passes (λ n. at_in r n == entry || at_in r n == entry) left (at_in r n) (sym told ∙ h) t)) [
              | inl e ↦ sym own ∙ eqb-true (at_in r (at_in r n)) entry e
              | inr e ↦ sym own ∙ eqb-true (at_in r (at_in r n)) entry e
            ],
        λ all. told ∙ all_pass (λ n. at_in r n == entry || at_in r n == entry) left (λ n t.
            or_left (at_in r n == entry) (at_in r n == entry) (eq-eqb (at_in r n) entry (all n (are.reached n t)))),
      ))
