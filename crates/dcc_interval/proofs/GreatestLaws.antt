-- The two descriptions of an interval are one.
use Rattle.std.proofs.Common.{◌≡◌, ℕ, zero, suc, ◌+◌, ◌<◌, Bool, true, false, inl, inr, List, [], ◌∷◌, ◌++◌, length, refl, sym, ap, ◌∙◌, subst, arith}
use Rattle.std.specs.Prelude.{◌==◌, ◌⊎◌}
use Rattle.std.proofs.lemmas.Bool.{false≢true, cases_Bool, cases_eq, ne_eqb, or_from}
use Rattle.dcc_ir.specs.Flow.{IsPath}
use Rattle.dcc_ir.specs.WellFormed.{all_differ}
use Rattle.dcc_flow.specs.Edges.{is_in}
use Rattle.dcc_flow.proofs.Members.{in_here, in_there, in_cases, in_left, in_right}
use Rattle.dcc_interval.specs.Graphs.{IsReached}
use Rattle.dcc_interval.specs.Intervals.{InInterval, itself, follows}
use Rattle.dcc_interval.specs.Laws.{IsSingleEntry, IsGreatest}
use Rattle.dcc_interval.proofs.IntervalLaws.{reached_within}
use Rattle.dcc_interval.proofs.PlaceLaws.{differ_more, few}

-- the last edge of a path, and the path before it
record LastEdge (edge : ℕ → ℕ → Bool) (Between : ℕ → Type 0) (a : ℕ) (between : List ℕ) (c : ℕ) : Type 0 where
  front : List ℕ
  last : ℕ
  parts : between ≡ front ++ last ∷ []
  path : IsPath edge Between a front last
  kind : Between last
  goes : edge last c ≡ true

last_edge : (edge : ℕ → ℕ → Bool) (Between : ℕ → Type 0) (a b : ℕ) (bs : List ℕ) (c : ℕ) → IsPath edge Between a (b ∷ bs) c → LastEdge edge Between a (b ∷ bs) c
last_edge edge Between a b [] c p = record { front = []; last = b; parts = refl; path = p.0; kind = p.1; goes = p.2 }
last_edge edge Between a b (d ∷ bs) c p =
    let rest = last_edge edge Between b d bs c p.2 in
    record { front = b ∷ rest.front; last = rest.last; parts = ap (λ l. b ∷ l) rest.parts; path = (p.0, p.1, rest.path); kind = rest.kind; goes = rest.goes }

module _ (edge : ℕ → ℕ → Bool) (entry header : ℕ) (reached : IsReached edge entry header) where
  -- a closed path is followed back to the header
  closed_paths : {n : ℕ} → InInterval edge entry header n → (between : List ℕ) → IsPath edge (InInterval edge entry header) n between n → is_in (n ∷ between) header ≡ true
  closed_paths itself between p = in_here header between
  closed_paths {n = n} (follows off r before) [] p = closed_paths (before n r p) [] p
  closed_paths {n = n} (follows off r before) (b ∷ bs) p =
      let last = last_edge edge (InInterval edge entry header) n b bs n p in
      let turned = closed_paths (before last.last (reached_within edge entry reached last.kind) last.goes) (n ∷ last.front) (last.goes, follows off r before, last.path) in
      subst (λ l. is_in (n ∷ l) header ≡ true) (sym last.parts) (elim (in_cases last.last header (n ∷ last.front) turned) [
        | inl e ↦ in_there n header (last.front ++ last.last ∷ []) (in_right last.front (last.last ∷ []) header (subst (λ k. is_in (last.last ∷ []) k ≡ true) e (in_here last.last [])))
        | inr t ↦ in_left (n ∷ last.front) (last.last ∷ []) header t
      ])

  one_entry : IsSingleEntry edge entry header (InInterval edge entry header)
  one_entry = record {
    own = itself;
    reached = λ n i. reached_within edge entry reached i;
    entered = λ n i. enter i;
    edges = λ m n r e i. lead m r e i;
    closed = λ n between i p. closed_paths i between p;
  }
    where
      enter : {n : ℕ} → InInterval edge entry header n → (n ≡ header) ⊎ (¬ (n ≡ entry))
      enter itself = inl refl
      enter (follows off r before) = inr off

      lead : {n : ℕ} (m : ℕ) → IsReached edge entry m → edge m n ≡ true → InInterval edge entry header n → (n ≡ header) ⊎ InInterval edge entry header m
      lead m r e itself = inl refl
      lead m r e (follows off reached before) = inr (before m r e)

  module _ (count : ℕ) (below : (n : ℕ) → IsReached edge entry n → n < count) (part : ℕ → Bool) (is : IsSingleEntry edge entry header (λ n. part n ≡ true)) where
    -- edges lead from the node along these, which are of the part and not the header
    abbrev IsTrail : ℕ → List ℕ → Type 0
    IsTrail n [] = Unit {0}
    IsTrail n (t ∷ ts) = (edge n t ≡ true) × (part t ≡ true) × ¬ (t ≡ header) × IsTrail t ts

    trail_to : (n : ℕ) (ts : List ℕ) (m : ℕ) → IsTrail n ts → is_in ts m ≡ true
        → (front : List ℕ) × IsPath edge (λ k. part k ≡ true) n front m × (is_in front header ≡ false)
    trail_to n [] m trail h = absurd (false≢true h)
    trail_to n (t ∷ ts) m trail h = elim (in_cases t m ts h) [
      | inl e ↦ ([], subst (λ k. edge n k ≡ true) e trail.0, refl)
      | inr r ↦
          let rest = trail_to t ts m trail.3 r in
          (t ∷ rest.0, (trail.0, trail.1, rest.1), or_from (t == header) (is_in rest.0 header) (ne_eqb t header trail.2) rest.2)
    ]

    -- from a node of the part the way back ends at the header, since it passes no node twice
    back : (fuel n : ℕ) (ts : List ℕ) → IsTrail n ts → part n ≡ true → all_differ (n ∷ ts) ≡ true → ((k : ℕ) → is_in (n ∷ ts) k ≡ true → part k ≡ true)
        → count < fuel + length (n ∷ ts) → InInterval edge entry header n
    back zero n ts trail held differ parts more =
        let all = few (n ∷ ts) count differ (λ k t. below k (is.reached k (parts k t))) in
        absurd (omega (arith, all, more))
    back (suc fuel) n ts trail held differ parts more = elim (cases_eq n header) [
      | inl e ↦ subst (InInterval edge entry header) (sym e) itself
      | inr o ↦ follows
          (λ s. elim (is.entered n held) [ inl e ↦ o e | inr off ↦ off s ])
          (is.reached n held)
          (λ m r e. elim (is.edges m n r e held) [
            | inl same ↦ absurd (o same)
            | inr held_m ↦ elim (cases_Bool (is_in (n ∷ ts) m)) [
              | inl t ↦ elim (cases_eq m header) [
                | inl same ↦ subst (InInterval edge entry header) (sym same) itself
                | inr other ↦ absurd (no_closed m e held_m o other t)
              ]
              | inr f ↦ back fuel m (n ∷ ts) (e, held, o, trail) held_m (differ_more m (n ∷ ts) f differ)
                  (λ k t. elim (in_cases m k (n ∷ ts) t) [ inl same ↦ subst (λ x. part x ≡ true) same held_m | inr old ↦ parts k old ])
                  (omega (arith, more))
            ]
          ])
    ]
      where
        no_closed : (m : ℕ) → edge m n ≡ true → part m ≡ true → ¬ (n ≡ header) → ¬ (m ≡ header) → is_in (n ∷ ts) m ≡ true → ⊥
        no_closed m e held_m o other t = elim (in_cases n m ts t) [
          | inl same ↦
              let own = is.closed m [] held_m (subst (λ k. edge m k ≡ true) same e) in
              elim (in_cases m header [] own) [ inl s ↦ other s | inr none ↦ false≢true none ]
          | inr there ↦
              let way = trail_to n ts m trail there in
              let own = is.closed m (n ∷ way.0) held_m (e, held, way.1) in
              elim (in_cases m header (n ∷ way.0) own) [
                | inl s ↦ other s
                | inr r ↦ elim (in_cases n header way.0 r) [ inl s ↦ o s | inr q ↦ false≢true (sym way.2 ∙ q) ]
              ]
        ]

  pub greatest : (count : ℕ) → ((n : ℕ) → IsReached edge entry n → n < count) → IsGreatest edge entry header
  greatest count below = record {
    is_one = one_entry;
    holds = λ part is n held. back count below part is count n [] tt held refl (λ k t. elim (in_cases n k [] t) [ inl e ↦ subst (λ x. part x ≡ true) e held | inr none ↦ absurd (false≢true none) ]) (omega arith);
  }
