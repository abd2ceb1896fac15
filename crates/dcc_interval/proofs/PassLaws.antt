-- Laws of a pass over the nodes whose regions may be joined.
use Rattle.std.proofs.Common.{◌≡◌, ℕ, ◌+◌, ◌≤◌, true, ◌⊎◌, inl, inr, List, [], ◌∷◌, ◌++◌, length, sym, ap, ◌∙◌, subst, arith}
use Rattle.std.proofs.lemmas.Bool.{false≢true, cases_eq}
use Rattle.std.proofs.lemmas.List.{length_push}
use Rattle.dcc_flow.specs.Edges.{is_in}
use Rattle.dcc_flow.proofs.Members.{in_here, in_cases, in_left, in_right, in_either}
use Rattle.dcc_interval.specs.declared.reduce.Reducing.{Reducing as ReducingOf}
use Rattle.dcc_interval.specs.Graphs.{IsReached}
use Rattle.dcc_interval.specs.Reducing.{IsDone, comes_to, at_in, marked_in, IsReducing, AreLeft, AreDone}

-- These nodes were kept so far, and the rest is to come. Where none was joined yet, those that were kept are done.
pub record Passing (sources : List (List ℕ)) (entry : ℕ) (r : ReducingOf) (kept rest : List ℕ) (count : ℕ) : Type 0 where
  pub reducing : IsReducing sources entry r
  pub kept_reached : (n : ℕ) → is_in kept n ≡ true → IsReached (comes_to sources) entry n
  pub rest_reached : (n : ℕ) → is_in rest n ≡ true → IsReached (comes_to sources) entry n
  pub all : (n : ℕ) → IsReached (comes_to sources) entry n → at_in r n ≡ n → (is_in kept n ≡ true) ⊎ (is_in rest n ≡ true)
  pub few : length kept + length rest ≤ count
  pub done : count ≤ length kept + length rest → (n : ℕ) → is_in kept n ≡ true → IsDone (comes_to sources) entry (at_in r) (marked_in r) n

-- one more at the end
at_end : (ns : List ℕ) (node n : ℕ) → is_in (ns ++ node ∷ []) n ≡ true → (is_in ns n ≡ true) ⊎ (n ≡ node)
at_end ns node n h = elim (in_either ns (node ∷ []) n h) [
  | inl t ↦ inl t
  | inr t ↦ elim (in_cases node n [] t) [ inl e ↦ inr (sym e) | inr none ↦ absurd (false≢true none) ]
]

module _ (sources : List (List ℕ)) (entry : ℕ) where
  pub passing_first : (r : ReducingOf) (kept nodes : List ℕ) → kept ≡ [] → IsReducing sources entry r → AreLeft sources entry r nodes → Passing sources entry r kept nodes (length nodes)
  passing_first r kept nodes none reducing left = record {
    reducing = reducing;
    kept_reached = λ n t. absurd (false≢true (subst (λ l. is_in l n ≡ true) none t));
    rest_reached = left.reached;
    all = λ n s own. inr (left.all n s own);
    few = omega (arith, ap length none);
    done = λ much n t. absurd (false≢true (subst (λ l. is_in l n ≡ true) none t));
  }

  module _ (r : ReducingOf) (kept rest : List ℕ) (count : ℕ) (h : Passing sources entry r kept rest count) where
    nothing : length rest ≡ 0 → (n : ℕ) → is_in rest n ≡ true → ⊥
    nothing none n t = by rest none t
      where
        by : (l : List ℕ) → length l ≡ 0 → is_in l n ≡ true → ⊥
        by [] e t = false≢true t
        by (m ∷ l) e t = absurd (omega (arith, e))

    pub passing_left : length rest ≡ 0 → AreLeft sources entry r kept
    passing_left none = record {
      reached = h.kept_reached;
      all = λ n s own. elim (h.all n s own) [ inl t ↦ t | inr t ↦ absurd (nothing none n t) ];
    }

    pub passing_done : length rest ≡ 0 → count ≤ length kept → AreDone sources entry r
    passing_done none much n s own = elim (h.all n s own) [
      | inl t ↦ h.done (omega (arith, none, much)) n t
      | inr t ↦ absurd (nothing none n t)
    ]

    module _ (front : List ℕ) (node : ℕ) (is : rest ≡ front ++ node ∷ []) where
      pub node_reached : IsReached (comes_to sources) entry node
      node_reached = h.rest_reached node (subst (λ l. is_in l node ≡ true) (sym is) (in_right front (node ∷ []) node (in_here node [])))

      more : length rest ≡ length front + 1
      more = ap length is ∙ length_push front node

      front_reached : (n : ℕ) → is_in front n ≡ true → IsReached (comes_to sources) entry n
      front_reached n t = h.rest_reached n (subst (λ l. is_in l n ≡ true) (sym is) (in_left front (node ∷ []) n t))

      module _ (now : ReducingOf) (reducing : IsReducing sources entry now) (fewer : (n : ℕ) → IsReached (comes_to sources) entry n → at_in now n ≡ n → at_in r n ≡ n) where
        -- the node is in another region
        pub passing_gone : ¬ (at_in now node ≡ node) → Passing sources entry now kept front count
        passing_gone gone = record {
          reducing = reducing;
          kept_reached = h.kept_reached;
          rest_reached = front_reached;
          all = λ n s own. elim (h.all n s (fewer n s own)) [
            | inl t ↦ inl t
            | inr t ↦ elim (at_end front node n (subst (λ l. is_in l n ≡ true) is t)) [
              | inl u ↦ inr u
              | inr e ↦ absurd (gone (subst (λ k. at_in now k ≡ k) e own))
            ]
          ];
          few = omega (arith, h.few, more);
          done = λ much. absurd (omega (arith, h.few, more, much));
        }

        -- the node is kept
        pub passing_kept : (list : List ℕ) → list ≡ kept ++ node ∷ []
            → ((n : ℕ) → ¬ (n ≡ node) → IsDone (comes_to sources) entry (at_in r) (marked_in r) n → IsDone (comes_to sources) entry (at_in now) (marked_in now) n)
            → IsDone (comes_to sources) entry (at_in now) (marked_in now) node → Passing sources entry now list front count
        passing_kept list grown same done =
            let size : length list ≡ length kept + 1 = ap length grown ∙ length_push kept node in
            record {
              reducing = reducing;
              kept_reached = λ n t. elim (at_end kept node n (subst (λ l. is_in l n ≡ true) grown t)) [
                | inl u ↦ h.kept_reached n u
                | inr e ↦ subst (IsReached (comes_to sources) entry) (sym e) node_reached
              ];
              rest_reached = front_reached;
              all = λ n s own. elim (h.all n s (fewer n s own)) [
                | inl t ↦ inl (subst (λ l. is_in l n ≡ true) (sym grown) (in_left kept (node ∷ []) n t))
                | inr t ↦ elim (at_end front node n (subst (λ l. is_in l n ≡ true) is t)) [
                  | inl u ↦ inr u
                  | inr e ↦ inl (subst (λ l. is_in l n ≡ true) (sym grown) (in_right kept (node ∷ []) n (subst (λ k. is_in (node ∷ []) k ≡ true) (sym e) (in_here node []))))
                ]
              ];
              few = omega (arith, h.few, more, size);
              done = λ much n t. elim (cases_eq n node) [
                | inl e ↦ subst (IsDone (comes_to sources) entry (at_in now) (marked_in now)) (sym e) done
                | inr off ↦ elim (at_end kept node n (subst (λ l. is_in l n ≡ true) grown t)) [
                  | inl u ↦ same n off (h.done (omega (arith, much, more, size)) n u)
                  | inr e ↦ absurd (off e)
                ]
              ];
            }
