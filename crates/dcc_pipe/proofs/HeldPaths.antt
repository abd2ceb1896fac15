-- What holds the closed paths of a contraction holds those of the graph that is contracted.
use Rattle.std.proofs.Common.{◌≡◌, ℕ, Bool, true, false, inl, inr, List, [], ◌∷◌, ◌++◌}
use Rattle.std.specs.List.{list_any}
use Rattle.dcc_ir.specs.Flow.{Flow, IsPath, Any, Reached, IsContraction}
use Rattle.dcc_ir.proofs.FlowLaws.{contracted, reached_still}
use Rattle.dcc_ir.proofs.PathLaws.{decided, clash, or_left, or_right, or_false, nor, IsFlow, path-append, path_any, path_of_none, none_of_path, cut, reached_along}

module _ (p q : Flow) (p_flow : IsFlow p) (q_flow : IsFlow q) (law : IsContraction p q) (kept : ℕ → Bool)
    (closed : (a : ℕ) (between : List ℕ) → Reached q a → IsPath q.goes Any a between a
    → list_any kept (a ∷ between) ≡ true) where
  abbrev IsOther : ℕ → Type 0
  IsOther a = kept a ≡ false

  none-closed : (a : ℕ) (between : List ℕ) → Reached p a → q.has a ≡ true → IsOther a
      → IsPath p.goes IsOther a between a → ⊥
  none-closed a between reached has other path =
      let there = reached_still p q p_flow q_flow law a reached has in
      let round =
      contracted p q p_flow q_flow law IsOther between a a a (λ m edge. ([], edge)) there has path in
      clash (closed a round.0 there (path_any q.goes IsOther a round.0 a round.1))
      (nor (kept a) (list_any kept round.0) other (none_of_path q.goes kept a round.0 a round.1))

  -- the path begins anew at a block of the contraction
  pub closed-before : (a : ℕ) (between : List ℕ) → Reached p a → IsPath p.goes Any a between a
      → list_any kept (a ∷ between) ≡ true
  closed-before a between reached path = elim (decided (list_any kept (a ∷ between))) [
    | inl t ↦ t
    | inr none ↦
        let other = or_left (kept a) (list_any kept between) none in
        let others : IsPath p.goes IsOther a between a =
        path_of_none p.goes kept a between a (or_right (kept a) (list_any kept between) none) path in
        elim (decided (q.has a)) [
          | inl has ↦ absurd (none-closed a between reached has other others)
          | inr out ↦
              let c =
              cut p.goes IsOther q.has a between a
              (or_false (q.has a) (list_any q.has between) out (law.cycles a between reached path)) others in
              absurd (none-closed c.at (c.back ++ a ∷ c.front)
              (reached_along p IsOther a c.front c.at reached c.before) c.passes c.kind
              (path-append p.goes IsOther c.at c.back a c.front c.at c.after other c.before))
        ]
  ]
