-- Where each block without a step goes to one with a step or with a greater number, each closed path holds one with a step.
use Rattle.std.proofs.Common.{◌≡◌, ℕ, ◌<◌, inl, inr, Bool, true, false, ◌||◌, not, List, [], ◌∷◌, ◌++◌, get_or, refl, sym, ap, ◌∙◌, subst, true≢false, arith}
use Rattle.std.specs.Prelude.{◌==◌, All}
use Rattle.std.specs.List.{list_any}
use Rattle.std.proofs.lemmas.Bool.{or_cases, eqb-true, false_from_ne_true}
use Rattle.std.proofs.lemmas.List.Elements.{All-head, All-tail}
use Rattle.dcc_ir.specs.Tree.{Graph}
use Rattle.dcc_ir.specs.Flow.{IsPath, Any}
use Rattle.dcc_ir.specs.Live.{block_in, follows}
use Rattle.dcc_ir.proofs.PathLaws.{or_left, or_right, path-append}
use Rattle.dcc_control.specs.Plan.{Plan, is_begun, turns}
use Rattle.dcc_control.specs.Plan as plans
use Rattle.dcc_control.specs.Valid.{only_goes, has_step}
use Rattle.dcc_flow.specs.Edges.{is_in}
use Rattle.dcc_flow.specs.Order.{IsReversePostOrder}
use Rattle.dcc_flow.proofs.OrderLaws.{order_is}
use Rattle.dcc_plan_check.specs.declared.labels.Labels.{Labels}
use Rattle.dcc_plan_check.specs.Checked.{is_marked_in, AreLabels, has_step_in, RisesFrom}
use Rattle.dcc_plan_check.specs.Structured.{IsReached, BeginsReturns}

at-member : (P : ℕ → Type 0) (xs : List ℕ) (n : ℕ) → All P xs → is_in xs n ≡ true → P n
at-member P [] n all found = absurd (true≢false (sym found))
at-member P (x ∷ xs) n all found = elim (or_cases (x == n) (is_in xs n) found) [
  | inl e ↦ subst P (eqb-true x n e) (All-head P x xs all)
  | inr t ↦ at-member P xs n (All-tail P x xs all) t
]

-- a path on from a reached block
reached-next : (graph : Graph) (a b : ℕ) → IsReached graph a → follows graph a b ≡ true → IsReached graph b
reached-next graph a b (inl e) edge = inr ([], subst (λ n. follows graph n b ≡ true) e edge)
reached-next graph a b (inr way) edge = inr (way.0 ++ a ∷ [], path-append (follows graph) Any 0 way.0 a [] b way.1 tt edge)

module _ (graph : Graph) (plan : Plan) (labels : Labels) (are : AreLabels plan labels) (numbers order : List ℕ) (searched : IsReversePostOrder graph order)
    (rise : All (RisesFrom graph labels.marked.items numbers) order) where
  -- a block without a step in the text has none told
  stepless : (b : ℕ) → has_step graph plan b ≡ false → has_step_in graph labels.marked.items b ≡ false
  stepless b none = false_from_ne_true (has_step_in graph labels.marked.items b) (λ told. true≢false (sym (by told) ∙ none))
    where
      moves : Bool
      moves = not (only_goes (block_in graph b).stmts (block_in graph b).exit)

      by : (is_marked_in labels.marked.items b || moves) ≡ true → (is_begun plan b || moves) ≡ true
      by h = elim (or_cases (is_marked_in labels.marked.items b) moves h) [
        | inl m ↦ ap (λ x. (x || plans.is_in b (turns plan)) || moves) (are.marked b m)
        | inr s ↦ either (is_begun plan b) s
      ]
        where
          either : (x : Bool) → moves ≡ true → (x || moves) ≡ true
          either true s = refl
          either false s = s

  one-rises : (a b : ℕ) → IsReached graph a → follows graph a b ≡ true → has_step graph plan a ≡ false → has_step graph plan b ≡ false
      → get_or numbers a 0 < get_or numbers b 0
  one-rises a b reached edge here there =
      at-member (RisesFrom graph labels.marked.items numbers) order a rise (((order_is graph order searched).reached a).1 reached) b edge (stepless a here) (stepless b there)

  -- along a path of blocks without steps the numbers rise
  path-rises : (a : ℕ) (between : List ℕ) (b : ℕ) → IsReached graph a → IsPath (follows graph) Any a between b
      → list_any (has_step graph plan) (a ∷ between) ≡ false → has_step graph plan b ≡ false → get_or numbers a 0 < get_or numbers b 0
  path-rises a [] b reached path none last = one-rises a b reached path (or_left (has_step graph plan a) false none) last
  path-rises a (m ∷ between) b reached path none last =
      let here = or_left (has_step graph plan a) (list_any (has_step graph plan) (m ∷ between)) none in
      let later = or_right (has_step graph plan a) (list_any (has_step graph plan) (m ∷ between)) none in
      let there = or_left (has_step graph plan m) (list_any (has_step graph plan) between) later in
      let first = one-rises a m reached path.0 here there in
      let others = path-rises m between b (reached-next graph a m reached path.0) path.2 later last in
      omega (arith, first, others)

  pub begins-returns : BeginsReturns graph plan
  begins-returns b between reached path = by (list_any (has_step graph plan) (b ∷ between)) refl
    where
      by : (some : Bool) → list_any (has_step graph plan) (b ∷ between) ≡ some → some ≡ true
      by true is = refl
      by false is =
          let last = or_left (has_step graph plan b) (list_any (has_step graph plan) between) is in
          let more = path-rises b between b reached path is last in
          absurd (omega (arith, more))
