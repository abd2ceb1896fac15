-- The chains of a graph, and the blocks that were seen along them.
use Rattle.std.proofs.Common.{◌≡◌, ◌≢◌, ◌⊎◌, ℕ, zero, suc, ◌+◌, ◌<◌, ◌≤◌, Bool, true, false, inl, inr, List, [], ◌∷◌, ◌++◌, length, get_or, Some, refl, sym, ap, ◌∙◌, subst, arith, true≢false, slice_get, slice_set, append_assoc, Contains}
use Rattle.std.proofs.lemmas.List.{length-set, get_or-set_same, get_or-set_other}
use Rattle.dcc_ir.specs.Tree.{Stmt, Goto, Block, Graph}
use Rattle.dcc_ir.specs.Flow.{targets}
use Rattle.dcc_available.specs.Along.{IsOnlyEdge}
use Rattle.dcc_available.specs.Rows.{IsNext}
use Rattle.dcc_fold.specs.Chain.{Step, statement, edge, steps_over, IsFirst, IsAlong, begins, goes_on}
use Rattle.dcc_fold.specs.Found.{IsOn, here, further, JoinsIn, JoinsAlong, JoinsFrom, IsSeenFrom, AreSeen}
use Rattle.dcc_fold.proofs.KnownLaws.{placed}

some-block : (b c : Block) → Some b ≡ Some c → b ≡ c
some-block b c is = cc

goto-place : (n m : ℕ) → Goto n ≡ Goto m → n ≡ m
goto-place n m is = cc

module _ (graph : Graph) where
  -- one block before
  pub one-before : (a b to : ℕ) → IsNext graph a to → IsNext graph b to → a ≡ b
  one-before a b to one other =
      other.only.only a one.block one.only.placed (subst (λ exit. Contains (targets exit) to) (sym one.only.goes) (contains-here to))
    where
      contains-here : (n : ℕ) → Contains (n ∷ []) n
      contains-here n = (0, omega arith, refl)

  pub one-behind : (a to next : ℕ) → IsNext graph a to → IsNext graph a next → to ≡ next
  one-behind a to next one other =
      let same : one.block ≡ other.block = some-block one.block other.block (sym one.only.placed ∙ other.only.placed) in
      goto-place to next (sym one.only.goes ∙ ap (λ (b : Block). b.exit) same ∙ other.only.goes)

  pub not-first : (a to : ℕ) → IsNext graph a to → ¬ IsFirst graph to
  not-first a to next first = first a next.block next.only

  pub next-within : (a to : ℕ) → IsNext graph a to → a < length graph.blocks
  next-within a to next = placed graph.blocks a next.block next.only.placed

  -- Steps along a chain, from its first block and from a later one.

  pub along-on : (first place : ℕ) (steps : List Step) → IsAlong graph first place steps → IsOn graph first [] place steps
  along-on first place steps begins = here
  along-on first place steps' (goes_on {from = from} {steps = steps} only before) = further only (along-on first from steps before)

  pub on-along : (first begun : ℕ) (past : List Step) → IsAlong graph first begun past → (place : ℕ) (steps : List Step) → IsOn graph begun past place steps → IsAlong graph first place steps
  on-along first begun past led place steps here = led
  on-along first begun past led place steps' (further {from = from} {steps = steps} only before) = goes_on only (on-along first begun past led from steps before)

  -- the block itself, or from the next one on
  pub record IsOnward (begun : ℕ) (past : List Step) (place : ℕ) (steps : List Step) : Type 0 where
    pub block : Block
    pub to : ℕ
    pub only : IsOnlyEdge graph begun block to
    pub on : IsOn graph to (past ++ steps_over block) place steps

  pub front : (begun : ℕ) (past : List Step) (place : ℕ) (steps : List Step) → IsOn graph begun past place steps → ((place ≡ begun) × (steps ≡ past)) ⊎ IsOnward begun past place steps
  front begun past place steps here = inl (refl, refl)
  front begun past place steps' (further {from = from} {block = block} {steps = steps} only before) = elim (front begun past from steps before) [
    | inl is ↦
        inr (record {
          block = block;
          to = place;
          only = subst (λ n. IsOnlyEdge graph n block place) is.0 only;
          on = subst (λ xs. IsOn graph place (past ++ steps_over block) place (xs ++ steps_over block)) (sym is.1) here;
        })
    | inr later ↦ inr (record { block = later.block; to = later.to; only = later.only; on = further only later.on })
  ]

  -- the temporary may be joined in the block, or from the next one on
  pub joins-front : (place : ℕ) (block : Block) (past : List Step) (t : ℕ) → slice_get graph.blocks place ≡ Some block → JoinsFrom graph place past t
      → JoinsIn graph past block t ⊎ ((to : ℕ) × IsNext graph place to × JoinsFrom graph to (past ++ steps_over block) t)
  joins-front place block past t found joins = elim (front place past joins.place joins.lead joins.on) [
    | inl is ↦
        let same : joins.block ≡ block = some-block joins.block block (sym joins.placed ∙ ap (slice_get graph.blocks) is.0 ∙ found) in
        inl (subst (λ (b : Block). JoinsIn graph past b t) same (subst (λ xs. JoinsIn graph xs joins.block t) is.1 joins.joins))
    | inr later ↦
        let same : later.block ≡ block = some-block later.block block (sym later.only.placed ∙ found) in
        inr (
          later.to,
          record { block = later.block; only = later.only },
          record {
            place = joins.place;
            block = joins.block;
            placed = joins.placed;
            lead = joins.lead;
            on = subst (λ (b : Block). IsOn graph later.to (past ++ steps_over b) joins.place joins.lead) same later.on;
            joins = joins.joins;
          },
        )
  ]
