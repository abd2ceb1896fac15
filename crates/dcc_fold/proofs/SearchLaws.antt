-- What a search through a block, along a chain and through a graph finds.
use Rattle.std.proofs.Common.{◌≡◌, ◌≢◌, ◌⊎◌, ℕ, suc, ◌+◌, ◌<◌, ◌≤◌, inl, inr, List, [], ◌∷◌, ◌++◌, length, map, Option, Some, None, refl, sym, subst, arith, slice_get}
use Rattle.std.specs.Prelude.{MatchOption}
use Rattle.std.proofs.lemmas.Bool.{cases_eq}
use Rattle.dcc_ir.specs.Tree.{Expr, Stmt, Block, Graph}
use Rattle.dcc_ir.specs.Use.{exit_exprs}
use Rattle.dcc_fold.specs.Chain.{Step, statement, IsFirst, IsAlong, begins, goes_on}
use Rattle.dcc_fold.specs.Carried.{IsTrue}
use Rattle.dcc_fold.specs.Found.{IsFoundAmong, JoinsIn, JoinsAlong}
use Rattle.dcc_fold.specs.Joinable.{IsJoinable}
use Rattle.dcc_fold.specs.Known.{Known}
use Rattle.dcc_fold.proofs.BlockLaws.{ComesIn, knows-all, found-end, none-in}
use Rattle.dcc_fold.proofs.FoundLaws.{joinable-along}
use Rattle.dcc_fold.proofs.KnownLaws.{placed}

module _ (graph : Graph) where
  pub end-found : {S : Type 0} (of : S → Stmt) (stmts : List S) (block : Block) (is : block.stmts ≡ map of stmts) (first known : Known) (i : ℕ) → length stmts ≤ i
      → ComesIn graph of stmts block is first known i → (found : Option ℕ)
      → MatchOption found ((n : ℕ) → ¬ IsFoundAmong graph known (exit_exprs block.exit) n) (IsFoundAmong graph known (exit_exprs block.exit))
      → (steps : List Step) → IsTrue first steps
      → MatchOption found (IsTrue known (steps ++ map statement block.stmts) × ((n : ℕ) → ¬ JoinsIn graph steps block n)) (JoinsIn graph steps block)
  end-found of stmts block is first known i all comes None none steps true_of =
      (knows-all graph of stmts block is first known i all comes steps true_of, none-in graph of stmts block is first known i all comes none steps true_of)
  end-found of stmts block is first known i all comes (Some t) found steps true_of = found-end graph of stmts block is first known i all comes t found steps true_of

  along-within : (first place : ℕ) (steps : List Step) → IsAlong graph first place steps → place < length graph.blocks → first < length graph.blocks
  along-within first place steps begins less = less
  along-within first place steps' (goes_on {from = from} {block = block} {steps = steps} only before) less =
      along-within first from steps before (placed graph.blocks from block only.placed)

  pub none-joinable : ((first t : ℕ) → first < length graph.blocks → IsFirst graph first → ¬ JoinsAlong graph first t) → (t : ℕ) → ¬ IsJoinable graph t
  none-joinable none t is =
      let found = joinable-along graph t is in
      let joins = found.2 in
      none found.0 t (along-within found.0 joins.place joins.lead joins.along (placed graph.blocks joins.place joins.block joins.placed)) found.1 joins

  pub none-past : (place : ℕ) → ((first t : ℕ) → first < place → IsFirst graph first → ¬ JoinsAlong graph first t) → (IsFirst graph place → (t : ℕ) → ¬ JoinsAlong graph place t)
      → (first t : ℕ) → first < place + 1 → IsFirst graph first → ¬ JoinsAlong graph first t
  none-past place none here first t less is = elim (cases_eq first place) [
    | inl same ↦ λ joins. here (subst (IsFirst graph) same is) t (subst (λ n. JoinsAlong graph n t) same joins)
    | inr other ↦ none first t (omega (arith, less, other)) is
  ]
