-- What is prepared has what its text needs, after it is tidied.
use Rattle.std.proofs.Common.{◌≡◌, ℕ, ◌<◌, ◌≤◌, Bool, true, inl, inr, List, [], ◌∷◌, ◌++◌, length, flat_map, sym, subst, true≢false, arith}
use Rattle.std.specs.Prelude.{All, ◌||◌}
use Rattle.std.specs.List.{list_any}
use Rattle.std.proofs.lemmas.List.Elements.{All-weaker}
use Rattle.dcc_ir.specs.declared.syntax.Loc.{Loc}
use Rattle.dcc_ir.specs.Ends.{is_ret}
use Rattle.dcc_ir.specs.Flow.{graph_or_none}
use Rattle.dcc_ir.specs.Location.{location_width}
use Rattle.dcc_ir.specs.Tree.{Stmt, Set, Fetch, Store, Div, Call, Dos, Exit, Goto, If, Switch, Ret, Stop, Block, Program}
use Rattle.dcc_ir.specs.Value.{width_of}
use Rattle.dcc_ir.specs.WellFormed.{ret_widths}
use Rattle.dcc_ir.proofs.ReachedLaws.{named_again}
use Rattle.dcc_signatures.specs.Laws.{AtMostOne, GivesAtMostOne}
use Rattle.dcc_plan.specs.Programs as plan
use Rattle.dcc_sums.specs.Localised.{summary_at}
use Rattle.dcc_variables.specs.FunctionLaws.{HasFewNames}
use Rattle.dcc_pipe.specs.Prepared.{has_ret, returns, IsPrepared}
use Rattle.dcc_pipe.specs.Simplified.{HasEachChanged, IsSimplified}
use Rattle.dcc_tidy.specs.Tidied.{text_levels}
use Rattle.dcc_pipe.specs.Textable.{levels}
use Rattle.dcc_tidy.specs.Tidied.{IsTidiedGraph}
use Rattle.dcc_pipe.specs.WholeText.{TakesFew, FitsText}
use Rattle.dcc_pipe.proofs.SimplifiedLaws.{simplified-trans}
use Rattle.dcc_pipe.proofs.TidiedFits.{tidied-fits}
use Rattle.dcc_pipe.proofs.TidiedLaws.{program-tidied}
use Rattle.dcc_tidy.proofs.GraphLaws.{graphs-tidied}
use Rattle.dcc_pipe.proofs.PassingLaws.{Takes, GivesFew, all-few}

one-at_most : {A : Type 0} (width : A → ℕ) (xs : List A) → AtMostOne width xs → length xs ≤ 1
one-at_most width xs few = elim few [
  | inl none ↦ subst (λ xs. length xs ≤ 1) (sym none) (omega arith)
  | inr one ↦ subst (λ xs. length xs ≤ 1) (sym one.1) (omega arith)
]

-- a graph that returns gives widths back
returning-widths : (bits : List ℕ) (blocks : List Block) → list_any (λ b. is_ret b.exit) blocks ≡ true
    → 0 < length (flat_map (λ b. ret_widths bits b.exit) blocks)
returning-widths bits [] is = absurd (true≢false (sym is))
returning-widths bits (b ∷ blocks) is = by b.exit is (λ later. returning-widths bits blocks later)
  where
    rest : List (List ℕ)
    rest = flat_map (λ b. ret_widths bits b.exit) blocks

    by : (exit : Exit) → (is_ret exit || list_any (λ b. is_ret b.exit) blocks) ≡ true
        → (list_any (λ b. is_ret b.exit) blocks ≡ true → 0 < length rest) → 0 < length (ret_widths bits exit ++ rest)
    by (Ret values) is later = omega arith
    by (Goto next) is later = later is
    by (If test one other) is later = later is
    by (Switch e places) is later = later is
    by Stop is later = later is

module _ (p q : Program) (is : IsPrepared p q) where
  abbrev known : ℕ → Bool
  known = returns q

  takes-few : (bits : List ℕ) (stmt : Stmt) → Takes known bits stmt → TakesFew q stmt
  takes-few bits (Call results entry arguments depth) takes = (
    one-at_most (location_width bits) results takes.0,
    λ callee named some.
        elim takes.1 [
          | inl none ↦ absurd (nothing results none some)
          | inr gives ↦
              returning-widths callee.bits callee.blocks
              (subst (λ found. has_ret (graph_or_none found) ≡ true)
              (named_again q.graphs entry callee is.simplified.textable.formed.entries named) gives)
        ],
  )
    where
      nothing : (ls : List Loc) → ls ≡ [] → 0 < length ls → ⊥
      nothing [] none some = omega (arith, some)
      nothing (l ∷ ls) none some = cc
  takes-few bits (Set location e) takes = tt
  takes-few bits (Fetch location width address) takes = tt
  takes-few bits (Store width address e) takes = tt
  takes-few bits (Div location e) takes = tt
  takes-few bits (Dos number place argument) takes = tt

  gives-few : (bits : List ℕ) (block : Block) → GivesAtMostOne bits block.exit → plan.GivesFew block
  gives-few bits block gives values same =
      one-at_most (width_of bits) values (subst (GivesAtMostOne bits) same gives)

  each-few : All (GivesFew known) q.graphs
  each-few = all-few known (summary_at p.graphs is.sums) q (record { one = is.passes; returned = is.returned })

  -- each return of what is prepared gives few values
  pub prepared-gives : All (λ g. All plan.GivesFew g.blocks) q.graphs
  prepared-gives =
      All-weaker (GivesFew known) (λ g. All plan.GivesFew g.blocks)
      (λ g few. All-weaker (λ b. GivesAtMostOne g.bits b.exit) plan.GivesFew (gives-few g.bits) g.blocks few.rets) q.graphs
      each-few

  -- and each call takes few
  pub prepared-takes : All (λ g. All (λ b. All (TakesFew q) b.stmts) g.blocks) q.graphs
  prepared-takes =
      All-weaker (GivesFew known) (λ g. All (λ b. All (TakesFew q) b.stmts) g.blocks)
      (λ g few. All-weaker (λ b. All (Takes known g.bits) b.stmts) (λ b. All (TakesFew q) b.stmts)
      (λ b stmts. All-weaker (Takes known g.bits) (TakesFew q) (takes-few g.bits) b.stmts stmts) g.blocks few.calls)
      q.graphs each-few

  -- what is tidied of it has what its text needs
  module _ (ids : List ℕ) (r : Program) (tidy : HasEachChanged (IsTidiedGraph ids) q r) where
    pub left-simplified : IsSimplified text_levels p r
    left-simplified =
        simplified-trans levels text_levels p q r is.simplified (program-tidied ids q r is.simplified.textable tidy)

    pub prepared-fits : All HasFewNames r.graphs → FitsText r
    prepared-fits few =
        tidied-fits q r (graphs-tidied ids q.graphs r.graphs tidy.graphs)
        left-simplified.textable prepared-gives prepared-takes is.apart few
