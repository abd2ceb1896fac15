-- Items that start with one of a block: the block does more than go to another.
use Rattle.std.proofs.Common.{◌≡◌, ℕ, Bool, true, false, List, [], length, refl, sym, ap, ◌∙◌, true≢false, arith}
use Rattle.std.proofs.lemmas.Bool.{eqb-true, false_from_ne_true}
use Rattle.dcc_ir.specs.Live.{block_in}
use Rattle.dcc_ir.specs.Tree as inner
use Rattle.dcc_control.specs.Plan.{Item, Do, If, Switch, Plan, no_items, item, is_of, starts_with}
use Rattle.dcc_control.specs.Valid.{Context, only_goes, IsValidBy, IsValidItemBy}

goes-nowhere-else : (stmts : List inner.Stmt) (exit : inner.Exit) → only_goes stmts exit ≡ true → (length stmts ≡ 0) × ((next : ℕ) × (exit ≡ inner.Goto next))
goes-nowhere-else [] (inner.Goto next) is = (refl, (next, refl))
goes-nowhere-else _ _ is = absurd (true≢false (sym is))

module _ (graph : inner.Graph) (begun marked : ℕ → Bool) (b : ℕ) where
  abbrev jumps : Bool
  jumps = only_goes (block_in graph b).stmts (block_in graph b).exit

  none-of : (i : Item) (plan : Plan) (c : Context) → jumps ≡ true → is_of b i ≡ true → IsValidItemBy graph begun marked i plan c → ⊥
  none-of (Do a m) plan c goes is (known, there, l) =
      let none : length (block_in graph a).stmts ≡ 0 =
      ap (λ k. length (block_in graph k).stmts) (eqb-true a b is) ∙ (goes-nowhere-else (block_in graph b).stmts (block_in graph b).exit goes).0 in
      absurd (omega (arith, there, none))
  none-of (If a one other) plan c goes is v =
      let goto = (goes-nowhere-else (block_in graph b).stmts (block_in graph b).exit goes).1 in
      let both : inner.If v.0 v.1 v.2 ≡ inner.Goto goto.0 = sym v.3 ∙ ap (λ k. (block_in graph k).exit) (eqb-true a b is) ∙ goto.1 in absurd cc
  none-of (Switch a arms) plan c goes is v =
      let goto = (goes-nowhere-else (block_in graph b).stmts (block_in graph b).exit goes).1 in
      let both : inner.Switch v.0 v.1 ≡ inner.Goto goto.0 = sym v.2 ∙ ap (λ k. (block_in graph k).exit) (eqb-true a b is) ∙ goto.1 in absurd cc
  none-of _ plan c goes is v = absurd (true≢false (sym is))

  pub not-started : (plan : Plan) (c : Context) → jumps ≡ true → IsValidBy graph begun marked plan c → starts_with b plan ≡ true → ⊥
  not-started no_items c goes v is = true≢false (sym is)
  not-started (item i plan) c goes v is = none-of i plan c goes is v.0

  pub does-more : (plan : Plan) (c : Context) → IsValidBy graph begun marked plan c → starts_with b plan ≡ true → jumps ≡ false
  does-more plan c v is = false_from_ne_true jumps (λ goes. not-started plan c goes v is)
