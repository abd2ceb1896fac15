-- Laws of the flow graphs of graphs, and of finding a graph by its entry.
use Rattle.std.proofs.Common.{◌≡◌, ℕ, zero, suc, Bool, true, false, cond, ◌&&◌, ◌||◌, inl, inr, List, [], ◌∷◌, Some, refl, sym, ap, ◌∙◌, subst, true≢false, find, slice_get, eqb-true}
use Rattle.std.specs.Prelude.{◌==◌}
use Rattle.std.specs.List.{list_any}
use Rattle.dcc_ir.specs.Tree.{Block, Graph}
use Rattle.dcc_ir.specs.Run.{graph_at}
use Rattle.dcc_ir.specs.Flow.{targets, stands_at, has_edge, flow_of}
use Rattle.dcc_ir.proofs.PathLaws.{decided, or_false, IsFlow}

and_left : (a b : Bool) → (a && b) ≡ true → a ≡ true
and_left true b e = refl
and_left false b e = absurd (true≢false (sym e))

and_right : (a b : Bool) → (a && b) ≡ true → b ≡ true
and_right true b e = e
and_right false b e = absurd (true≢false (sym e))

or_here : (a b : Bool) → a ≡ true → (a || b) ≡ true
or_here a b e = ap (λ c. c || b) e

pub or_there : (a b : Bool) → b ≡ true → (a || b) ≡ true
or_there true b e = refl
or_there false b e = e

-- a wider test passes wherever a narrower one does
any_wider : {X : Type 0} (f g : X → Bool) → ((x : X) → f x ≡ true → g x ≡ true) → (xs : List X) → list_any f xs ≡ true → list_any g xs ≡ true
any_wider f g wider [] e = e
any_wider f g wider (x ∷ xs) e = elim (decided (f x)) [
  | inl t ↦ or_here (g x) (list_any g xs) (wider x t)
  | inr n ↦ or_there (g x) (list_any g xs) (any_wider f g wider xs (or_false (f x) (list_any f xs) n e))
]

-- what passes a test in a list
any_some : {X : Type 0} (f : X → Bool) (xs : List X) → list_any f xs ≡ true → (x : X) × (f x ≡ true)
any_some f [] e = absurd (true≢false (sym e))
any_some f (x ∷ xs) e = elim (decided (f x)) [
  | inl t ↦ (x, t)
  | inr n ↦ any_some f xs (or_false (f x) (list_any f xs) n e)
]

-- an element of a list that passes a test
pub any_at : {X : Type 0} (f : X → Bool) (xs : List X) (k : ℕ) (x : X) → slice_get xs k ≡ Some x → f x ≡ true → list_any f xs ≡ true
any_at f [] k x e h = absurd (cc)
any_at f (y ∷ ys) zero x e h =
    let same : y ≡ x = cc in
    or_here (f y) (list_any f ys) (ap f same ∙ h)
any_at f (y ∷ ys) (suc k) x e h = or_there (f y) (list_any f ys) (any_at f ys k x e h)

stands_there : (blocks : List Block) (k at : ℕ) → stands_at (slice_get blocks k) at ≡ true → list_any (λ block. block.at == at) blocks ≡ true
stands_there [] k at e = absurd (true≢false (sym e))
stands_there (block ∷ blocks) zero at e = or_here (block.at == at) (list_any (λ block. block.at == at) blocks) e
stands_there (block ∷ blocks) (suc k) at e = or_there (block.at == at) (list_any (λ block. block.at == at) blocks) (stands_there blocks k at e)

-- the edges of a graph lie between its blocks
pub flow_of-flow : (graph : Graph) → IsFlow (flow_of graph)
flow_of-flow graph = record {
  tail = λ a b e. any_wider (λ block. (block.at == a) && has_edge graph.blocks block b) (λ block. block.at == a) (λ block h. and_left (block.at == a) (has_edge graph.blocks block b) h) graph.blocks e;
  head = λ a b e.
      let from = any_some (λ block. (block.at == a) && has_edge graph.blocks block b) graph.blocks e in
      let edge : has_edge graph.blocks from.0 b ≡ true = and_right (from.0.at == a) (has_edge graph.blocks from.0 b) from.1 in
      let to = any_some (λ place. stands_at (slice_get graph.blocks place) b) (targets from.0.exit) edge in
      stands_there graph.blocks to.0 b to.1;
}

-- a graph that is found has the entry
found_passes : {X : Type 0} (f : X → Bool) (xs : List X) (x : X) → find f xs ≡ Some x → f x ≡ true
found_passes f [] x e = absurd (cc)
found_passes f (y ∷ ys) x e = go (f y) refl (found_passes f ys x) e
  where
    go : (b : Bool) → f y ≡ b → (find f ys ≡ Some x → f x ≡ true) → cond b (Some y) (find f ys) ≡ Some x → f x ≡ true
    go true t later o = let same : y ≡ x = cc in subst (λ z. f z ≡ true) same t
    go false n later o = later o

pub found_entry : (graphs : List Graph) (entry : ℕ) (graph : Graph) → graph_at graphs entry ≡ Some graph → graph.entry ≡ entry
found_entry graphs entry graph e = eqb-true graph.entry entry (found_passes (λ g. g.entry == entry) graphs graph e)

pub found_again : (graphs : List Graph) (entry : ℕ) (graph : Graph) → graph_at graphs entry ≡ Some graph → graph_at graphs graph.entry ≡ Some graph
found_again graphs entry graph e = subst (λ n. graph_at graphs n ≡ Some graph) (sym (found_entry graphs entry graph e)) e
