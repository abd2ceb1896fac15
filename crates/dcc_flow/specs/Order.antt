-- Depth-first search and the order that it gives (A. V. Aho, R. Sethi, J. D. Ullman, Compilers, 1986, 10.9).
use Rattle.std.specs.Prelude.{◌≡◌, ℕ, ◌==◌, Bool, true, false, ◌&&◌, ◌||◌, ◌⊎◌, ◌↔◌, List, [], ◌∷◌, ◌++◌, get_or}
use Rattle.dcc_ir.specs.Tree.{Graph}
use Rattle.dcc_ir.specs.Flow.{IsPath, Any}
use Rattle.dcc_ir.specs.Live.{follows}
use Rattle.dcc_ir.specs.WellFormed.{all_differ}
use Rattle.dcc_flow.specs.Edges.{is_in, successors_of}

-- A depth-first search visits each of these blocks in turn, if it was not seen before: it visits the blocks that follow
-- it, in their order, and then lists the block before all that it has listed. `seen` are the blocks that were begun
-- before, then come the blocks to visit, and last those that the search lists.
pub data IsSearched (next : List (List ℕ)) : List ℕ → List ℕ → List ℕ → Type 0 where
  done : {seen : List ℕ} → IsSearched next seen [] []
  again :
      {seen blocks listed : List ℕ} {block : ℕ}
      → is_in seen block ≡ true
      → IsSearched next seen blocks listed
      → IsSearched next seen (block ∷ blocks) listed
  first :
      {seen blocks below listed : List ℕ} {block : ℕ}
      → is_in seen block ≡ false
      → IsSearched next (block ∷ seen) (get_or next block []) below
      → IsSearched next (below ++ block ∷ seen) blocks listed
      → IsSearched next seen (block ∷ blocks) (listed ++ block ∷ below)

-- the order in which the search from block 0 lists the blocks
abbrev pub IsReversePostOrder : Graph → List ℕ → Type 0
IsReversePostOrder graph order = IsSearched (successors_of graph) [] (0 ∷ []) order

-- Laws.

-- in the list the first number stands somewhere before the second
abbrev pub comes_before : List ℕ → ℕ → ℕ → Bool
comes_before [] a b = false
comes_before (n ∷ numbers) a b = (n == a && is_in numbers b) || comes_before numbers a b

-- an edge that leads on in the order
abbrev pub leads_on : Graph → List ℕ → ℕ → ℕ → Bool
leads_on graph order a b = follows graph a b && comes_before order a b

-- the block is the other one, or edges that lead on in the order lead there from it
abbrev pub IsAbove : Graph → List ℕ → ℕ → ℕ → Type 0
IsAbove graph order b a = (b ≡ a) ⊎ ((between : List ℕ) × IsPath (leads_on graph order) Any b between a)

-- The order begins with block 0, and has each block that is reached from there once, and no other. An edge leads on in
-- the order, or it retreats to a block above its own.
pub record IsOrder (graph : Graph) (order : List ℕ) : Type 0 where
  pub begins : (rest : List ℕ) × (order ≡ 0 ∷ rest)
  pub once : all_differ order ≡ true
  pub reached :
      (b : ℕ) → (is_in order b ≡ true) ↔ ((b ≡ 0) ⊎ ((between : List ℕ) × IsPath (follows graph) Any 0 between b))
  pub edges :
      (a b : ℕ) → is_in order a ≡ true → follows graph a b ≡ true
      → (comes_before order a b ≡ true) ⊎ IsAbove graph order b a

abbrev pub ReversePostOrdersAreOrders : Type 0
ReversePostOrdersAreOrders = (graph : Graph) (order : List ℕ) → IsReversePostOrder graph order → IsOrder graph order

-- there is but one
abbrev pub ReversePostOrderIsOne : Type 0
ReversePostOrderIsOne =
    (graph : Graph) (order other : List ℕ) → IsReversePostOrder graph order → IsReversePostOrder graph other
    → order ≡ other
