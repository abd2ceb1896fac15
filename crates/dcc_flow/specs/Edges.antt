-- The edges of a graph, by the places of its blocks.
use Rattle.std.specs.Prelude.{◌≡◌, ℕ, ◌+◌, ◌<◌, ◌==◌, Bool, List, [], ◌∷◌, map, length, get_or, All}
use Rattle.std.specs.List.{list_any}
use Rattle.std.specs.List.Sorted.{IsStrictlyIncreasing}
use Rattle.std.specs.Global.{Vec}
use Rattle.dcc_ir.specs.Tree.{Graph}
use Rattle.dcc_ir.specs.Flow.{targets}

-- the numbers of each list
abbrev pub rows : List (Vec ℕ) → List (List ℕ)
rows lists = map (λ l. l.items) lists

-- the number is one of the list
abbrev pub is_in : List ℕ → ℕ → Bool
is_in numbers n = list_any (λ m. m == n) numbers

-- for each block of the graph the blocks that may follow it, in the order of its end
abbrev pub successors_of : Graph → List (List ℕ)
successors_of graph = map (λ b. targets b.exit) graph.blocks

-- each number is the place of a list
abbrev pub AreWithin : List (List ℕ) → Type 0
AreWithin next = All (λ row. All (λ place. place < length next) row) next

-- an edge leads from the one block to the other, where these follow each block
abbrev pub leads : List (List ℕ) → ℕ → ℕ → Bool
leads next a b = is_in (get_or next a []) b

-- how many numbers the lists have together
abbrev pub entries : List (List ℕ) → ℕ
entries [] = 0
entries (row ∷ next) = length row + entries next

-- for each block just the blocks with an edge to it, each once, in ascending order
pub record ArePredecessors (next preds : List (List ℕ)) : Type 0 where
  pub len : length preds ≡ length next
  pub exact : (a b : ℕ) → b < length next → is_in (get_or preds b []) a ≡ leads next a b
  pub ascending : All IsStrictlyIncreasing preds
