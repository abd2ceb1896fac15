-- Graphs as their edges: a node is a number, and a graph is entered at one of them. Only what is reached takes part.
use Rattle.std.specs.Prelude.{◌≡◌, ℕ, Bool, true}

-- edges lead from the entry to the node
pub data IsReached (edge : ℕ → ℕ → Bool) (entry : ℕ) : ℕ → Type 0 where
  at_entry : IsReached edge entry entry
  along : {m n : ℕ} → IsReached edge entry m → edge m n ≡ true → IsReached edge entry n
