-- How a graph is reduced (M. S. Hecht, J. D. Ullman, Flow graph reducibility, 1972). At first each reached node is a
-- region, named by this node. A region is joined into another one where the edges to its node come from these two, and
-- some from the other one; the region of the graph's entry never is. What comes of it, when no more can be joined, does
-- not depend on the order.
use Rattle.std.specs.Prelude.{◌≡◌, ℕ, Bool, true, ◌↔◌}
use Rattle.dcc_interval.specs.Graphs.{IsReached}

mutual
  -- A region has its own node. It has each node but the graph's entry to which an edge leads from the region, where
  -- each such edge comes from it or from the node's own region. It has the region of each of its nodes.
  pub data InRegion (edge : ℕ → ℕ → Bool) (entry : ℕ) : ℕ → ℕ → Type 0 where
    own : {n : ℕ} → InRegion edge entry n n
    joins :
        {region m n : ℕ}
        → ¬ (n ≡ entry)
        → InRegion edge entry region m
        → edge m n ≡ true
        → ((k : ℕ) → IsReached edge entry k → edge k n ≡ true → InEither edge entry region n k)
        → InRegion edge entry region n
    holds : {region k n : ℕ} → InRegion edge entry region k → InRegion edge entry k n → InRegion edge entry region n

  -- one of two regions has the node
  pub data InEither (edge : ℕ → ℕ → Bool) (entry : ℕ) : ℕ → ℕ → ℕ → Type 0 where
    in_one : {one other n : ℕ} → InRegion edge entry one n → InEither edge entry one other n
    in_other : {one other n : ℕ} → InRegion edge entry other n → InEither edge entry one other n

-- an edge leads to the node from its own region
pub record IsLedBackTo (edge : ℕ → ℕ → Bool) (entry n : ℕ) : Type 0 where
  pub reached : IsReached edge entry n
  pub from : ℕ
  pub inside : InRegion edge entry n from
  pub leads_back : edge from n ≡ true

-- the region of the entry has each node
abbrev pub HasAll : (ℕ → ℕ → Bool) → ℕ → Type 0
HasAll edge entry = (n : ℕ) → IsReached edge entry n → InRegion edge entry entry n

-- the loop headers are the nodes to which an edge leads from their own region, and one region remains where that of the
-- entry has each node
pub record IsReduced (edge : ℕ → ℕ → Bool) (entry : ℕ) (is_header : ℕ → Bool) (ends_in_one : Bool) : Type 0 where
  pub headers : (n : ℕ) → (is_header n ≡ true) ↔ IsLedBackTo edge entry n
  pub one : (ends_in_one ≡ true) ↔ HasAll edge entry
