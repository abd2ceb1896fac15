-- The intervals of a graph (F. E. Allen, J. Cocke, A program data flow analysis procedure, 1976).
use Rattle.std.specs.Prelude.{◌≡◌, ℕ, Bool, true, ◌↔◌, List, ◌∷◌, map, All}
use Rattle.dcc_ir.specs.WellFormed.{all_differ}
use Rattle.dcc_flow.specs.Edges.{is_in}
use Rattle.dcc_interval.specs.declared.interval.Interval.{Interval as IntervalOf}
use Rattle.dcc_interval.specs.Graphs.{IsReached}

-- The interval of a header has the header, and each other reached node but the graph's entry all of whose reached
-- predecessors are in it.
pub data InInterval (edge : ℕ → ℕ → Bool) (entry header : ℕ) : ℕ → Type 0 where
  itself : InInterval edge entry header header
  follows :
      {n : ℕ}
      → ¬ (n ≡ entry)
      → IsReached edge entry n
      → ((m : ℕ) → IsReached edge entry m → edge m n ≡ true → InInterval edge entry header m)
      → InInterval edge entry header n

-- the headers that part the graph: its entry, and each node to which an edge leads from an interval that it is not in
pub data IsHeader (edge : ℕ → ℕ → Bool) (entry : ℕ) : ℕ → Type 0 where
  first : IsHeader edge entry entry
  entered :
      {header m n : ℕ}
      → IsHeader edge entry header
      → InInterval edge entry header m
      → edge m n ≡ true
      → ¬ (InInterval edge entry header n)
      → IsHeader edge entry n

pub record Interval : Type 0 where
  pub header : ℕ
  pub members : List ℕ

abbrev pub headers_of : List Interval → List ℕ
headers_of intervals = map (λ i. i.header) intervals

-- the members of the interval are the nodes of its header's interval, each once
pub record IsInterval (edge : ℕ → ℕ → Bool) (entry : ℕ) (interval : Interval) : Type 0 where
  pub once : all_differ interval.members ≡ true
  pub exact : (n : ℕ) → (is_in interval.members n ≡ true) ↔ InInterval edge entry interval.header n

-- the intervals that part the graph, each once, that of its entry first
pub record AreIntervals (edge : ℕ → ℕ → Bool) (entry : ℕ) (intervals : List Interval) : Type 0 where
  pub first : (others : List ℕ) × (headers_of intervals ≡ entry ∷ others)
  pub once : all_differ (headers_of intervals) ≡ true
  pub headers : (n : ℕ) → (is_in (headers_of intervals) n ≡ true) ↔ IsHeader edge entry n
  pub members : All (IsInterval edge entry) intervals

-- what the declared values stand for
abbrev pub interval_in : IntervalOf → Interval
interval_in i = record { header = i.header; members = i.members.items }

abbrev pub intervals_in : List IntervalOf → List Interval
intervals_in intervals = map interval_in intervals
