-- Laws of intervals.
use Rattle.std.specs.Prelude.{◌≡◌, ℕ, ◌<◌, Bool, true, ◌⊎◌, List, ◌∷◌, length, map}
use Rattle.dcc_ir.specs.Flow.{IsPath}
use Rattle.dcc_flow.specs.Edges.{is_in, leads, AreWithin}
use Rattle.dcc_interval.specs.Graphs.{IsReached}
use Rattle.dcc_interval.specs.Intervals.{InInterval, Interval, AreIntervals}
use Rattle.dcc_interval.specs.Derived.{members_at, IsDerived, loop_headers, ends_in_one}
use Rattle.dcc_interval.specs.Reduction.{IsReduced}

-- the node is in just one of the intervals
pub record IsInOne (intervals : List Interval) (n : ℕ) : Type 0 where
  pub place : ℕ
  pub inside : place < length intervals
  pub holds : is_in (members_at intervals place) n ≡ true
  pub alone : (other : ℕ) → is_in (members_at intervals other) n ≡ true → other ≡ place

abbrev pub IntervalsPartGraphs : Type 0
IntervalsPartGraphs = (edge : ℕ → ℕ → Bool) (entry : ℕ) (intervals : List Interval) → AreIntervals edge entry intervals
    → (n : ℕ) → IsReached edge entry n → IsInOne intervals n

-- The other description of an interval: the greatest subgraph that is entered at its header alone, and in which each
-- closed path holds the header.

-- Reached nodes, the header among them. Edges from outside, and the way into the graph, lead to the header alone. Each
-- closed path of these nodes holds it.
pub record IsSingleEntry (edge : ℕ → ℕ → Bool) (entry header : ℕ) (Part : ℕ → Type 0) : Type 0 where
  pub own : Part header
  pub reached : (n : ℕ) → Part n → IsReached edge entry n
  pub entered : (n : ℕ) → Part n → (n ≡ header) ⊎ (¬ (n ≡ entry))
  pub edges : (m n : ℕ) → IsReached edge entry m → edge m n ≡ true → Part n → (n ≡ header) ⊎ Part m
  pub closed : (n : ℕ) (between : List ℕ) → Part n → IsPath edge Part n between n → is_in (n ∷ between) header ≡ true

-- the interval of a header is such a subgraph, and holds each other
pub record IsGreatest (edge : ℕ → ℕ → Bool) (entry header : ℕ) : Type 0 where
  pub is_one : IsSingleEntry edge entry header (InInterval edge entry header)
  pub holds : (part : ℕ → Bool) → IsSingleEntry edge entry header (λ n. part n ≡ true)
      → (n : ℕ) → part n ≡ true → InInterval edge entry header n

abbrev pub IntervalsAreGreatest : Type 0
IntervalsAreGreatest = (next : List (List ℕ)) (entry header : ℕ) → AreWithin next → entry < length next
    → IsReached (leads next) entry header → IsGreatest (leads next) entry header

-- Derived sequences of a graph.

-- two sequences of levels have the same loop headers, and as many intervals at each level
pub record AreAlike (edge : ℕ → ℕ → Bool) (levels others : List (List Interval)) : Type 0 where
  pub headers : (n : ℕ) → is_in (loop_headers edge levels) n ≡ is_in (loop_headers edge others) n
  pub counts : map (λ (level : List Interval). length level) levels
      ≡ map (λ (level : List Interval). length level) others

-- the derived sequences of a graph are alike
abbrev pub DerivedSequencesAgree : Type 0
DerivedSequencesAgree = (edge : ℕ → ℕ → Bool) (entry : ℕ) (levels others : List (List Interval))
    → IsDerived edge entry levels → IsDerived edge entry others → AreAlike edge levels others

-- The loop headers of a derived sequence of a graph are those of the graph's reduction. It ends in one node where the
-- reduction does.
abbrev pub DerivedSequencesReduce : Type 0
DerivedSequencesReduce = (edge : ℕ → ℕ → Bool) (entry : ℕ) (levels : List (List Interval)) → IsDerived edge entry levels
    → IsReduced edge entry (is_in (loop_headers edge levels)) (ends_in_one levels)

-- each graph has a derived sequence
abbrev pub GraphsHaveDerivedSequences : Type 0
GraphsHaveDerivedSequences = (next : List (List ℕ)) (entry : ℕ) → AreWithin next → entry < length next
    → (levels : List (List Interval)) × IsDerived (leads next) entry levels
