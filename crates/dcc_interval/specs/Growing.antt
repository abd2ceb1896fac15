-- How intervals grow, one after another. No public contract rests on it.
use Rattle.std.specs.Prelude.{◌≡◌, ℕ, ◌<◌, ◌≤◌, Bool, true, false, ◌||◌, not, if◌then◌else◌, List, [], ◌∷◌, ◌++◌}
use Rattle.std.specs.Prelude.{length, get_or, slice_set, take, All}
use Rattle.std.specs.List.{list_any}
use Rattle.dcc_ir.specs.WellFormed.{all_differ}
use Rattle.dcc_flow.specs.Edges.{is_in, leads}
use Rattle.dcc_interval.specs.declared.growth.Parting.{Parting}
use Rattle.dcc_interval.specs.Graphs.{IsReached}
use Rattle.dcc_interval.specs.Intervals.{InInterval, IsHeader, Interval, headers_of, IsInterval, intervals_in}
use Rattle.dcc_interval.specs.Noted.{Noted, noted_of}

-- which reached nodes are in no interval; which nodes are in an interval or the header of one; and the nodes of the
-- interval that grows
pub record Growing : Type 0 where
  pub free : List Bool
  pub claimed : List Bool
  pub members : List ℕ

-- one of these nodes is in no interval
abbrev pub is_held : List Bool → List ℕ → Bool
is_held free sources = list_any (λ m. get_or free m false) sources

-- the node joins, unless it is claimed or a node before it is in no interval
abbrev pub joined : List (List ℕ) → Growing → ℕ → Growing
joined sources s n =
    if get_or s.claimed n false || is_held s.free (get_or sources n []) then s
    else record {
      free = slice_set s.free n false;
      claimed = slice_set s.claimed n true;
      members = s.members ++ n ∷ [];
    }

abbrev pub all_joined : List (List ℕ) → Growing → List ℕ → Growing
all_joined sources s [] = s
all_joined sources s (n ∷ ns) = all_joined sources (joined sources s n) ns

-- of the nodes before each, as many as were looked at are in intervals
abbrev pub AreChecked : List (List ℕ) → List Bool → List ℕ → Type 0
AreChecked sources free checked = (n k : ℕ) → k < get_or checked n 0
    → get_or free (get_or (get_or sources n []) k 0) false ≡ false

-- what the code knows of each node has its place, and what it looked at is right
pub record IsReady (sources : List (List ℕ)) (p : Parting) : Type 0 where
  pub free : length p.free.items ≡ length sources
  pub marks : length p.heads.marks.items ≡ length sources
  pub checked : length p.checked.items ≡ length sources
  pub right : AreChecked sources p.free.items p.checked.items

abbrev pub growing_of : Parting → List ℕ → Growing
growing_of p members = record { free = p.free.items; claimed = p.heads.marks.items; members = members }

-- the node is in one of these intervals
abbrev pub is_done : List Interval → ℕ → Bool
is_done done n = list_any (λ i. is_in i.members n) done

-- These intervals are done, one for each header from the first on, and those of the other headers are to come. A node
-- is claimed where it is a header or in an interval, and so is each that follows a node in an interval.
pub record AreParted (next : List (List ℕ)) (entry : ℕ) (done : List Interval) (free : List Bool) (heads : Noted)
    : Type 0 where
  pub free_count : length free ≡ length next
  pub count : length heads.marks ≡ length next
  pub begins : (others : List ℕ) × (heads.list ≡ entry ∷ others)
  pub differ : all_differ heads.list ≡ true
  pub heads_are : (n : ℕ) → is_in heads.list n ≡ true → IsHeader (leads next) entry n
  pub done_within : length done ≤ length heads.list
  pub done_are : headers_of done ≡ take (length done) heads.list
  pub exact : All (IsInterval (leads next) entry) done
  pub frees : (n : ℕ) → IsReached (leads next) entry n → get_or free n false ≡ not (is_done done n)
  pub claimed : (n : ℕ) → get_or heads.marks n false ≡ (is_in heads.list n || is_done done n)
  pub closed : (m n : ℕ) → is_done done m ≡ true → leads next m n ≡ true → get_or heads.marks n false ≡ true

-- what holds of marks and lists while the interval of a header grows
pub record IsGrown (next : List (List ℕ)) (entry : ℕ) (done : List Interval) (heads : List ℕ) (header : ℕ) (s : Growing)
    : Type 0 where
  pub free_count : length s.free ≡ length next
  pub count : length s.claimed ≡ length next
  pub frees : (n : ℕ) → IsReached (leads next) entry n
      → get_or s.free n false ≡ not (is_done done n || is_in s.members n)
  pub claimed : (n : ℕ)
      → get_or s.claimed n false ≡ (is_in heads n || (is_done done n || is_in s.members n))
  pub members : (n : ℕ) → is_in s.members n ≡ true → InInterval (leads next) entry header n
  pub differ : all_differ s.members ≡ true
  pub own : is_in s.members header ≡ true

-- the node that the graph is entered at, the first header
abbrev pub entry_of : Parting → ℕ
entry_of p = get_or p.heads.list.items 0 0

-- what the code knows is right
abbrev pub IsParted : List (List ℕ) → ℕ → Parting → Type 0
IsParted next entry p = AreParted next entry (intervals_in p.intervals.items) p.free.items (noted_of p.heads)
