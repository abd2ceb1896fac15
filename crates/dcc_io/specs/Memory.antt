-- The objects in memory, as their contracts see them.
use Rattle.std.specs.Prelude.{ℕ, zero, suc, ◌+◌, ◌^◌, ◌-◌, Bool, if◌then◌else◌, nat_eq, nat_lt, ◌&&◌, min, List, map}
use Rattle.std.specs.Prelude.{Option, String, Vec}
use Rattle.std.specs.String.{string_bytes}
use Rattle.std.specs.Str.{bytes_eq}
use Rattle.std.specs.List.{list_any}
use Rattle.std.specs.Map.{lookup}
use Rattle.std.specs.declared.alloc.Global.{Global}

-- whether the call of this number is on the list of the calls that are to fail
abbrev pub is_listed : List ℕ → ℕ → Bool
is_listed fail call = list_any (λ number. nat_eq number call) fail

-- whether the next call is to fail, after n calls; a counter at its last value stands still, and then no call is
abbrev pub fails_next : List ℕ → ℕ → Bool
fails_next fail n = nat_lt n (2 ^ 64 - 1) && is_listed fail (n + 1)

-- the number of calls after one more
abbrev pub next_count : ℕ → ℕ
next_count n = min (n + 1) (2 ^ 64 - 1)

-- how many of the calls 1 to n are on the list
unfoldable pub listed_calls : List ℕ → ℕ → ℕ
listed_calls fail zero = 0
listed_calls fail (suc n) = listed_calls fail n + (if is_listed fail (suc n) then 1 else 0)

-- input in memory
pub record SourceState : Type 0 where
  -- the bytes not yet read
  pub left : List ℕ
  -- the number of reads so far
  pub reads : ℕ
  -- the numbers of the reads that are to fail
  pub fail : List ℕ
  -- the greatest number of bytes of one read
  pub most : ℕ

-- output in memory
pub record SinkState : Type 0 where
  -- the bytes taken so far
  pub taken : List ℕ
  -- the number of writes so far
  pub writes : ℕ
  -- how many of the writes failed because memory was wanting
  pub refused : ℕ
  -- the numbers of the writes that are to fail
  pub fail : List ℕ
  -- the greatest number of bytes of one write
  pub most : ℕ

-- how many writes have failed
abbrev pub sink_faults : SinkState → ℕ
sink_faults s = listed_calls s.fail s.writes + s.refused

-- files in memory
pub record ShelfState : Type 0 where
  -- names and bytes
  pub files : List (List ℕ × List ℕ)
  -- the requests so far: a name, and the greatest number of bytes
  pub asked : List (List ℕ × ℕ)
  -- the number of fetches so far
  pub fetches : ℕ
  -- how many of the fetches found no file
  pub absences : ℕ
  -- the numbers of the fetches that are to fail
  pub fail : List ℕ

-- the files' names and bytes
abbrev pub files_of : List (String Global × Vec ℕ Global) → List (List ℕ × List ℕ)
files_of files = map (λ file. (string_bytes file.0, file.1.items)) files

-- the requests' names and numbers
abbrev pub requests_of : List (String Global × ℕ) → List (List ℕ × ℕ)
requests_of requests = map (λ request. (string_bytes request.0, request.1)) requests

-- the bytes of the file of that name
abbrev pub file_named : List (List ℕ × List ℕ) → List ℕ → Option (List ℕ)
file_named files name = lookup (λ file. bytes_eq file name) files
