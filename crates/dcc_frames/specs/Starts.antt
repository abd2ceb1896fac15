-- From where bytes are exposed, as a list, and the exposed bytes by it. This stands between the definitions and the
-- code; no public contract rests on it.
use Rattle.std.specs.Prelude.{◌≤◌, ◌<◌, ℕ, ℤ, pos, neg_ℤ, ◌≤ℤ◌, ◌<ℤ◌, if◌then◌else◌, List, ◌++◌, All, Contains, Option}
use Rattle.std.specs.Prelude.{Some, None}
use Rattle.std.specs.List.{flat_map}
use Rattle.std.specs.Option.{option_to_list}
use Rattle.dcc_frames.specs.declared.bytes.Piece.{Piece}
use Rattle.dcc_frames.specs.declared.steps.Step.{Step}
use Rattle.dcc_frames.specs.Bytes.{is_small}
use Rattle.dcc_frames.specs.Used.{start_of}

-- the first byte of an extent that is too long for a cell
abbrev pub long_first : Piece → Option ℤ
long_first extent = if is_small extent.bytes then None else Some extent.bytes.first

-- from where instructions expose bytes
abbrev pub starts_by : List Step → List ℤ
starts_by steps = flat_map (λ step. option_to_list (start_of step.op step.height)) steps

-- from where instructions expose bytes, and from where extents that are too long for a cell do
abbrev pub starts_of : List Step → List Piece → List ℤ
starts_of steps extents = starts_by steps ++ flat_map (λ extent. option_to_list (long_first extent)) extents

-- an offset whose distance from BP a word has room for
pub record IsNear (start : ℤ) : Type 0 where
  pub low : neg_ℤ (pos 65535) ≤ℤ start
  pub high : start ≤ℤ pos 65535

-- this number of bytes directly below BP is exposed, by the least start below BP
pub data IsLocalBy (starts : List ℤ) : ℕ → Type 0 where
  no_local : All (λ start. pos 0 ≤ℤ start) starts → IsLocalBy starts 0
  local :
      {count : ℕ}
      → 0 < count
      → Contains starts (neg_ℤ (pos count))
      → All (λ start. neg_ℤ (pos count) ≤ℤ start) starts
      → IsLocalBy starts count

-- from which byte of the arguments on bytes are exposed: the least start of 4 or more
pub data IsArgumentBy (starts : List ℤ) : Option ℕ → Type 0 where
  no_argument : All (λ start. start <ℤ pos 4) starts → IsArgumentBy starts None
  from_argument :
      {least : ℕ}
      → 4 ≤ least
      → Contains starts (pos least)
      → All (λ start. pos 4 ≤ℤ start → pos least ≤ℤ start) starts
      → IsArgumentBy starts (Some least)
