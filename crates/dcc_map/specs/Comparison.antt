-- What a comparison of two runs tells, by the lists of their events.
use Rattle.std.specs.Prelude.{◌≡◌, ◌<◌, ℕ, ◌==◌, ◌&&◌, Bool, if◌then◌else◌, List, [], ◌∷◌, length, take, All}
use Rattle.std.specs.Prelude.{count_by, slice_get, Option, Some, None}
use Rattle.std.specs.List.{zip}
use Rattle.std.specs.List.Sorted.{IsStrictlySortedBy}
use Rattle.std.specs.declared.cmp.Ordering.{Ordering}
use Rattle.std.specs.Ordering.{nat_cmp, ordering_then}
use Rattle.dcc_run.specs.End.{End as RunEnd, Running as running, Exit as exited, Divide as divided}
use Rattle.dcc_run.specs.End.{Outside as outside, Stuck as stuck}
use Rattle.dcc_run.specs.Event.{Event, written_by}
use Rattle.dcc_run.specs.Prefix.{IsPrefix}
use Rattle.dcc_map.specs.declared.report.End.{End}
use Rattle.dcc_map.specs.declared.report.End.TheVariants.{Running, Exit, Divide, Outside, Stuck}
use Rattle.dcc_map.specs.declared.report.Pair.{Pair}
use Rattle.dcc_map.specs.declared.report.Report.{Report}
use Rattle.dcc_map.specs.Placed.{Placed, events_of}

-- the longest of the lists with which both lists begin
pub record IsLongestCommon {A : Type 0} (common first second : List A) : Type 0 where
  pub of_first : IsPrefix common first
  pub of_second : IsPrefix common second
  pub longest : (other : List A) → IsPrefix other first → IsPrefix other second → IsPrefix other common

-- Pairs of a line and an address.

-- whether an event of the machine and one of the text are of this address and of this line
abbrev pub is_at : ℕ → ℕ → Placed × Placed → Bool
is_at line at events = (events.1.at == line) && (events.0.at == at)

-- how often the line and the address stand beside each other
abbrev pub count_beside : ℕ → ℕ → List (Placed × Placed) → ℕ
count_beside line at both = count_by (is_at line at) both

-- the count of the pair of this line and this address, and 0 where there is none
abbrev pub count_in : List Pair → ℕ → ℕ → ℕ
count_in [] line at = 0
count_in (pair ∷ pairs) line at =
    if (pair.line == line) && (pair.at == at) then pair.count else count_in pairs line at

-- the order of pairs: by their lines, and by their addresses where these are equal
abbrev pub pair_cmp : Pair → Pair → Ordering
pair_cmp first second = ordering_then (nat_cmp first.line second.line) (nat_cmp first.at second.at)

-- the pairs of the events beside each other, in order, each with how often it stands there
pub record ArePairs (both : List (Placed × Placed)) (pairs : List Pair) : Type 0 where
  pub in_order : IsStrictlySortedBy pair_cmp pairs
  pub some : All (λ pair. 0 < pair.count) pairs
  pub counts : (line at : ℕ) → count_in pairs line at ≡ count_beside line at both

-- The report.

-- how a run has ended, of which a report tells
abbrev pub end_of : End → RunEnd
end_of Running = running
end_of (Exit code) = exited code
end_of Divide = divided
end_of (Outside at) = outside at
end_of (Stuck line) = stuck line

-- the line and the address of two events, where both are there
abbrev pub both_places : Option Placed → Option Placed → Option (ℕ × ℕ)
both_places (Some of_machine) (Some of_text) = Some (of_text.at, of_machine.at)
both_places _ _ = None

-- What is told of the machine's list of events and of the text's: how many bytes are written in the events with which
-- both begin, which lines and addresses stand beside each other there, and those of the first event of each after
-- these, where there is one in both lists; and both ends.
pub record IsReport (machine text : List Placed) (ends text_ends : RunEnd) (report : Report) : Type 0 where
  pub common : List Event
  pub longest : IsLongestCommon common (events_of machine) (events_of text)
  pub bytes : report.bytes ≡ length (written_by common)
  pub pairs : ArePairs (zip (take (length common) machine) (take (length common) text)) report.pairs.items
  pub differs :
      report.differs ≡ both_places (slice_get machine (length common)) (slice_get text (length common))
  pub machine_end : end_of report.machine ≡ ends
  pub text_end : end_of report.text ≡ text_ends
