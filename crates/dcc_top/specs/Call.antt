-- What a call was given and what it left, as the objects outside tell it.
use Rattle.std.specs.Prelude.{◌≡◌, ℕ, List, Option}
use Rattle.dcc_io.specs.Count.{Rose}
use Rattle.dcc_io.specs.Told.{append_told, AppendsProperPrefix}
use Rattle.dcc_top.specs.Answer.{Files}
pub use Rattle.dcc_top.specs.Change.{Change, change, same}
use Rattle.dcc_commands.specs.Words.{Job}

-- the count has risen in the call
abbrev pub Rises : Change ℕ → Type 0
Rises count = Rose count.before count.after

-- what was asked of the shelf: names, each with the greatest number of bytes
abbrev pub Requests : Type 0
Requests = List (List ℕ × ℕ)

-- The shelf: its files; the requests so far; how often it has found no file, and how often it has failed.
pub record ShelfChange : Type 0 where
  pub files : Files
  pub asked : Change Requests
  pub absences : Change ℕ
  pub faults : Change ℕ

abbrev pub shelf_change : {S : Type 0} → (S → Files) → (S → Requests) → (S → ℕ) → (S → ℕ) → S → S → ShelfChange
shelf_change files asked absences faults before after = record {
  files = files before;
  asked = change asked before after;
  absences = change absences before after;
  faults = change faults before after;
}

-- a shelf of which nothing was asked
abbrev pub unasked : Files → Requests → ℕ → ℕ → ShelfChange
unasked files asked absences faults =
    record { files = files; asked = same asked; absences = same absences; faults = same faults }

-- An input: the bytes that are left, where they are told; how often a read has failed.
pub record SourceChange : Type 0 where
  pub left : Change (Option (List ℕ))
  pub faults : Change ℕ

abbrev pub source_change : {S : Type 0} → (S → Option (List ℕ)) → (S → ℕ) → S → S → SourceChange
source_change left faults before after =
    record { left = change left before after; faults = change faults before after }

-- an input of which nothing was read
abbrev pub unread : Option (List ℕ) → ℕ → SourceChange
unread left faults = record { left = same left; faults = same faults }

-- An output: the bytes that were taken, where they are told; how often a write has failed.
pub record SinkChange : Type 0 where
  pub taken : Change (Option (List ℕ))
  pub faults : Change ℕ

abbrev pub sink_change : {S : Type 0} → (S → Option (List ℕ)) → (S → ℕ) → S → S → SinkChange
sink_change taken faults before after =
    record { taken = change taken before after; faults = change faults before after }

-- the bytes were appended to the output; `AppendsPart`: a part of them, and not all
abbrev pub Appends : SinkChange → List ℕ → Type 0
Appends output bytes = output.taken.after ≡ append_told output.taken.before bytes

abbrev pub AppendsPart : SinkChange → List ℕ → Type 0
AppendsPart output bytes = AppendsProperPrefix output.taken.before output.taken.after bytes

-- an output to which nothing was written
abbrev pub unwritten : Option (List ℕ) → ℕ → SinkChange
unwritten taken faults = record { taken = same taken; faults = same faults }

-- A whole call of the program: the job of its words, the objects outside, and its exit status.
pub record Call : Type 0 where
  pub job : Option Job
  pub shelf : ShelfChange
  pub input : SourceChange
  pub output : SinkChange
  pub errors : SinkChange
  pub status : ℕ
