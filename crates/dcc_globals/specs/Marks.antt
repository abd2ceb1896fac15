-- Tables over the offsets of the data segment, as code keeps them. This stands between the definitions and the code; no
-- public contract rests on it.
use Rattle.std.specs.Prelude.{◌≡◌, ℕ, ◌≤◌, ◌==◌, Bool, false, if◌then◌else◌, List, [], ◌∷◌, length, slice_index, slice_index_or}
use Rattle.std.specs.List.{list_any}
use Rattle.dcc_c.specs.Tree.{Global}
use Rattle.dcc_globals.specs.declared.pieces.Piece.{Piece}
use Rattle.dcc_globals.specs.declared.pieces.Piece.TheVariants.{OneByte, OneWord, Broken}
use Rattle.dcc_globals.specs.declared.source.DataSource.{DataSource}
use Rattle.dcc_globals.specs.declared.marks.Marks.{Marks}
use Rattle.dcc_globals.specs.declared.runs.Runs.{Runs}
use Rattle.dcc_globals.specs.declared.texts.Texts.{Texts}
use Rattle.dcc_globals.specs.declared.borders.Borders.{Borders}
use Rattle.dcc_globals.specs.Pieces.{Data, pieces, has_byte, crosses, is_displaced_by}
use Rattle.dcc_globals.specs.Gaps.{text_before, text_from, begins}
use Rattle.dcc_globals.specs.Globals.{global_at}

-- the data segment that code is given
abbrev pub data_of : DataSource → Data
data_of source = record {
  bytes = source.bytes.now;
  lo = source.lo;
  hi = source.hi;
  operands = source.operands.now;
}

-- the table, with a place more than there are offsets, tells of each whether the test of it holds of one of the things
pub record IsTable {X : Type 0} (test : ℕ → X → Bool) (xs : List X) (table : List Bool) : Type 0 where
  pub whole : length table ≡ 65537
  pub each : (at : ℕ) → slice_index_or table at false ≡ list_any (test at) xs

-- the piece is the byte at the offset alone; `breaks`: and broken
abbrev pub is_small : ℕ → Piece → Bool
is_small at (OneByte first) = first == at
is_small at (OneWord first) = false
is_small at (Broken first) = first == at

abbrev pub breaks : ℕ → Piece → Bool
breaks at (OneByte first) = false
breaks at (OneWord first) = false
breaks at (Broken first) = first == at

-- the tables of a program's data segment
pub record AreMarks (d : Data) (marks : Marks) : Type 0 where
  pub in_run : IsTable has_byte (pieces d) marks.in_run.items
  pub crossed : IsTable crosses (pieces d) marks.crossed.items
  pub small : IsTable is_small (pieces d) marks.small.items
  pub broken : IsTable breaks (pieces d) marks.broken.items
  pub displaced : IsTable is_displaced_by d.operands marks.displaced.items

-- the table tells of each border the number
pub record Counts (number : ℕ → ℕ) (table : List ℕ) : Type 0 where
  pub whole : length table ≡ 65537
  pub each : (at : ℕ) → at ≤ 65536 → slice_index table at ≡ number at

-- the tables of the text of gaps
pub record AreTexts (d : Data) (texts : Texts) : Type 0 where
  pub before : Counts (text_before d) texts.before.items
  pub behind : Counts (text_from d) texts.behind.items

-- the global variable that begins at an offset, if one does
abbrev pub global_if : Data → ℕ → List Global
global_if d at = if begins d at then global_at d at ∷ [] else []

-- the runs of a data segment, as its tables tell
abbrev pub AreRuns : Runs → Type 0
AreRuns runs = AreMarks (data_of runs.source) runs.marks

-- the tables of a data segment
pub record AreTables (borders : Borders) : Type 0 where
  pub runs : AreRuns borders.runs
  pub texts : AreTexts (data_of borders.runs.source) borders.texts
