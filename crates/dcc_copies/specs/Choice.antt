-- Names, and what they hold where blocks begin, as code has them. No public contract rests on it.
use Rattle.std.specs.Prelude.{◌≡◌, ℕ, ◌<◌, true, List, [], length, map, get_or, Contains}
use Rattle.dcc_ir.specs.declared.syntax.Loc.{Loc}
use Rattle.dcc_ir.specs.Tree.{Exit}
use Rattle.dcc_ir.specs.Flow.{targets}
use Rattle.dcc_copies.specs.declared.holders.Entry.{Entry}
use Rattle.dcc_copies.specs.declared.testing.Choice.{Choice as ChoiceOf}
use Rattle.dcc_copies.specs.Held.{Held}
use Rattle.dcc_copies.specs.Holders.{Holders, Covers, held_by, entries_at}

-- the entries of each block
abbrev pub begins_of : ChoiceOf → List (List Entry)
begins_of choice = map (λ entries. entries.items) choice.begins.items

-- what is held where each block begins
abbrev pub begins_by : List ℕ → List (List Entry) → ℕ → Held
begins_by names begins place = held_by names (entries_at begins place)

-- the block has no entries
abbrev pub BeginPlain : List (List Entry) → ℕ → Type 0
BeginPlain begins place = entries_at begins place ≡ []

-- each name of a temporary is one, of its width
pub record HaveWidths (names bits : List ℕ) : Type 0 where
  pub count : length names ≡ length bits
  pub below : (n : ℕ) → n < length bits → get_or names n 0 < length bits
  pub same : (n : ℕ) → n < length bits → get_or bits (get_or names n 0) 0 ≡ get_or bits n 0

-- what is held where blocks begin to which the end of a block leads, is held there
abbrev pub LeadsRight : List ℕ → List (List Entry) → Holders → Exit → Type 0
LeadsRight names begins h exit =
    (to : ℕ) → Contains (targets exit) to → Covers names h (entries_at begins to)
