-- What statements one after another make of what, and what they use, as lists that are computed; and what they do to a
-- location and to a word of the stack.
use Rattle.std.specs.Prelude.{ℕ, if◌then◌else◌, List, [], ◌∷◌, ◌++◌, flat_map}
use Rattle.dcc_ir.specs.declared.syntax.Loc.{Loc}
use Rattle.dcc_ir.specs.Tree.{Stmt}
use Rattle.dcc_ir.specs.Demand.{makes_of}
use Rattle.dcc_ir.specs.Live.{is_among}
use Rattle.dcc_demand.specs.Procedures.{Effect, Leaves, WordEffect, LeavesWord}
use Rattle.dcc_refinement.specs.Steps.{later_effect, later_word_effect}
use Rattle.dcc_sums.specs.Instance.{used_by, written_by, action_of}

-- of what a statement makes the location: of the location itself, where it doesn't write it
abbrev pub before : Stmt → Loc → List Loc
before stmt location = if is_among (written_by stmt) location then makes_of stmt else location ∷ []

-- the locations of whose values before the statements the location's value after them is made
abbrev pub sources : List Stmt → Loc → List Loc
sources [] location = location ∷ []
sources (stmt ∷ stmts) location = flat_map (before stmt) (sources stmts location)

-- what the statements use, where the given locations are used after them
abbrev pub used : List Stmt → List Loc → List Loc
used [] after = after
used (stmt ∷ stmts) after = used_by stmt ++ flat_map (before stmt) (used stmts after)

-- what the last of the statements that writes the location does to it, where pushed words have the cells from the
-- given number on
abbrev pub effect_after : ℕ → List Stmt → Loc → Effect Loc Loc
effect_after pushed [] location = Leaves
effect_after pushed (stmt ∷ stmts) location =
    later_effect (effect_after pushed stmts location) ((action_of pushed stmt).effect location)

-- what the last of the statements that writes the word does to it
abbrev pub word_effect_after : ℕ → List Stmt → Loc → WordEffect Loc
word_effect_after pushed [] word = LeavesWord
word_effect_after pushed (stmt ∷ stmts) word =
    later_word_effect (word_effect_after pushed stmts word) ((action_of pushed stmt).word_effect word)
