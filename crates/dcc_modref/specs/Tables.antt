-- States at the begins of the blocks of a graph: when they are sound and when they are closed.
use Rattle.std.specs.Prelude.{◌≡◌, ℕ, ◌+◌, replicate, zero, suc, Bool, true, false, not, List, [], ◌∷◌, length, filter}
use Rattle.std.specs.Prelude.{flat_map, map, get_or, All, Option, Some, None, option_map}
use Rattle.dcc_ir.specs.declared.syntax.Loc.{Loc}
use Rattle.dcc_ir.specs.Tree.{Graph}
use Rattle.dcc_ir.specs.Flow.{targets}
use Rattle.dcc_ir.specs.Live.{is_among, block_in}
use Rattle.dcc_demand.specs.Trail.{IsTrail}
use Rattle.dcc_demand.specs.Changes.{IsWritten, IsUnsaved, Loses}
use Rattle.dcc_sums.specs.Points.{Position, begin_of}
use Rattle.dcc_sums.specs.Instance.{procedure_of}
use Rattle.dcc_modref.specs.States.{State, at_entry, is_unsaved, after_all, pushed_by, state_of}
use Rattle.dcc_modref.specs.Losses.{told}
use Rattle.dcc_modref.specs.declared.state.State.{State as StateOf}

-- the states of blocks that were reached
abbrev pub States : Type 0
States = List (Option State)

abbrev pub states_of : List (Option StateOf) → States
states_of begins = map (option_map state_of) begins

-- only the first of so many blocks is reached
abbrev pub first_states : ℕ → States
first_states zero = []
first_states (suc count) = Some at_entry ∷ replicate count None

-- what the one state tells the other tells too
pub record IsWithin (s t : State) : Type 0 where
  pub written : s.written ≡ true → t.written ≡ true
  pub lost : s.lost ≡ true → t.lost ≡ true
  pub unsaved : (word : Loc) → is_unsaved s word ≡ true → is_unsaved t word ≡ true

-- the block is reached with at least that state
pub record Flows (s : State) (begins : States) (block : ℕ) : Type 0 where
  pub state : State
  pub there : get_or begins block None ≡ Some state
  pub within : IsWithin s state

module _ (changed : ℕ → Bool) (graph : Graph) (location : Loc) where
  -- some trail to the point does so
  abbrev pub SomeTrail : Position → (List Position → Type 0) → Type 0
  SomeTrail a Does = (passed : List Position) × IsTrail (procedure_of graph) passed a × Does passed

  -- some trails to the point do what the state tells
  pub record IsMet (a : Position) (s : State) : Type 0 where
    pub passed : List Position
    pub trail : IsTrail (procedure_of graph) passed a
    pub written : s.written ≡ true
        → SomeTrail a (IsWritten (told changed) (procedure_of graph) location)
    pub lost : s.lost ≡ true
        → SomeTrail a (Loses (told changed) (procedure_of graph) location)
    pub unsaved : (word : Loc) → is_unsaved s word ≡ true
        → SomeTrail a (IsUnsaved (told changed) (procedure_of graph) location word)

  -- each state is met
  abbrev pub AreMet : States → Type 0
  AreMet begins = (block : ℕ) (s : State) → get_or begins block None ≡ Some s → IsMet (begin_of block) s

  -- the block's state has flowed on to the blocks after it
  abbrev pub HasFlowed : States → ℕ → Type 0
  HasFlowed begins block = (s : State) → get_or begins block None ≡ Some s
      → All (Flows (after_all changed graph.pushed location (block_in graph block).stmts s) begins)
      (targets (block_in graph block).exit)

  -- all have, and the first block is entered
  pub record AreClosed (begins : States) : Type 0 where
    pub entered : Flows at_entry begins 0
    pub flowed : (block : ℕ) → HasFlowed begins block

-- How much can still become known.

-- the words into which the graph pushes the location
abbrev pub words_of : Loc → Graph → List Loc
words_of location graph = flat_map (λ block. flat_map (pushed_by location) block.stmts) graph.blocks

abbrev pub one_if : Bool → ℕ
one_if true = 1
one_if false = 0

-- how much the state at the begin of a block may still change
abbrev pub left_of : List Loc → Option State → ℕ
left_of words None = length words + 4
left_of words (Some s) =
    one_if (not s.written) + one_if (not s.lost) + length (filter (is_among s.saved) words)

-- how much the states at the begins of blocks may still change
abbrev pub left_in : List Loc → States → ℕ
left_in words [] = 0
left_in words (state ∷ begins) = left_of words state + left_in words begins

-- the words of each state are some of these
abbrev pub AreOf : List Loc → States → Type 0
AreOf words begins = (block : ℕ) (s : State) (word : Loc) → get_or begins block None ≡ Some s
    → is_among s.saved word ≡ true → is_among words word ≡ true

-- What holds while states flow through a graph.
pub record AreFlowing (changed : ℕ → Bool) (graph : Graph) (location : Loc) (begins : States) : Type 0 where
  pub count : length begins ≡ length graph.blocks
  pub met : AreMet changed graph location begins
  pub known : AreOf (words_of location graph) begins
  pub entered : Flows at_entry begins 0
