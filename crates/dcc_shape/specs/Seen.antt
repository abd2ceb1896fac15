-- What the code keeps of each statement of a function. No public contract rests on it.
use Rattle.std.specs.Prelude.{◌≡◌, ℕ, ◌-◌, ◌<◌, Bool, true, false, ◌&&◌, ◌||◌, not, List, [], ◌∷◌}
use Rattle.std.specs.Prelude.{Option, Some, None, option_map}
use Rattle.std.specs.List.{list_any}
use Rattle.std.specs.BTreeSet.{BTreeSet, contains}
use Rattle.std.specs.Ordering.{nat_cmp}
use denote.Ref.{Bor}
use Rattle.dcc_c.specs.Tree.{Word, Stmt}
use Rattle.dcc_c.specs.Views.{stmt_of}
use Rattle.dcc_shape.specs.declared.seen.Seen.{Seen as SeenOf}
use Rattle.dcc_shape.specs.Spots.{Spot, is_the, label_in, goal_in, goal_passes}
use Rattle.dcc_shape.specs.Shape.{label_of, is_of_first}

-- A statement; the label before it; whether it does not go to the label of its innermost loop; whether it goes to that
-- of a loop around it; and how many blocks more may stand around it.
pub record Seen : Type 0 where
  pub stmt : Stmt
  pub label : Option Word
  pub spares_own : Bool
  pub is_round : Bool
  pub room : ℕ

-- the word that is lent, if there is one
abbrev pub lent : Option (Bor (List ℕ)) → Option Word
lent label = option_map (λ w. w.now) label

abbrev pub seen_in : SeenOf → Seen
seen_in s = record {
  stmt = stmt_of s.stmt.now;
  label = lent s.label;
  spares_own = s.spares_own;
  is_round = s.is_round;
  room = s.room;
}

-- the statement does not go to the label of the first of these loops
abbrev pub spares_own : List (Option Word) → Stmt → Bool
spares_own loops stmt = goal_passes (λ word. not (is_of_first loops word)) stmt

-- the statement goes to the label of one of these loops
abbrev pub goes_round : List (Option Word) → Stmt → Bool
goes_round loops stmt = elim (goal_in stmt) [ Some word ↦ list_any (is_the word) loops | None ↦ false ]

-- what is kept of a statement
abbrev pub seen : Spot → Seen
seen s = record {
  stmt = s.stmt;
  label = s.label;
  spares_own = spares_own s.loops s.stmt;
  is_round = goes_round s.loops s.stmt;
  room = 199 - s.depth;
}

-- one of the statements is this label
abbrev pub has_label : List Seen → Word → Bool
has_label list word = list_any (λ s. is_the word (label_in s.stmt)) list

-- the statement goes to one of these labels or to that of a loop around it, if it is a `goto`
abbrev pub may_go : List Seen → Seen → Bool
may_go later s = goal_passes (λ word. has_label later word || s.is_round) s.stmt

-- each of the statements goes to a label after it or to that of a loop around it, if it is a `goto`
abbrev pub may_all_go : List Seen → Bool
may_all_go [] = true
may_all_go (s ∷ later) = may_go later s && may_all_go later

-- the statement goes to the label of an offset, if it is a `goto`
abbrev pub GoesToOffset : Stmt → Type 0
GoesToOffset stmt = (word : Word) → goal_in stmt ≡ Some word → (at : ℕ) × (at < 65536) × (word ≡ label_of at)

-- the set has just the offsets that the labels among the statements name
abbrev pub AreLabels : BTreeSet ℕ → List Seen → Type 0
AreLabels known list = (at : ℕ) → at < 65536 → has_label list (label_of at) ≡ contains nat_cmp known at
