-- Texts with new names: they run alike, and there are some.
use Rattle.std.specs.Prelude.{◌≡◌, ℕ, true, List, None}
use Rattle.std.specs.List.{list_all}
use Rattle.dcc_run.specs.System.{events_after, end_after}
use Rattle.dcc_c.specs.Numbered.{numbered}
use Rattle.dcc_c.specs.Run.{first_state, text_system}
use Rattle.dcc_c.specs.Text.{StandsFor}
use Rattle.dcc_c.specs.Tree.{Function, Tree}
use Rattle.dcc_c.specs.Written.{written_form}
use Rattle.dcc_renaming.specs.Changes.{Change, is_formed}
use Rattle.dcc_renaming.specs.Faults.{fault_in}
use Rattle.dcc_renaming.specs.Renamed.{changed, renamed_function, renamed}

-- From the two functions on, the runs of the two texts have the same events and the same end after each number of
-- steps, whatever the input is and what variables hold before they have a value.
pub record RunAlike (tree after : Tree) (start first : Function) : Type 0 where
  pub events : (fill n : ℕ) (input : List ℕ) →
      events_after (text_system after) n (first_state after first fill input)
      ≡ events_after (text_system tree) n (first_state tree start fill input)
  pub end : (fill n : ℕ) (input : List ℕ) →
      end_after (text_system after) n (first_state after first fill input)
      ≡ end_after (text_system tree) n (first_state tree start fill input)

-- A text runs as it does after changes of names of which none is at fault.
abbrev pub RenamedTextsRunAlike : Type 0
RenamedTextsRunAlike =
    (text : List ℕ) (tree : Tree) (is : StandsFor text tree) (changes : List Change) →
    list_all is_formed changes ≡ true → fault_in changes tree ≡ None →
    RunAlike tree (renamed changes tree) is.allowed.start (renamed_function (changed changes) is.allowed.start)

-- The tree of a text, after changes of names of which none is at fault, has a text: its written form stands for it,
-- with its lines counted anew.
abbrev pub RenamedTreesHaveTexts : Type 0
RenamedTreesHaveTexts =
    (text : List ℕ) (tree : Tree) → StandsFor text tree → (changes : List Change) →
    list_all is_formed changes ≡ true → fault_in changes tree ≡ None →
    StandsFor (written_form (renamed changes tree)) (numbered (renamed changes tree))
