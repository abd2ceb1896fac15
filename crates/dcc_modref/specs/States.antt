-- What trails to a point have done to a location, and how a statement goes on from there.
use Rattle.std.specs.Prelude.{ℕ, zero, suc, Bool, false, ◌&&◌, ◌||◌, not, List, [], ◌∷◌, ◌++◌, filter, length, get_or}
use Rattle.std.specs.Prelude.{nat_lt, Option, Some, None, if◌then◌else◌}
use Rattle.dcc_ir.specs.declared.syntax.Loc.{Loc}
use Rattle.dcc_ir.specs.Tree.{Get, Stmt, Set}
use Rattle.dcc_ir.specs.Location.{same_location}
use Rattle.dcc_ir.specs.Live.{is_among}
use Rattle.dcc_demand.specs.Procedures.{is_left}
use Rattle.dcc_demand.specs.Tables.{lost_after}
use Rattle.dcc_sums.specs.Instance.{is_half, is_pushed, written_by, action_of}
use Rattle.dcc_modref.specs.declared.state.State.{State as StateOf}

-- some trail has written the location, some trail has lost it, and all have saved it in these words
pub record State : Type 0 where
  pub written : Bool
  pub lost : Bool
  pub saved : List Loc

abbrev pub state_of : StateOf → State
state_of s = record { written = s.written; lost = s.lost; saved = s.saved }

-- at the entry of a procedure
abbrev pub at_entry : State
at_entry = record { written = false; lost = false; saved = [] }

-- some trail hasn't saved it in the word
abbrev pub is_unsaved : State → Loc → Bool
is_unsaved s word = not (is_among s.saved word)

-- where trails meet
abbrev pub joined : State → State → State
joined s t = record {
  written = s.written || t.written;
  lost = s.lost || t.lost;
  saved = filter (is_among t.saved) s.saved;
}

-- the other state tells what this one doesn't
abbrev pub is_news : State → State → Bool
is_news s t =
    (t.written && not s.written) || (t.lost && not s.lost)
    || nat_lt (length (filter (is_among t.saved) s.saved)) (length s.saved)

-- the procedures that the list tells of, by their entries
abbrev pub told_in : List Bool → ℕ → Bool
told_in changed entry = get_or changed entry false

-- the call, where there is one, is of a procedure that is told of
abbrev pub is_told : (ℕ → Bool) → Option ℕ → Bool
is_told changed (Some callee) = changed callee
is_told changed None = false

-- the word into which a statement pushes the location
abbrev pub pushed_by : Loc → Stmt → List Loc
pushed_by location (Set place (Get from)) =
    if is_half from && same_location from location then place ∷ [] else []
pushed_by location stmt = []

-- the procedures that change the location are told of, and pushed words have the cells from that number on
module _ (changed : ℕ → Bool) (pushed : ℕ) (location : Loc) where
  abbrev pub after : Stmt → State → State
  after stmt s =
      let action = action_of pushed stmt in
      record {
        written = not (is_left (action.effect location)) || is_told changed action.callee || s.written;
        lost =
            is_told changed action.callee
            || lost_after (is_pushed pushed) (action.effect location) (is_unsaved s) s.lost;
        saved =
            filter (λ word. not (is_among (written_by stmt) word)) s.saved
            ++ (if s.written then [] else pushed_by location stmt);
      }

  abbrev pub after_all : List Stmt → State → State
  after_all [] s = s
  after_all (stmt ∷ stmts) s = after_all stmts (after stmt s)

  -- after so many of the statements
  abbrev pub after_first : ℕ → List Stmt → State → State
  after_first zero stmts s = s
  after_first (suc done) [] s = s
  after_first (suc done) (stmt ∷ stmts) s = after_first done stmts (after stmt s)
