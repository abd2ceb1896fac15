-- What an idiom keeps.
use Rattle.std.specs.Prelude.{◌≡◌, ℕ, ◌<◌, ◌≤◌, max, ◌==◌, Bool, true, false, if◌then◌else◌, ◌⊎◌, List, [], ◌∷◌, ◌++◌}
use Rattle.std.specs.Prelude.{map, flat_map, sum_by, All, Contains, Option, Some, option_map, Result, IfOk}
use Rattle.std.specs.List.{list_any, list_all}
use Rattle.dcc_run.specs.End.{Running, is_over}
use Rattle.std.specs.declared.alloc.AllocError.{AllocError}
use Rattle.std.specs.declared.alloc.Global.{Global}
use Rattle.std.specs.declared.vec.Vec.{Vec}
use Rattle.dcc_ir.specs.declared.syntax.Stmt.{Stmt as Statement}
use Rattle.dcc_ir.specs.Views.{stmt_of}
use Rattle.dcc_ir.specs.declared.syntax.Loc.{Loc}
use Rattle.dcc_ir.specs.declared.syntax.Loc.TheVariants.{Temp}
use Rattle.dcc_ir.specs.Tree.{Expr, Stmt, Set, Fetch, Div, Call}
use Rattle.dcc_ir.specs.Location.{location_width}
use Rattle.dcc_ir.specs.Value.{Fits}
use Rattle.dcc_ir.specs.WellFormed.{is_stmt}
use Rattle.dcc_ir.specs.Run.{State, scene_of, stmt_step}
use Rattle.dcc_ir.specs.Use.{reads_of, addresses_of, exprs_of, writes_of}
use Rattle.dcc_ir.specs.Live.{is_among}
use Rattle.dcc_ir.specs.Measure.{nodes_of, deepest, is_truth, truths_of}
use Rattle.dcc_ir.specs.Rules.{are_widths}

-- the state after the statements, one after another, up to the end of the run
abbrev pub performed : List Stmt → State → State
performed [] s = s
performed (stmt ∷ stmts) s =
    let next = stmt_step stmt s in
    if is_over next.end then next else performed stmts next

-- Two states end alike, with the same events and the same input left; and where the run goes on, they have the same
-- memory, and the same values at all locations but the given ones.
pub record SameBut (locations : List Loc) (s t : State) : Type 0 where
  pub end : t.end ≡ s.end
  pub events : t.events ≡ s.events
  pub input : t.input ≡ s.input
  pub memory : s.end ≡ Running → t.memory ≡ s.memory
  pub values : s.end ≡ Running → (location : Loc) → is_among locations location ≡ false
      → t.running.values location ≡ s.running.values location

abbrev pub is_call : Stmt → Bool
is_call (Call results entry arguments depth) = true
is_call _ = false

-- the last of the locations is a temporary of 32 bits
abbrev pub ends_in_long : List ℕ → List Loc → Bool
ends_in_long bits [] = false
ends_in_long bits (Temp n ∷ []) = location_width bits (Temp n) == 32
ends_in_long bits (location ∷ []) = false
ends_in_long bits (location ∷ locations) = ends_in_long bits locations

-- the expressions of some statements
abbrev pub all_exprs : List Stmt → List Expr
all_exprs stmts = flat_map exprs_of stmts

-- the locations and the distances of addresses that the statements name
abbrev pub named_by : List Stmt → List Loc
named_by stmts = flat_map reads_of (all_exprs stmts) ++ flat_map writes_of stmts

abbrev pub addressed_by_all : List Stmt → List ℕ
addressed_by_all stmts = flat_map addresses_of (all_exprs stmts)

abbrev pub all_nodes : List Stmt → ℕ
all_nodes stmts = sum_by nodes_of (all_exprs stmts)

abbrev pub all_truths : List Stmt → ℕ
all_truths stmts = sum_by truths_of (all_exprs stmts)

-- the expression of a Set, Load or Div
abbrev pub assigned_by : Stmt → List Expr
assigned_by (Set location e) = e ∷ []
assigned_by (Fetch location width address) = address ∷ []
assigned_by (Div location e) = e ∷ []
assigned_by _ = []

-- the value of the last Set among the statements
abbrev pub set_by : Stmt → List Expr
set_by (Set location e) = e ∷ []
set_by _ = []

abbrev pub last_is_truth : List Expr → Bool
last_is_truth [] = false
last_is_truth (e ∷ []) = is_truth e
last_is_truth (e ∷ es) = last_is_truth es

-- Statements with one truth node: it is the whole value of their last Set, and the given statements hold several, one
-- of them in a Set, Load or Div.
pub record OneTruth (given other : List Stmt) : Type 0 where
  pub whole : last_is_truth (flat_map set_by other) ≡ true
  pub several : 1 < all_truths given
  pub assigned : 0 < sum_by truths_of (flat_map assigned_by given)

-- The given statements are well formed under these widths and hold no call, and the last of the locations is a
-- temporary of 32 bits.
pub record IsWindow (bits : List ℕ) (given : List Stmt) (locations : List Loc) : Type 0 where
  pub widths : are_widths bits ≡ true
  pub formed : list_all (is_stmt bits) given ≡ true
  pub no_calls : list_any is_call given ≡ false
  pub long : ends_in_long bits locations ≡ true

-- The statements of an idiom do what the given ones do but at the listed locations. They are well formed, hold no
-- call, have fewer nodes and at most one truth node, name nothing that the given ones don't, and have no expression
-- that is both over 32 deep and deeper than each of the given ones.
pub record IsShorter (bits : List ℕ) (given : List Stmt) (locations : List Loc) (other : List Stmt) : Type 0 where
  pub formed : list_all (is_stmt bits) other ≡ true
  pub no_calls : list_any is_call other ≡ false
  pub nodes : all_nodes other < all_nodes given
  pub names : All (Contains (named_by given ++ locations)) (named_by other)
  pub addresses : All (Contains (addressed_by_all given)) (addressed_by_all other)
  pub effect : (s : State) → s.end ≡ Running → s.running.graph.bits ≡ bits → Fits (scene_of s)
      → SameBut locations (performed given s) (performed other s)
  pub depth : deepest (all_exprs other) ≤ max 32 (deepest (all_exprs given))
  pub truths : (all_truths other ≡ 0) ⊎ ((all_truths other ≡ 1) × OneTruth given other)

-- what an idiom may answer for a window of statements and locations that are not wanted afterwards
abbrev pub IdiomAnswers : List Stmt → List Loc → Option (List Stmt) → Type 0
IdiomAnswers given locations answer =
    (bits : List ℕ) (other : List Stmt) → IsWindow bits given locations → answer ≡ Some other
    → IsShorter bits given locations other

-- what a call of an idiom may answer for these statements and locations
abbrev pub MeetsIdiom : Vec Statement Global → Vec Loc Global → Result (Option (Vec Statement Global)) AllocError
    → Type 0
MeetsIdiom given locations result =
    IfOk result (λ answer.
    IdiomAnswers (map stmt_of given.items) locations.items (option_map (λ v. map stmt_of v.items) answer))
