-- A graph that follows another statement by statement: what holds between the two before each statement. Where blocks
-- begin and after calls it holds whatever the base and the memory, since a pass tells of values alone there.
use Rattle.std.specs.Prelude.{◌≡◌, ℕ, ◌/◌, ◌==◌, Bool, true, false, ◌||◌, List, [], ◌∷◌, map, Contains, slice_get}
use Rattle.std.specs.Prelude.{Option, Some, None}
use Rattle.dcc_run.specs.End.{is_over}
use Rattle.dcc_ir.specs.declared.syntax.Loc.{Loc}
use Rattle.dcc_ir.specs.Tree.{Expr, Stmt, Set, Fetch, Store, Div, Call, Dos, Exit, Goto, If, Switch, Ret, Stop, Block}
use Rattle.dcc_ir.specs.Tree.{Graph}
use Rattle.dcc_ir.specs.Location.{location_width, Values, with_value}
use Rattle.dcc_ir.specs.Value.{bytes_at, with_bytes_at, Environment, division_of, Fits}
use Rattle.dcc_ir.specs.Demand.{is_assignment}
use Rattle.dcc_ir.specs.Flow.{targets}
use Rattle.dcc_ir.specs.Run.{State, scene_of, value_in, argument_in, stmt_step, is_call}
use Rattle.dcc_ir.specs.Local.{after_calls}
use Rattle.dcc_ir.specs.Passes.{with_values, FitIn, AgreeOutside}
use Rattle.dcc_passes.specs.OneGraph.{Invariant, BeginsIn}

-- what holds between what the first graph reads, and the second graph's values
abbrev pub Bond : Type 1
Bond = Environment → Values → Type 0

-- what holds so before the last statements of the first graph's block at a place
abbrev pub Link : Type 1
Link = ℕ → List Stmt → Bond

-- it holds whatever the base of the frame and the memory
abbrev pub Anywhere : Bond → List ℕ → Values → Values → Type 0
Anywhere Holds bits v v' =
    (base : ℕ) (memory : List ℕ) → Holds (record { bits = bits; values = v; base = base; memory = memory }) v'

-- Statements.

-- both places take any one byte, or neither takes one
abbrev pub TakeAlike : Bond → Environment → Values → Option Loc → Option Loc → Type 0
TakeAlike After scene v' (Some x) (Some x') =
    (n : ℕ) → After (record scene { values = with_value scene.values x n }) (with_value v' x' n)
TakeAlike After scene v' None None = After scene v'
TakeAlike After scene v' _ _ = ⊥

-- the statement takes a byte from the input
abbrev pub takes_key : ℕ → Bool
takes_key number = number == 0x01 || number == 0x08

-- The two statements do the same outside of the locations, in these states, and what is told holds of the values after
-- them.
abbrev pub DoAlike : Bond → State → State → Stmt → Stmt → Type 0
DoAlike After s t (Set x e) (Set x' e') =
    After (record (scene_of s) { values = with_value s.running.values x (value_in s e) })
    (with_value t.running.values x' (value_in t e'))
DoAlike After s t (Fetch x width a) (Fetch x' width' a') =
    After (record (scene_of s) { values = with_value s.running.values x (bytes_at s.memory (width / 8) (value_in s a)) })
    (with_value t.running.values x' (bytes_at t.memory (width' / 8) (value_in t a')))
DoAlike After s t (Store width a e) (Store width' a' e') =
    (width' ≡ width) × (value_in t a' ≡ value_in s a) × (value_in t e' ≡ value_in s e)
    × After (record (scene_of s) { memory = with_bytes_at s.memory (width / 8) (value_in s a) (value_in s e) })
    t.running.values
DoAlike After s t (Div x e) (Div x' e') =
    (division_of (scene_of t) e' ≡ division_of (scene_of s) e)
    × ((n : ℕ) → After (record (scene_of s) { values = with_value s.running.values x n })
    (with_value t.running.values x' n))
DoAlike After s t (Dos number place argument) (Dos number' place' argument') =
    (number' ≡ number) × (argument_in t argument' ≡ argument_in s argument)
    × TakeAlike After (scene_of s) t.running.values place place'
    × (takes_key number ≡ false → After (scene_of s) t.running.values)
DoAlike After s t _ _ = ⊥

-- the two ends of blocks lead to the same, in these states
abbrev pub EndsAlike : State → State → Exit → Exit → Type 0
EndsAlike s t (Goto place) (Goto place') = place' ≡ place
EndsAlike s t (If test one other) (If test' one' other') =
    (value_in t test' ≡ value_in s test) × (one' ≡ one) × (other' ≡ other)
EndsAlike s t (Switch e places) (Switch e' places') = (value_in t e' ≡ value_in s e) × (places' ≡ places)
EndsAlike s t (Ret values) (Ret values') = map (value_in t) values' ≡ map (value_in s) values
EndsAlike s t Stop Stop = Unit {0}
EndsAlike s t _ _ = ⊥

-- After a statement both states have the same end and the same outside of the locations; where the runs go on, what is
-- told holds of the values.
pub record Stepped (After : Bond) (s t : State) : Type 0 where
  pub outside : AgreeOutside s t
  pub end : t.end ≡ s.end
  pub holds : is_over s.end ≡ false → After (scene_of s) t.running.values

-- the first of the statements is a division that faults in the state
abbrev pub FaultsFirst : List Stmt → State → Type 0
FaultsFirst (Div location e ∷ rest) t = division_of (scene_of t) e ≡ None
FaultsFirst stmts t = ⊥

module _ (before after : Graph) where
  -- the states run the two graphs, have the same outside of the locations, and what is told holds of their values; what
  -- each holds fits its widths
  pub record RunAlike (Holds : Bond) (s t : State) : Type 0 where
    pub first : s.running.graph ≡ before
    pub second : t.running.graph ≡ after
    pub outside : AgreeOutside s t
    pub first_fits : Fits (scene_of s)
    pub second_fits : Fits (scene_of t)
    pub holds : Holds (scene_of s) t.running.values

  -- The second statements do what the first ones do. A call has the same arguments and gives back into other places; an
  -- assignment of the first ones may go, and one of the second ones may come, where it leaves what holds; and one may
  -- stand for two. A division may go that leaves what holds where it comes to a number, if the second ones fault at once
  -- where it faults.
  pub data IsFollowedBy (link : List Stmt → Bond) : List Stmt → List Stmt → Type 0 where
    done : IsFollowedBy link [] []
    both :
        {stmt stmt' : Stmt} {rest rest' : List Stmt}
        → is_call stmt ≡ false → is_call stmt' ≡ false
        → ((s t : State) → RunAlike (link (stmt ∷ rest)) s t → DoAlike (link rest) s t stmt stmt')
        → IsFollowedBy link rest rest' → IsFollowedBy link (stmt ∷ rest) (stmt' ∷ rest')
    steps :
        {stmt stmt' : Stmt} {rest rest' : List Stmt}
        → is_call stmt ≡ false → is_call stmt' ≡ false
        → ((s t : State) → RunAlike (link (stmt ∷ rest)) s t → t.end ≡ s.end
        → Stepped (link rest) (stmt_step stmt s) (stmt_step stmt' t))
        → IsFollowedBy link rest rest' → IsFollowedBy link (stmt ∷ rest) (stmt' ∷ rest')
    calls :
        {results results' : List Loc} {entry depth : ℕ} {arguments arguments' : List Expr} {rest rest' : List Stmt}
        → ((s t : State) → RunAlike (link (Call results entry arguments depth ∷ rest)) s t
        → map (value_in t) arguments' ≡ map (value_in s) arguments)
        → ((s t : State) (r : List ℕ) → RunAlike (link (Call results entry arguments depth ∷ rest)) s t
        → FitIn (map (location_width before.bits) results) r
        → Anywhere (link rest) before.bits (with_values s.running.values results r)
        (with_values t.running.values results' r))
        → IsFollowedBy link rest rest'
        → IsFollowedBy link (Call results entry arguments depth ∷ rest) (Call results' entry arguments' depth ∷ rest')
    goes :
        {stmt : Stmt} {rest rest' : List Stmt}
        → is_assignment stmt ≡ true
        → ((s t : State) → RunAlike (link (stmt ∷ rest)) s t
        → link rest (scene_of (stmt_step stmt s)) t.running.values)
        → IsFollowedBy link rest rest' → IsFollowedBy link (stmt ∷ rest) rest'
    drops :
        {location : Loc} {e : Expr} {rest rest' : List Stmt}
        → ((s t : State) → RunAlike (link (Div location e ∷ rest)) s t → division_of (scene_of s) e ≡ None
        → FaultsFirst rest' t)
        → ((s t : State) (n : ℕ) → RunAlike (link (Div location e ∷ rest)) s t → division_of (scene_of s) e ≡ Some n
        → link rest (record (scene_of s) { values = with_value s.running.values location n }) t.running.values)
        → IsFollowedBy link rest rest' → IsFollowedBy link (Div location e ∷ rest) rest'
    comes :
        {stmt' : Stmt} {rest rest' : List Stmt}
        → is_assignment stmt' ≡ true
        → ((s t : State) → RunAlike (link rest) s t → link rest (scene_of s) (stmt_step stmt' t).running.values)
        → IsFollowedBy link rest rest' → IsFollowedBy link rest (stmt' ∷ rest')
    joins :
        {stmt next stmt' : Stmt} {rest rest' : List Stmt}
        → is_assignment stmt ≡ true → is_assignment next ≡ true → is_assignment stmt' ≡ true
        → ((s t : State) → RunAlike (link (stmt ∷ next ∷ rest)) s t
        → link rest (scene_of (stmt_step next (stmt_step stmt s))) (stmt_step stmt' t).running.values)
        → IsFollowedBy link rest rest' → IsFollowedBy link (stmt ∷ next ∷ rest) (stmt' ∷ rest')

  -- the second graph's block at the place follows the first one's
  pub record IsFollowedByBlock (link : Link) (place : ℕ) (block new : Block) : Type 0 where
    pub stmts : IsFollowedBy (link place) block.stmts new.stmts
    pub exit : (s t : State) → RunAlike (link place []) s t → EndsAlike s t block.exit new.exit
    pub goes : (to : ℕ) (next : Block) (s t : State) → Contains (targets block.exit) to
        → slice_get before.blocks to ≡ Some next → RunAlike (link place []) s t
        → Anywhere (link to next.stmts) before.bits s.running.values t.running.values

  -- what holds of the values at the points of blocks
  abbrev pub linked : Link → Invariant
  linked link point v v' =
      (block : Block) → slice_get before.blocks point.place ≡ Some block
      → Anywhere (link point.place (after_calls point.calls block.stmts)) before.bits v v'

  -- the second graph follows the first one, statement by statement
  pub record IsFollowedByGraph (link : Link) : Type 0 where
    pub begins : BeginsIn before after (linked link)
    pub blocks : (place : ℕ) (block new : Block) → slice_get before.blocks place ≡ Some block
        → slice_get after.blocks place ≡ Some new → IsFollowedByBlock link place block new
