-- When a state of a text stands for a state of a program of the inner language.
use Rattle.std.specs.Prelude.{◌≡◌, ℕ, ◌⊎◌, true, false, List, [], ◌∷◌, All, Contains, Option, Some, None, is_some}
use Rattle.std.specs.List.{AllZip}
use Rattle.dcc_run.specs.End.{is_over}
use Rattle.dcc_ir.specs.declared.syntax.Loc.{Loc}
use Rattle.dcc_ir.specs.Location.{same_location}
use Rattle.dcc_ir.specs.Families.{Family}
use Rattle.dcc_ir.specs.Tree as inner
use Rattle.dcc_ir.specs.Run as inner_run
use Rattle.dcc_ir.specs.Use.{reads_of, addresses_of}
use Rattle.dcc_c.specs.Token.{same_bytes}
use Rattle.dcc_c.specs.Tree.{Function}
use Rattle.dcc_c.specs.Value.{Target, ToVariable}
use Rattle.dcc_c.specs.Run.{Continuation, Frame, Waiting, State}
use Rattle.dcc_text.specs.Spelling.{Placed, Spelling}
use Rattle.dcc_text.specs.Meaning.{IsVariable, IsHeld, IsPlaced}

-- some locations; `Alike`: a relation of the calls that wait
abbrev pub Locations : Type 1
Locations = Loc → Type 0

abbrev pub Alike : Type 1
Alike = List inner_run.Waiting → List Waiting → Type 0

-- Variables of different locations have different names, and so have variables and placed ones.
pub record IsSpelling (s : Spelling) : Type 0 where
  pub apart : (location other : Loc) → s.named location ≡ true → s.named other ≡ true
      → same_bytes (s.name location) (s.name other) ≡ true → same_location location other ≡ true
  pub placed_apart : (location : Loc) (distance : ℕ) (p : Placed) → s.named location ≡ true
      → s.place distance ≡ Some p → same_bytes (s.name location) p.name ≡ false

-- A call of the text holds what an activation does: each named location has a variable; those of the given locations
-- hold their values; addresses are where the base says.
pub record HoldsFrame (s : Spelling) (Has : Locations) (a : inner_run.Activation) (frame : Frame) : Type 0 where
  pub bits : a.graph.bits ≡ s.bits
  pub base : frame.base ≡ a.base
  pub variables : (location : Loc) → s.named location ≡ true → IsVariable s frame.variables location
  pub values : (location : Loc) → Has location → IsHeld s a.values frame.variables location
  pub places : (distance : ℕ) → is_some (s.place distance) ≡ true → IsPlaced s a.base frame.variables distance

-- A state of the text stands for one of the program: the running call holds the given locations, the waiting calls are
-- alike, and memory, input, events and end are equal.
pub record Holds (s : Spelling) (Has : Locations) (AreAlike : Alike)
    (i : inner_run.State) (t : State) : Type 0 where
  pub frame : HoldsFrame s Has i.running t.frame
  pub waiting : AreAlike i.waiting t.waiting
  pub memory : t.memory ≡ i.memory
  pub input : t.input ≡ i.input
  pub events : t.events ≡ i.events
  pub end : t.end ≡ i.end

-- Calls that wait.

-- What stands for the graphs of a program: for each graph a spelling, a function, the locations that matter, and which
-- continuations stand for a place in a block.
pub record Setting : Type 1 where
  pub spelling : inner.Graph → Spelling
  pub function : inner.Graph → Function
  pub matters : inner.Graph → Family
  pub Continues : Continuation → inner.Graph → inner.Block → List inner.Stmt → Type 0

-- where a result goes: to the variable of its place
abbrev pub target_for : Spelling → List Loc → Option Target
target_for s [] = None
target_for s (location ∷ results) = Some (ToVariable (s.name location))

-- the location matters after the call, and is no place of a result
abbrev pub MattersBesides : Setting → inner_run.Waiting → Loc → Type 0
MattersBesides setting w location =
    setting.matters w.caller.graph w.caller.block w.caller.rest location × (¬ Contains w.results location)

-- A call that waits stands for one that waits: it holds what matters after the call but for the result, its result goes
-- to the result's variable, and it goes on where the block does.
pub record IsWaiting (setting : Setting) (w : inner_run.Waiting) (v : Waiting) : Type 0 where
  pub function : v.frame.function ≡ setting.function w.caller.graph
  pub frame : HoldsFrame (setting.spelling w.caller.graph) (MattersBesides setting w) w.caller v.frame
  pub target : v.target ≡ target_for (setting.spelling w.caller.graph) w.results
  pub continues : setting.Continues v.rest w.caller.graph w.caller.block w.caller.rest

-- the calls of the text that wait stand for those of the program, one for one
abbrev pub AreWaiting : Setting → List inner_run.Waiting → List Waiting → Type 0
AreWaiting setting = AllZip (IsWaiting setting)

-- Steps.

-- what an expression reads is among the given locations, and its addresses have names
pub record IsWithin (s : Spelling) (Has : Locations) (e : inner.Expr) : Type 0 where
  pub reads : All Has (reads_of e)
  pub addresses : All (λ distance. is_some (s.place distance) ≡ true) (addresses_of e)

-- after a step both runs are over alike, or the text still stands for the program
abbrev pub HoldsOrEnds : Spelling → Locations → Alike → inner_run.State → State → Type 0
HoldsOrEnds s Has AreAlike i t =
    Holds s Has AreAlike i t ⊎ (is_over i.end ≡ true) × (t.end ≡ i.end) × (t.events ≡ i.events)
