-- Passes: what makes one program's runs those of another, where the values that pass between procedures, and what the
-- locations hold, may change.
use Rattle.std.specs.Prelude.{◌≡◌, ℕ, zero, suc, ◌^◌, ◌<◌, ◌==◌, false, List, [], ◌∷◌, map, take, slice_get, Some, All}
use Rattle.dcc_run.specs.End.{is_over}
use Rattle.dcc_ir.specs.declared.syntax.Loc.{Loc}
use Rattle.dcc_ir.specs.Tree.{Block, Graph, Program}
use Rattle.dcc_ir.specs.Location.{location_width, Values, with_value, filled}
use Rattle.dcc_ir.specs.Run.{Activation, State, activation, entering, passing, graph_at}
use Rattle.dcc_ir.specs.WellFormed.{put_width, IsProgram}
use Rattle.dcc_ir.specs.Fitting.{StateFits}
use Rattle.dcc_ir.specs.Flow.{Flow, flow_at}
use Rattle.dcc_ir.specs.Local.{Point, start_of, next_of, after_calls, Request, Halt, Over, Calls, Jumps, Returns}
use Rattle.dcc_ir.specs.Local.{halt_of}

-- The data of a pass. Graphs are named by their entries, arguments and values given back are lists in their order.
pub record Pass : Type 1 where
  -- the place in a graph of the first program of the block at a place in the second's
  pub place : ℕ → ℕ → ℕ
  -- what holds between the arguments of a graph in the first program and in the second
  pub Enter : ℕ → List ℕ → List ℕ → Type 0
  -- what holds between the values that a graph gives back in the first program and in the second; the first list is
  -- the arguments of the first program's graph
  pub Leave : ℕ → List ℕ → List ℕ → List ℕ → Type 0
  -- what holds between the locations' values at a point of the second program and at the point of the first that
  -- stands for it; the list is the arguments of the first program's graph
  pub Inv : List ℕ → Point → Values → Values → Type 0

-- the point of the first program that stands for one of the second
abbrev pub point_before : Pass → Point → Point
point_before pass point = record point { place = pass.place point.entry point.place }

-- the values after a list of locations has taken a list of numbers, one after another
abbrev pub with_values : Values → List Loc → List ℕ → Values
with_values values (location ∷ locations) (n ∷ ns) = with_values (with_value values location n) locations ns
with_values values _ _ = values

-- each value fits its width
abbrev pub FitIn : List ℕ → List ℕ → Type 0
FitIn [] [] = Unit {0}
FitIn (width ∷ widths) (n ∷ ns) = (n < 2 ^ width) × FitIn widths ns
FitIn _ _ = ⊥

-- the widths of a graph's arguments
abbrev pub param_widths : Graph → List ℕ
param_widths graph = map (λ q. put_width graph.bits q.put) graph.params

-- the activation stands at the point of the program
pub record IsAt (p : Program) (point : Point) (a : Activation) : Type 0 where
  pub graph : graph_at p.graphs point.entry ≡ Some a.graph
  pub block : slice_get a.graph.blocks point.place ≡ Some a.block
  pub rest : a.rest ≡ after_calls point.calls a.block.stmts
  pub begins : a.begins ≡ (point.calls == 0)

-- the run stands at the point of the program, and goes on; what it holds fits its widths
pub record Stands (p : Program) (point : Point) (s : State) : Type 0 where
  pub at : IsAt p point s.running
  pub running : is_over s.end ≡ false
  pub fits : StateFits s

-- two runs that are compared have the same outside of locations: memory, input, events and the base of the frame
pub record AgreeOutside (s t : State) : Type 0 where
  pub memory : t.memory ≡ s.memory
  pub input : t.input ≡ s.input
  pub events : t.events ≡ s.events
  pub base : t.running.base ≡ s.running.base

-- Both runs stand, at a point of the second program and at the one that stands for it, and what the pass says of their
-- values holds.
pub record AreTogether (p q : Program) (pass : Pass) (arguments : List ℕ) (point : Point) (s t : State) : Type 0 where
  pub first : Stands p (point_before pass point) s
  pub second : Stands q point t
  pub outside : AgreeOutside s t
  pub arguments_fit : FitIn (param_widths s.running.graph) arguments
  pub holds : pass.Inv arguments point s.running.values t.running.values

-- Where two local runs meet.

-- Two local runs meet at calls: both call one graph at one depth, from the block of the point itself. What the callees
-- may give back makes the values fit after the call.
pub record CallAlike (pass : Pass) (arguments : List ℕ) (point : Point) (dropped : ℕ) (call : Request) (s : State)
    (other : Request) (t : State) : Type 0 where
  pub at_once : dropped ≡ 0
  pub entry : other.entry ≡ call.entry
  pub depth : other.depth ≡ call.depth
  pub outside : AgreeOutside s t
  pub enters : pass.Enter call.entry call.arguments other.arguments
  pub resumes : (r r' : List ℕ) → FitIn (map (location_width s.running.graph.bits) call.results) r
      → FitIn (map (location_width t.running.graph.bits) other.results) r'
      → pass.Leave call.entry call.arguments r r'
      → pass.Inv arguments (next_of point) (with_values s.running.values call.results r)
      (with_values t.running.values other.results r')

-- Two local runs meet at edges: both go to one block.
pub record JumpAlike (pass : Pass) (arguments : List ℕ) (entry place : ℕ) (s : State) (other : ℕ)
    (t : State) : Type 0 where
  pub stands : place ≡ pass.place entry other
  pub outside : AgreeOutside s t
  pub holds : pass.Inv arguments (record { entry = entry; place = other; calls = 0 }) s.running.values t.running.values

-- Two local runs meet at returns: both give values back that may stand for each other.
pub record ReturnAlike (pass : Pass) (arguments : List ℕ) (entry : ℕ) (r : List ℕ) (s : State) (r' : List ℕ)
    (t : State) : Type 0 where
  pub outside : AgreeOutside s t
  pub leaves : pass.Leave entry arguments r r'

-- Two local runs meet at their ends: both end alike, with the same events; the memory doesn't matter any more.
pub record EndAlike (s t : State) : Type 0 where
  pub end : t.end ≡ s.end
  pub events : t.events ≡ s.events

-- the halts of the local runs from a point are where the two meet again, the first one after a number of dropped
-- blocks
abbrev pub Meet : Pass → List ℕ → Point → ℕ → Halt → Halt → Type 0
Meet pass arguments point dropped (Over s) (Over t) = EndAlike s t
Meet pass arguments point dropped (Calls call s) (Calls other t) = CallAlike pass arguments point dropped call s other t
Meet pass arguments point dropped (Jumps place s) (Jumps other t) = JumpAlike pass arguments point.entry place s other t
Meet pass arguments point dropped (Returns r s) (Returns r' t) = ReturnAlike pass arguments point.entry r s r' t
Meet pass arguments point dropped _ _ = ⊥

-- The local run goes on through `n` blocks that the flow graph hasn't, and then comes to a halt of the kind.
abbrev pub GoesOn : Flow → ℕ → (Halt → Type 0) → Halt → Type 0
GoesOn flow zero Kind halt = Kind halt
GoesOn flow (suc n) Kind (Jumps place s) =
    (block : Block) × (slice_get s.running.graph.blocks place ≡ Some block) × (flow.has block.at ≡ false)
    × GoesOn flow n Kind (halt_of (entering (Some block) s))
GoesOn flow (suc n) Kind _ = ⊥

-- What a pass owes.

-- Each block of the second graph is one of the first's, with its address, and the first is the first. Addresses differ
-- within a graph, so no two are the same.
pub record BlocksStay (before after : Graph) (place : ℕ → ℕ) : Type 0 where
  pub first : place 0 ≡ 0
  pub stays : (n : ℕ) (new : Block) → slice_get after.blocks n ≡ Some new
      → (old : Block) × (slice_get before.blocks (place n) ≡ Some old) × (old.at ≡ new.at)

-- The graphs with that entry begin alike: their params take arguments that may enter them, and their other locations
-- hold the fill.
pub record BeginAlike (pass : Pass) (entry : ℕ) (arguments : List ℕ) (s t : State) : Type 0 where
  pub memory : t.memory ≡ s.memory
  pub holds : pass.Inv arguments (start_of entry) s.running.values t.running.values

-- what is owed of the graphs with one entry
pub record OwesBegin (pass : Pass) (entry : ℕ) (before after : Graph) : Type 0 where
  pub begin : (fill base : ℕ) (a a' : List ℕ) (s t : State) → fill < 65536 → FitIn (param_widths before) a
      → FitIn (param_widths after) a' → pass.Enter entry a a' → AgreeOutside s t
      → s.running ≡ activation before (filled before.bits fill) base
      → t.running ≡ activation after (filled after.bits fill) base
      → BeginAlike pass entry a (passing 0 before.params a s) (passing 0 after.params a' t)

-- From each point at which two runs are together, their local runs meet again. How many dropped blocks the first one
-- goes through is for the pass to tell: where each closed path holds a block that stays, there are at most as many as
-- blocks are dropped. An endless run through dropped blocks meets nothing, so nothing is asked of closed paths here.
abbrev pub OwesGo : Program → Program → Pass → Type 0
OwesGo p q pass = (arguments : List ℕ) (point : Point) (s t : State) → AreTogether p q pass arguments point s t
    → (dropped : ℕ)
    × GoesOn (flow_at q point.entry) dropped (λ halt. Meet pass arguments point dropped halt (halt_of t)) (halt_of s)

pub record IsPass (p q : Program) (pass : Pass) : Type 0 where
  pub before : IsProgram p
  pub after : IsProgram q
  pub image : q.image ≡ p.image
  pub lo : q.lo ≡ p.lo
  pub hi : q.hi ≡ p.hi
  pub entries : map (λ g. g.entry) q.graphs ≡ map (λ g. g.entry) p.graphs
  pub blocks : (entry : ℕ) (old new : Graph) → graph_at p.graphs entry ≡ Some old → graph_at q.graphs entry ≡ Some new
      → BlocksStay old new (pass.place entry)
  pub begin : (entry : ℕ) (old new : Graph) → graph_at p.graphs entry ≡ Some old
      → graph_at q.graphs entry ≡ Some new → OwesBegin pass entry old new
  pub go : OwesGo p q pass
  -- the first graph has no params
  pub start : All (λ g. pass.Enter g.entry [] []) (take 1 p.graphs)
