-- The machine in a clean run of an accepted program, and the inner run beside it: each procedure that has begun is an
-- activation there, whose cells hold bytes of its frame; what else of the machine's memory stands for something, the
-- inner memory holds.
use Rattle.std.specs.Prelude.{◌≡◌, ℕ, ◌+◌, ◌*◌, ◌%◌, ◌^◌, ◌<◌, ℤ, if◌then◌else◌, Bool, true, List, [], ◌∷◌, ◌++◌, map}
use Rattle.std.specs.Prelude.{All, Contains, Option, Some, None}
use Rattle.std.specs.Ordering.{int_eq}
use Rattle.dcc_run.specs.End.{Running}
use Rattle.dcc_num.specs.declared.Reg.{Reg}
use Rattle.dcc_num.specs.declared.Half.TheVariants.{Low, High}
use Rattle.dcc_machine.specs.declared.cpu.Cpu.{Cpu}
use Rattle.dcc_machine.specs.declared.image.Image.{Image}
use Rattle.dcc_prog.specs.declared.frame.Cell.{Cell}
use Rattle.dcc_prog.specs.declared.frame.Program.{Program}
use Rattle.dcc_machine.specs.Machine.{State as Machine, word_in, is_general}
use Rattle.dcc_prog.specs.Trail.{IsEntry}
use Rattle.dcc_prog.specs.Frame.{Span, IsCell, IsExposedSlot}
use Rattle.dcc_prog.specs.Analysed.{bytes_of}
use Rattle.dcc_prog.specs.Clean.{Stack, top_in}
use Rattle.dcc_stack.specs.Standing.{Activation, HoldsSegments, StackStands}
use Rattle.dcc_stack.specs.Slots.{Typed, is_within}
use Rattle.dcc_stack.specs.SlotLaws.{AreCarried}
use Rattle.dcc_ir.specs.declared.syntax.Loc.{Loc}
use Rattle.dcc_ir.specs.declared.syntax.Loc.TheVariants.{Half, Cell as CellHalf}
use Rattle.dcc_ir.specs.Location.{Values, location_width}
use Rattle.dcc_ir.specs.Tree.{Expr, Stmt, Call, Program as InnerProgram}
use Rattle.dcc_ir.specs.Run.{State, Waiting, Activation as InnerActivation, graph_at}
use Rattle.dcc_ops.specs.Temporaries.{temporary_bits}
use Rattle.dcc_ops.specs.Coupling.{HoldFlags}

-- What runs: an image, the program that the analyses find in it on a processor, and a program of the inner language
-- with a graph for each of its procedures. `cells` are those of the procedure with an entry, in the order of their
-- numbers.
pub record Setting : Type 0 where
  pub cpu : Cpu
  pub image : Image
  pub program : Program
  pub inner : InnerProgram
  pub cells : ℕ → List Cell

-- the cells of each procedure are all that don't stand in memory, and no others
pub record AreNumbered (e : Setting) : Type 0 where
  pub cells :
      (entry : ℕ) → IsEntry e.image e.program.layout entry
      → All (λ cell. IsCell e.image e.program.layout entry (bytes_of cell)) (e.cells entry)
  pub every :
      (entry : ℕ) (span : Span) → IsEntry e.image e.program.layout entry
      → IsCell e.image e.program.layout entry span → ¬ IsExposedSlot e.image e.program.layout entry span
      → Contains (map bytes_of (e.cells entry)) span

-- Frames.

-- the location of the byte at a distance from a frame's base less 4: a half of one of the cells, which are numbered
-- from the first number on
abbrev pub half_in : ℕ → List Cell → ℤ → Option Loc
half_in n [] k = None
half_in n (cell ∷ cells) k =
    if is_within k (bytes_of cell) then Some (CellHalf n (if int_eq k cell.first then Low else High))
    else half_in (n + 1) cells k

-- what a location holds, where there is one
abbrev pub held_at : Values → Option Loc → ℕ
held_at values None = 0
held_at values (Some location) = values location

-- what values of locations tell of the frame's bytes, by their offsets from its base less 4
abbrev pub slots_in : List Cell → Values → ℤ → ℕ
slots_in cells values k = held_at values (half_in 0 cells k)

-- a procedure's frame, as its activation in the inner run holds it
abbrev pub typed_by : Setting → Activation → InnerActivation → Typed
typed_by e a inner = record { activation = a; slots = slots_in (e.cells a.frame.entry) inner.values }

-- the frames of procedures that wait, as their activations in the inner run hold them
abbrev pub typed_waiting : Setting → List Activation → List Waiting → List Typed
typed_waiting e (a ∷ callers) (w ∷ waiting) = typed_by e a w.caller ∷ typed_waiting e callers waiting
typed_waiting e _ _ = []

-- Activations.

-- An activation of the inner run is that of a procedure: it runs the procedure's graph, from its frame's base, with
-- values that fit.
pub record IsActivationOf (e : Setting) (a : Activation) (inner : InnerActivation) : Type 0 where
  pub graph : graph_at e.inner.graphs a.frame.entry ≡ Some inner.graph
  pub bits : inner.graph.bits ≡ temporary_bits
  pub base : inner.base ≡ a.frame.base % 65536
  pub values : (location : Loc) → inner.values location < 2 ^ location_width inner.graph.bits location

-- an activation of the inner run waits in the block of a CALL, right after the Call of the procedure that was called
pub record WaitsAfterCall (caller callee : Activation) (w : Waiting) : Type 0 where
  pub block : Contains w.caller.graph.blocks w.caller.block
  pub at : w.caller.block.at ≡ caller.at
  pub before : List Stmt
  pub arguments : List Expr
  pub depth : ℕ
  pub stmts :
      w.caller.block.stmts
      ≡ before ++ Call w.results callee.frame.entry arguments depth ∷ w.caller.rest

-- the activations that wait are those of the procedure's callers
abbrev pub AreWaiting : Setting → Activation → List Activation → List Waiting → Type 0
AreWaiting e callee [] [] = Unit {0}
AreWaiting e callee (caller ∷ callers) (w ∷ waiting) =
    IsActivationOf e caller w.caller × WaitsAfterCall caller callee w × AreWaiting e caller callers waiting
AreWaiting e callee _ _ = ⊥

-- Both runs.

-- Both runs agree, anywhere within an instruction: a procedure is the newest that has begun, with these callers, and
-- these bytes of the stack are written.
pub record Coupled (e : Setting) (a : Activation) (callers : List Activation) (written : List Bool) (s : Machine)
    (t : State) : Type 0 where
  -- both runs go on
  pub goes : s.end ≡ Running
  pub running : t.end ≡ Running
  -- the inner run's activations are those of the procedures
  pub newest : IsActivationOf e a t.running
  pub waiting : AreWaiting e a callers t.waiting
  -- general registers are their halves, and flags are flags
  pub words :
      (r : Reg) → is_general r ≡ true
      → word_in s r ≡ t.running.values (Half r High) * 256 + t.running.values (Half r Low)
  pub flags : HoldFlags s.flags t.running.values
  -- the console is the same
  pub input : t.input ≡ s.input
  pub events : t.events ≡ s.events
  -- the machine's segments and code stay, and the inner run holds the rest of its memory
  pub segments : HoldsSegments e.image e.program.layout s
  pub carried :
      AreCarried e.cpu e.image e.program s.memory t.memory written (top_in e.program.layout s)
      (typed_by e a t.running ∷ typed_waiting e callers t.waiting)

-- both runs agree at an instruction, where the machine's stack stands
pub record AreCoupled (e : Setting) (s : Machine) (stack : Stack) (t : State) : Type 0 where
  pub stands : StackStands e.image e.program.layout s stack
  pub coupled : Coupled e stands.newest stands.callers stack.written s t
