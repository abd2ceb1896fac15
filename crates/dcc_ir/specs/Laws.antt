-- Laws of the inner language's definitions.
use Rattle.std.specs.Prelude.{◌≡◌, ℕ, true, false, ◌^◌, ◌<◌, List, ◌++◌, if◌then◌else◌, All}
use Rattle.std.specs.List.{list_any}
use Rattle.dcc_run.specs.End.{is_over}
use Rattle.dcc_run.specs.Watched.{IsWatchable}
use Rattle.dcc_ir.specs.declared.syntax.Loc.{Loc}
use Rattle.dcc_ir.specs.Tree.{Expr, Stmt, Block, Graph, Program}
use Rattle.dcc_ir.specs.Value.{width_of, Environment, value_of, Fits}
use Rattle.dcc_ir.specs.WellFormed.{is_expr, IsProgram}
use Rattle.dcc_ir.specs.Fitting.{AreBytes, StateFits}
use Rattle.dcc_ir.specs.Ends.{IsNeverStuck, HasNoSwitch, HasSoundEnds, SwitchesHavePlaces}
use Rattle.dcc_ir.specs.Run.{State, execute, is_call, block_step, reached, watched_inner}
use Rattle.dcc_ir.specs.Flow.{Flow, Reached, Leads, HaveOneEdge}
use Rattle.dcc_ir.specs.Keeps.{KeepsRuns, Keeps}
use Rattle.dcc_ir.specs.Families.{Family, IsClosed, needed, live, IsGraphWithout}
use Rattle.dcc_ir.specs.Replaced.{MayReplace}
use Rattle.dcc_ir.specs.Trimmed.{Trim, trimmed, IsTrimmable}

-- a state that has ended stays, no step takes events back, and no step is foul
abbrev pub RunsAreWatchable : Type 0
RunsAreWatchable = (p : Program) (fill : ℕ) → IsWatchable (watched_inner p fill)

-- Statements without a Call are executed one after another; where the run isn't over after them, the block goes on.
abbrev pub StatementsAreExecuted : Type 0
StatementsAreExecuted = (graphs : List Graph) (fill : ℕ) (stmts rest : List Stmt) (s : State)
    → list_any is_call stmts ≡ false → is_over s.end ≡ false → block_step graphs fill (stmts ++ rest) s
    ≡ (if is_over (execute stmts s).end then execute stmts s else block_step graphs fill rest (execute stmts s))

abbrev pub ProgramsKeepThemselves : Type 0
ProgramsKeepThemselves = (p : Program) → Keeps p p

-- where two passes keep a program one after another, both together keep it
abbrev pub KeepsComposes : Type 0
KeepsComposes = (p q r : Program) → Keeps p q → Keeps q r → Keeps p r

-- where each block that goes has one edge in, it lies after one block alone that stays
abbrev pub OneEdgeLiesAfterOne : Type 0
OneEdgeLiesAfterOne = (p q : Flow) → HaveOneEdge p q → (a b c : ℕ) → Reached p a → Reached p b → q.has a ≡ true
    → q.has b ≡ true → q.has c ≡ false → Leads p q a c → Leads p q b c → a ≡ b

-- the value of a well-formed expression fits its width
abbrev pub ValuesFit : Type 0
ValuesFit = (scene : Environment) → Fits scene → (e : Expr) → is_expr scene.bits e ≡ true
    → value_of scene e < 2 ^ width_of scene.bits e

-- each state that a well-formed program reaches fits its widths
abbrev pub StatesFit : Type 0
StatesFit = (p : Program) → IsProgram p → (fill : ℕ) (input : List ℕ) → AreBytes input → (n : ℕ)
    → StateFits (reached p fill input n)

-- no run of a well-formed program with sound ends is ever stuck
abbrev pub RunsAreNeverStuck : Type 0
RunsAreNeverStuck = (p : Program) → IsProgram p → HasSoundEnds p → IsNeverStuck p

-- where no block of a well-formed program ends in a Switch, each Switch has its place
abbrev pub NoSwitchHasPlaces : Type 0
NoSwitchHasPlaces = (p : Program) → IsProgram p → HasNoSwitch p → SwitchesHavePlaces p

-- a well-formed program keeps its own runs, by the theorem on passes
abbrev pub ProgramsKeepTheirRuns : Type 0
ProgramsKeepTheirRuns = (p : Program) → IsProgram p → KeepsRuns p p

-- arguments and values given back that nothing reads may go
abbrev pub UnreadMayGo : Type 0
UnreadMayGo = (trim : Trim) (p : Program) → IsProgram p → IsProgram (trimmed trim p) → All (IsTrimmable trim) p.graphs
    → KeepsRuns p (trimmed trim p)

-- what is needed is a closed family
abbrev pub NeededIsClosed : Type 0
NeededIsClosed = (graph : Graph) → IsClosed graph (needed graph)

-- what is live is a closed family, where all reads count
abbrev pub LiveIsClosed : Type 0
LiveIsClosed = (graph : Graph) → IsClosed graph (live graph)

-- a closed family has all that is needed
abbrev pub HasAllNeeded : Family → Type 0
HasAllNeeded family = (graph : Graph) (block : Block) (stmts : List Stmt) (location : Loc) → IsClosed graph family
    → needed graph block stmts location → family block stmts location

-- assignments to locations that don't matter after them may go, by any closed family
abbrev pub AssignmentsMayGo : Family → Type 0
AssignmentsMayGo family = (before after : Graph) → IsClosed before family → IsGraphWithout family before after
    → MayReplace before after
