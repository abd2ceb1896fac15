-- Laws of the texts of plans.
use Rattle.std.specs.Prelude.{◌≡◌, ◌≢◌, ℕ, ◌<◌, ◌≤◌, ◌⊎◌, Bool, true, List, [], ◌∷◌, length, All, Contains}
use Rattle.dcc_run.specs.End.{Stuck, is_over}
use Rattle.dcc_run.specs.ProgramPoint.{ProgramPoint}
use Rattle.dcc_run.specs.System.{after, end_after}
use Rattle.dcc_run.specs.Visits.{visits, visits_of}
use Rattle.dcc_run.specs.Watched.{is_shown}
use Rattle.dcc_run.specs.Shadows.{Counts}
use Rattle.dcc_ir.specs.declared.syntax.Loc.{Loc}
use Rattle.dcc_ir.specs.Families.{Family}
use Rattle.dcc_ir.specs.Fitting.{AreBytes}
use Rattle.dcc_ir.specs.Flow.{targets}
use Rattle.dcc_ir.specs.Live.{block_in}
use Rattle.dcc_ir.specs.Run as inner_run
use Rattle.dcc_ir.specs.Tree as inner
use Rattle.dcc_ir.specs.Use.{exprs_of, writes_of, exit_exprs}
use Rattle.dcc_ir.specs.WellFormed.{is_stmt, IsProgram}
use Rattle.dcc_c.specs.Numbered.{numbered_lines}
use Rattle.dcc_c.specs.Run as text_run
use Rattle.dcc_c.specs.Run.{text_system}
use Rattle.dcc_c.specs.Tree.{Function, Tree}
use Rattle.dcc_text.specs.Spelling.{Spelling}
use Rattle.dcc_text.specs.Holding.{Locations, Alike, IsSpelling, IsWithin, Holds}
use Rattle.dcc_text.specs.Laws.{IsStep}
use Rattle.dcc_control.specs.Plan.{Plan}
use Rattle.dcc_plan.specs.Steps.{steps_in}
use Rattle.dcc_plan.specs.PlanText.{plan_text, IsPlanText}
use Rattle.dcc_control.specs.Valid.{IsPlanOf, BeginsAll, has_step}

-- the text of a plan is its text after its lines are numbered
abbrev pub NumberedTextIsText : Type 0
NumberedTextIsText = (s : Spelling) (graph : inner.Graph) (plan : Plan) (depth at : ℕ)
    → IsPlanText s graph plan (numbered_lines depth at (plan_text s graph plan))

-- What matters.

-- What the text of a call needs: the call is well formed, its arguments are among what matters before it, the places of
-- its results have variables, and what matters after it is a result or mattered before it.
pub record IsCallStep (s : Spelling) (Before After : Locations) (stmt : inner.Stmt) : Type 0 where
  pub formed : is_stmt s.bits stmt ≡ true
  pub call : inner_run.is_call stmt ≡ true
  pub within : All (IsWithin s Before) (exprs_of stmt)
  pub written : All (λ location. s.named location ≡ true) (writes_of stmt)
  pub named : (location : Loc) → Before location → s.named location ≡ true
  pub left : (location : Loc) → After location → Contains (writes_of stmt) location ⊎ Before location

-- each of these last statements of a block has what its text needs, by what matters before and after it
abbrev pub AreSteps : Spelling → (List inner.Stmt → Locations) → List inner.Stmt → Type 0
AreSteps s Has [] = Unit {0}
AreSteps s Has (stmt ∷ rest) =
    (IsStep s (Has (stmt ∷ rest)) (Has rest) stmt ⊎ IsCallStep s (Has (stmt ∷ rest)) (Has rest) stmt)
    × AreSteps s Has rest

-- What matters serves the text of the graph: it is what statements and ends of blocks need, and what matters where a
-- block begins matters at the end of each block that leads there.
pub record Matters (s : Spelling) (graph : inner.Graph) (family : Family) : Type 0 where
  pub steps : (b : ℕ) → b < length graph.blocks
      → AreSteps s (family (block_in graph b)) (block_in graph b).stmts
  pub tested : (b : ℕ) → b < length graph.blocks
      → All (IsWithin s (family (block_in graph b) [])) (exit_exprs (block_in graph b).exit)
  pub goes : (b next : ℕ) → b < length graph.blocks → Contains (targets (block_in graph b).exit) next
      → next < length graph.blocks
      → (location : Loc) → family (block_in graph next) (block_in graph next).stmts location
      → family (block_in graph b) [] location

-- Runs.

-- The program has one graph, and this function the text of a valid plan of it.
pub record IsTextOf (p : inner.Program) (graph : inner.Graph) (s : Spelling) (family : Family) (plan : Plan)
    (f : Function) : Type 0 where
  pub alone : p.graphs ≡ graph ∷ []
  pub well : IsProgram p
  pub spelling : IsSpelling s
  pub matters : Matters s graph family
  pub is_plan : IsPlanOf graph plan
  pub text : IsPlanText s graph plan f.body

-- the function of a program of one graph has the text of a valid plan, with a step where each block begins
pub record IsPlanned (p : inner.Program) (graph : inner.Graph) (s : Spelling) (family : Family) (plan : Plan)
    (f : Function) : Type 0 where
  pub alone : p.graphs ≡ graph ∷ []
  pub well : IsProgram p
  pub spelling : IsSpelling s
  pub matters : Matters s graph family
  pub is_plan : IsPlanOf graph plan
  pub begins : BeginsAll graph plan
  pub text : IsPlanText s graph plan f.body

-- the first run is never stuck
abbrev pub NeverStuck : inner.Program → ℕ → List ℕ → Type 0
NeverStuck p fill input = (n at : ℕ)
    → end_after (inner_run.inner_system p fill) n (inner_run.first_state p fill input) ≢ Stuck at

-- The kept places are the blocks of the graph that the text has a step for.
abbrev pub AreKept : inner.Graph → Plan → (ProgramPoint → Bool) → Type 0
AreKept graph plan kept = (b : ℕ) → b < length graph.blocks
    → kept (record { entry = graph.entry; at = (block_in graph b).at }) ≡ has_step graph plan b

-- The text counts the program's visits; of the program each state is seen, and it visits ever more kept blocks or ends.
pub record IsCountedBy (kept : ProgramPoint → Bool) (p : inner.Program) (tree : Tree) (f : Function) (fill : ℕ)
    (input : List ℕ) (within : ℕ) : Type 0 where
  pub counts : Counts kept (inner_run.watched_inner p fill) (inner_run.first_state p fill input)
      (text_system tree) (text_run.first_state tree f fill input) within
  pub shows : (m : ℕ) → (k : ℕ) × (m ≤ k)
      × (is_shown (inner_run.watched_inner p fill)
      (after (inner_run.step p fill) k (inner_run.first_state p fill input)) ≡ true)
  pub goes_on : (k : ℕ) → (m : ℕ)
      × ((k ≤ length (visits_of kept (visits (inner_run.watched_inner p fill).system
      (inner_run.watched_inner p fill).mark m (inner_run.first_state p fill input))))
      ⊎ (is_over (end_after (inner_run.inner_system p fill) m (inner_run.first_state p fill input)) ≡ true))

-- every block is kept
abbrev pub IsCounted : inner.Program → Tree → Function → ℕ → List ℕ → ℕ → Type 0
IsCounted p tree f fill input within = IsCountedBy (λ place. true) p tree f fill input within

-- Where the first states hold what matters, the text of a valid plan counts the visits of a program that is never
-- stuck: it makes a step at least for each kept block, and at most as many for each block as there are in the text.
abbrev pub TextsCount : Family → Alike → Type 0
TextsCount family AreAlike = (p : inner.Program) (graph : inner.Graph) (s : Spelling) (plan : Plan)
    (tree : Tree) (f : Function) (fill : ℕ) (input : List ℕ) (kept : ProgramPoint → Bool)
    → IsTextOf p graph s family plan f → AreKept graph plan kept → AreBytes input → NeverStuck p fill input
    → Holds s (family (block_in graph 0) (block_in graph 0).stmts) AreAlike (inner_run.first_state p fill input)
    (text_run.first_state tree f fill input)
    → (within : ℕ) → steps_in f.body ≤ within → IsCountedBy kept p tree f fill input within

-- the text of a plan counts each visit, where it has a step where each block begins
abbrev pub PlansCount : Family → Alike → Type 0
PlansCount family AreAlike = (p : inner.Program) (graph : inner.Graph) (s : Spelling) (plan : Plan)
    (tree : Tree) (f : Function) (fill : ℕ) (input : List ℕ)
    → IsPlanned p graph s family plan f → AreBytes input → NeverStuck p fill input
    → Holds s (family (block_in graph 0) (block_in graph 0).stmts) AreAlike (inner_run.first_state p fill input)
    (text_run.first_state tree f fill input)
    → (within : ℕ) → steps_in f.body ≤ within → IsCounted p tree f fill input within
