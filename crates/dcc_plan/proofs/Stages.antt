-- Where the program and its text stand alike: at a block's begin, or after a call within a block.
use Rattle.std.proofs.Common.{◌≡◌, ◌≢◌, ℕ, ◌+◌, ◌<◌, ◌≤◌, Bool, true, false, List, [], ◌∷◌, length, ap, arith}
use Rattle.std.specs.Prelude.{◌⊎◌, if◌then◌else◌, All, Contains, drop}
use Rattle.std.proofs.lemmas.List.Elements.{All-nil, All-cons}
use Rattle.dcc_run.specs.End.{Stuck, is_over}
use Rattle.dcc_run.specs.System.{end_after}
use Rattle.dcc_ir.specs.Live.{block_in}
use Rattle.dcc_ir.specs.Run as run
use Rattle.dcc_ir.specs.Tree as inner
use Rattle.dcc_ir.proofs.ReachedLaws.{IsGood}
use Rattle.dcc_c.specs.Run as c
use Rattle.dcc_text.specs.Holding.{Locations, Alike, Holds, AreWaiting}
use Rattle.dcc_plan.specs.Programs.{Texts}
use Rattle.dcc_control.specs.Valid.{Begin, Nowhere}
use Rattle.dcc_plan.proofs.Points.{moves}
use Rattle.dcc_plan.proofs.Rests.{left, is_jumping}
use Rattle.dcc_plan.proofs.Settings.{AreNamed, debts, rests_of, StandsAt, Continuing, setting_of, Premises}

-- What the text owes: its statements left where the program is within a block, and those of the calls that wait.

abbrev pub debts_of : c.State → ℕ
debts_of t = debts (rests_of t.waiting)

abbrev pub owed : run.State → c.State → ℕ
owed i t = (if i.running.begins then 0 else left t.rest) + debts_of t

pub owed-begun : (i : run.State) (t : c.State) → i.running.begins ≡ true → owed i t ≡ debts_of t
owed-begun i t begins = let same = ap (λ b. (if b then 0 else left t.rest) + debts_of t) begins in omega (arith, same)

pub owed-within : (i : run.State) (t : c.State) → i.running.begins ≡ false → owed i t ≡ left t.rest + debts_of t
owed-within i t within = ap (λ b. (if b then 0 else left t.rest) + debts_of t) within

-- The callers of a running graph wait within blocks, for results that have variables; where there is one, the graph isn't
-- the first.
abbrev pub AreCalled : Texts → inner.Program → inner.Graph → List run.Waiting → Type 0
AreCalled texts p graph [] = Unit {0}
AreCalled texts p graph (w ∷ waiting) =
    Contains (drop 1 p.graphs) graph × (w.caller.begins ≡ false) × AreNamed (texts.spelling w.caller.graph) w.results × AreCalled texts p w.caller.graph waiting

pub results-named : (texts : Texts) (p : inner.Program) (graph : inner.Graph) (waiting : List run.Waiting) → AreCalled texts p graph waiting
    → All (λ w. AreNamed (texts.spelling w.caller.graph) w.results) waiting
results-named texts p graph [] called = All-nil (λ (w : run.Waiting). AreNamed (texts.spelling w.caller.graph) w.results)
results-named texts p graph (w ∷ waiting) called =
    All-cons (λ (w : run.Waiting). AreNamed (texts.spelling w.caller.graph) w.results) w waiting called.2 (results-named texts p w.caller.graph waiting called.3)

module _ (G : Premises) where
  abbrev pub CallsAlike : Alike
  CallsAlike = AreWaiting (setting_of G.texts)

  -- what matters where a block's last statements begin
  abbrev pub Matter : inner.Graph → inner.Block → List inner.Stmt → Locations
  Matter graph block rest = G.texts.matters graph block rest

  -- the run from a state on is never stuck
  abbrev pub IsUnstuck : run.State → Type 0
  IsUnstuck i = (n at : ℕ) → end_after (run.inner_system G.p G.fill) n i ≢ Stuck at

  -- The program is about to execute a block, and the text stands for its begin.
  pub record Meets (graph : inner.Graph) (i : run.State) (t : c.State) : Type 0 where
    pub b : ℕ
    pub known : b < length graph.blocks
    pub graph_is : i.running.graph ≡ graph
    pub block_is : i.running.block ≡ block_in graph b
    pub rest_is : i.running.rest ≡ (block_in graph b).stmts
    pub begins : i.running.begins ≡ true
    pub running : is_over i.end ≡ false
    pub good : IsGood G.p i
    pub unstuck : IsUnstuck i
    pub stand : StandsAt G.texts graph t.rest (Begin b)
    pub settled : (is_jumping t.rest ≡ false) ⊎ (stand.context.next ≡ Nowhere)
    pub filled : t.fill ≡ G.fill
    pub function : t.frame.function ≡ G.texts.function graph
    pub holds : Holds (G.texts.spelling graph) (Matter graph (block_in graph b) (block_in graph b).stmts) CallsAlike i t

  -- The program goes on after a call within a block, and so does the text.
  pub record GoesOn (graph : inner.Graph) (i : run.State) (t : c.State) : Type 0 where
    pub continues : Continuing G.texts t.rest graph i.running.block i.running.rest
    pub graph_is : i.running.graph ≡ graph
    pub begins : i.running.begins ≡ false
    pub filled : t.fill ≡ G.fill
    pub running : is_over i.end ≡ false
    pub good : IsGood G.p i
    pub unstuck : IsUnstuck i
    pub function : t.frame.function ≡ G.texts.function graph
    pub holds : Holds (G.texts.spelling graph) (Matter graph i.running.block i.running.rest) CallsAlike i t

  pub data Stage (graph : inner.Graph) (i : run.State) (t : c.State) : Type 0 where
    at_begin : Meets graph i t → Stage graph i t
    after_call : GoesOn graph i t → Stage graph i t

  -- The program and its text stand alike, in a graph, below callers that wait.
  pub record Related (i : run.State) (t : c.State) : Type 0 where
    pub graph : inner.Graph
    pub inside : Contains G.p.graphs graph
    pub called : AreCalled G.texts G.p graph i.waiting
    pub stage : Stage graph i t

  -- how many silent moves are left at a block's begin
  abbrev pub measure : (i : run.State) (t : c.State) → Related i t → ℕ
  measure i t x = elim x.stage [ at_begin m ↦ moves m.stand.leads | after_call m ↦ 0 ]

  -- both runs are over alike
  pub record Ends (i : run.State) (t : c.State) : Type 0 where
    pub over : is_over i.end ≡ true
    pub end : t.end ≡ i.end
    pub events : t.events ≡ i.events

  -- Both runs stand alike again or are over alike, and no more was spent. Where the step only goes to another block, fewer
  -- silent moves than these are left.
  abbrev pub Outcome : Bool → ℕ → ℕ → ℕ → run.State → c.State → Type 0
  Outcome passes most budget steps last u =
      ((x : Related last u) × (passes ≡ true → (last.running.begins ≡ true) × (measure last u x < most)) × (steps + owed last u ≤ budget))
      ⊎ (Ends last u × (steps ≤ budget))
