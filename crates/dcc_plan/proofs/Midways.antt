-- Within a block of the program, and where its text comes to.
use Rattle.std.proofs.Common.{◌≡◌, ℕ, suc, ◌+◌, ◌<◌, ◌≤◌, inl, inr, Bool, true, false, List, [], length, Some, refl, sym, ap, ◌∙◌, subst, true≢false, arith}
use Rattle.std.specs.Prelude.{◌⊎◌, Contains, drop, slice_get}
use Rattle.std.specs.List.{list_all, list_any}
use Rattle.std.proofs.lemmas.Bool.{and_parts}
use Rattle.dcc_run.specs.End.{is_over}
use Rattle.dcc_run.specs.System.{after}
use Rattle.dcc_ir.specs.Families.{Family}
use Rattle.dcc_ir.specs.Flow.{targets}
use Rattle.dcc_ir.specs.Live.{block_in}
use Rattle.dcc_ir.specs.Run as run
use Rattle.dcc_ir.specs.Tree as inner
use Rattle.dcc_ir.specs.WellFormed.{is_stmt, is_exit, is_block, jumps_after_call, IsGraph}
use Rattle.dcc_ir.proofs.FitStates.{IsFit}
use Rattle.dcc_ir.proofs.ReachedLaws.{contained, all_at, graph_of, IsWithinAt, IsGood}
use Rattle.dcc_c.specs.Run as c
use Rattle.dcc_c.specs.Run.{Continuation, runs, goes_on, step_at, on}
use Rattle.dcc_c.specs.Tree.{Function, Tree}
use Rattle.dcc_text.specs.Spelling.{Spelling}
use Rattle.dcc_text.specs.Holding.{Locations, HoldsFrame, Holds}
use Rattle.dcc_control.specs.Plan.{Plan, is_begun}
use Rattle.dcc_plan.specs.Programs.{IsGraphText}
use Rattle.dcc_control.specs.Valid as valid
use Rattle.dcc_control.specs.Valid.{Point, Begin, Before, Nowhere, Leads, Context, entry}
use Rattle.dcc_plan.specs.Laws.{AreSteps}
use Rattle.dcc_control.proofs.ListLaws.{block-at}
use Rattle.dcc_plan.proofs.Rests.{Sound, whole-begun, left, is_jumping, Stands}
use Rattle.dcc_plan.proofs.Settings.{limit_of, StandsAt, Premises}
use Rattle.dcc_plan.proofs.Points.{moves}
use Rattle.dcc_plan.proofs.Stages.{debts_of, AreCalled, CallsAlike, IsUnstuck, Meets, at_begin, Outcome}
use Rattle.dcc_plan.proofs.Settles.{one-step, settle}

module _ (G : Premises) (graph : inner.Graph) (inside : Contains G.p.graphs graph) where
  abbrev pub p : inner.Program
  p = G.p

  abbrev pub fill : ℕ
  fill = G.fill

  abbrev pub text : Tree
  text = G.tree

  abbrev pub s : Spelling
  s = G.texts.spelling graph

  abbrev pub family : Family
  family = G.texts.matters graph

  abbrev pub whole : Plan
  whole = G.texts.plan graph

  abbrev pub f : Function
  f = G.texts.function graph

  abbrev pub limit : ℕ
  limit = limit_of G.texts graph

  abbrev pub begun : ℕ → Bool
  begun b = is_begun whole b

  abbrev pub is : IsGraphText G.texts graph
  is = G.each graph inside

  abbrev pub c_step : c.State → c.State
  c_step t = c.step text t

  abbrev pub Standing : Continuation → Context → Type 0
  Standing k context = Stands s graph whole limit k context

  pub well : IsGraph graph
  well = graph_of p G.well graph inside

  pub sound : Sound s graph whole whole valid.outside
  sound = (is.is_plan.valid, whole-begun s graph whole)

  -- the end of a block is well formed
  pub exit-formed : (b : ℕ) → b < length graph.blocks → is_exit graph.bits (length graph.blocks) (block_in graph b).exit ≡ true
  exit-formed b known =
      (and_parts (list_all (is_stmt graph.bits) (block_in graph b).stmts) (is_exit graph.bits (length graph.blocks) (block_in graph b).exit)
      (all_at (is_block graph.bits (length graph.blocks)) graph.blocks (block_in graph b) well.blocks (contained graph.blocks b (block_in graph b) (block-at graph b known)))).1

  -- the text's step from a continuation on
  pub steps-from : (k : Continuation) (t : c.State) → is_over t.end ≡ false → c_step (goes_on k t) ≡ step_at text k (goes_on k t)
  steps-from k t on = one-step s graph whole limit text f well sound (G.texts.openings graph) (G.texts.lines graph) is.opens is.text (omega arith) k t on

  abbrev pub stands-for : {from : Point} (k : Continuation) (context : Context) (point : Point) (leads : Leads graph begun from point) → Standing k context → context.next ≡ point → left k ≤ limit
      → StandsAt G.texts graph k from
  stands-for k context point leads stands same low = record { context = context; stands = stands; point = point; same = same; leads = leads; low = low }

  -- The program is within a block, before these statements, and the text stands for that point. Where a call is among them,
  -- there is enough left for what a callee opens.
  pub record Midway (extra b m : ℕ) (stmts : List inner.Stmt) (i : run.State) (t : c.State) : Type 0 where
    pub known : b < length graph.blocks
    pub at : drop m (block_in graph b).stmts ≡ stmts
    pub within : m ≤ length (block_in graph b).stmts
    pub graph_is : i.running.graph ≡ graph
    pub block_is : i.running.block ≡ block_in graph b
    pub called : AreCalled G.texts p graph i.waiting
    pub filled : t.fill ≡ fill
    pub running : is_over i.end ≡ false
    pub placed : IsWithinAt p stmts i
    pub jumps : jumps_after_call stmts (block_in graph b).exit ≡ true
    pub spare : list_any run.is_call stmts ≡ true → (callee : inner.Graph) → Contains (drop 1 p.graphs) callee → G.texts.openings callee + 1 ≤ extra
    pub fit : IsFit i
    pub steps : AreSteps s (family (block_in graph b)) stmts
    pub stand : StandsAt G.texts graph t.rest (Before b m)
    pub function : t.frame.function ≡ f
    pub holds : Holds s (family (block_in graph b) stmts) (CallsAlike G) i t

  -- the text holds the same with other statements left, and so where the program runs at another place with the frame
  at-place : {Has After : Locations} {i : run.State} {t : c.State} (a : run.Activation) (k : Continuation) → HoldsFrame s After a t.frame → Holds s Has (CallsAlike G) i t
      → Holds s After (CallsAlike G) (record i { running = a }) (goes_on k t)
  at-place a k frame h = record { frame = frame; waiting = h.waiting; memory = h.memory; input = h.input; events = h.events; end = h.end }

  pub elsewhere : {Has : Locations} {i : run.State} {t : c.State} (k : Continuation) → Holds s Has (CallsAlike G) i t → Holds s Has (CallsAlike G) i (goes_on k t)
  elsewhere {i = i} k h = at-place i.running k h.frame h

  -- The program is at the end of a block, after its statements.
  pub record Ending (b : ℕ) (i : run.State) (t : c.State) : Type 0 where
    pub known : b < length graph.blocks
    pub graph_is : i.running.graph ≡ graph
    pub block_is : i.running.block ≡ block_in graph b
    pub called : AreCalled G.texts p graph i.waiting
    pub filled : t.fill ≡ fill
    pub running : is_over i.end ≡ false
    pub placed : IsWithinAt p [] i
    pub fit : IsFit i
    pub function : t.frame.function ≡ f
    pub holds : Holds s (family (block_in graph b) []) (CallsAlike G) i t

  pub ending : (extra b m : ℕ) (i : run.State) (t : c.State) → Midway extra b m [] i t → Ending b i t
  ending extra b m i t mid = record {
    known = mid.known;
    graph_is = mid.graph_is;
    block_is = mid.block_is;
    called = mid.called;
    filled = mid.filled;
    running = mid.running;
    placed = mid.placed;
    fit = mid.fit;
    function = mid.function;
    holds = mid.holds;
  }

  -- The state to which the program's step leads.
  module _ (extra : ℕ) (last : run.State) (good : IsGood p last) (unstuck : IsUnstuck G last) where
    -- After some steps, no more than there is room for, the text is where the program's step leads. Where this step doesn't
    -- only go to another block, the text makes a step; where a measure is owed, it falls.
    pub record Comes (passes owes : Bool) (most room : ℕ) (t : c.State) : Type 0 where
      pub steps : ℕ
      pub some : passes ≡ false → 0 < steps
      pub leads : Outcome G owes most (room + debts_of t + extra) steps last (after c_step steps t)

    -- with one step more before
    pub one-before : {passes owes : Bool} {most room : ℕ} {passes' owes' : Bool} {most' room' : ℕ} {t u : c.State} → (owes ≡ true → (owes' ≡ true) × (most' ≤ most)) → c_step t ≡ u → suc room' ≤ room
        → debts_of u ≡ debts_of t → Comes passes' owes' most' room' u → Comes passes owes most room t
    one-before {passes = passes} {owes = owes} {most = most} {room = room} {t = t} same to less waiting x = record {
      steps = suc x.steps;
      some = λ e. omega arith;
      leads = subst (λ v. Outcome G owes most (room + debts_of t + extra) (suc x.steps) last (after c_step x.steps v)) (sym to) (elim x.leads [
        | inl there ↦ inl (
          there.0,
          λ e. let z = same e in let falls = there.1 z.0 in let fewer = falls.1 in let within = z.1 in (falls.0, omega (arith, fewer, within)),
          (let few = there.2 in omega (arith, few, less, waiting)),
        )
        | inr ends ↦ inr (ends.0, (let few = ends.1 in omega (arith, few, less, waiting)))
      ]);
    }

    -- a step was made, and no measure is owed
    pub paid-for : {passes owes : Bool} {most most' room : ℕ} {t : c.State} → owes ≡ false → Comes false false most' room t → Comes passes owes most room t
    paid-for none x = record {
      steps = x.steps;
      some = λ e. x.some refl;
      leads = elim x.leads [ inl there ↦ inl (there.0, λ e. absurd (true≢false (sym e ∙ none)), there.2) | inr ends ↦ inr ends ];
    }

    pub not-stuck : (i : run.State) → run.stuck i ≡ last → ⊥
    not-stuck i e = unstuck 0 i.running.graph.entry (ap (λ u. u.end) (sym e))

    -- The program goes to the next block.
    module _ (b next : ℕ) (i : run.State) (t : c.State) (end : Ending b i t) (there : next < length graph.blocks) (target : Contains (targets (block_in graph b).exit) next)
        (goes : run.going_to next i ≡ last) where
      entered : run.entering (Some (block_in graph next)) i ≡ last
      entered = ap (λ o. run.entering o i) (sym (block-at graph next there) ∙ ap (λ g. slice_get g.blocks next) (sym end.graph_is)) ∙ goes

      h : Holds s (family (block_in graph b) []) (CallsAlike G) i t
      h = end.holds

      abbrev there-meets : (k : Continuation) (context : Context) (point : Point) (leads : Leads graph begun (Begin next) point) → Standing k context → context.next ≡ point
          → (is_jumping k ≡ false) ⊎ (context.next ≡ Nowhere) → left k ≤ limit → Meets G graph (run.entering (Some (block_in graph next)) i) (goes_on k t)
      there-meets k context point leads stands same settled low = record {
        b = next;
        known = there;
        graph_is = end.graph_is;
        block_is = refl;
        rest_is = refl;
        begins = refl;
        running = end.running;
        filled = end.filled;
        good = subst (IsGood p) (sym entered) good;
        unstuck = subst (IsUnstuck G) (sym entered) unstuck;
        stand = stands-for k context point leads stands same low;
        settled = settled;
        function = end.function;
        holds = at-place (run.entering (Some (block_in graph next)) i).running k (record {
          bits = h.frame.bits;
          base = h.frame.base;
          variables = h.frame.variables;
          values = λ location has. h.frame.values location (is.matters.goes b next end.known target there location has);
          places = h.frame.places;
        }) h;
      }

      -- where the text has come there by so many steps
      arrived : (steps room : ℕ) (from to : Continuation) (context : Context) (point : Point) (leads : Leads graph begun (Begin next) point) → Standing to context → context.next ≡ point
          → (is_jumping to ≡ false) ⊎ (context.next ≡ Nowhere) → left to ≤ limit → steps ≤ room → after c_step steps (goes_on from t) ≡ goes_on to t
          → Comes true true (suc (moves leads)) room (goes_on from t)
      arrived steps room from to context point leads stands same settled low few comes = record {
        steps = steps;
        some = λ e. absurd (true≢false e);
        leads = subst (λ u. Outcome G true (suc (moves leads)) (room + debts_of t + extra) steps last u) (sym comes)
            (subst (λ j. Outcome G true (suc (moves leads)) (room + debts_of t + extra) steps j (goes_on to t)) entered
            (inl (
              record { graph = graph; inside = inside; called = end.called; stage = at_begin (there-meets to context point leads stands same settled low) },
              λ e. (refl, omega arith),
              omega (arith, few),
            )));
      }

      pub arrives : (k : Continuation) (context : Context) (point : Point) (leads : Leads graph begun (Begin next) point) → Standing k context → context.next ≡ point → left k ≤ limit
          → Comes true true (suc (moves leads)) (left k) (goes_on k t)
      arrives k context point leads stands same low =
          let x = settle s graph whole limit text f well sound (G.texts.openings graph) (G.texts.lines graph) is.opens is.text (omega arith) (suc (left k)) k point context (omega arith) low stands same in
          let on : is_over t.end ≡ false = ap is_over end.holds.end ∙ end.running in
          arrived x.steps (left k) k x.to x.context point leads x.stands x.is x.settled x.low_there x.few (x.comes t on end.function)

      -- at once, where no jump is next
      pub arrives-quiet : (k : Continuation) (context : Context) (point : Point) (leads : Leads graph begun (Begin next) point) → Standing k context → context.next ≡ point → left k ≤ limit
          → is_jumping k ≡ false → Comes true true (suc (moves leads)) 0 (goes_on k t)
      arrives-quiet k context point leads stands same low quiet = arrived 0 0 k k context point leads stands same (inl quiet) low (omega arith) refl

    -- No run comes past a Stop.
    pub no-end : (exit : inner.Exit) (i : run.State) → exit ≡ inner.Stop → run.exit_step exit i ≡ last → ⊥
    no-end exit i is goes = not-stuck i (ap (λ e. run.exit_step e i) (sym is) ∙ goes)
