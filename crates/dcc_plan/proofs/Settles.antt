-- Jumps of the text, from a block's end to where the next block begins.
use Rattle.std.proofs.Common.{◌≡◌, ℕ, zero, suc, ◌+◌, ◌<◌, ◌≤◌, inl, inr, true, false, Option, Some, refl, sym, ap, ◌∙◌, true≢false, arith}
use Rattle.std.specs.Prelude.{◌⊎◌, if◌then◌else◌}
use Rattle.dcc_run.specs.End.{is_over}
use Rattle.dcc_run.specs.System.{after}
use Rattle.dcc_ir.specs.Tree as inner
use Rattle.dcc_ir.specs.Live.{block_in}
use Rattle.dcc_ir.specs.WellFormed.{IsGraph}
use Rattle.dcc_c.specs.Tree.{Word, Stmt, Goto, Lines, line, Function, Tree}
use Rattle.dcc_c.specs.Run.{Continuation, ends_function, runs, State, goes_on, jump_step, from_label, after_goto, after_break, after_continue, stmt_step, step_at, step}
use Rattle.dcc_text.specs.Spelling.{Spelling}
use Rattle.dcc_plan.specs.Labels.{label_at}
use Rattle.dcc_control.specs.Plan as plan
use Rattle.dcc_control.specs.Plan.{Item, Plan, no_items, item, is_begun, is_empty_statement, starts_empty}
use Rattle.dcc_plan.specs.PlanText as planned
use Rattle.dcc_plan.specs.PlanText.{IsPlanText, IsItemText}
use Rattle.dcc_plan.specs.Programs.{OpensWith, at_once, one_more}
use Rattle.dcc_control.specs.Valid.{Point, Begin, Nowhere, Context, outside, in_sides, item_entry, entry}
use Rattle.dcc_plan.proofs.Rests.{Sound, SoundItem, lines_count, inside_count, left, is_jump_stmt, is_jumping, Stands, closes, goes, Lands, AtItem, at_item, at_turn, at_test, at_end, head, break-lands, continue-lands, absent, lands, do-quiet, return-quiet, search-plan}

-- assignments have no labels
opened-label : (word : Word) (count : ℕ) (body lines : Lines) (rest : Continuation) → OpensWith count body lines → from_label word body rest ≡ from_label word lines rest
opened-label word count body lines rest at_once = refl
opened-label word (suc count) (line stmt at body) lines rest (one_more opens) = opened-label word count body lines rest opens

module _ (s : Spelling) (graph : inner.Graph) (whole : Plan) (limit : ℕ) (text : Tree) (f : Function) (well : IsGraph graph)
    (valid : Sound s graph whole whole outside) (count : ℕ) (lines : Lines) (opens : OpensWith count f.body lines) (body : IsPlanText s graph whole lines) (low : lines_count lines ≤ limit) where
  -- a step from a continuation on
  pub one-step : (k : Continuation) (t : State) → is_over t.end ≡ false → step text (goes_on k t) ≡ step_at text k (goes_on k t)
  one-step k t on = ap (λ over. if over then goes_on k t else step_at text k (goes_on k t)) on

  -- From what is left, jumps alone lead to what stands for the same point, at a statement that is no jump.
  pub record Settles (k : Continuation) (point : Point) : Type 0 where
    pub steps : ℕ
    pub few : steps ≤ left k
    pub to : Continuation
    pub context : Context
    pub stands : Stands s graph whole limit to context
    pub is : context.next ≡ point
    pub settled : (is_jumping to ≡ false) ⊎ (context.next ≡ Nowhere)
    pub low_there : left to ≤ limit
    pub comes : (t : State) → is_over t.end ≡ false → t.frame.function ≡ f → after (step text) steps (goes_on k t) ≡ goes_on to t

  -- the step of a jump that has somewhere to go
  pub jump-comes : (k to : Continuation) (stmt : Stmt) (at : ℕ) (lines : Lines) (rest : Continuation) (o : Option Continuation)
      → ((t : Tree) (u : State) → step_at t k u ≡ stmt_step t stmt at (goes_on (runs lines rest) u))
      → ((u : State) → u.frame.function ≡ f → stmt_step text stmt at (goes_on (runs lines rest) u) ≡ jump_step o at (goes_on (runs lines rest) u)) → o ≡ Some to
      → (t : State) → is_over t.end ≡ false → t.frame.function ≡ f → after (step text) 1 (goes_on k t) ≡ goes_on to t
  jump-comes k to stmt at lines rest o steps jump found t on function =
      one-step k t on
      ∙ steps text (goes_on k t)
      ∙ jump (goes_on k t) function
      ∙ ap (λ x. jump_step x at (goes_on (runs lines rest) (goes_on k t))) found

  -- nothing is to be done
  abbrev stays : (k : Continuation) (point : Point) (c : Context) → left k ≤ limit → Stands s graph whole limit k c → c.next ≡ point → (is_jumping k ≡ false) ⊎ (c.next ≡ Nowhere)
      → Settles k point
  stays k point c within stands same settled = record {
    steps = 0;
    few = omega arith;
    to = k;
    context = c;
    stands = stands;
    is = same;
    settled = settled;
    low_there = within;
    comes = λ t on function. refl;
  }

  -- a jump lands there at once
  abbrev lands-once : (k : Continuation) (point next : Point) (most : ℕ) (o : Option Continuation) → 1 ≤ left k → most ≤ limit → next ≡ point → (l : Lands s graph whole limit most true next o)
      → ((t : State) → is_over t.end ≡ false → t.frame.function ≡ f → after (step text) 1 (goes_on k t) ≡ goes_on l.to t) → Settles k point
  lands-once k point next most o some within same l comes = record {
    steps = 1;
    few = some;
    to = l.to;
    context = l.context;
    stands = l.stands;
    is = l.is ∙ same;
    settled = inl (l.quiet refl);
    low_there = omega (arith, l.few, within);
    comes = comes;
  }

  -- a `goto` does
  jump-lands : (k : Continuation) (point : Point) (a at : ℕ) (later : Lines) (rest : Continuation) → 1 ≤ left k → SoundItem s graph whole (plan.Jump a) no_items outside → Begin a ≡ point
      → ((t : Tree) (u : State) → step_at t k u ≡ stmt_step t (Goto (label_at graph.blocks a)) at (goes_on (runs later rest) u)) → (x : Settles k point) × (x.steps ≤ 1)
  jump-lands k point a at later rest some good same steps = elim (search-plan s graph whole limit well a good.0.0 whole lines (ends_function f.last) outside body valid closes (omega (arith, low))) [
    | absent none gone ↦ absurd (true≢false (sym good.0.1 ∙ none))
    | lands l ↦
        let found = opened-label (label_at graph.blocks a) count f.body lines (ends_function f.last) opens ∙ l.found in (
          lands-once k point (Begin a) _ _ some (omega (arith, low)) same
              (record { to = l.to; context = l.context; found = found; stands = l.stands; is = l.is; quiet = l.quiet; few = l.few })
              (jump-comes k l.to (Goto (label_at graph.blocks a)) at later rest (after_goto f (label_at graph.blocks a)) steps
              (λ u function. ap (λ g. jump_step (after_goto g (label_at graph.blocks a)) at (goes_on (runs later rest) u)) function) found),
          omega arith,
        )
  ]

  -- From the begin of a text one jump at most leads there.
  pub settle-start : (p : Plan) (begin : Lines) (at : ℕ) → lines_count begin ≤ limit → IsPlanText s graph p begin → Sound s graph whole p outside → starts_empty p ≡ false
      → (x : Settles (runs begin (ends_function at)) (entry graph p outside)) × (x.steps ≤ 1)
  settle-start no_items begin at few planned.nothing good full = (stays _ _ _ (omega (arith, few)) (goes planned.nothing good closes) refl (inr refl), omega arith)
  settle-start (item i p) begin at few (planned.one_more {stmt = stmt} {at = line_at} {lines = others} text later) good full = by i stmt text (good.0.0, good.1.0)
      (goes (planned.one_more text later) good closes) few full
    where
      -- where the first statement is no jump, or leads nowhere
      quiet : (i : Item) (stmt : Stmt) → (is_jump_stmt stmt ≡ false) ⊎ (item_entry graph i (in_sides graph p outside) ≡ Nowhere) → Stands s graph whole limit (runs (line stmt line_at others) (ends_function at)) (record outside { next = item_entry graph i (in_sides graph p outside) })
          → lines_count (line stmt line_at others) ≤ limit → (x : Settles (runs (line stmt line_at others) (ends_function at)) (item_entry graph i (in_sides graph p outside))) × (x.steps ≤ 1)
      quiet i stmt settled stands few = (stays _ _ _ (omega (arith, few)) stands refl settled, omega arith)

      by : (i : Item) (stmt : Stmt) → IsItemText s graph i stmt → SoundItem s graph whole i p outside → Stands s graph whole limit (runs (line stmt line_at others) (ends_function at)) (record outside { next = item_entry graph i (in_sides graph p outside) })
          → lines_count (line stmt line_at others) ≤ limit → is_empty_statement i ≡ false → (x : Settles (runs (line stmt line_at others) (ends_function at)) (item_entry graph i (in_sides graph p outside))) × (x.steps ≤ 1)
      by (plan.Do a m) stmt planned.does good stands few full = quiet (plan.Do a m) stmt (inl (do-quiet s graph whole a m good.0.1)) stands few
      by (plan.Mark a) stmt planned.marks good stands few full = quiet (plan.Mark a) stmt (inl refl) stands few
      by (plan.Jump a) stmt planned.jumps good stands few full = jump-lands (runs (line (Goto (label_at graph.blocks a)) line_at others) (ends_function at)) (Begin a) a line_at others (ends_function at) (omega arith) good refl (λ t u. refl)
      by (plan.If a one other) stmt (planned.tests text' text'') good stands few full = quiet (plan.If a one other) stmt (inl refl) stands few
      by (plan.Switch a arms) stmt (planned.chooses text') good stands few full = quiet (plan.Switch a arms) stmt (inl refl) stands few
      by (plan.Return a) stmt planned.returns good stands few full = quiet (plan.Return a) stmt (inl (return-quiet s graph whole (block_in graph a).exit good.0.0 good.0.1)) stands few
      by (plan.For a body) stmt (planned.repeats text') good stands few full = quiet (plan.For a body) stmt (inl refl) stands few
      by (plan.While on a body) stmt (planned.tests_first text') good stands few full = quiet (plan.While on a body) stmt (inl refl) stands few
      by (plan.DoWhile on a top body) stmt (planned.tests_last text') good stands few full = quiet (plan.DoWhile on a top body) stmt (inl refl) stands few
      by plan.Break stmt planned.breaks good stands few full = quiet plan.Break stmt (inr refl) stands few
      by plan.Continue stmt planned.continues good stands few full = quiet plan.Continue stmt (inr refl) stands few
      by plan.Empty stmt planned.does_nothing good stands few full = absurd (true≢false full)

  -- jumps settle so from each continuation with fewer statements left
  abbrev Later : ℕ → Point → Type 0
  Later n point = (k : Continuation) (c : Context) → left k < n → left k ≤ limit → Stands s graph whole limit k c → c.next ≡ point → Settles k point

  pub settle : (n : ℕ) (k : Continuation) (point : Point) (c : Context) → left k < n → left k ≤ limit → Stands s graph whole limit k c → c.next ≡ point → Settles k point
  settle zero k point c small within stands same = absurd (omega (arith, small))
  settle (suc n) k point c small within stands same = elim (head s graph whole stands) [
    | at_item x ↦ by (λ k' c' small' within' stands' same'. settle n k' point c' small' within' stands' same') x x.first x.stmt x.text x.is x.valid x.steps x.count x.jumps
    | at_turn x ↦ stays k point c within stands same (inl x.jumps)
    | at_test x ↦ stays k point c within stands same (inl x.jumps)
    | at_end none ↦ stays k point c within stands same (inr none)
  ]
    where
      by : (again : Later n point) (x : AtItem s graph whole limit k c.next) (first : Item) (stmt : Stmt) → IsItemText s graph first stmt → c.next ≡ item_entry graph first (in_sides graph x.later x.context)
          → SoundItem s graph whole first x.later x.context → ((t : Tree) (u : State) → step_at t k u ≡ stmt_step t stmt x.at (goes_on (runs x.lines x.rest) u))
          → left k ≡ suc (inside_count stmt + lines_count x.lines + left x.rest) → is_jumping k ≡ is_jump_stmt stmt → Settles k point
      by again x (plan.Do a m) stmt planned.does is good steps count jumps = stays k point c within stands same (inl (jumps ∙ do-quiet s graph whole a m good.0.1))
      by again x (plan.Mark a) stmt planned.marks is good steps count jumps = stays k point c within stands same (inl jumps)
      by again x (plan.Jump a) stmt planned.jumps is good steps count jumps = (jump-lands k point a x.at x.lines x.rest (omega (arith, count)) good (sym is ∙ same) steps).0
      by again x (plan.If a one other) stmt (planned.tests text' text'') is good steps count jumps = stays k point c within stands same (inl jumps)
      by again x (plan.Switch a arms) stmt (planned.chooses text') is good steps count jumps = stays k point c within stands same (inl jumps)
      by again x (plan.Return a) stmt planned.returns is good steps count jumps = stays k point c within stands same (inl (jumps ∙ return-quiet s graph whole (block_in graph a).exit good.0.0 good.0.1))
      by again x (plan.For a p) stmt (planned.repeats text') is good steps count jumps = stays k point c within stands same (inl jumps)
      by again x (plan.While on a p) stmt (planned.tests_first text') is good steps count jumps = stays k point c within stands same (inl jumps)
      by again x (plan.DoWhile on a top p) stmt (planned.tests_last text') is good steps count jumps = stays k point c within stands same (inl jumps)
      by again x plan.Break stmt planned.breaks is good steps count jumps = elim (break-lands s graph whole x.stands) [
        | inl none ↦ stays k point c within stands same (inr (is ∙ none))
        | inr l ↦
            let there = again l.to l.context (omega (arith, small, count, l.few)) (omega (arith, within, count, l.few)) l.stands (l.is ∙ sym is ∙ same) in
            record {
              steps = suc there.steps;
              few = omega (arith, count, l.few, there.few);
              to = there.to;
              context = there.context;
              stands = there.stands;
              is = there.is;
              settled = there.settled;
              low_there = there.low_there;
              comes = λ t on function.
                  ap (after (step text) there.steps) (jump-comes k l.to stmt x.at x.lines x.rest (after_break x.rest) steps (λ u function. refl) l.found t on function)
                  ∙ there.comes t on function;
            }
      ]
      by again x plan.Empty stmt planned.does_nothing is good steps count jumps =
          let there = again (runs x.lines x.rest) (in_sides graph x.later x.context) (omega (arith, small, count)) (omega (arith, within, count)) (goes x.later_text x.later_valid x.stands) (sym is ∙ same) in
          record {
            steps = suc there.steps;
            few = omega (arith, count, there.few);
            to = there.to;
            context = there.context;
            stands = there.stands;
            is = there.is;
            settled = there.settled;
            low_there = there.low_there;
            comes = λ t on function. ap (after (step text) there.steps) (one-step k t on ∙ steps text (goes_on k t)) ∙ there.comes t on function;
          }
      by again x plan.Continue stmt planned.continues is good steps count jumps = elim (continue-lands s graph whole x.stands) [
        | inl none ↦ stays k point c within stands same (inr (is ∙ none))
        | inr l ↦ lands-once k point x.context.at_continue (left x.rest) _ (omega (arith, count)) (omega (arith, within, count)) (sym is ∙ same) l
            (jump-comes k l.to stmt x.at x.lines x.rest (after_continue x.rest) steps (λ u function. refl) l.found)
      ]
