-- The text of valid plans counts the visits of its program.
use Rattle.std.proofs.Common.{◌≡◌, ℕ, zero, suc, ◌+◌, ◌-◌, ◌<◌, ◌≤◌, inl, inr, Bool, true, false, List, [], ◌∷◌, map, Some, None, refl, sym, ap, ap₂, ◌∙◌, subst, true≢false, arith}
use Rattle.std.specs.Prelude.{◌||◌, ◌&&◌, not, if◌then◌else◌, is_some, Contains, drop, slice_get, get_or}
use Rattle.std.specs.List.{list_any, AllZip}
use Rattle.std.proofs.lemmas.Bool.{or_left, or_right, or_parts, not-true}
use Rattle.std.proofs.lemmas.List.Elements.{All-contains}
use Rattle.dcc_run.specs.End.{is_over}
use Rattle.dcc_run.specs.System.{after}
use Rattle.dcc_run.specs.ProgramPoint.{ProgramPoint}
use Rattle.dcc_run.specs.Watched.{is_shown}
use Rattle.dcc_ir.specs.Families.{Family}
use Rattle.dcc_ir.specs.Fitting.{AreBytes}
use Rattle.dcc_ir.specs.Live.{block_in}
use Rattle.dcc_ir.specs.Run as run
use Rattle.dcc_ir.specs.Tree as inner
use Rattle.dcc_ir.specs.WellFormed.{is_jump, jumps_after_call, IsGraph}
use Rattle.dcc_ir.proofs.LocationLaws.{Contains-here, Contains-later}
use Rattle.dcc_ir.proofs.ReachedLaws.{contained, graph_of, IsWithinAt, within-of, IsGood, step-good, first-good}
use Rattle.dcc_ir.proofs.RunLaws.{inner_watchable}
use Rattle.dcc_c.specs.Run as c
use Rattle.dcc_c.specs.Run.{Continuation, ends_function, runs, tests, turns, goes_on, stmt_step, step_at, text_system}
use Rattle.dcc_c.specs.Tree.{Stmt, Lines, line, Function, Tree}
use Rattle.dcc_c.specs.Value as text_value
use Rattle.dcc_c.specs.Value.{is_zero}
use Rattle.dcc_text.specs.Spelling.{Spelling}
use Rattle.dcc_text.specs.Holding.{Locations, Alike, Holds, IsWaiting, AreWaiting}
use Rattle.dcc_text.proofs.FirstRuns.{opening}
use Rattle.dcc_plan.specs.Calls.{Opens}
use Rattle.dcc_plan.proofs.FirstStates.{first-states-stand}
use Rattle.dcc_plan.proofs.Returns.{later-contained}
use Rattle.dcc_control.specs.Plan as plan
use Rattle.dcc_control.specs.Plan.{Item, Plan, is_begun}
use Rattle.dcc_plan.specs.PlanText as planned
use Rattle.dcc_plan.specs.PlanText.{IsPlanText, IsItemText, text_of_way}
use Rattle.dcc_plan.specs.Steps.{steps_in}
use Rattle.dcc_plan.specs.Programs.{Texts, OpensWith, at_once, one_more, IsGraphText, open_setting, IsProgramText, AreAllKept, text_size, ProgramsCount}
use Rattle.dcc_control.specs.Valid as valid
use Rattle.dcc_control.specs.Valid.{Point, Begin, Before, Leads, Context, outside, item_entry, entry, in_sides, only_goes, has_step}
use Rattle.dcc_plan.specs.Laws.{AreSteps, IsTextOf, NeverStuck, AreKept, IsCountedBy, TextsCount, PlansCount}
use Rattle.dcc_plan.proofs.CallStates.{jump-shown}
use Rattle.dcc_plan.proofs.KeptLeaps.{keeps, paid, IsKeptLeap, leaps_count, leaps_show, leaps_go_on}
use Rattle.dcc_control.proofs.ListLaws.{block-at, drop-none}
use Rattle.dcc_plan.proofs.Rests.{Sound, SoundItem, lines_count, inside_count, count-is, left, is_jumping, is_jump_stmt, loop_context, test_point, Stands, loops, IsTesting, AtItem, AtTest, at_item, at_turn, at_test, at_end, head}
use Rattle.dcc_plan.proofs.Rests as rests
use Rattle.dcc_plan.proofs.CallPremises.{held-there, functions-of, opens-nothing}
use Rattle.dcc_plan.proofs.Settings.{limit_of, setting_of, Premises}
use Rattle.dcc_plan.proofs.Settles.{Settles, settle-start}
use Rattle.dcc_plan.proofs.Points.{block_of, moves}
use Rattle.dcc_plan.proofs.Stages.{debts_of, owed, owed-begun, owed-within, AreCalled, CallsAlike, Matter, IsUnstuck, Meets, GoesOn, Stage, at_begin, after_call, Related, measure, Outcome}
use Rattle.dcc_plan.proofs.BlockRuns.{block-runs}
use Rattle.dcc_plan.proofs.EndRuns.{loop-runs}
use Rattle.dcc_plan.proofs.Midways.{well, sound, steps-from, stands-for, elsewhere, Comes, Ending}

abbrev is_begin : Point → Bool
is_begin (Begin b) = true
is_begin _ = false

or-second : (begun passes : Bool) → (begun && passes) ≡ false → (begun || not passes) ≡ true → passes ≡ false
or-second true true silent step = absurd (true≢false silent)
or-second false true silent step = absurd (true≢false (sym step))
or-second begun false silent step = refl

or-neither : (begun passes : Bool) → (begun || not passes) ≡ false → (passes && not begun) ≡ true
or-neither true passes none = absurd (true≢false none)
or-neither false true none = refl
or-neither false false none = absurd (true≢false none)

-- the steps of a body that opens with assignments
opens-count : (count : ℕ) (body lines : Lines) → OpensWith count body lines → lines_count body ≡ count + lines_count lines
opens-count count body lines at_once = omega arith
opens-count (suc count) (line stmt at body) lines (one_more opens) = let later = opens-count count body lines opens in omega (arith, later)

opens-none : (count : ℕ) (body lines : Lines) → count ≡ 0 → OpensWith count body lines → body ≡ lines
opens-none count body lines none at_once = refl
opens-none (suc count) (line stmt at body) lines none (one_more opens) = absurd (omega (arith, none))

-- no call among the last statements
none-after : (stmts : List inner.Stmt) (exit : inner.Exit) → list_any run.is_call stmts ≡ false → jumps_after_call stmts exit ≡ true
none-after [] exit none = refl
none-after (stmt ∷ rest) exit none =
    let parts = or_parts (run.is_call stmt) (list_any run.is_call rest) none in
    ap (λ call. if call then not (list_any run.is_call rest) && is_jump exit else jumps_after_call rest exit) parts.0 ∙ none-after rest exit parts.1

-- what the text of later statements needs
dropped-steps : (s : Spelling) (Has : List inner.Stmt → Locations) (m : ℕ) (stmts : List inner.Stmt) → AreSteps s Has stmts → AreSteps s Has (drop m stmts)
dropped-steps s Has zero [] are = are
dropped-steps s Has zero (stmt ∷ stmts) are = are
dropped-steps s Has (suc m) [] are = are
dropped-steps s Has (suc m) (stmt ∷ stmts) are = dropped-steps s Has m stmts are.1

some-none : {A : Type 0} {a : A} → Some a ≡ None → ⊥
some-none e = cc

-- the first state enters the first block of the first graph
first_of_graphs-is : (p : inner.Program) (graph : inner.Graph) (others : List inner.Graph) (block : inner.Block) (fill : ℕ) (input : List ℕ) → p.graphs ≡ graph ∷ others
    → slice_get graph.blocks 0 ≡ Some block → run.first_state p fill input ≡ run.entering (Some block) (opening p graph fill input)
first_of_graphs-is p graph others block fill input first there =
    ap (λ graphs. run.opened (get_or graphs 0 run.no_graph) p fill input) first ∙ ap (λ o. run.entering o (opening p graph fill input)) there

module _ (G : Premises) where
  abbrev c_step : c.State → c.State
  c_step t = c.step G.tree t

  -- One step of the program from such states.
  module _ (graph : inner.Graph) (inside : Contains G.p.graphs graph) (i : run.State) (t : c.State) (called : AreCalled G.texts G.p graph i.waiting) where
    abbrev s : Spelling
    s = G.texts.spelling graph

    abbrev whole : Plan
    whole = G.texts.plan graph

    abbrev most : ℕ
    most = limit_of G.texts graph

    abbrev goes_to : ℕ → Bool
    goes_to b = is_begun whole b

    abbrev next : run.State
    next = run.step G.p G.fill i

    -- what is left for what a callee opens
    abbrev extra : ℕ
    extra = G.most - most

    within-most : most + extra ≡ G.most
    within-most = let fits = G.fits graph inside in omega (arith, fits)

    next-good : IsGood G.p i → IsGood G.p next
    next-good good = step-good G.p G.well G.fill i good

    -- the step is that of the statements left
    goes-from : (stmts : List inner.Stmt) → i.running.rest ≡ stmts → is_over i.end ≡ false → run.block_step G.p.graphs G.fill stmts i ≡ next
    goes-from stmts rest_is running = ap (λ rest. run.block_step G.p.graphs G.fill rest i) (sym rest_is) ∙ ap (λ over. if over then i else run.block_step G.p.graphs G.fill i.running.rest i) (sym running)

    -- After a call.
    module _ (g : GoesOn G graph i t) where
      after-shown : is_shown (run.watched_inner G.p G.fill) next ≡ true
      after-shown =
          subst (λ j. is_shown (run.watched_inner G.p G.fill) j ≡ true) (goes-from i.running.rest refl g.running)
          (jump-shown G.p G.fill i.running.rest i g.continues.no_calls (ap (λ (b : inner.Block). is_jump b.exit) g.continues.block_is ∙ g.continues.jumps))

      after-comes : Comes G graph inside 0 next (next-good g.good) (λ n at. g.unstuck (suc n) at) (only_goes i.running.rest (block_in graph g.continues.b).exit)
          (only_goes i.running.rest (block_in graph g.continues.b).exit && not (goes_to g.continues.b)) (moves g.continues.stand.leads) (left t.rest) t
      after-comes =
          let x = g.continues in
          let within : IsWithinAt G.p i.running.rest i = within-of G.p G.well i (g.good.active g.running) g.good.safe in
          block-runs G graph inside 0 next (next-good g.good) (λ n at. g.unstuck (suc n) at) (suc (left t.rest)) i.running.rest x.b x.m i t (omega arith) (record {
            known = x.known;
            at = x.at;
            within = x.within;
            graph_is = g.graph_is;
            block_is = x.block_is;
            called = called;
            filled = g.filled;
            running = g.running;
            placed = within;
            jumps = none-after i.running.rest (block_in graph x.b).exit x.no_calls;
            spare = λ some. absurd (true≢false (sym some ∙ x.no_calls));
            fit = g.good.safe.fit;
            steps = subst (AreSteps s (G.texts.matters graph (block_in graph x.b))) x.at (dropped-steps s (G.texts.matters graph (block_in graph x.b)) x.m (block_in graph x.b).stmts ((G.each graph inside).matters.steps x.b x.known));
            stand = x.stand;
            function = g.function;
            holds = subst (λ (block : inner.Block). Holds s (Matter G graph block i.running.rest) (CallsAlike G) i t) x.block_is g.holds;
          }) (goes-from i.running.rest refl g.running)

    -- At a block's begin.
    module _ (m : Meets G graph i t) where
      on : is_over t.end ≡ false
      on = ap is_over m.holds.end ∙ m.running

      unstuck-next : IsUnstuck G next
      unstuck-next = λ n at. m.unstuck (suc n) at

      abbrev passes : Bool
      passes = only_goes (block_in graph m.b).stmts (block_in graph m.b).exit

      abbrev Arrives : ℕ → c.State → Type 0
      Arrives fewer u = Comes G graph inside extra next (next-good m.good) unstuck-next passes (passes && not (goes_to m.b)) fewer (left u.rest) u

      -- past the begin of the block
      past : (k : Continuation) (context : Context) (point : Point) (leads : Leads graph goes_to (Before m.b 0) point) → Stands s graph whole most k context → context.next ≡ point → left k ≤ most
          → Arrives (moves leads) (goes_on k t)
      past k context point leads stands same low =
          let graph_well = well G graph inside in
          let within : IsWithinAt G.p i.running.rest i = within-of G.p G.well i (m.good.active m.running) m.good.safe in
          block-runs G graph inside extra next (next-good m.good) unstuck-next (suc (left k)) (block_in graph m.b).stmts m.b 0 i (goes_on k t) (omega arith) (record {
            known = m.known;
            at = drop-none (block_in graph m.b).stmts;
            within = omega arith;
            graph_is = m.graph_is;
            block_is = m.block_is;
            called = called;
            filled = m.filled;
            running = m.running;
            placed = subst (λ rest. IsWithinAt G.p rest i) m.rest_is within;
            jumps = All-contains (λ (b : inner.Block). jumps_after_call b.stmts b.exit ≡ true) graph.blocks (block_in graph m.b) graph_well.jumps (contained graph.blocks m.b (block_in graph m.b) (block-at graph m.b m.known));
            spare = λ some callee later. let room = G.spare graph callee inside later in omega (arith, room, within-most);
            fit = m.good.safe.fit;
            steps = (G.each graph inside).matters.steps m.b m.known;
            stand = stands-for G graph inside k context point leads stands same low;
            function = m.function;
            holds = elsewhere G graph inside k m.holds;
          }) (goes-from (block_in graph m.b).stmts m.rest_is m.running)

      -- the text's steps for the block
      record Leaps : Type 0 where
        steps : ℕ
        some : has_step graph whole m.b ≡ true → 0 < steps
        leads : Outcome G (not (has_step graph whole m.b)) (moves m.stand.leads) (most + debts_of t + extra) steps next (after c_step steps t)

      -- what is reached after a step that begins the block
      record Later (u : c.State) : Type 0 where
        steps : ℕ
        leads : Outcome G false 0 (left u.rest + debts_of u + extra) steps next (after c_step steps u)

      later : {fewer : ℕ} {u : c.State} → Arrives fewer u → Later u
      later x = record { steps = x.steps; leads = elim x.leads [ inl there ↦ inl (there.0, λ e. absurd (true≢false (sym e)), there.2) | inr ends ↦ inr ends ] }

      -- the text's step from a continuation on
      stepping : (k : Continuation) → c_step (goes_on k t) ≡ step_at G.tree k (goes_on k t)
      stepping k = steps-from G graph inside k t on

      -- a turn of a loop
      at-turn : (body : Plan) (lines : Lines) (k : Continuation) (context : Context) → IsPlanText s graph body lines → Sound s graph whole body context → Stands s graph whole most k context
          → Leads graph goes_to (Before m.b 0) (entry graph body context) → lines_count lines + left k ≤ most → Later (goes_on (runs lines k) t)
      at-turn body lines k context body_text body_valid stands leads low =
          later (past (runs lines k) (record context { next = entry graph body context }) (entry graph body context) leads (rests.goes body_text body_valid stands) refl low)

      has-step : goes_to m.b ≡ true → has_step graph whole m.b ≡ true
      has-step begun = or_left (goes_to m.b) (not passes) begun

      one-more : (k : Continuation) → goes_to m.b ≡ true → c_step t ≡ goes_on k t → suc (left k) ≤ most → Later (goes_on k t) → Leaps
      one-more k begun to low x = record {
        steps = suc x.steps;
        some = λ e. omega arith;
        leads = subst (λ u. Outcome G (not (has_step graph whole m.b)) (moves m.stand.leads) (most + debts_of t + extra) (suc x.steps) next (after c_step x.steps u)) (sym to)
            (elim x.leads [
              | inl there ↦ inl (there.0, λ none. absurd (true≢false (sym none ∙ ap not (has-step begun))), (let few = there.2 in omega (arith, few, low)))
              | inr ends ↦ inr (ends.0, (let few = ends.1 in omega (arith, few, low)))
            ]);
      }

      -- the next statement is no jump
      no-jump : Begin m.b ≡ m.stand.context.next → is_jumping t.rest ≡ true → ⊥
      no-jump there jumps = elim m.settled [ inl quiet ↦ true≢false (sym jumps ∙ quiet) | inr none ↦ true≢false (ap is_begin (there ∙ none)) ]

      module _ (there : Begin m.b ≡ m.stand.context.next) (x : AtItem s graph whole most t.rest m.stand.context.next) where
        stepped : (stmt : Stmt) → ((tree : Tree) (u : c.State) → step_at tree t.rest u ≡ stmt_step tree stmt x.at (goes_on (runs x.lines x.rest) u)) → c_step t ≡ stmt_step G.tree stmt x.at (goes_on (runs x.lines x.rest) t)
        stepped stmt steps = stepping t.rest ∙ steps G.tree t

        begun-here : (a : ℕ) → m.stand.context.next ≡ Begin a → goes_to a ≡ true → goes_to m.b ≡ true
        begun-here a same begun = ap goes_to (ap block_of (there ∙ same)) ∙ begun

        by-item : (first : Item) (stmt : Stmt) → IsItemText s graph first stmt → m.stand.context.next ≡ item_entry graph first (in_sides graph x.later x.context) → SoundItem s graph whole first x.later x.context
            → ((tree : Tree) (u : c.State) → step_at tree t.rest u ≡ stmt_step tree stmt x.at (goes_on (runs x.lines x.rest) u))
            → left t.rest ≡ suc (inside_count stmt + lines_count x.lines + left x.rest) → is_jumping t.rest ≡ is_jump_stmt stmt → Leaps
        by-item (plan.Mark a) stmt planned.marks same good steps count jumps =
            one-more (runs x.lines x.rest) (begun-here a same good.1) (stepped stmt steps) (omega (arith, m.stand.low, count))
            (later (past (runs x.lines x.rest) (record x.context { next = entry graph x.later x.context }) (entry graph x.later x.context)
            (subst (λ b. Leads graph goes_to (Before b 0) (entry graph x.later x.context)) (sym (ap block_of (there ∙ same))) good.0.1) (rests.goes x.later_text x.later_valid x.stands) refl (omega (arith, m.stand.low, count))))
        by-item (plan.Jump a) stmt planned.jumps same good steps count jumps = absurd (no-jump there jumps)
        by-item plan.Break stmt planned.breaks same good steps count jumps = absurd (no-jump there jumps)
        by-item plan.Continue stmt planned.continues same good steps count jumps = absurd (no-jump there jumps)
        by-item plan.Empty stmt planned.does_nothing same good steps count jumps = absurd (no-jump there jumps)
        by-item (plan.Do a k) stmt item_text same good steps count jumps = absurd (true≢false (ap is_begin (there ∙ same)))
        by-item (plan.If a one other) stmt item_text same good steps count jumps = absurd (true≢false (ap is_begin (there ∙ same)))
        by-item (plan.Switch a arms) stmt item_text same good steps count jumps = absurd (true≢false (ap is_begin (there ∙ same)))
        by-item (plan.Return a) stmt item_text same good steps count jumps = absurd (true≢false (ap is_begin (there ∙ same)))
        by-item (plan.For a body) stmt item_text same good steps count jumps = absurd (true≢false (ap is_begin (there ∙ same)))
        by-item (plan.While turning a body) stmt item_text same good steps count jumps = absurd (true≢false (ap is_begin (there ∙ same)))
        by-item (plan.DoWhile turning a top body) stmt item_text same good steps count jumps = absurd (true≢false (ap is_begin (there ∙ same)))

      -- the test of a loop that tests first
      module _ (there : Begin m.b ≡ m.stand.context.next) (x : AtTest s graph whole most t.rest m.stand.context.next) where
        tests-first : x.first ≡ true
        tests-first = by x.first refl (there ∙ x.is)
          where
            by : (first : Bool) → x.first ≡ first → Begin m.b ≡ test_point graph x.first x.b → x.first ≡ true
            by true same is = same
            by false same is = absurd (true≢false (ap is_begin (is ∙ ap (λ first. test_point graph first x.b) same)))

        here : m.b ≡ x.b
        here = ap block_of (there ∙ x.is ∙ ap (λ first. test_point graph first x.b) tests-first)

        testing : IsTesting s graph whole x.first x.on m.b x.body x.context
        testing = subst (λ d. IsTesting s graph whole x.first x.on d x.body x.context) (sym here) x.testing

        no-stmts : (block_in graph m.b).stmts ≡ []
        no-stmts = testing.alone tests-first

        end : Ending G graph inside m.b i t
        end =
            let within : IsWithinAt G.p i.running.rest i = within-of G.p G.well i (m.good.active m.running) m.good.safe in record {
              known = m.known;
              graph_is = m.graph_is;
              block_is = m.block_is;
              called = called;
              filled = m.filled;
              running = m.running;
              placed = subst (λ rest. IsWithinAt G.p rest i) (m.rest_is ∙ no-stmts) within;
              fit = m.good.safe.fit;
              function = m.function;
              holds = subst (λ stmts. Holds s (G.texts.matters graph (block_in graph m.b) stmts) (CallsAlike G) i t) no-stmts m.holds;
            }

        exit-goes : run.exit_step (block_in graph m.b).exit i ≡ next
        exit-goes = ap (λ (block : inner.Block). run.exit_step block.exit i) (sym m.block_is) ∙ goes-from [] (m.rest_is ∙ no-stmts) m.running

        to : c_step t ≡ c.on (text_value.value_of (c.scope_of G.tree t) (text_of_way s x.on (block_in graph m.b).exit)) x.at t
            (λ v. goes_on (if is_zero v then x.rest else runs x.lines (tests (text_of_way s x.on (block_in graph m.b).exit) x.lines x.at x.rest)) t)
        to =
            stepping t.rest ∙ x.steps G.tree t
            ∙ ap (λ d. c.on (text_value.value_of (c.scope_of G.tree t) (text_of_way s x.on (block_in graph d).exit)) x.at t
            (λ v. goes_on (if is_zero v then x.rest else runs x.lines (tests (text_of_way s x.on (block_in graph d).exit) x.lines x.at x.rest)) t)) (sym here)

        tests-step : has_step graph whole m.b ≡ true
        tests-step =
            or_right (goes_to m.b) (not passes)
            (ap not (ap₂ only_goes no-stmts testing.exit))

        test-leaps : Leaps
        test-leaps =
            let few = x.few in
            let y = loop-runs G graph inside extra next (next-good m.good) unstuck-next m.b i t end exit-goes x.first x.on x.body x.lines x.at x.rest x.context x.text testing x.stands x.few x.at t to most
            (omega (arith, few)) (inl few) in record {
              steps = y.steps;
              some = λ step. y.some refl;
              leads = elim y.leads [
                | inl leads ↦ inl (leads.0, λ none. absurd (true≢false (sym none ∙ ap not tests-step)), leads.2)
                | inr ends ↦ inr ends
              ];
            }

      leaps : Leaps
      leaps = by m.stand.point m.stand.leads m.stand.same refl
        where
          by : (point : Point) (leads : Leads graph goes_to (Begin m.b) point) → m.stand.context.next ≡ point → moves leads ≡ moves m.stand.leads → Leaps
          by point (valid.begins silent leads) same count =
              let x = past t.rest m.stand.context point leads m.stand.stands same m.stand.low in
              record {
                steps = x.steps;
                some = λ step. x.some (or-second (goes_to m.b) passes silent step);
                leads = elim x.leads [
                  | inl there ↦ inl (
                    there.0,
                    λ no_step. let falls = there.1 (or-neither (goes_to m.b) passes (not-true (has_step graph whole m.b) no_step)) in let fewer = falls.1 in (falls.0, omega (arith, fewer, count)),
                    (let few = there.2 in omega (arith, few, m.stand.low)),
                  )
                  | inr ends ↦ inr (ends.0, (let few = ends.1 in omega (arith, few, m.stand.low)))
                ];
              }
          by point valid.is_there same count = elim (head s graph whole m.stand.stands) [
            | at_item x ↦ by-item (sym same) x x.first x.stmt x.text x.is x.valid x.steps x.count x.jumps
            | at_turn x ↦
                one-more (runs x.lines (turns x.lines x.rest)) (ap goes_to (ap block_of (sym same ∙ x.is)) ∙ x.begun_is)
                (stepping t.rest ∙ x.steps G.tree t)
                (omega (arith, x.few))
                (at-turn x.body x.lines (turns x.lines x.rest) (loop_context x.b x.context) x.text x.valid (loops x.text x.within x.begun_is x.leads x.valid x.stands x.few)
                (subst (λ b. Leads graph goes_to (Before b 0) (entry graph x.body (loop_context x.b x.context))) (sym (ap block_of (sym same ∙ x.is))) x.leads) (omega (arith, x.few)))
            | at_test x ↦ test-leaps (sym same) x
            | at_end none ↦ absurd (true≢false (ap is_begin (sym same ∙ none)))
          ]

  module _ (kept : ProgramPoint → Bool) (are_kept : AreAllKept G.p G.texts kept) where
    abbrev place_of : run.State → ProgramPoint
    place_of i = record { entry = i.running.graph.entry; at = i.running.block.at }

    abbrev Leap : (i : run.State) (t : c.State) → Related G i t → Type 0
    Leap i t r = IsKeptLeap kept (run.watched_inner G.p G.fill) (text_system G.tree) (inner_watchable G.p G.fill) (Related G) (measure G) owed G.most i t r

    -- the mark of a state
    marked : (i : run.State) → i.running.begins ≡ true → run.block_mark i ≡ Some (place_of i)
    marked i begins = ap (λ begins. if begins then Some (place_of i) else None) begins

    unmarked : (i : run.State) → i.running.begins ≡ false → run.block_mark i ≡ None
    unmarked i begins = ap (λ begins. if begins then Some (place_of i) else None) begins

    begin-leaps : (graph : inner.Graph) (inside : Contains G.p.graphs graph) (i : run.State) (t : c.State) (called : AreCalled G.texts G.p graph i.waiting) (m : Meets G graph i t)
        → Leap i t (record { graph = graph; inside = inside; called = called; stage = at_begin m })
    begin-leaps graph inside i t called m =
        let x = leaps graph inside i t called m in
        let kept_is : keeps kept (run.block_mark i) ≡ has_step graph (G.texts.plan graph) m.b =
        ap (keeps kept) (marked i m.begins)
        ∙ ap₂ (λ (g : inner.Graph) (b : inner.Block). kept (record { entry = g.entry; at = b.at })) m.graph_is m.block_is ∙ are_kept graph inside m.b m.known
        in
        let paid_is : paid G.most (run.block_mark i) ≡ G.most =
        ap (paid G.most) (marked i m.begins)
        in
        let nothing = owed-begun i t m.begins in
        let room = within-most graph inside i t called in
        record {
          running = m.running;
          stands = record { end = m.holds.end; events = m.holds.events };
          shown = λ none. absurd (some-none (sym (marked i m.begins) ∙ none));
          steps = x.steps;
          some = λ keeps. x.some (sym kept_is ∙ keeps);
          leads = elim x.leads [
            | inl there ↦ inl (
              there.0,
              (let few = there.2 in omega (arith, few, paid_is, nothing, room)),
              λ is loses. let falls = there.1 (ap not (sym kept_is ∙ loses)) in (ap is_some (marked (run.step G.p G.fill i) falls.0), falls.1),
            )
            | inr ends ↦ inr (ends.0.over, record { end = ends.0.end; events = ends.0.events }, (let few = ends.1 in omega (arith, few, paid_is, nothing, room)))
          ];
        }

    call-leaps : (graph : inner.Graph) (inside : Contains G.p.graphs graph) (i : run.State) (t : c.State) (called : AreCalled G.texts G.p graph i.waiting) (g : GoesOn G graph i t)
        → Leap i t (record { graph = graph; inside = inside; called = called; stage = after_call g })
    call-leaps graph inside i t called g =
        let x = after-comes graph inside i t called g in
        let owes = owed-within i t g.begins in
        let unpaid : paid G.most (run.block_mark i) ≡ 0 =
        ap (paid G.most) (unmarked i g.begins)
        in
        record {
          running = g.running;
          stands = record { end = g.holds.end; events = g.holds.events };
          shown = λ none. after-shown graph inside i t called g;
          steps = x.steps;
          some = λ is. absurd (true≢false (sym is ∙ ap (keeps kept) (unmarked i g.begins)));
          leads = elim x.leads [
            | inl there ↦ inl (
              there.0,
              (let few = there.2 in omega (arith, few, owes, unpaid)),
              λ is loses. absurd (true≢false (sym is ∙ ap is_some (unmarked i g.begins))),
            )
            | inr ends ↦ inr (ends.0.over, record { end = ends.0.end; events = ends.0.events }, (let few = ends.1 in omega (arith, few, owes, unpaid)))
          ];
        }

    each-leaps : (i : run.State) (t : c.State) (r : Related G i t) → Leap i t r
    each-leaps i t r = by r.stage refl
      where
        by : (stage : Stage G r.graph i t) → stage ≡ r.stage → Leap i t r
        by (at_begin m) same = subst (λ stage. Leap i t (record { graph = r.graph; inside = r.inside; called = r.called; stage = stage })) same (begin-leaps r.graph r.inside i t r.called m)
        by (after_call g) same = subst (λ stage. Leap i t (record { graph = r.graph; inside = r.inside; called = r.called; stage = stage })) same (call-leaps r.graph r.inside i t r.called g)

  -- The whole runs.
  module _ (kept : ProgramPoint → Bool) (are_kept : AreAllKept G.p G.texts kept) (graph : inner.Graph) (others : List inner.Graph) (first : G.p.graphs ≡ graph ∷ others) (none : G.texts.openings graph ≡ 0)
      (input : List ℕ) (bytes : AreBytes input) (unstuck : NeverStuck G.p G.fill input) (NoneWait : Alike)
      (holds : Holds (G.texts.spelling graph) (G.texts.matters graph (block_in graph 0) (block_in graph 0).stmts) NoneWait (run.first_state G.p G.fill input) (c.first_state G.tree (G.texts.function graph) G.fill input)) where
    abbrev f : Function
    f = G.texts.function graph

    abbrev first_plan : Plan
    first_plan = G.texts.plan graph

    abbrev i0 : run.State
    i0 = run.first_state G.p G.fill input

    abbrev t0 : c.State
    t0 = c.first_state G.tree f G.fill input

    inside : Contains G.p.graphs graph
    inside = subst (λ graphs. Contains graphs graph) (sym first) (contained (graph ∷ others) 0 graph refl)

    graph_well : IsGraph graph
    graph_well = well G graph inside

    -- the program's first state
    first-is : run.entering (Some (block_in graph 0)) (opening G.p graph G.fill input) ≡ i0
    first-is = sym (first_of_graphs-is G.p graph others (block_in graph 0) G.fill input first (block-at graph 0 graph_well.begins))

    abbrev lines : Lines
    lines = G.texts.lines graph

    whole-body : f.body ≡ lines
    whole-body = opens-none (G.texts.openings graph) f.body lines none (G.each graph inside).opens

    abbrev begin : Continuation
    begin = runs lines (ends_function f.last)

    lead : (x : Settles (G.texts.spelling graph) graph first_plan (limit_of G.texts graph) G.tree f graph_well (sound G graph inside) (G.texts.openings graph) lines (G.each graph inside).opens (G.each graph inside).text (omega arith) begin (entry graph first_plan outside)) × (x.steps ≤ 1)
    lead = settle-start (G.texts.spelling graph) graph first_plan (limit_of G.texts graph) G.tree f graph_well (sound G graph inside) (G.texts.openings graph) lines (G.each graph inside).opens (G.each graph inside).text (omega arith) first_plan lines f.last (omega arith)
        (G.each graph inside).text (sound G graph inside) (G.each graph inside).is_plan.first

    t0-is : t0 ≡ goes_on begin t0
    t0-is = ap (λ body. goes_on (runs body (ends_function f.last)) t0) whole-body

    comes : after c_step lead.0.steps t0 ≡ goes_on lead.0.to t0
    comes = ap (after c_step lead.0.steps) t0-is ∙ lead.0.comes t0 refl refl

    none-waits : i0.waiting ≡ []
    none-waits = ap (λ u. u.waiting) (sym first-is)

    first-related : Related G i0 (after c_step lead.0.steps t0)
    first-related = subst (λ u. Related G i0 u) (sym comes) (record {
      graph = graph;
      inside = inside;
      called = subst (AreCalled G.texts G.p graph) (sym none-waits) tt;
      stage = at_begin (record {
        b = 0;
        known = graph_well.begins;
        graph_is = ap (λ u. u.running.graph) (sym first-is);
        block_is = ap (λ u. u.running.block) (sym first-is);
        rest_is = ap (λ u. u.running.rest) (sym first-is);
        begins = ap (λ u. u.running.begins) (sym first-is);
        running = ap (λ u. is_over u.end) (sym first-is);
        good = first-good G.p G.well G.fill input bytes;
        unstuck = unstuck;
        stand = stands-for G graph inside lead.0.to lead.0.context (entry graph first_plan outside) (G.each graph inside).is_plan.starts lead.0.stands lead.0.is lead.0.low_there;
        settled = lead.0.settled;
        filled = refl;
        function = refl;
        holds = record {
          frame = holds.frame;
          waiting = subst (λ waiting. AllZip (IsWaiting (setting_of G.texts)) waiting []) (sym none-waits) tt;
          memory = holds.memory;
          input = holds.input;
          events = holds.events;
          end = holds.end;
        };
      });
    })

    free : owed i0 (after c_step lead.0.steps t0) ≡ 0
    free =
        let nothing = owed-begun i0 (after c_step lead.0.steps t0) (ap (λ u. u.running.begins) (sym first-is)) in
        let none_owed : debts_of (after c_step lead.0.steps t0) ≡ 0 = ap debts_of comes in
        nothing ∙ none_owed

    is-counted : (within : ℕ) → G.most ≤ within → IsCountedBy kept G.p G.tree f G.fill input within
    is-counted within wide =
        let fits = G.fits graph inside in
        let few = lead.0.few in
        let w = run.watched_inner G.p G.fill in
        let other = text_system G.tree in
        let law = inner_watchable G.p G.fill in
        record {
          counts = leaps_count kept w other law (Related G) (measure G) owed G.most (each-leaps kept are_kept) i0 t0 lead.0.steps first-related free within (omega (arith, wide, fits, few)) wide;
          shows = leaps_show kept w other law (Related G) (measure G) owed G.most (each-leaps kept are_kept) i0 t0 lead.0.steps first-related free;
          goes_on = leaps_go_on kept w other law (Related G) (measure G) owed G.most (each-leaps kept are_kept) i0 t0 lead.0.steps first-related free;
        }

-- A program of one graph.

module _ (p : inner.Program) (graph : inner.Graph) (s : Spelling) (family : Family) (whole : Plan) (f : Function) (is : IsTextOf p graph s family whole f) (tree : Tree) (fill : ℕ) where
  abbrev alone_texts : Texts
  alone_texts = record { spelling = λ g. s; function = λ g. f; matters = λ g. family; plan = λ g. whole; openings = λ g. 0; lines = λ g. f.body }

  -- each graph is this one
  only : (g : inner.Graph) → Contains p.graphs g → graph ≡ g
  only g c = by (subst (λ graphs. Contains graphs g) is.alone c)
    where
      by : Contains (graph ∷ []) g → graph ≡ g
      by (zero, less, same) = same
      by (suc k, less, same) = absurd (omega (arith, less))

  none-later : (g : inner.Graph) → Contains (drop 1 p.graphs) g → ⊥
  none-later g c = by (subst (λ graphs. Contains (drop 1 graphs) g) is.alone c)
    where
      by : Contains [] g → ⊥
      by (k, less, same) = absurd (omega (arith, less))

  alone-premises : Premises
  alone-premises = record {
    p = p;
    well = is.well;
    texts = alone_texts;
    each = λ g c. subst (IsGraphText alone_texts) (only g c) (record { spelling = is.spelling; matters = is.matters; is_plan = is.is_plan; text = is.text; opens = at_once });
    tree = tree;
    fill = fill;
    most = lines_count f.body;
    fits = λ g c. omega arith;
    spare = λ g callee c later. absurd (none-later callee later);
    opens = λ g location. false;
    calls = λ callee later. absurd (none-later callee later);
  }

pub texts-count : (family : Family) (AreAlike : Alike) → TextsCount family AreAlike
unfolding alone-premises
texts-count family AreAlike p graph s whole text f fill input kept is are_kept bytes unstuck holds within wide =
    let alone = alone-premises p graph s family whole f is text fill in
    is-counted alone kept (λ g c. subst (λ x. AreKept x whole kept) (only p graph s family whole f is text fill g c) are_kept) graph [] is.alone refl input bytes unstuck AreAlike holds
    within (omega (arith, wide, count-is f.body))

pub plans-count : (family : Family) (AreAlike : Alike) → PlansCount family AreAlike
plans-count family AreAlike p graph s whole text f fill input is =
    texts-count family AreAlike p graph s whole text f fill input (λ place. true)
    (record { alone = is.alone; well = is.well; spelling = is.spelling; matters = is.matters; is_plan = is.is_plan; text = is.text })
    (λ b less. sym (or_left (is_begun whole b) (not (only_goes (block_in graph b).stmts (block_in graph b).exit)) (is.begins b less)))

-- Whole programs.

module _ (texts : Texts) where
  abbrev size_of : List inner.Graph → ℕ
  size_of graphs = text_size (map texts.function graphs)

  -- the body is some assignments and then the text of the plan
  abbrev Sized : inner.Graph → Type 0
  Sized g = steps_in (texts.function g).body ≡ texts.openings g + limit_of texts g

  one-within : (graphs : List inner.Graph) → ((g : inner.Graph) → Contains graphs g → Sized g) → (a : inner.Graph) → Contains graphs a → limit_of texts a + texts.openings a + 1 ≤ size_of graphs
  one-within [] sized a (k, less, same) = absurd (omega (arith, less))
  one-within (g ∷ graphs) sized a (zero, less, same) =
      let whole = sized g (Contains-here g graphs) in
      subst (λ x. limit_of texts x + texts.openings x + 1 ≤ size_of (g ∷ graphs)) same (omega (arith, whole))
  one-within (g ∷ graphs) sized a (suc k, less, same) =
      let later = one-within graphs (λ x c. sized x (Contains-later g graphs x c)) a (k, omega (arith, less), same) in
      omega (arith, later)

  both-within : (graphs : List inner.Graph) → ((g : inner.Graph) → Contains graphs g → Sized g) → (a b : inner.Graph) → Contains graphs a → Contains graphs b → limit_of texts a + texts.openings b + 1 ≤ size_of graphs
  both-within [] sized a b (k, less, same) other = absurd (omega (arith, less))
  both-within (g ∷ graphs) sized a b (zero, less, same) (zero, less', same') =
      let whole = sized g (Contains-here g graphs) in
      subst (λ x. limit_of texts x + texts.openings b + 1 ≤ size_of (g ∷ graphs)) same (subst (λ y. limit_of texts g + texts.openings y + 1 ≤ size_of (g ∷ graphs)) same' (omega (arith, whole)))
  both-within (g ∷ graphs) sized a b (zero, less, same) (suc k, less', same') =
      let whole = sized g (Contains-here g graphs) in
      let later = one-within graphs (λ x c. sized x (Contains-later g graphs x c)) b (k, omega (arith, less'), same') in
      subst (λ x. limit_of texts x + texts.openings b + 1 ≤ size_of (g ∷ graphs)) same (omega (arith, whole, later))
  both-within (g ∷ graphs) sized a b (suc k, less, same) (zero, less', same') =
      let whole = sized g (Contains-here g graphs) in
      let later = one-within graphs (λ x c. sized x (Contains-later g graphs x c)) a (k, omega (arith, less), same) in
      subst (λ y. limit_of texts a + texts.openings y + 1 ≤ size_of (g ∷ graphs)) same' (omega (arith, whole, later))
  both-within (g ∷ graphs) sized a b (suc k, less, same) (suc k', less', same') =
      let later = both-within graphs (λ x c. sized x (Contains-later g graphs x c)) a b (k, omega (arith, less), same) (k', omega (arith, less'), same') in
      omega (arith, later)

module _ (p : inner.Program) (opens : Opens) (texts : Texts) (tree : Tree) (fill : ℕ) (is : IsProgramText p opens texts tree) where
  sized : (g : inner.Graph) → Contains p.graphs g → steps_in (texts.function g).body ≡ texts.openings g + limit_of texts g
  sized g c = sym (count-is (texts.function g).body) ∙ opens-count (texts.openings g) (texts.function g).body (texts.lines g) (is.graphs g c).opens

  program-premises : Premises
  program-premises = record {
    p = p;
    well = is.well;
    texts = texts;
    each = is.graphs;
    tree = tree;
    fill = fill;
    most = text_size (map texts.function p.graphs);
    fits = λ g c. let one = one-within texts p.graphs sized g c in omega (arith, one);
    spare = λ g callee c later. both-within texts p.graphs sized g callee c (later-contained p.graphs callee later);
    opens = opens;
    calls = λ callee later. record { functions = functions-of p opens texts tree is; opened = is.opened; few = is.few };
  }

pub programs-count : (opens : Opens) (texts : Texts) → ProgramsCount opens texts
unfolding program-premises
programs-count opens texts p tree graph others fill input kept is beginning are_kept bytes unstuck within wide =
    let first = beginning.graphs in
    let inside = subst (λ graphs. Contains graphs graph) (sym first) (contained (graph ∷ others) 0 graph refl) in
    let graph_well = graph_of p is.well graph inside in
    let entered = sym (first_of_graphs-is p graph others (block_in graph 0) fill input first (block-at graph 0 graph_well.begins)) in
    let i0 : run.State = run.first_state p fill input in
    let t0 : c.State = c.first_state tree (texts.function graph) fill input in
    let there = first-states-stand opens (open_setting texts) p tree graph others fill input beginning in
    let held = held-there texts (AreWaiting (open_setting texts)) graph (block_in graph 0) (block_in graph 0).stmts i0 t0 (ap (λ u. u.running.graph) (sym entered)) (ap (λ u. u.running.block) (sym entered))
    (ap (λ u. u.running.rest) (sym entered)) there.holds
    in
    is-counted (program-premises p opens texts tree fill is) kept are_kept graph others first (opens-nothing p opens texts tree graph others is first inside) input bytes unstuck (AreWaiting (open_setting texts)) held
    within (subst (λ functions. text_size functions ≤ within) is.functions wide)
