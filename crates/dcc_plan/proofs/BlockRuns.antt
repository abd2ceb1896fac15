-- One step of the program, a block up to its next call, return or end, stands for steps of the text.
use Rattle.std.proofs.Common.{◌≡◌, ℕ, zero, suc, ◌+◌, ◌<◌, ◌≤◌, inl, inr, Bool, true, false, ◌==◌, List, [], ◌∷◌, length, map, Some, None, refl, sym, ap, ap₂, ◌∙◌, subst, true≢false, arith}
use Rattle.std.specs.Prelude.{◌&&◌, ◌||◌, not, nat_lt, if◌then◌else◌, Contains, drop}
use Rattle.std.specs.List.{list_any}
use Rattle.std.proofs.lemmas.Bool.{and_parts, ltb-true, or_right, not-true}
use Rattle.std.proofs.lemmas.List.Elements.{All-head}
use Rattle.dcc_run.specs.End.{is_over}
use Rattle.dcc_run.specs.System.{after}
use Rattle.dcc_run.proofs.RunLaws.{after-add}
use Rattle.dcc_ir.specs.declared.syntax.Loc.{Loc}
use Rattle.dcc_ir.specs.Families.{Family}
use Rattle.dcc_ir.specs.Flow.{targets}
use Rattle.dcc_ir.specs.Live.{block_in}
use Rattle.dcc_ir.specs.Run as run
use Rattle.dcc_ir.specs.Tree as inner
use Rattle.dcc_ir.specs.Use.{writes_of}
use Rattle.dcc_ir.specs.WellFormed.{is_stmt, is_exit, is_jump, jumps_after_call, IsCall, IsCalling}
use Rattle.dcc_ir.proofs.ExecuteLaws.{block-first}
use Rattle.dcc_ir.proofs.FitStates.{scene-fits, stmt-fit}
use Rattle.dcc_ir.proofs.ReachedLaws.{contained, found_contained, named_again, graph_of, within-next, IsGood}
use Rattle.dcc_ir.proofs.StepLaws.{stmt-within}
use Rattle.dcc_c.specs.Run as c
use Rattle.dcc_c.specs.Run.{Continuation, ends_function, runs, tests, turns, goes_on, stmt_step, step_at, on}
use Rattle.dcc_c.specs.Tree as tree
use Rattle.dcc_c.specs.Tree.{Stmt, Lines, Function, Tree}
use Rattle.dcc_c.specs.Value as text_value
use Rattle.dcc_c.specs.Value.{number, is_zero}
use Rattle.dcc_text.specs.Spelling.{Spelling}
use Rattle.dcc_text.specs.Stmts.{stmt_text}
use Rattle.dcc_text.specs.Holding.{Holds, HoldsOrEnds}
use Rattle.dcc_text.specs.Laws.{IsStep}
use Rattle.dcc_text.proofs.StmtLaws.{statements-step}
use Rattle.dcc_control.specs.Plan as plan
use Rattle.dcc_control.specs.Plan.{Item, Plan, is_marked, is_begun}
use Rattle.dcc_plan.specs.PlanText as planned
use Rattle.dcc_plan.specs.PlanText.{text_of_stmt, text_of_way, text_of_choice, text_of_return, IsPlanText, IsItemText}
use Rattle.dcc_plan.specs.Programs.{IsGraphText}
use Rattle.dcc_control.specs.Valid as valid
use Rattle.dcc_control.specs.Valid.{Point, Before, Leads, Context, item_entry, entry, only_goes, in_sides, in_do}
use Rattle.dcc_plan.specs.Laws.{IsCallStep}
use Rattle.dcc_control.proofs.ListLaws.{drop-first, drop-next, drop-less, drop-all, drop-none}
use Rattle.dcc_control.proofs.StartLaws.{does-more}
use Rattle.dcc_plan.proofs.Rests.{Sound, SoundItem, whole-begun, lines_count, inside_count, left, loop_context, test_point, test_context, Stands, retests, IsTesting, while-testing, do-testing, AtItem, AtTest, at_item, at_turn, at_test, at_end, head, break-lands, continue-starts}
use Rattle.dcc_plan.proofs.Rests as rests
use Rattle.dcc_plan.proofs.Settings.{AreNamed, debts, rests_of, limit_of, Continuing, Premises}
use Rattle.dcc_plan.proofs.CallPremises.{HasCome, callee-begins}
use Rattle.dcc_plan.proofs.CallStates.{is-called}
use Rattle.dcc_plan.proofs.Points.{block_of, place_of, is_before, start-apart, stays-before, moves}
use Rattle.dcc_plan.proofs.Stages.{debts_of, owed, owed-begun, AreCalled, results-named, CallsAlike, IsUnstuck, at_begin, Related, Outcome}
use Rattle.dcc_plan.proofs.Settles.{jump-comes, settle-start}
use Rattle.dcc_plan.proofs.StepsKept.{text-keeps}
use Rattle.dcc_plan.proofs.Midways.{Midway, Ending, ending, Comes, one-before, paid-for, arrives, no-end, well, sound, exit-formed, steps-from, stands-for, elsewhere}
use Rattle.dcc_plan.proofs.EndRuns.{Ends, if-runs, loop-runs, switch-runs, return-runs}

module _ (G : Premises) (graph : inner.Graph) (inside : Contains G.p.graphs graph) where
  abbrev p : inner.Program
  p = G.p

  abbrev fill : ℕ
  fill = G.fill

  abbrev text : Tree
  text = G.tree

  abbrev s : Spelling
  s = G.texts.spelling graph

  abbrev family : Family
  family = G.texts.matters graph

  abbrev whole : Plan
  whole = G.texts.plan graph

  abbrev f : Function
  f = G.texts.function graph

  abbrev limit : ℕ
  limit = limit_of G.texts graph

  abbrev begun : ℕ → Bool
  begun b = is_begun whole b

  abbrev is : IsGraphText G.texts graph
  is = G.each graph inside

  abbrev c_step : c.State → c.State
  c_step t = c.step text t

  abbrev Standing : Continuation → Context → Type 0
  Standing k context = Stands s graph whole limit k context

  -- The state to which the program's step leads.
  module _ (extra : ℕ) (last : run.State) (good : IsGood p last) (unstuck : IsUnstuck G last) where
    abbrev Reaches : Bool → Bool → ℕ → ℕ → c.State → Type 0
    Reaches passes owes most room t = Comes G graph inside extra last good unstuck passes owes most room t

    abbrev Within : ℕ → ℕ → List inner.Stmt → run.State → c.State → Type 0
    Within b m stmts i t = Midway G graph inside extra b m stmts i t

    -- the block's rest only goes to another block, and the text has no step where the block begins
    abbrev owing : ℕ → List inner.Stmt → Bool
    owing b stmts = only_goes stmts (block_in graph b).exit && not (begun b)

    -- the same from each state of the text with fewer steps left
    abbrev pub Later : ℕ → Type 0
    Later n = (stmts : List inner.Stmt) (b m : ℕ) (i : run.State) (t : c.State) → left t.rest < n → (mid : Within b m stmts i t) → run.block_step p.graphs fill stmts i ≡ last
        → Reaches (only_goes stmts (block_in graph b).exit) (owing b stmts) (moves mid.stand.leads) (left t.rest) t

    module _ (n : ℕ) (again : Later n) (stmts : List inner.Stmt) (b m : ℕ) (i : run.State) (t : c.State) (small : left t.rest < suc n) (mid : Within b m stmts i t)
        (goes : run.block_step p.graphs fill stmts i ≡ last) where
      -- where the text has come by a step while the program stands where it did
      stays-put : (to : Continuation) (context : Context) (point : Point) (leads : Leads graph begun (Before b m) point) → Standing to context → context.next ≡ point → suc (left to) ≤ left t.rest
          → c_step t ≡ goes_on to t → (owing b stmts ≡ true → moves leads ≤ moves mid.stand.leads)
          → Reaches (only_goes stmts (block_in graph b).exit) (owing b stmts) (moves mid.stand.leads) (left t.rest) t
      stays-put to context point leads stands same less step falls =
          one-before G graph inside extra last good unstuck (λ e. (e, falls e)) step less refl
          (again stmts b m i (goes_on to t) (omega (arith, small, less)) (record {
            known = mid.known;
            at = mid.at;
            within = mid.within;
            graph_is = mid.graph_is;
            block_is = mid.block_is;
            called = mid.called;
            filled = mid.filled;
            running = mid.running;
            placed = mid.placed;
            jumps = mid.jumps;
            spare = mid.spare;
            fit = mid.fit;
            steps = mid.steps;
            stand = stands-for G graph inside to context point leads stands same (omega (arith, mid.stand.low, less));
            function = mid.function;
            holds = elsewhere G graph inside to mid.holds;
          }) goes)

      module _ (x : AtItem s graph whole limit t.rest mid.stand.context.next) where
        t-on : is_over t.end ≡ false
        t-on = ap is_over mid.holds.end ∙ mid.running

        abbrev passed : c.State
        passed = goes_on (runs x.lines x.rest) t

        -- the text's step is that of this statement
        abbrev StepsTo : Stmt → Type 0
        StepsTo stmt = (tree : Tree) (u : c.State) → step_at tree t.rest u ≡ stmt_step tree stmt x.at (goes_on (runs x.lines x.rest) u)

        abbrev Counts : Stmt → Type 0
        Counts stmt = left t.rest ≡ suc (inside_count stmt + lines_count x.lines + left x.rest)

        abbrev Arrives : Type 0
        Arrives = Reaches (only_goes stmts (block_in graph b).exit) (owing b stmts) (moves mid.stand.leads) (left t.rest) t

        stepped : (stmt : Stmt) → StepsTo stmt → c_step t ≡ stmt_step text stmt x.at passed
        stepped stmt steps = steps-from G graph inside t.rest t t-on ∙ steps text t

        -- what follows the item
        abbrev following : Context
        following = record x.context { next = entry graph x.later x.context }

        following-stands : Standing (runs x.lines x.rest) following
        following-stands = rests.goes x.later_text x.later_valid x.stands

        -- a `break` leads where the program is
        break-runs : StepsTo tree.Break → Counts tree.Break → Before b m ≡ mid.stand.context.next → mid.stand.context.next ≡ x.context.at_break → Arrives
        break-runs steps count there same = elim (break-lands s graph whole x.stands) [
          | inl none ↦ absurd (true≢false (ap is_before (there ∙ same ∙ none)))
          | inr l ↦ stays-put l.to l.context mid.stand.point mid.stand.leads l.stands (l.is ∙ sym same ∙ mid.stand.same) (omega (arith, count, l.few))
              (jump-comes s graph whole limit text f (well G graph inside) (sound G graph inside) (G.texts.openings graph) (G.texts.lines graph) is.opens is.text (omega arith) t.rest l.to tree.Break x.at x.lines x.rest
              (c.after_break x.rest) steps (λ u function. refl) l.found t t-on mid.function) (λ e. omega arith)
        ]

        -- an empty statement stands where the program is
        nothing-runs : StepsTo tree.Empty → Counts tree.Empty → mid.stand.context.next ≡ entry graph x.later x.context → Arrives
        nothing-runs steps count same =
            stays-put (runs x.lines x.rest) following mid.stand.point mid.stand.leads following-stands (sym same ∙ mid.stand.same) (omega (arith, count)) (stepped tree.Empty steps) (λ e. omega arith)

        -- a loop without a test begins a turn
        for-runs : (a : ℕ) (body : Plan) (lines : Lines) → IsPlanText s graph body lines → SoundItem s graph whole (plan.For a body) x.later x.context → StepsTo (tree.Forever lines) → Counts (tree.Forever lines)
            → Before b m ≡ Before a 0 → Arrives
        for-runs a body lines body_text item steps count there =
            let turn : Context = loop_context a following in
            stays-put (runs lines (turns lines (runs x.lines x.rest))) (record turn { next = entry graph body turn }) (entry graph body turn)
            (subst (λ q. Leads graph begun q (entry graph body turn)) (sym there) item.0.1)
            (rests.goes body_text (item.0.2, item.1.1) (rests.loops body_text item.0.0 item.1.0 item.0.1 (item.0.2, item.1.1) following-stands (omega (arith, mid.stand.low, count)))) refl
            (omega (arith, count)) (stepped (tree.Forever lines) steps)
            (λ owes. absurd (true≢false (sym (ap begun (ap block_of there) ∙ item.1.0)
            ∙ not-true (begun b) (and_parts (only_goes stmts (block_in graph b).exit) (not (begun b)) owes).1)))

        -- one that tests last begins its first turn
        do-runs : (turning : Bool) (a top : ℕ) (body : Plan) (lines : Lines) → IsPlanText s graph body lines → SoundItem s graph whole (plan.DoWhile turning a top body) x.later x.context
            → StepsTo (tree.DoWhile lines (text_of_way s turning (block_in graph a).exit)) → Counts (tree.DoWhile lines (text_of_way s turning (block_in graph a).exit))
            → Before b m ≡ Before top 0 → Arrives
        do-runs turning a top body lines body_text item steps count there =
            let e : tree.Expr = text_of_way s turning (block_in graph a).exit in
            let turn : Context = test_context graph false a following in
            let testing = do-testing s graph whole turning a top body x.later x.context item in
            stays-put (runs lines (tests e lines x.at (runs x.lines x.rest))) (record turn { next = entry graph body turn }) (entry graph body turn)
            (subst (λ q. Leads graph begun q (entry graph body turn)) (sym there) item.0.7)
            (rests.goes body_text testing.valid (rests.retests body_text testing following-stands (omega (arith, mid.stand.low, count)))) refl
            (omega (arith, count)) (stepped (tree.DoWhile lines e) steps)
            (λ owes. absurd (true≢false (sym (and_parts (only_goes stmts (block_in graph b).exit) (not (begun b)) owes).0 ∙ stmts-more)))
          where
            stmts-are : stmts ≡ (block_in graph b).stmts
            stmts-are = sym mid.at ∙ ap (λ k. drop k (block_in graph b).stmts) (ap place_of there) ∙ drop-none (block_in graph b).stmts

            stmts-more : only_goes stmts (block_in graph b).exit ≡ false
            stmts-more =
                ap (λ l. only_goes l (block_in graph b).exit) stmts-are
                ∙ ap (λ k. only_goes (block_in graph k).stmts (block_in graph k).exit) (ap block_of there)
                ∙ does-more graph begun (λ k. is_marked whole k) top body (in_do graph a x.later x.context) item.0.9 item.0.6

    -- Statements.

    module _ (n : ℕ) (again : Later n) (stmt : inner.Stmt) (rest : List inner.Stmt) (b m : ℕ) (i : run.State) (t : c.State) (small : left t.rest < suc n) (mid : Within b m (stmt ∷ rest) i t)
        (goes : run.block_step p.graphs fill (stmt ∷ rest) i ≡ last) where
      abbrev block : inner.Block
      block = block_in graph b

      less : m < length block.stmts
      less = drop-less block.stmts m stmt rest mid.at

      there : Before b m ≡ mid.stand.context.next
      there = stays-before graph begun b m mid.stand.point mid.stand.leads less ∙ sym mid.stand.same

      module _ (x : AtItem s graph whole limit t.rest mid.stand.context.next) where
        abbrev before : c.State
        before = goes_on (runs x.lines x.rest) t

        abbrev moved : c.State
        moved = stmt_step text (stmt_text s 2 stmt) x.at before

        -- what follows the statement
        abbrev after_it : Context
        after_it = record x.context { next = entry graph x.later x.context }

        after-stands : Standing (runs x.lines x.rest) after_it
        after-stands = rests.goes x.later_text x.later_valid x.stands

        -- a statement that is no call
        module _ (step : IsStep s (family block (stmt ∷ rest)) (family block rest) stmt) where
          abbrev next : run.State
          next = run.stmt_step stmt i

          inner-goes : (if is_over next.end then next else run.block_step p.graphs fill rest next) ≡ last
          inner-goes = sym (block-first p.graphs fill stmt rest i step.no_call) ∙ goes

          outcome : HoldsOrEnds s (family block rest) (CallsAlike G) next moved
          outcome =
              statements-step (family block (stmt ∷ rest)) (family block rest) (CallsAlike G) s text stmt 2 x.at i before is.spelling step (scene-fits i mid.fit) mid.fit.console.left
              (elsewhere G graph inside (runs x.lines x.rest) mid.holds)

          ends : next ≡ last → is_over next.end ≡ true → c_step t ≡ moved → moved.end ≡ next.end → moved.events ≡ next.events → suc 0 ≤ left t.rest → Reaches false false (moves mid.stand.leads) (left t.rest) t
          ends same over to end events some = record {
            steps = 1;
            some = λ e. omega arith;
            leads = inr (
              record {
                over = ap (λ u. is_over u.end) (sym same) ∙ over;
                end = ap (λ u. u.end) to ∙ end ∙ ap (λ u. u.end) same;
                events = ap (λ u. u.events) to ∙ events ∙ ap (λ u. u.events) same;
              },
              omega (arith, some),
            );
          }

          -- the calls before which a callee needs room are those that follow
          rest-spare : list_any run.is_call rest ≡ true → list_any run.is_call (stmt ∷ rest) ≡ true
          rest-spare some = or_right (run.is_call stmt) (list_any run.is_call rest) some

          later-mid : is_over next.end ≡ false → Holds s (family block rest) (CallsAlike G) next moved → Leads graph begun (Before b (suc m)) (entry graph x.later x.context)
              → suc (lines_count x.lines + left x.rest) ≤ left t.rest → Within b (suc m) rest next moved
          later-mid on h leads count =
              let kept = text-keeps s text stmt x.at before step.no_call in
              let within = stmt-within stmt i in
              let formed : is_stmt i.running.graph.bits stmt ≡ true = subst (λ bits. is_stmt bits stmt ≡ true) (sym mid.holds.frame.bits) step.formed in
              let fewer : left moved.rest ≡ lines_count x.lines + left x.rest = ap left kept.rest in
              record {
                known = mid.known;
                at = drop-next block.stmts m stmt rest mid.at;
                within = less;
                graph_is = within.graph ∙ mid.graph_is;
                block_is = within.block ∙ mid.block_is;
                called = subst (AreCalled G.texts p graph) (sym within.waiting) mid.called;
                filled = kept.fill ∙ mid.filled;
                running = on;
                placed = within-next p G.well stmt rest i step.no_call mid.placed;
                jumps = ap (λ call. if call then not (list_any run.is_call rest) && is_jump block.exit else jumps_after_call rest block.exit) (sym step.no_call) ∙ mid.jumps;
                spare = λ some. mid.spare (rest-spare some);
                fit = stmt-fit stmt i formed mid.fit;
                steps = mid.steps.1;
                stand = stands-for G graph inside moved.rest after_it (entry graph x.later x.context) leads (subst (λ k. Standing k after_it) (sym kept.rest) after-stands) refl
                    (omega (arith, mid.stand.low, fewer, count));
                function = kept.function ∙ mid.function;
                holds = h;
              }

          set-runs : c_step t ≡ moved → Leads graph begun (Before b (suc m)) (entry graph x.later x.context) → suc (lines_count x.lines + left x.rest) ≤ left t.rest → Reaches false false (moves mid.stand.leads) (left t.rest) t
          set-runs to leads count = by (is_over next.end) refl inner-goes outcome
            where
              by : (over : Bool) → is_over next.end ≡ over → (if over then next else run.block_step p.graphs fill rest next) ≡ last → HoldsOrEnds s (family block rest) (CallsAlike G) next moved → Reaches false false (moves mid.stand.leads) (left t.rest) t
              by true over same (inl h) = ends same over to h.end h.events (omega (arith, count))
              by true over same (inr e) = ends same over to e.1 e.2 (omega (arith, count))
              by false on same (inr e) = absurd (true≢false (sym e.0 ∙ on))
              by false on same (inl h) =
                  let kept = text-keeps s text stmt x.at before step.no_call in
                  let fewer : left moved.rest ≡ lines_count x.lines + left x.rest = ap left kept.rest in
                  let there_mid = later-mid on h leads count in
                  one-before G graph inside extra last good unstuck (λ e. absurd (true≢false (sym e))) to (omega (arith, fewer, count))
                  (ap (λ waiting. debts (rests_of waiting)) kept.waiting)
                  (again rest b (suc m) next moved (omega (arith, fewer, count, small)) there_mid same)

        -- a call
        module _ (results : List Loc) (entry_at : ℕ) (arguments : List inner.Expr) (own : ℕ) (call : stmt ≡ inner.Call results entry_at arguments own)
            (step : IsCallStep s (family block (stmt ∷ rest)) (family block rest) stmt) where
          abbrev the_call : inner.Stmt
          the_call = inner.Call results entry_at arguments own

          calling : IsCall p graph results entry_at arguments
          calling = subst (λ g. IsCall p g results entry_at arguments) mid.graph_is (subst (λ y. IsCalling p i.running.graph y) call (All-head (IsCalling p i.running.graph) stmt rest mid.placed.calls))

          abbrev callee : inner.Graph
          callee = calling.callee

          abbrev waits : run.State
          waits = record i { running = record i.running { rest = rest; begins = false } }

          abbrev begun_state : run.State
          begun_state = run.calling fill results own (map (run.value_in i) arguments) (Some callee) waits

          callee-later : Contains (drop 1 p.graphs) callee
          callee-later = found_contained (λ g. g.entry == entry_at) (drop 1 p.graphs) callee calling.named

          callee-named : run.graph_at p.graphs entry_at ≡ Some callee
          callee-named = named_again p.graphs entry_at callee G.well.entries calling.named

          callee-inside : Contains p.graphs callee
          callee-inside = found_contained (λ g. g.entry == entry_at) p.graphs callee callee-named

          call-goes : begun_state ≡ last
          call-goes = ap (λ o. run.calling fill results own (map (run.value_in i) arguments) o waits) (sym callee-named) ∙ ap (λ y. run.block_step p.graphs fill (y ∷ rest) i) (sym call) ∙ goes

          -- the rest of the block has no call and ends in a jump
          after-call : (not (list_any run.is_call rest) && is_jump block.exit) ≡ true
          after-call = ap (λ y. if run.is_call y then not (list_any run.is_call rest) && is_jump block.exit else jumps_after_call rest block.exit) (sym call) ∙ mid.jumps

          continuing : Leads graph begun (Before b (suc m)) (entry graph x.later x.context) → suc (lines_count x.lines + left x.rest) ≤ left t.rest
              → Continuing G.texts (runs x.lines x.rest) graph block rest
          continuing leads count =
              let (none, jumps) = and_parts (not (list_any run.is_call rest)) (is_jump block.exit) after-call in
              record {
                b = b;
                m = suc m;
                known = mid.known;
                block_is = refl;
                at = drop-next block.stmts m stmt rest mid.at;
                within = less;
                no_calls = not-true (list_any run.is_call rest) none;
                jumps = jumps;
                stand = stands-for G graph inside (runs x.lines x.rest) after_it (entry graph x.later x.context) leads after-stands refl (omega (arith, mid.stand.low, count));
              }

          -- the text has come to the callee's
          abbrev CalleeBegun : Type 0
          CalleeBegun =
              HasCome G callee (block_in callee 0) (block_in callee 0).stmts (runs (G.texts.lines callee) (ends_function (G.texts.function callee).last)) (runs x.lines x.rest ∷ rests_of t.waiting) begun_state
              (after c_step (G.texts.openings callee) (stmt_step text (stmt_text s 2 the_call) x.at before))

          begins-callee : Leads graph begun (Before b (suc m)) (entry graph x.later x.context) → suc (lines_count x.lines + left x.rest) ≤ left t.rest
              → CalleeBegun
          begins-callee leads count =
              callee-begins G results entry_at arguments own rest x.at i before mid.filled (results-named G.texts p graph i.waiting mid.called) mid.running mid.fit graph block mid.graph_is mid.block_is inside calling
              (subst (λ y. IsCallStep s (family block (y ∷ rest)) (family block rest) y) call step) mid.function (continuing leads count)
              (subst (λ y. Holds s (family block (y ∷ rest)) (CallsAlike G) i before) call (elsewhere G graph inside (runs x.lines x.rest) mid.holds))

          call-runs : c_step t ≡ moved → Leads graph begun (Before b (suc m)) (entry graph x.later x.context) → suc (lines_count x.lines + left x.rest) ≤ left t.rest → Reaches false false (moves mid.stand.leads) (left t.rest) t
          call-runs to leads count =
              let to_call : c_step t ≡ stmt_step text (stmt_text s 2 the_call) x.at before = to ∙ ap (λ y. stmt_step text (stmt_text s 2 y) x.at before) call in
              arrives-callee to_call (begins-callee leads count)
            where
              arrives-callee : c_step t ≡ stmt_step text (stmt_text s 2 the_call) x.at before
                  → CalleeBegun → Reaches false false (moves mid.stand.leads) (left t.rest) t
              arrives-callee to_call begun_text =
                  let own_text = G.each callee callee-inside in
                  let callee_well = graph_of p G.well callee callee-inside in
                  let callee_whole = G.texts.plan callee in
                  let callee_s = G.texts.spelling callee in
                  let callee_sound : Sound callee_s callee callee_whole callee_whole valid.outside = (own_text.is_plan.valid, whole-begun callee_s callee callee_whole) in
                  let u0 = stmt_step text (stmt_text s 2 the_call) x.at before in
                  let u : c.State = after c_step (G.texts.openings callee) u0 in
                  let start = settle-start callee_s callee callee_whole (limit_of G.texts callee) text (G.texts.function callee) callee_well callee_sound (G.texts.openings callee) (G.texts.lines callee) own_text.opens
                  own_text.text (omega arith) callee_whole (G.texts.lines callee) (G.texts.function callee).last (omega arith) own_text.text callee_sound own_text.is_plan.first in
                  let z = is-called fill results own (map (run.value_in i) arguments) callee waits callee_well in
                  let u_on : is_over u.end ≡ false = ap is_over begun_text.holds.end ∙ ap is_over z.end ∙ mid.running in
                  let v : c.State = goes_on start.0.to u in
                  let arrived : after c_step (suc (G.texts.openings callee + start.0.steps)) t ≡ v =
                  ap (after c_step (G.texts.openings callee + start.0.steps)) to_call
                  ∙ after-add c_step (G.texts.openings callee) start.0.steps u0
                  ∙ ap (λ k. after c_step start.0.steps (goes_on k u)) begun_text.rest
                  ∙ start.0.comes u u_on begun_text.function
                  in
                  let related : Related G begun_state v = record {
                    graph = callee;
                    inside = callee-inside;
                    called = subst (AreCalled G.texts p callee) (sym z.waiting)
                        (callee-later, refl, subst (λ g. AreNamed (G.texts.spelling g) results) (sym mid.graph_is) (subst (λ y. AreNamed s (writes_of y)) call step.written), subst (λ g. AreCalled G.texts p g i.waiting) (sym mid.graph_is) mid.called);
                    stage = at_begin (record {
                      b = 0;
                      known = callee_well.begins;
                      graph_is = z.graph;
                      block_is = z.block;
                      rest_is = z.rest;
                      begins = z.begins;
                      running = ap is_over z.end ∙ mid.running;
                      good = subst (IsGood p) (sym call-goes) good;
                      unstuck = subst (IsUnstuck G) (sym call-goes) unstuck;
                      stand = record { context = start.0.context; stands = start.0.stands; point = entry callee callee_whole valid.outside; same = start.0.is; leads = own_text.is_plan.starts; low = start.0.low_there };
                      settled = start.0.settled;
                      filled = begun_text.filled;
                      function = begun_text.function;
                      holds = record { frame = begun_text.holds.frame; waiting = begun_text.holds.waiting; memory = begun_text.holds.memory; input = begun_text.holds.input; events = begun_text.holds.events; end = begun_text.holds.end };
                    });
                  } in
                  let spent : suc (G.texts.openings callee + start.0.steps) + owed begun_state v ≤ left t.rest + debts_of t + extra =
                  let nothing = owed-begun begun_state v z.begins in
                  let waiting : debts_of u ≡ lines_count x.lines + left x.rest + debts_of t = ap debts begun_text.waiting in
                  let room = mid.spare (ap (λ y. run.is_call y || list_any run.is_call rest) call) callee callee-later in
                  let once = start.1 in
                  omega (arith, nothing, waiting, room, once, count)
                  in
                  record {
                    steps = suc (G.texts.openings callee + start.0.steps);
                    some = λ e. omega arith;
                    leads = subst (λ w. Outcome G false (moves mid.stand.leads) (left t.rest + debts_of t + extra) (suc (G.texts.openings callee + start.0.steps)) last w) (sym arrived)
                        (subst (λ j. Outcome G false (moves mid.stand.leads) (left t.rest + debts_of t + extra) (suc (G.texts.openings callee + start.0.steps)) j v) call-goes
                        (inl (related, λ e. absurd (true≢false (sym e)), spent)));
                  }

        -- either
        any-runs : c_step t ≡ moved → Leads graph begun (Before b (suc m)) (entry graph x.later x.context) → suc (lines_count x.lines + left x.rest) ≤ left t.rest → Reaches false false (moves mid.stand.leads) (left t.rest) t
        any-runs to leads count = elim mid.steps.0 [
          | inl step ↦ set-runs step to leads count
          | inr step ↦ by stmt refl step.call step
        ]
          where
            by : (y : inner.Stmt) → stmt ≡ y → run.is_call y ≡ true → IsCallStep s (family block (stmt ∷ rest)) (family block rest) stmt → Reaches false false (moves mid.stand.leads) (left t.rest) t
            by (inner.Call results entry_at arguments own) same is_call step = call-runs results entry_at arguments own same step to leads count
            by (inner.Set location e) same is_call step = absurd (true≢false (sym is_call))
            by (inner.Fetch location width address) same is_call step = absurd (true≢false (sym is_call))
            by (inner.Store width address e) same is_call step = absurd (true≢false (sym is_call))
            by (inner.Div location e) same is_call step = absurd (true≢false (sym is_call))
            by (inner.Dos number place argument) same is_call step = absurd (true≢false (sym is_call))

        -- the statement of that item
        text-is : (a k : ℕ) → Before b m ≡ Before a k → text_of_stmt s graph a k ≡ stmt_text s 2 stmt
        text-is a k same =
            ap₂ (text_of_stmt s graph) (sym (ap block_of same)) (sym (ap place_of same))
            ∙ ap (λ o. elim o [ Some y ↦ stmt_text s 2 y | None ↦ tree.Empty ]) (drop-first block.stmts m stmt rest mid.at)

        by-item : (first : Item) (item_stmt : Stmt) → IsItemText s graph first item_stmt → mid.stand.context.next ≡ item_entry graph first after_it → SoundItem s graph whole first x.later x.context
            → ((tree : Tree) (u : c.State) → step_at tree t.rest u ≡ stmt_step tree item_stmt x.at (goes_on (runs x.lines x.rest) u))
            → left t.rest ≡ suc (inside_count item_stmt + lines_count x.lines + left x.rest) → Reaches false false (moves mid.stand.leads) (left t.rest) t
        by-item (plan.Do a k) item_stmt planned.does same good' steps count =
            any-runs (stepped n again (stmt ∷ rest) b m i t small mid goes x item_stmt steps ∙ ap (λ y. stmt_step text y x.at before) (text-is a k (there ∙ same)))
            (subst (λ q. Leads graph begun q (entry graph x.later x.context)) (sym (ap₂ (λ a' k'. Before a' (suc k')) (ap block_of (there ∙ same)) (ap place_of (there ∙ same)))) good'.0.2) (omega (arith, count))
        by-item plan.Break item_stmt planned.breaks same good' steps count = break-runs n again (stmt ∷ rest) b m i t small mid goes x steps count there same
        by-item plan.Empty item_stmt planned.does_nothing same good' steps count = nothing-runs n again (stmt ∷ rest) b m i t small mid goes x steps count same
        by-item plan.Continue item_stmt planned.continues same good' steps count = absurd (start-apart x.context.at_continue b m (continue-starts s graph whole x.stands) (there ∙ same))
        by-item (plan.If a one other) item_stmt item_text same good' steps count = absurd (omega (arith, less, ended a (there ∙ same)))
          where
            ended : (a : ℕ) → Before b m ≡ valid.end_of graph a → m ≡ length block.stmts
            ended a e = ap place_of e ∙ ap (λ k. length (block_in graph k).stmts) (sym (ap block_of e))
        by-item (plan.Switch a arms) item_stmt item_text same good' steps count = absurd (omega (arith, less, ended a (there ∙ same)))
          where
            ended : (a : ℕ) → Before b m ≡ valid.end_of graph a → m ≡ length block.stmts
            ended a e = ap place_of e ∙ ap (λ k. length (block_in graph k).stmts) (sym (ap block_of e))
        by-item (plan.Return a) item_stmt item_text same good' steps count = absurd (omega (arith, less, ended a (there ∙ same)))
          where
            ended : (a : ℕ) → Before b m ≡ valid.end_of graph a → m ≡ length block.stmts
            ended a e = ap place_of e ∙ ap (λ k. length (block_in graph k).stmts) (sym (ap block_of e))
        by-item (plan.Mark a) item_stmt item_text same good' steps count = absurd (true≢false (ap is_before (there ∙ same)))
        by-item (plan.Jump a) item_stmt item_text same good' steps count = absurd (true≢false (ap is_before (there ∙ same)))
        by-item (plan.For a body) item_stmt (planned.repeats {lines = lines} body_text) same good' steps count =
            for-runs n again (stmt ∷ rest) b m i t small mid goes x a body lines body_text good' steps count (there ∙ same)
        by-item (plan.While turning a body) item_stmt item_text same good' steps count = absurd (omega (arith, less, none))
          where
            none : length block.stmts ≡ 0
            none = ap (λ k. length (block_in graph k).stmts) (ap block_of (there ∙ same)) ∙ ap length good'.0.5
        by-item (plan.DoWhile turning a top body) item_stmt (planned.tests_last {lines = lines} body_text) same good' steps count =
            do-runs n again (stmt ∷ rest) b m i t small mid goes x turning a top body lines body_text good' steps count (there ∙ same)

      -- no test of a loop stands before a statement
      no-test : {X : Type 0} (first : Bool) (a : ℕ) → Before b m ≡ test_point graph first a → X
      no-test true a is = absurd (true≢false (ap is_before is))
      no-test false a is =
          let ended : m ≡ length block.stmts = ap place_of is ∙ ap (λ k. length (block_in graph k).stmts) (sym (ap block_of is)) in
          absurd (omega (arith, less, ended))

      stmt-runs : Reaches false false (moves mid.stand.leads) (left t.rest) t
      stmt-runs = elim (head s graph whole mid.stand.stands) [
        | at_item x ↦ by-item x x.first x.stmt x.text x.is x.valid x.steps x.count
        | at_turn x ↦ absurd (true≢false (ap is_before (there ∙ x.is)))
        | at_test x ↦ no-test x.first x.b (there ∙ x.is)
        | at_end none ↦ absurd (true≢false (ap is_before (there ∙ none)))
      ]

    -- Ends of blocks.

    module _ (n : ℕ) (again : Later n) (b m : ℕ) (i : run.State) (t : c.State) (small : left t.rest < suc n) (mid : Within b m [] i t) (goes : run.block_step p.graphs fill [] i ≡ last) where
      abbrev own : inner.Block
      own = block_in graph b

      abbrev Finishes : Type 0
      Finishes = Reaches (only_goes [] own.exit) (owing b []) (moves mid.stand.leads) (left t.rest) t

      -- where the block's statements end
      at-end : m ≡ length own.stmts
      at-end = drop-all own.stmts m mid.at mid.within

      end : Ending G graph inside b i t
      end = ending G graph inside extra b m i t mid

      -- the end is the program's
      exit-goes : run.exit_step own.exit i ≡ last
      exit-goes = ap (λ (block : inner.Block). run.exit_step block.exit i) (sym mid.block_is) ∙ goes

      abbrev Ended : Type 0
      Ended = Ends G graph inside extra last good unstuck b i t end exit-goes (left t.rest)

      -- the block has a step at its end
      finished : (exit : inner.Exit) → own.exit ≡ exit → only_goes [] exit ≡ false → Ended → Finishes
      finished exit same more x = paid-for G graph inside extra last good unstuck (ap (λ e. only_goes [] e && not (begun b)) same ∙ ap (λ y. y && not (begun b)) more) x

      module _ (x : AtItem s graph whole limit t.rest mid.stand.context.next) (there : Before b m ≡ mid.stand.context.next) where
        abbrev past : c.State
        past = goes_on (runs x.lines x.rest) t

        later-stands : Standing (runs x.lines x.rest) (record x.context { next = entry graph x.later x.context })
        later-stands = rests.goes x.later_text x.later_valid x.stands

        no-place : (k : ℕ) → k < length own.stmts → m ≡ k → ⊥
        no-place k less same = absurd (omega (arith, less, same, at-end))

        -- the step of this statement
        to-step : (stmt : Stmt) → ((tree : Tree) (u : c.State) → step_at tree t.rest u ≡ stmt_step tree stmt x.at (goes_on (runs x.lines x.rest) u)) → c_step t ≡ stmt_step text stmt x.at past
        to-step stmt steps = stepped n again [] b m i t small mid goes x stmt steps

        while-runs : (turning : Bool) (body : Plan) (lines : Lines) → IsPlanText s graph body lines → SoundItem s graph whole (plan.While turning b body) x.later x.context
            → c_step t ≡ stmt_step text (tree.While (text_of_way s turning own.exit) lines) x.at past → left t.rest ≡ suc (suc (lines_count lines) + lines_count x.lines + left x.rest) → Finishes
        while-runs turning body lines body_text item to count =
            let testing = while-testing s graph whole turning b body x.later x.context item in
            finished (inner.If testing.test testing.if_true testing.if_false) testing.exit refl
            (loop-runs G graph inside extra last good unstuck b i t end exit-goes true turning body lines x.at (runs x.lines x.rest) (record x.context { next = entry graph x.later x.context }) body_text testing later-stands
            (omega (arith, mid.stand.low, count)) x.at past to (left t.rest) (omega (arith, count)) (inl (omega (arith, count))))

        by-end : (first : Item) (item_stmt : Stmt) → IsItemText s graph first item_stmt → mid.stand.context.next ≡ item_entry graph first (in_sides graph x.later x.context) → SoundItem s graph whole first x.later x.context
            → ((tree : Tree) (u : c.State) → step_at tree t.rest u ≡ stmt_step tree item_stmt x.at (goes_on (runs x.lines x.rest) u))
            → left t.rest ≡ suc (inside_count item_stmt + lines_count x.lines + left x.rest) → Finishes
        by-end (plan.Do a k) item_stmt item_text same good' steps count =
            absurd (no-place k (subst (λ d. k < length (block_in graph d).stmts) (sym (ap block_of (there ∙ same))) good'.0.1) (ap place_of (there ∙ same)))
        by-end (plan.If a one other) item_stmt (planned.tests {first = first} {second = second} first_text second_text) same good' steps count =
            let here : b ≡ a = ap block_of (there ∙ same) in
            let item = subst (λ d. SoundItem s graph whole (plan.If d one other) x.later x.context) (sym here) good' in
            let turn = planned.is_true_first graph one other in
            finished (inner.If item.0.0 item.0.1 item.0.2) item.0.3 refl
            (if-runs G graph inside extra last good unstuck b i t end exit-goes turn one other x.later x.context first second (runs x.lines x.rest) first_text second_text item later-stands x.at past
            (to-step (tree.If (text_of_way s turn (block_in graph a).exit) first second) steps ∙ ap (λ d. stmt_step text (tree.If (text_of_way s turn (block_in graph d).exit) first second) x.at past) (sym here))
            (left t.rest) (omega (arith, count)) mid.stand.low)
        by-end (plan.Switch a arms) item_stmt (planned.chooses {bodies = bodies} texts) same good' steps count =
            let here : b ≡ a = ap block_of (there ∙ same) in
            let item = subst (λ d. SoundItem s graph whole (plan.Switch d arms) x.later x.context) (sym here) good' in
            finished (inner.Switch item.0.0 item.0.1) item.0.2 refl
            (switch-runs G graph inside extra last good unstuck b i t end exit-goes arms bodies x.later x.context (runs x.lines x.rest) texts item later-stands x.at
            (to-step (tree.Switch (text_of_choice s (block_in graph a).exit) bodies tree.no_arms) steps ∙ ap (λ d. stmt_step text (tree.Switch (text_of_choice s (block_in graph d).exit) bodies tree.no_arms) x.at past) (sym here))
            (left t.rest) (omega (arith, count)) mid.stand.low)
        by-end (plan.Return a) item_stmt planned.returns same good' steps count =
            let here : b ≡ a = ap block_of (there ∙ same) in
            let is_ret : own.exit ≡ inner.Ret good'.0.0 = subst (λ d. (block_in graph d).exit ≡ inner.Ret good'.0.0) (sym here) good'.0.1 in
            finished (inner.Ret good'.0.0) is_ret refl
            (return-runs G graph inside extra last good unstuck b i t end exit-goes good'.0.0 is_ret (runs x.lines x.rest) x.at
            (to-step (text_of_return s (block_in graph a).exit) steps ∙ ap (λ d. stmt_step text (text_of_return s (block_in graph d).exit) x.at past) (sym here) ∙ ap (λ e. stmt_step text (text_of_return s e) x.at past) is_ret)
            (left t.rest) (omega arith) (omega (arith, count)))
        by-end (plan.For a body) item_stmt (planned.repeats {lines = lines} body_text) same good' steps count =
            for-runs n again [] b m i t small mid goes x a body lines body_text good' steps count (there ∙ same)
        by-end (plan.While turning a body) item_stmt (planned.tests_first {lines = lines} body_text) same good' steps count =
            let here : b ≡ a = ap block_of (there ∙ same) in
            while-runs turning body lines body_text (subst (λ d. SoundItem s graph whole (plan.While turning d body) x.later x.context) (sym here) good')
            (to-step (tree.While (text_of_way s turning (block_in graph a).exit) lines) steps ∙ ap (λ d. stmt_step text (tree.While (text_of_way s turning (block_in graph d).exit) lines) x.at past) (sym here))
            count
        by-end (plan.DoWhile turning a top body) item_stmt (planned.tests_last {lines = lines} body_text) same good' steps count =
            do-runs n again [] b m i t small mid goes x turning a top body lines body_text good' steps count (there ∙ same)
        by-end plan.Break item_stmt planned.breaks same good' steps count = break-runs n again [] b m i t small mid goes x steps count there same
        by-end plan.Empty item_stmt planned.does_nothing same good' steps count = nothing-runs n again [] b m i t small mid goes x steps count same
        by-end plan.Continue item_stmt planned.continues same good' steps count = absurd (start-apart x.context.at_continue b m (continue-starts s graph whole x.stands) (there ∙ same))
        by-end (plan.Mark a) item_stmt item_text same good' steps count = absurd (true≢false (ap is_before (there ∙ same)))
        by-end (plan.Jump a) item_stmt item_text same good' steps count = absurd (true≢false (ap is_before (there ∙ same)))

      -- the test of a loop that tests last
      test-runs : (x : AtTest s graph whole limit t.rest mid.stand.context.next) → Before b m ≡ mid.stand.context.next → Finishes
      test-runs x there = by x.first refl (there ∙ x.is)
        where
          t-runs : is_over t.end ≡ false
          t-runs = ap is_over mid.holds.end ∙ mid.running

          by : (first : Bool) → x.first ≡ first → Before b m ≡ test_point graph x.first x.b → Finishes
          by true same is = absurd (true≢false (ap is_before (is ∙ ap (λ first. test_point graph first x.b) same)))
          by false same is =
              let here : b ≡ x.b = ap block_of (is ∙ ap (λ first. test_point graph first x.b) same) in
              let testing = subst (λ d. IsTesting s graph whole x.first x.on d x.body x.context) (sym here) x.testing in
              let count = x.count in
              let e_of : ℕ → tree.Expr = λ d. text_of_way s x.on (block_in graph d).exit in
              let step_of : ℕ → c.State = λ d. on (text_value.value_of (c.scope_of text t) (e_of d)) x.at t (λ v. goes_on (if is_zero v then x.rest else runs x.lines (tests (e_of d) x.lines x.at x.rest)) t) in
              let to : c_step t ≡ step_of x.b = steps-from G graph inside t.rest t t-runs ∙ x.steps text t in
              finished (inner.If testing.test testing.if_true testing.if_false) testing.exit refl
              (loop-runs G graph inside extra last good unstuck b i t end exit-goes x.first x.on x.body x.lines x.at x.rest x.context x.text testing x.stands x.few x.at t
              (to ∙ ap step_of (sym here)) (left t.rest) (omega (arith, count)) (inr same))

      exit-runs : Finishes
      exit-runs = by mid.stand.point mid.stand.leads mid.stand.same refl
        where
          by : (point : Point) (leads : Leads graph begun (Before b m) point) → mid.stand.context.next ≡ point → moves leads ≡ moves mid.stand.leads → Finishes
          by point valid.is_there same count = elim (head s graph whole mid.stand.stands) [
            | at_item x ↦ by-end x (sym same) x.first x.stmt x.text x.is x.valid x.steps x.count
            | at_turn x ↦ absurd (true≢false (ap is_before (sym same ∙ x.is)))
            | at_test x ↦ test-runs x (sym same)
            | at_end none ↦ absurd (true≢false (ap is_before (sym same ∙ none)))
          ]
          by point (valid.goes {next = next} at exit leads) same count =
              let goes_next : run.exit_step (inner.Goto next) i ≡ last = ap (λ e. run.exit_step e i) (sym exit) ∙ exit-goes in
              let less : nat_lt next (length graph.blocks) ≡ true = subst (λ e. is_exit graph.bits (length graph.blocks) e ≡ true) exit (exit-formed G graph inside b mid.known) in
              let target = subst (λ e. Contains (targets e) next) (sym exit) (contained (next ∷ []) 0 next refl) in
              let x = arrives G graph inside extra last good unstuck b next i t end (ltb-true next (length graph.blocks) less) target goes_next t.rest mid.stand.context point leads mid.stand.stands same mid.stand.low in
              passing (ap (only_goes []) exit) (subst (λ most. Reaches true true most (left t.rest) t) count x)
            where
              -- a block that only goes to another
              passing : only_goes [] own.exit ≡ true → Reaches true true (moves mid.stand.leads) (left t.rest) t → Finishes
              passing is x = record {
                steps = x.steps;
                some = λ none. absurd (true≢false (sym is ∙ none));
                leads = elim x.leads [ inl there ↦ inl (there.0, λ owes. there.1 refl, there.2) | inr ends ↦ inr ends ];
              }
          by point (valid.stops at exit) same count = absurd (no-end G graph inside extra last good unstuck own.exit i exit exit-goes)

    pub block-runs : (n : ℕ) → Later n
    block-runs zero stmts b m i t small mid goes = absurd (omega (arith, small))
    block-runs (suc n) [] b m i t small mid goes = exit-runs n (block-runs n) b m i t small mid goes
    block-runs (suc n) (stmt ∷ rest) b m i t small mid goes = stmt-runs n (block-runs n) stmt rest b m i t small mid goes
