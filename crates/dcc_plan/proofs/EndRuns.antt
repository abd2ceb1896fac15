-- The program's step at the end of a block stands for steps of the text: a test, a choice, a return.
use Rattle.std.proofs.Common.{◌≡◌, ℕ, suc, ◌+◌, ◌<◌, ◌≤◌, inl, inr, Bool, true, false, ◌==◌, List, [], ◌∷◌, length, map, Option, Some, None, refl, sym, ap, ◌∙◌, subst, true≢false, arith}
use Rattle.std.specs.Prelude.{◌⊎◌, ◌&&◌, not, nat_lt, nat_le, if◌then◌else◌, All, Contains, slice_get}
use Rattle.std.specs.List.{list_all, AllZip}
use Rattle.std.proofs.lemmas.Bool.{and_parts, ltb-true}
use Rattle.std.proofs.lemmas.List.Elements.{All-head}
use Rattle.dcc_run.specs.End.{is_over}
use Rattle.dcc_ir.specs.Families.{Family}
use Rattle.dcc_ir.specs.Flow.{targets}
use Rattle.dcc_ir.specs.Live.{block_in}
use Rattle.dcc_ir.specs.Run as run
use Rattle.dcc_ir.specs.Tree as inner
use Rattle.dcc_ir.specs.Use.{exit_exprs}
use Rattle.dcc_ir.specs.WellFormed.{is_exit, is_expr_of}
use Rattle.dcc_ir.proofs.FitStates.{scene-fits}
use Rattle.dcc_ir.proofs.ReachedLaws.{contained, all_at, AreCallers, IsGood}
use Rattle.dcc_c.specs.Run as c
use Rattle.dcc_c.specs.Run.{Continuation, runs, tests, ends_switch, goes_on, stmt_step, switch_step, arm_for, on}
use Rattle.dcc_c.specs.Tree as tree
use Rattle.dcc_c.specs.Tree.{Lines, no_lines, Tree}
use Rattle.dcc_c.specs.Value as text_value
use Rattle.dcc_c.specs.Value.{is_zero}
use Rattle.dcc_text.specs.Spelling.{Spelling}
use Rattle.dcc_text.specs.Holding.{IsWithin, Holds, IsWaiting}
use Rattle.dcc_control.specs.Plan as plan
use Rattle.dcc_control.specs.Plan.{Plan, Arms, is_begun, arm_with}
use Rattle.dcc_plan.specs.PlanText as planned
use Rattle.dcc_plan.specs.PlanText.{text_of_way, text_of_choice, text_of_return, IsPlanText, AreArmsText}
use Rattle.dcc_plan.specs.Programs.{IsGraphText}
use Rattle.dcc_control.specs.Valid.{Point, Begin, Leads, Context, way, entry, in_sides, in_arms}
use Rattle.dcc_control.proofs.ListLaws.{block-at}
use Rattle.dcc_plan.proofs.Rests.{SoundItem, lines_count, arms_count, left, is_jumping, test_context, Stands, retests, IsTesting, starts-quiet}
use Rattle.dcc_plan.proofs.Rests as rests
use Rattle.dcc_plan.proofs.Settings.{debts, rests_of, limit_of, Continuing, setting_of, Premises}
use Rattle.dcc_plan.proofs.CallPremises.{caller-goes-on}
use Rattle.dcc_plan.proofs.CallStates.{is-returned}
use Rattle.dcc_plan.proofs.Points.{arm-text, arm-valid, arm-begun, arm-few}
use Rattle.dcc_plan.proofs.Stages.{debts_of, owed, owed-within, AreCalled, results-named, CallsAlike, Matter, IsUnstuck, after_call, Related, Outcome}
use Rattle.dcc_plan.proofs.TestLaws.{test-gives, way-gives, choice-gives, decides, comes_to_zero}
use Rattle.dcc_plan.proofs.Midways.{Ending, Comes, one-before, arrives, arrives-quiet, not-stuck, exit-formed, elsewhere}

-- The program is at the end of a block, and its step leads to a state.
module _ (G : Premises) (graph : inner.Graph) (inside : Contains G.p.graphs graph) (extra : ℕ) (last : run.State) (good : IsGood G.p last) (unstuck : IsUnstuck G last)
    (b : ℕ) (i : run.State) (t : c.State) (end : Ending G graph inside b i t) (goes : run.exit_step (block_in graph b).exit i ≡ last) where
  abbrev p : inner.Program
  p = G.p

  abbrev text : Tree
  text = G.tree

  abbrev s : Spelling
  s = G.texts.spelling graph

  abbrev family : Family
  family = G.texts.matters graph

  abbrev whole : Plan
  whole = G.texts.plan graph

  abbrev most : ℕ
  most = limit_of G.texts graph

  abbrev starts : ℕ → Bool
  starts b = is_begun whole b

  abbrev is : IsGraphText G.texts graph
  is = G.each graph inside

  abbrev c_step : c.State → c.State
  c_step t = c.step text t

  abbrev Standing : Continuation → Context → Type 0
  Standing k context = Stands s graph whole most k context

  abbrev own : inner.Block
  own = block_in graph b

  -- the text makes a step, and is where the program's step leads
  abbrev pub Ends : ℕ → Type 0
  Ends room = Comes G graph inside extra last good unstuck false false 0 room t

  -- the end is the program's
  exits : (exit : inner.Exit) → own.exit ≡ exit → run.exit_step exit i ≡ last
  exits exit same = ap (λ e. run.exit_step e i) (sym same) ∙ goes

  formed : (exit : inner.Exit) → own.exit ≡ exit → is_exit graph.bits (length graph.blocks) exit ≡ true
  formed exit same = subst (λ e. is_exit graph.bits (length graph.blocks) e ≡ true) same (exit-formed G graph inside b end.known)

  -- the expressions of the end have what they read
  within-end : (exit : inner.Exit) → own.exit ≡ exit → All (IsWithin s (family own [])) (exit_exprs exit)
  within-end exit same = subst (λ e. All (IsWithin s (family own [])) (exit_exprs e)) same (is.matters.tested b end.known)

  bits-are : graph.bits ≡ s.bits
  bits-are = ap (λ g. g.bits) (sym end.graph_is) ∙ end.holds.frame.bits

  leads-to : (exit : inner.Exit) (place : ℕ) → own.exit ≡ exit → Contains (targets exit) place → Contains (targets own.exit) place
  leads-to exit place same = subst (λ e. Contains (targets e) place) (sym same)

  -- one step, and then to the next block
  steps-to : (room room' : ℕ) (u : c.State) {most' : ℕ} → c_step t ≡ u → suc room' ≤ room → debts_of u ≡ debts_of t → Comes G graph inside extra last good unstuck true true most' room' u → Ends room
  steps-to room room' u to less waiting x = one-before G graph inside extra last good unstuck (λ e. absurd (true≢false (sym e))) to less waiting x

  -- Tests.

  module _ (test : inner.Expr) (if_true if_false : ℕ) (exit : own.exit ≡ inner.If test if_true if_false) where
    if-formed : (is_expr_of graph.bits 1 test && nat_lt if_true (length graph.blocks) && nat_lt if_false (length graph.blocks)) ≡ true
    if-formed = formed (inner.If test if_true if_false) exit

    known-way : (turn : Bool) → way turn if_true if_false < length graph.blocks
    known-way true =
        let (two, second) = and_parts (is_expr_of graph.bits 1 test && nat_lt if_true (length graph.blocks)) (nat_lt if_false (length graph.blocks)) if-formed in
        ltb-true if_true (length graph.blocks) (and_parts (is_expr_of graph.bits 1 test) (nat_lt if_true (length graph.blocks)) two).1
    known-way false =
        ltb-true if_false (length graph.blocks) (and_parts (is_expr_of graph.bits 1 test && nat_lt if_true (length graph.blocks)) (nat_lt if_false (length graph.blocks)) if-formed).1

    target-way : (turn : Bool) → Contains (targets own.exit) (way turn if_true if_false)
    target-way true = leads-to (inner.If test if_true if_false) if_true exit (contained (if_true ∷ if_false ∷ []) 0 if_true refl)
    target-way false = leads-to (inner.If test if_true if_false) if_false exit (contained (if_true ∷ if_false ∷ []) 1 if_false refl)

    tested : is_expr_of s.bits 1 test ≡ true
    tested =
        let (two, second) = and_parts (is_expr_of graph.bits 1 test && nat_lt if_true (length graph.blocks)) (nat_lt if_false (length graph.blocks)) if-formed in
        subst (λ bits. is_expr_of bits 1 test ≡ true) bits-are (and_parts (is_expr_of graph.bits 1 test) (nat_lt if_true (length graph.blocks)) two).0

    -- the text goes one way where its test, or the opposite, doesn't come to 0, and so does the program
    abbrev Decided : Bool → (Bool → c.State) → Type 0
    Decided turn lands =
        ((c_step t ≡ lands false) × (run.going_to (way turn if_true if_false) i ≡ last)) ⊎ ((c_step t ≡ lands true) × (run.going_to (way (not turn) if_true if_false) i ≡ last))

    pub decided : (turn : Bool) (at : ℕ) (past : c.State) (lands : Bool → c.State)
        → c_step t ≡ on (text_value.value_of (c.scope_of text t) (text_of_way s turn own.exit)) at past (λ v. lands (is_zero v)) → Decided turn lands
    decided turn at past lands to =
        let z = way-gives s text (family own []) (CallsAlike G) i t end.holds (scene-fits i end.fit) turn test if_true if_false tested
        (All-head (IsWithin s (family own [])) test [] (within-end (inner.If test if_true if_false) exit)) in
        let there : c_step t ≡ lands (is_zero z.value) =
        to ∙ ap (λ e. on (text_value.value_of (c.scope_of text t) (text_of_way s turn e)) at past (λ v. lands (is_zero v))) exit ∙ ap (λ o. on o at past (λ v. lands (is_zero v))) z.gives
        in
        let small = (test-gives s text (family own []) (CallsAlike G) i t end.holds (scene-fits i end.fit) test tested (All-head (IsWithin s (family own [])) test [] (within-end (inner.If test if_true if_false) exit))).small in
        by turn (is_zero z.value) there z.zero (decides (run.value_in i test) small)
      where
        one-goes : (run.value_in i test == 1) ≡ true → run.going_to if_true i ≡ last
        one-goes is_one = ap (λ x. run.going_to (if x then if_true else if_false) i) (sym is_one) ∙ exits (inner.If test if_true if_false) exit

        zero-goes : (run.value_in i test == 1) ≡ false → run.going_to if_false i ≡ last
        zero-goes is_one = ap (λ x. run.going_to (if x then if_true else if_false) i) (sym is_one) ∙ exits (inner.If test if_true if_false) exit

        by : (turn none : Bool) → c_step t ≡ lands none → none ≡ comes_to_zero turn (run.value_in i test)
            → ((run.value_in i test == 0) ≡ false) × ((run.value_in i test == 1) ≡ true) ⊎ ((run.value_in i test == 0) ≡ true) × ((run.value_in i test == 1) ≡ false) → Decided turn lands
        by true none there comes (inl one_is) = inl (there ∙ ap lands (comes ∙ one_is.0), one-goes one_is.1)
        by true none there comes (inr zero_is) = inr (there ∙ ap lands (comes ∙ zero_is.0), zero-goes zero_is.1)
        by false none there comes (inl one_is) = inr (there ∙ ap lands (comes ∙ ap not one_is.0), one-goes one_is.1)
        by false none there comes (inr zero_is) = inl (there ∙ ap lands (comes ∙ ap not zero_is.0), zero-goes zero_is.1)

    -- to the next block by one step, where the text has something left
    side : (turn : Bool) (k : Continuation) (context : Context) (point : Point) (leads : Leads graph starts (Begin (way turn if_true if_false)) point) → Standing k context → context.next ≡ point → left k ≤ most
        → (room : ℕ) → suc (left k) ≤ room → c_step t ≡ goes_on k t → run.going_to (way turn if_true if_false) i ≡ last → Ends room
    side turn k context point leads stands same low room less to goes' =
        steps-to room (left k) (goes_on k t) to less refl
        (arrives G graph inside extra last good unstuck b (way turn if_true if_false) i t end (known-way turn) (target-way turn) goes' k context point leads stands same low)

    -- and where no jump is next there
    quiet-side : (turn : Bool) (k : Continuation) (context : Context) (point : Point) (leads : Leads graph starts (Begin (way turn if_true if_false)) point) → Standing k context → context.next ≡ point → left k ≤ most
        → (room : ℕ) → 1 ≤ room → is_jumping k ≡ false → c_step t ≡ goes_on k t → run.going_to (way turn if_true if_false) i ≡ last → Ends room
    quiet-side turn k context point leads stands same low room less quiet to goes' =
        steps-to room 0 (goes_on k t) to less refl
        (arrives-quiet G graph inside extra last good unstuck b (way turn if_true if_false) i t end (known-way turn) (target-way turn) goes' k context point leads stands same low quiet)

  -- what follows an item
  abbrev Following : Plan → Context → Context
  Following later context = record context { next = entry graph later context }

  -- a test, or its opposite, with the side first that it is for
  pub if-runs : (turn : Bool) (one other later : Plan) (context : Context) (first second : Lines) (rest : Continuation)
      → IsPlanText s graph (planned.side turn one other) first → IsPlanText s graph (planned.side (not turn) one other) second
      → SoundItem s graph whole (plan.If b one other) later context → Standing rest (Following later context) → (at : ℕ) (past : c.State)
      → c_step t ≡ on (text_value.value_of (c.scope_of text t) (text_of_way s turn own.exit)) at past (λ v. goes_on (runs (if is_zero v then second else first) rest) t)
      → (room : ℕ) → suc (lines_count first + lines_count second + left rest) ≤ room → room ≤ most → Ends room
  if-runs turn one other later context first second rest first_text second_text ((test, if_true, if_false, exit, known, first_leads, first_valid, second_leads, second_valid), begins) stands at past to room fits low =
      elim (decided test if_true if_false exit turn at past (λ none. goes_on (runs (if none then second else first) rest) t) to) [
        | inl turned ↦ goes-to turn first first_text (omega (arith, fits)) turned.0 turned.1
        | inr ended ↦ goes-to (not turn) second second_text (omega (arith, fits)) ended.0 ended.1
      ]
    where
      ctx : Context
      ctx = in_sides graph later context

      -- to the side for a truth value
      goes-to : (turn : Bool) (lines : Lines) → IsPlanText s graph (planned.side turn one other) lines → suc (lines_count lines + left rest) ≤ room
          → c_step t ≡ goes_on (runs lines rest) t → run.going_to (way turn if_true if_false) i ≡ last → Ends room
      goes-to true lines lines_text few there goes = side test if_true if_false exit true (runs lines rest) (record ctx { next = entry graph one ctx }) (entry graph one ctx) first_leads
          (rests.goes lines_text (first_valid, begins.0) stands) refl (omega (arith, few, low)) room (omega (arith, few)) there goes
      goes-to false lines lines_text few there goes = side test if_true if_false exit false (runs lines rest) (record ctx { next = entry graph other ctx }) (entry graph other ctx) second_leads
          (rests.goes lines_text (second_valid, begins.1) stands) refl (omega (arith, few, low)) room (omega (arith, few)) there goes

  -- The test of a loop. Where a turn may begin with a jump, there is room for one.
  pub loop-runs : (first turn : Bool) (body : Plan) (lines : Lines) (loop_at : ℕ) (rest : Continuation) (context : Context) → IsPlanText s graph body lines
      → IsTesting s graph whole first turn b body context → Standing rest context → suc (suc (lines_count lines + left rest)) ≤ most → (at : ℕ) (past : c.State)
      → c_step t ≡ on (text_value.value_of (c.scope_of text t) (text_of_way s turn own.exit)) at past
      (λ v. goes_on (if is_zero v then rest else runs lines (tests (text_of_way s turn own.exit) lines loop_at rest)) t)
      → (room : ℕ) → suc (left rest) ≤ room → (suc (suc (lines_count lines + left rest)) ≤ room) ⊎ (first ≡ false) → Ends room
  loop-runs first turn body lines loop_at rest context body_text testing stands few at past to room less fits =
      let again : Continuation = tests (text_of_way s turn own.exit) lines loop_at rest in
      let ctx : Context = test_context graph first b context in
      let turning : Standing (runs lines again) (record ctx { next = entry graph body ctx }) = rests.goes body_text testing.valid (retests body_text testing stands few) in
      elim (decided testing.test testing.if_true testing.if_false testing.exit turn at past (λ none. goes_on (if none then rest else runs lines again) t) to) [
        | inl turned ↦ elim fits [
          | inl wide ↦ side testing.test testing.if_true testing.if_false testing.exit turn (runs lines again) (record ctx { next = entry graph body ctx }) (entry graph body ctx) testing.leads
              turning refl (omega (arith, few)) room (omega (arith, wide)) turned.0 turned.1
          | inr testing_last ↦
              let start = testing.starts testing_last in
              quiet-side testing.test testing.if_true testing.if_false testing.exit turn (runs lines again) (record ctx { next = entry graph body ctx }) (entry graph body ctx) testing.leads
              turning refl (omega (arith, few)) room (omega (arith, less)) (starts-quiet s graph whole start.0 body ctx lines again body_text testing.valid.0 start.1) turned.0 turned.1
        ]
        | inr ended ↦ side testing.test testing.if_true testing.if_false testing.exit (not turn) rest context context.next testing.ends stands refl (omega (arith, few)) room (omega (arith, less)) ended.0 ended.1
      ]

  module _ (rest : Continuation) where
    held : Holds s (family own []) (CallsAlike G) i (goes_on rest t)
    held = elsewhere G graph inside rest end.holds

  -- Choices.

  module _ (arms : Arms) (bodies : tree.Arms) (later : Plan) (context : Context) (rest : Continuation) (texts : AreArmsText s graph arms bodies) (item : SoundItem s graph whole (plan.Switch b arms) later context)
      (stands : Standing rest (Following later context)) (at : ℕ) (to : c_step t ≡ stmt_step text (tree.Switch (text_of_choice s own.exit) bodies tree.no_arms) at (goes_on rest t))
      (room : ℕ) (fits : suc (arms_count bodies + left rest) ≤ room) (low : room ≤ most) where
    abbrev e : inner.Expr
    e = item.0.0

    abbrev places : List ℕ
    places = item.0.1

    abbrev value : ℕ
    value = run.value_in i e

    switch-formed : (is_expr_of graph.bits 16 e && nat_le (length places) 65536 && list_all (λ place. nat_lt place (length graph.blocks)) places) ≡ true
    switch-formed = formed (inner.Switch e places) item.0.2

    pub switch-runs : Ends room
    switch-runs =
        let (two, all) = and_parts (is_expr_of graph.bits 16 e && nat_le (length places) 65536) (list_all (λ place. nat_lt place (length graph.blocks)) places) switch-formed in
        let (chosen, few) = and_parts (is_expr_of graph.bits 16 e) (nat_le (length places) 65536) two in
        let z = choice-gives s text (family own []) (CallsAlike G) i (goes_on rest t) (held rest) (scene-fits i end.fit) e (subst (λ bits. is_expr_of bits 16 e ≡ true) bits-are chosen)
        (All-head (IsWithin s (family own [])) e [] (within-end (inner.Switch e places) item.0.2)) in
        by (slice_get places value) refl all
        (to ∙ ap (λ exit. on (text_value.value_of (c.scope_of text (goes_on rest t)) (text_of_choice s exit)) at (goes_on rest t) (λ v. switch_step v bodies tree.no_arms (goes_on rest t))) item.0.2
        ∙ ap (λ o. on o at (goes_on rest t) (λ v. switch_step v bodies tree.no_arms (goes_on rest t))) z.gives
        ∙ ap (λ k. goes_on (runs (arm_for k bodies no_lines) (ends_switch rest)) t) z.is)
        (exits (inner.Switch e places) item.0.2)
      where
        by : (o : Option ℕ) → slice_get places value ≡ o → list_all (λ place. nat_lt place (length graph.blocks)) places ≡ true
            → c_step t ≡ goes_on (runs (arm_for value bodies no_lines) (ends_switch rest)) t → run.switching (slice_get places value) i ≡ last → Ends room
        by None none all to' goes' = absurd (not-stuck G graph inside extra last good unstuck i (ap (λ o. run.switching o i) (sym none) ∙ goes'))
        by (Some place) at_place all to' goes' =
            let inner_context : Context = in_arms graph later context in
            let found = contained places value place at_place in
            let lines = arm_for value bodies no_lines in
            let few = arm-few value bodies in
            let leads = item.0.4 value place at_place in
            steps-to room (left (runs lines (ends_switch rest))) (goes_on (runs lines (ends_switch rest)) t) to' (omega (arith, fits, few)) refl
            (arrives G graph inside extra last good unstuck b place i t end (ltb-true place (length graph.blocks) (all_at (λ place. nat_lt place (length graph.blocks)) places place all found))
            (leads-to (inner.Switch e places) place item.0.2 found) (ap (λ o. run.switching o i) (sym at_place) ∙ goes') (runs lines (ends_switch rest))
            (record inner_context { next = entry graph (arm_with value arms) inner_context }) (entry graph (arm_with value arms) inner_context) leads
            (rests.goes (arm-text s graph value arms bodies texts) (arm-valid graph whole value arms inner_context item.0.5, arm-begun s graph whole value arms item.1) (rests.leaves stands)) refl
            (omega (arith, low, fits, few)))

  -- Returns.

  module _ (values : List inner.Expr) (is_ret : own.exit ≡ inner.Ret values) (rest : Continuation) (at : ℕ) (to : c_step t ≡ stmt_step text (text_of_return s (inner.Ret values)) at (goes_on rest t))
      (room : ℕ) (some : left t.rest ≤ room) (step : 1 ≤ left t.rest) where
    abbrev u : c.State
    u = stmt_step text (text_of_return s (inner.Ret values)) at (goes_on rest t)

    -- a call that waits goes on
    goes-back : (w : run.Waiting) (waiting : List run.Waiting) (v : c.Waiting) (others : List c.Waiting) → i.waiting ≡ w ∷ waiting → t.waiting ≡ v ∷ others
        → IsWaiting (setting_of G.texts) w v → run.returning (map (run.value_in i) values) (w ∷ waiting) i ≡ last → Ends room
    goes-back w waiting v others those other_waits waiting_is returns =
        let called = subst (AreCalled G.texts p graph) those end.called in
        let callers = subst (AreCallers p graph) those (subst (λ g. AreCallers p g i.waiting) end.graph_is end.placed.callers) in
        let y = caller-goes-on G values w waiting v others at i (goes_on rest t) end.filled (results-named G.texts p graph i.waiting end.called) end.running those other_waits end.fit graph own end.graph_is end.block_is
        inside called.0 (contained graph.blocks b own (block-at graph b end.known)) is_ret (within-end (inner.Ret values) is_ret) callers end.function (held rest)
        in
        let z = is-returned (map (run.value_in i) values) w waiting i in
        let back : run.State = run.returning (map (run.value_in i) values) (w ∷ waiting) i in
        let within : back.running.begins ≡ false = z.begins ∙ called.1 in
        let related : Related G back u = record {
          graph = w.caller.graph;
          inside = callers.0.active.known;
          called = subst (AreCalled G.texts p w.caller.graph) (sym z.waiting) called.3;
          stage = after_call (record {
            continues = subst (λ k. Continuing G.texts k w.caller.graph back.running.block back.running.rest) (sym y.rest)
                (subst (λ block. Continuing G.texts v.rest w.caller.graph block back.running.rest) (sym z.block)
                (subst (λ rest. Continuing G.texts v.rest w.caller.graph w.caller.block rest) (sym z.rest) waiting_is.continues));
            graph_is = z.graph;
            begins = within;
            filled = y.filled;
            running = ap is_over z.end ∙ end.running;
            good = subst (IsGood p) (sym returns) good;
            unstuck = subst (IsUnstuck G) (sym returns) unstuck;
            function = y.function;
            holds = subst (λ block. Holds (G.texts.spelling w.caller.graph) (Matter G w.caller.graph block back.running.rest) (CallsAlike G) back u) (sym z.block)
                (subst (λ rest. Holds (G.texts.spelling w.caller.graph) (Matter G w.caller.graph w.caller.block rest) (CallsAlike G) back u) (sym z.rest) y.holds);
          });
        } in
        let spent : 1 + owed back u ≤ room + debts_of t + extra =
        let owes = owed-within back u within in
        let kept : left u.rest ≡ left v.rest = ap left y.rest in
        let fewer : debts_of u ≡ debts (rests_of others) = ap debts y.waiting in
        let before : debts_of t ≡ left v.rest + debts (rests_of others) = ap (λ l. debts (rests_of l)) other_waits in
        omega (arith, owes, kept, fewer, before, some, step)
        in
        record {
          steps = 1;
          some = λ e. omega arith;
          leads = subst (λ w. Outcome G false 0 (room + debts_of t + extra) 1 last w) (sym to)
              (subst (λ j. Outcome G false 0 (room + debts_of t + extra) 1 j u) returns (inl (related, λ e. absurd (true≢false (sym e)), spent)));
        }

    pub return-runs : Ends room
    return-runs = by i.waiting t.waiting refl refl end.holds.waiting (ap (λ e. run.exit_step e i) (sym is_ret) ∙ exits own.exit refl)
      where
        by : (waiting : List run.Waiting) (others : List c.Waiting) → i.waiting ≡ waiting → t.waiting ≡ others → AllZip (IsWaiting (setting_of G.texts)) waiting others
            → run.returning (map (run.value_in i) values) i.waiting i ≡ last → Ends room
        by [] others those other_waits alike returns = absurd (not-stuck G graph inside extra last good unstuck i (ap (λ w. run.returning (map (run.value_in i) values) w i) (sym those) ∙ returns))
        by (w ∷ waiting) [] those other_waits alike returns = absurd alike
        by (w ∷ waiting) (v ∷ others) those other_waits alike returns =
            goes-back w waiting v others those other_waits alike.0 (ap (λ l. run.returning (map (run.value_in i) values) l i) (sym those) ∙ returns)
