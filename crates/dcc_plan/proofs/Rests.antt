-- What is still to be executed of a text stands for a point of the graph.
use Rattle.std.proofs.Common.{◌≡◌, ℕ, suc, ◌+◌, ◌<◌, ◌≤◌, inl, inr, Bool, true, false, ◌==◌, List, [], ◌∷◌, ◌++◌, length, Option, Some, None, refl, sym, ap, ap₂, ◌∙◌, subst, true≢false, arith}
use Rattle.std.specs.Prelude.{◌⊎◌, ◌||◌, not, if◌then◌else◌, slice_get}
use Rattle.std.proofs.lemmas.Bool.{or_left, or_right, eq-eqb, eqb-true}
use Rattle.std.proofs.lemmas.List.Folds.{list_any-append}
use Rattle.std.proofs.lemmas.List.Sorted.{list_any-IsPermutation}
use Rattle.std.proofs.lemmas.Option.{slice_get_cases}
use Rattle.dcc_ir.specs.Tree as inner
use Rattle.dcc_ir.specs.Live.{block_in}
use Rattle.dcc_ir.specs.WellFormed.{IsGraph}
use Rattle.dcc_c.specs.Tree as tree
use Rattle.dcc_c.specs.Tree.{Word, Expr, Stmt, Lines, no_lines, line, Tree}
use Rattle.dcc_c.specs.Run.{Continuation, ends_function, runs, tests, turns, ends_switch, State, goes_on, stmt_step, step_at, after_break, after_continue, first_of, from_label, from_label_inside, from_label_in_arms}
use Rattle.dcc_text.specs.Spelling.{Spelling}
use Rattle.dcc_text.specs.Stmts.{stmt_text}
use Rattle.dcc_plan.specs.Labels.{label_at}
use Rattle.dcc_control.specs.Plan as plan
use Rattle.dcc_control.specs.Plan.{Item, Plan, no_items, item, Arms, marks, item_marks, arm_marks, turns as turns_of, item_turns, arm_turns, is_in, is_begun, starts_with}
use Rattle.dcc_plan.specs.PlanText as planned
use Rattle.dcc_plan.specs.Steps.{steps_in, stmt_steps, arm_steps}
use Rattle.dcc_plan.specs.PlanText.{text_of_stmt, text_of_return, text_of_way, IsPlanText, nothing, one_more, IsItemText, AreArmsText}
use Rattle.dcc_control.specs.Valid.{Point, Begin, Before, Nowhere, Leads, Context, outside, way, end_of, in_sides, item_entry, entry, IsValid, IsValidItem, AreValidArms}
use Rattle.dcc_plan.proofs.LabelLaws.{label-tested}
use Rattle.dcc_plan.proofs.Sides.{side-has, sides-marked}

-- How many steps lines have, those inside others too, and how many a statement has after its first one.
abbrev mutual
  pub lines_count : Lines → ℕ
  lines_count no_lines = 0
  lines_count (line stmt at lines) = suc (inside_count stmt + lines_count lines)

  pub inside_count : Stmt → ℕ
  inside_count (tree.If e body otherwise) = lines_count body + lines_count otherwise
  inside_count (tree.While e body) = suc (lines_count body)
  inside_count (tree.DoWhile body e) = suc (lines_count body)
  inside_count (tree.Forever body) = lines_count body
  inside_count (tree.Switch e arms last) = arms_count arms + arms_count last
  inside_count _ = 0

  pub arms_count : tree.Arms → ℕ
  arms_count tree.no_arms = 0
  arms_count (tree.arm cases body arms) = lines_count body + arms_count arms

mutual
  pub count-is : (lines : Lines) → lines_count lines ≡ steps_in lines
  count-is no_lines = refl
  count-is (line stmt at lines) = let first = inside-is stmt in let others = count-is lines in omega (arith, first, others)

  inside-is : (stmt : Stmt) → suc (inside_count stmt) ≡ stmt_steps stmt
  inside-is (tree.If e body otherwise) = ap₂ (λ a b. suc (a + b)) (count-is body) (count-is otherwise)
  inside-is (tree.While e body) = ap (λ a. suc (suc a)) (count-is body)
  inside-is (tree.DoWhile body e) = ap (λ a. suc (suc a)) (count-is body)
  inside-is (tree.Forever body) = ap suc (count-is body)
  inside-is (tree.Switch e arms last) = ap₂ (λ a b. suc (a + b)) (arms-are arms) (arms-are last)
  inside-is (tree.Assign place e) = refl
  inside-is (tree.Call place function arguments depth) = refl
  inside-is tree.Break = refl
  inside-is tree.Continue = refl
  inside-is (tree.Goto word) = refl
  inside-is (tree.Label word) = refl
  inside-is tree.Empty = refl
  inside-is (tree.Return e) = refl

  arms-are : (arms : tree.Arms) → arms_count arms ≡ arm_steps arms
  arms-are tree.no_arms = refl
  arms-are (tree.arm cases body arms) = ap₂ (λ a b. a + b) (count-is body) (arms-are arms)

-- how many steps are left, without those of turns to come
abbrev pub left : Continuation → ℕ
left (ends_function at) = 0
left (runs lines rest) = lines_count lines + left rest
left (tests e body at rest) = suc (left rest)
left (turns body rest) = left rest
left (ends_switch rest) = left rest

-- the next statement only goes elsewhere, or on
abbrev pub is_jump_stmt : Stmt → Bool
is_jump_stmt (tree.Goto word) = true
is_jump_stmt tree.Break = true
is_jump_stmt tree.Continue = true
is_jump_stmt tree.Empty = true
is_jump_stmt _ = false

abbrev pub is_jumping : Continuation → Bool
is_jumping (runs no_lines rest) = is_jumping rest
is_jumping (runs (line stmt at lines) rest) = is_jump_stmt stmt
is_jumping (ends_switch rest) = is_jumping rest
is_jumping _ = false

-- the contexts inside loops and inside a choice that stand in this one
abbrev pub loop_context : ℕ → Context → Context
loop_context b c = record { next = Begin b; at_break = c.next; at_continue = Begin b }

-- where a loop that tests first and one that tests last stand before the test, which is at the end of the block
abbrev pub test_point : inner.Graph → Bool → ℕ → Point
test_point graph true b = Begin b
test_point graph false b = end_of graph b

-- where `continue` leads in them
abbrev pub continue_point : Bool → ℕ → Point
continue_point true b = Begin b
continue_point false b = Nowhere

abbrev pub test_context : inner.Graph → Bool → ℕ → Context → Context
test_context graph first b c =
    record { next = test_point graph first b; at_break = c.next; at_continue = continue_point first b }

abbrev pub choice_context : Context → Context
choice_context c = record { next = c.next; at_break = c.next; at_continue = c.at_continue }

-- a point where a block begins, or none
pub data IsStart : Point → Type 0 where
  is_nowhere : IsStart Nowhere
  is_begin : {b : ℕ} → IsStart (Begin b)

module _ (s : Spelling) (graph : inner.Graph) (whole : Plan) where
  abbrev begun : ℕ → Bool
  begun b = is_begun whole b

  -- the text has a step where the blocks of these labels and loops begin
  abbrev mutual
    pub AreBegun : Plan → Type 0
    AreBegun no_items = Unit {0}
    AreBegun (item i p) = IsBegun i × AreBegun p

    pub IsBegun : Item → Type 0
    IsBegun (plan.Mark b) = begun b ≡ true
    IsBegun (plan.If b one other) = AreBegun one × AreBegun other
    IsBegun (plan.Switch b arms) = ArmsBegun arms
    IsBegun (plan.For b body) = (begun b ≡ true) × AreBegun body
    IsBegun (plan.While on b body) = AreBegun body
    IsBegun (plan.DoWhile on b head body) = AreBegun body
    IsBegun _ = Unit {0}

    pub ArmsBegun : Arms → Type 0
    ArmsBegun plan.no_arms = Unit {0}
    ArmsBegun (plan.arm cases body arms) = AreBegun body × ArmsBegun arms

  -- valid items whose labels and loops stand so
  abbrev pub Sound : Plan → Context → Type 0
  Sound p c = IsValid graph whole p c × AreBegun p

  abbrev pub SoundItem : Item → Plan → Context → Type 0
  SoundItem i later c = IsValidItem graph whole i later c × IsBegun i

  abbrev pub SoundArms : Arms → Context → Type 0
  SoundArms arms c = AreValidArms graph whole arms c × ArmsBegun arms

  -- A loop with a test at the end of a block: where the test leads, and a turn that is valid. One that tests first has no
  -- statements in that block, and one that tests last starts with an item of a block.
  pub record IsTesting (first on : Bool) (b : ℕ) (body : Plan) (c : Context) : Type 0 where
    pub test : inner.Expr
    pub if_true : ℕ
    pub if_false : ℕ
    pub exit : (block_in graph b).exit ≡ inner.If test if_true if_false
    pub within : b < length graph.blocks
    pub alone : first ≡ true → (block_in graph b).stmts ≡ []
    pub starts : first ≡ false → (head : ℕ) × (starts_with head body ≡ true)
    pub leads : Leads graph begun (Begin (way on if_true if_false)) (entry graph body (test_context graph first b c))
    pub valid : Sound body (test_context graph first b c)
    pub ends : Leads graph begun (Begin (way (not on) if_true if_false)) c.next

  pub while-testing : (on : Bool) (b : ℕ) (body later : Plan) (c : Context) → SoundItem (plan.While on b body) later c
      → IsTesting true on b body (record c { next = entry graph later c })
  while-testing on b body later c ((test, if_true, if_false, exit, within, none, leads, valid, ends), begins) = record {
    test = test;
    if_true = if_true;
    if_false = if_false;
    exit = exit;
    within = within;
    alone = λ is. none;
    starts = λ is. absurd (true≢false is);
    leads = leads;
    valid = (valid, begins);
    ends = ends;
  }

  pub do-testing : (on : Bool) (b head : ℕ) (body later : Plan) (c : Context) → SoundItem (plan.DoWhile on b head body) later c
      → IsTesting false on b body (record c { next = entry graph later c })
  do-testing on b head body later c ((test, if_true, if_false, exit, within, known, starts, first, leads, valid, ends), begins) = record {
    test = test;
    if_true = if_true;
    if_false = if_false;
    exit = exit;
    within = within;
    alone = λ is. absurd (true≢false (sym is));
    starts = λ is. (head, starts);
    leads = leads;
    valid = (valid, begins);
    ends = ends;
  }

  -- What is left is the text of valid plans, in a context; a turn has no more steps than the limit.
  pub data Stands (limit : ℕ) : Continuation → Context → Type 0 where
    closes : {at : ℕ} → Stands limit (ends_function at) outside
    goes : {plan : Plan} {lines : Lines} {rest : Continuation} {c : Context} → IsPlanText s graph plan lines → Sound plan c → Stands limit rest c
        → Stands limit (runs lines rest) (record c { next = entry graph plan c })
    loops : {b : ℕ} {body : Plan} {lines : Lines} {rest : Continuation} {c : Context} → IsPlanText s graph body lines → b < length graph.blocks → begun b ≡ true
        → Leads graph begun (Before b 0) (entry graph body (loop_context b c)) → Sound body (loop_context b c) → Stands limit rest c
        → suc (lines_count lines + left rest) ≤ limit → Stands limit (turns lines rest) (loop_context b c)
    retests : {first on : Bool} {b at : ℕ} {body : Plan} {lines : Lines} {rest : Continuation} {c : Context} → IsPlanText s graph body lines → IsTesting first on b body c → Stands limit rest c
        → suc (suc (lines_count lines + left rest)) ≤ limit → Stands limit (tests (text_of_way s on (block_in graph b).exit) lines at rest) (test_context graph first b c)
    leaves : {rest : Continuation} {c : Context} → Stands limit rest c → Stands limit (ends_switch rest) (choice_context c)

  -- The next statement, with its item.
  pub record AtItem (limit : ℕ) (k : Continuation) (next : Point) : Type 0 where
    pub first : Item
    pub later : Plan
    pub context : Context
    pub stmt : Stmt
    pub at : ℕ
    pub lines : Lines
    pub rest : Continuation
    pub text : IsItemText s graph first stmt
    pub later_text : IsPlanText s graph later lines
    pub valid : SoundItem first later context
    pub later_valid : Sound later context
    pub stands : Stands limit rest context
    pub is : next ≡ item_entry graph first (in_sides graph later context)
    pub steps : (t : Tree) (u : State) → step_at t k u ≡ stmt_step t stmt at (goes_on (runs lines rest) u)
    pub count : left k ≡ suc (inside_count stmt + lines_count lines + left rest)
    pub jumps : is_jumping k ≡ is_jump_stmt stmt

  -- A turn of a loop.
  pub record AtTurn (limit : ℕ) (k : Continuation) (next : Point) : Type 0 where
    pub b : ℕ
    pub body : Plan
    pub context : Context
    pub lines : Lines
    pub rest : Continuation
    pub text : IsPlanText s graph body lines
    pub within : b < length graph.blocks
    pub begun_is : begun b ≡ true
    pub leads : Leads graph begun (Before b 0) (entry graph body (loop_context b context))
    pub valid : Sound body (loop_context b context)
    pub stands : Stands limit rest context
    pub few : suc (lines_count lines + left rest) ≤ limit
    pub is : next ≡ Begin b
    pub steps : (t : Tree) (u : State) → step_at t k u ≡ goes_on (runs lines (turns lines rest)) u
    pub jumps : is_jumping k ≡ false

  -- The test of a loop.
  pub record AtTest (limit : ℕ) (k : Continuation) (next : Point) : Type 0 where
    pub first : Bool
    pub on : Bool
    pub b : ℕ
    pub at : ℕ
    pub body : Plan
    pub context : Context
    pub lines : Lines
    pub rest : Continuation
    pub text : IsPlanText s graph body lines
    pub testing : IsTesting first on b body context
    pub stands : Stands limit rest context
    pub few : suc (suc (lines_count lines + left rest)) ≤ limit
    pub is : next ≡ test_point graph first b
    pub steps : (t : Tree) (u : State) → step_at t k u ≡ step_at t (tests (text_of_way s on (block_in graph b).exit) lines at rest) u
    pub count : left k ≡ suc (left rest)
    pub jumps : is_jumping k ≡ false

  pub data Head (limit : ℕ) (k : Continuation) (next : Point) : Type 0 where
    at_item : AtItem limit k next → Head limit k next
    at_turn : AtTurn limit k next → Head limit k next
    at_test : AtTest limit k next → Head limit k next
    at_end : next ≡ Nowhere → Head limit k next

  -- a rest of the text before an end that is no step stands as that rest does
  past-end : (limit : ℕ) (k k' : Continuation) (next : Point) → ((t : Tree) (u : State) → step_at t k' u ≡ step_at t k u) → left k' ≡ left k → is_jumping k' ≡ is_jumping k → Head limit k next
      → Head limit k' next
  past-end limit k k' next same count jumps (at_item x) = at_item (record {
    first = x.first;
    later = x.later;
    context = x.context;
    stmt = x.stmt;
    at = x.at;
    lines = x.lines;
    rest = x.rest;
    text = x.text;
    later_text = x.later_text;
    valid = x.valid;
    later_valid = x.later_valid;
    stands = x.stands;
    is = x.is;
    steps = λ t u. same t u ∙ x.steps t u;
    count = count ∙ x.count;
    jumps = jumps ∙ x.jumps;
  })
  past-end limit k k' next same count jumps (at_turn x) = at_turn (record {
    b = x.b;
    body = x.body;
    context = x.context;
    lines = x.lines;
    rest = x.rest;
    text = x.text;
    within = x.within;
    begun_is = x.begun_is;
    leads = x.leads;
    valid = x.valid;
    stands = x.stands;
    few = x.few;
    is = x.is;
    steps = λ t u. same t u ∙ x.steps t u;
    jumps = jumps ∙ x.jumps;
  })
  past-end limit k k' next same count jumps (at_test x) = at_test (record {
    first = x.first;
    on = x.on;
    b = x.b;
    at = x.at;
    body = x.body;
    context = x.context;
    lines = x.lines;
    rest = x.rest;
    text = x.text;
    testing = x.testing;
    stands = x.stands;
    few = x.few;
    is = x.is;
    steps = λ t u. same t u ∙ x.steps t u;
    count = count ∙ x.count;
    jumps = jumps ∙ x.jumps;
  })
  past-end limit k k' next same count jumps (at_end e) = at_end e

  pub head : {limit : ℕ} {k : Continuation} {c : Context} → Stands limit k c → Head limit k c.next
  head closes = at_end refl
  head (goes {rest = rest} {c = c} nothing valid stands) = past-end _ rest (runs no_lines rest) c.next (λ t u. refl) (omega arith) refl (head stands)
  head (goes {rest = rest} {c = c} (one_more {i = i} {stmt = stmt} {at = at} {plan = later} {lines = lines} text others) valid stands) = at_item (record {
    first = i;
    later = later;
    context = c;
    stmt = stmt;
    at = at;
    lines = lines;
    rest = rest;
    text = text;
    later_text = others;
    valid = (valid.0.0, valid.1.0);
    later_valid = (valid.0.1, valid.1.1);
    stands = stands;
    is = refl;
    steps = λ t u. refl;
    count = omega arith;
    jumps = refl;
  })
  head (loops {b = b} {body = body} {lines = lines} {rest = rest} {c = c} text within begins leads valid stands few) = at_turn (record {
    b = b;
    body = body;
    context = c;
    lines = lines;
    rest = rest;
    text = text;
    within = within;
    begun_is = begins;
    leads = leads;
    valid = valid;
    stands = stands;
    few = few;
    is = refl;
    steps = λ t u. refl;
    jumps = refl;
  })
  head (retests {first = first} {on = on} {b = b} {at = at} {body = body} {lines = lines} {rest = rest} {c = c} text testing stands few) = at_test (record {
    first = first;
    on = on;
    b = b;
    at = at;
    body = body;
    context = c;
    lines = lines;
    rest = rest;
    text = text;
    testing = testing;
    stands = stands;
    few = few;
    is = refl;
    steps = λ t u. refl;
    count = refl;
    jumps = refl;
  })
  head (leaves {rest = rest} {c = c} stands) = past-end _ rest (ends_switch rest) c.next (λ t u. refl) refl refl (head stands)

  -- Jumps.

  -- a continuation that stands for a point, and is no jump itself
  pub record Lands (limit most : ℕ) (settled : Bool) (next : Point) (o : Option Continuation) : Type 0 where
    pub to : Continuation
    pub context : Context
    pub found : o ≡ Some to
    pub stands : Stands limit to context
    pub is : context.next ≡ next
    pub quiet : settled ≡ true → is_jumping to ≡ false
    pub few : left to ≤ most

  -- more statements left
  more : {limit most : ℕ} {settled : Bool} {next : Point} {o : Option Continuation} (most' : ℕ) → most ≤ most' → Lands limit most settled next o → Lands limit most' settled next o
  more most' within x = record { to = x.to; context = x.context; found = x.found; stands = x.stands; is = x.is; quiet = x.quiet; few = omega (arith, x.few, within) }

  pub break-lands : {limit : ℕ} {k : Continuation} {c : Context} → Stands limit k c → (c.at_break ≡ Nowhere) ⊎ Lands limit (left k) false c.at_break (after_break k)
  break-lands closes = inl refl
  break-lands (goes {lines = lines} {rest = rest} text valid stands) = elim (break-lands stands) [ inl none ↦ inl none | inr x ↦ inr (more (lines_count lines + left rest) (omega arith) x) ]
  break-lands (loops {rest = rest} {c = c} text within begins leads valid stands few) =
      inr (record { to = rest; context = c; found = refl; stands = stands; is = refl; quiet = λ e. absurd (true≢false (sym e)); few = omega arith })
  break-lands (retests {rest = rest} {c = c} text testing stands few) =
      inr (record { to = rest; context = c; found = refl; stands = stands; is = refl; quiet = λ e. absurd (true≢false (sym e)); few = omega arith })
  break-lands (leaves {rest = rest} {c = c} stands) = inr (record { to = rest; context = c; found = refl; stands = stands; is = refl; quiet = λ e. absurd (true≢false (sym e)); few = omega arith })

  -- `continue` in a loop that tests first leads to the test
  test-continues : {limit : ℕ} (first on : Bool) (b at : ℕ) (lines : Lines) (rest : Continuation) (c : Context)
      → Stands limit (tests (text_of_way s on (block_in graph b).exit) lines at rest) (test_context graph first b c)
      → (continue_point first b ≡ Nowhere) ⊎ Lands limit (suc (left rest)) true (continue_point first b) (Some (tests (text_of_way s on (block_in graph b).exit) lines at rest))
  test-continues true on b at lines rest c stands = inr (record {
    to = tests (text_of_way s on (block_in graph b).exit) lines at rest;
    context = test_context graph true b c;
    found = refl;
    stands = stands;
    is = refl;
    quiet = λ e. refl;
    few = omega arith;
  })
  test-continues false on b at lines rest c stands = inl refl

  test-starts : (first : Bool) (b : ℕ) → IsStart (continue_point first b)
  test-starts true b = is_begin
  test-starts false b = is_nowhere

  pub continue-lands : {limit : ℕ} {k : Continuation} {c : Context} → Stands limit k c → (c.at_continue ≡ Nowhere) ⊎ Lands limit (left k) true c.at_continue (after_continue k)
  continue-lands closes = inl refl
  continue-lands (goes {lines = lines} {rest = rest} text valid stands) = elim (continue-lands stands) [ inl none ↦ inl none | inr x ↦ inr (more (lines_count lines + left rest) (omega arith) x) ]
  continue-lands (loops {b = b} {lines = lines} {rest = rest} {c = c} text within begins leads valid stands few) =
      inr (record { to = turns lines rest; context = loop_context b c; found = refl; stands = loops text within begins leads valid stands few; is = refl; quiet = λ e. refl; few = omega arith })
  continue-lands (retests {first = first} {on = on} {b = b} {at = at} {lines = lines} {rest = rest} {c = c} text testing stands few) =
      test-continues first on b at lines rest c (retests text testing stands few)
  continue-lands (leaves stands) = continue-lands stands

  pub continue-starts : {limit : ℕ} {k : Continuation} {c : Context} → Stands limit k c → IsStart c.at_continue
  continue-starts closes = is_nowhere
  continue-starts (goes text valid stands) = continue-starts stands
  continue-starts (loops text within begins leads valid stands few) = is_begin
  continue-starts (retests {first = first} {b = b} text testing stands few) = test-starts first b
  continue-starts (leaves stands) = continue-starts stands

  -- Labels.

  -- the label of that block isn't there, or a jump to it lands at the block's begin
  pub data Search (limit most b : ℕ) (has : Bool) (o : Option Continuation) : Type 0 where
    absent : has ≡ false → o ≡ None → Search limit most b has o
    lands : Lands limit most true (Begin b) o → Search limit most b has o

  wider : {limit most b : ℕ} {has : Bool} {o : Option Continuation} (most' : ℕ) → most ≤ most' → Search limit most b has o → Search limit most' b has o
  wider most' within (absent none gone) = absent none gone
  wider most' within (lands x) = lands (more most' within x)

  -- in one of two parts
  in-either : (limit most b : ℕ) (has also : Bool) (o o' : Option Continuation) → Search limit most b has o → Search limit most b also o' → Search limit most b (has || also) (first_of o o')
  in-either limit most b has also o o' (absent none gone) (absent none' gone') = absent (ap₂ (λ a b. a || b) none none') (ap₂ first_of gone gone')
  in-either limit most b has also o o' (absent none gone) (lands x) =
      lands (record { to = x.to; context = x.context; found = ap₂ first_of gone x.found; stands = x.stands; is = x.is; quiet = x.quiet; few = x.few })
  in-either limit most b has also o o' (lands x) other =
      lands (record { to = x.to; context = x.context; found = ap (λ a. first_of a o') x.found; stands = x.stands; is = x.is; quiet = x.quiet; few = x.few })

  -- in the first part, where the second has none
  in-front : (limit most b : ℕ) (has : Bool) (o : Option Continuation) → Search limit most b has o → Search limit most b has (first_of o None)
  in-front limit most b has o (absent none gone) = absent none (ap (λ a. first_of a None) gone)
  in-front limit most b has o (lands x) = lands (record { to = x.to; context = x.context; found = ap (λ a. first_of a None) x.found; stands = x.stands; is = x.is; quiet = x.quiet; few = x.few })

  -- the label stands in a list of blocks or in another
  in-lists : (limit most b : ℕ) (ones others : List ℕ) (o : Option Continuation) → Search limit most b (is_in b ones || is_in b others) o → Search limit most b (is_in b (ones ++ others)) o
  in-lists limit most b ones others o x = subst (λ has. Search limit most b has o) (sym (list_any-append (λ a. a == b) ones others)) x

  -- a statement of the graph is no label, and has no others inside
  pub record IsPlain (stmt : Stmt) : Type 0 where
    pub no_label : (word : Word) (at : ℕ) (lines : Lines) (rest : Continuation) → from_label_inside word stmt at lines rest ≡ None
    pub no_inside : inside_count stmt ≡ 0

  stmt-plain : (stmt : inner.Stmt) → IsPlain (stmt_text s 2 stmt)
  stmt-plain (inner.Set location e) = record { no_label = λ word at lines rest. refl; no_inside = refl }
  stmt-plain (inner.Fetch location width address) = record { no_label = λ word at lines rest. refl; no_inside = refl }
  stmt-plain (inner.Store width address e) = record { no_label = λ word at lines rest. refl; no_inside = refl }
  stmt-plain (inner.Div location e) = record { no_label = λ word at lines rest. refl; no_inside = refl }
  stmt-plain (inner.Call results entry arguments own) = record { no_label = λ word at lines rest. refl; no_inside = refl }
  stmt-plain (inner.Dos number place argument) = record { no_label = λ word at lines rest. refl; no_inside = refl }

  pub do-plain : (b m : ℕ) → IsPlain (text_of_stmt s graph b m)
  do-plain b m = by (slice_get (block_in graph b).stmts m)
    where
      by : (o : Option inner.Stmt) → IsPlain (elim o [ Some stmt ↦ stmt_text s 2 stmt | None ↦ tree.Empty ])
      by (Some stmt) = stmt-plain stmt
      by None = record { no_label = λ word at lines rest. refl; no_inside = refl }

  pub return-plain : (exit : inner.Exit) → IsPlain (text_of_return s exit)
  return-plain (inner.Goto next) = record { no_label = λ word at lines rest. refl; no_inside = refl }
  return-plain (inner.If test one other) = record { no_label = λ word at lines rest. refl; no_inside = refl }
  return-plain (inner.Switch e places) = record { no_label = λ word at lines rest. refl; no_inside = refl }
  return-plain (inner.Ret values) = record { no_label = λ word at lines rest. refl; no_inside = refl }
  return-plain inner.Stop = record { no_label = λ word at lines rest. refl; no_inside = refl }

  -- and no jump, where it is there
  stmt-quiet : (stmt : inner.Stmt) → is_jump_stmt (stmt_text s 2 stmt) ≡ false
  stmt-quiet (inner.Set location e) = refl
  stmt-quiet (inner.Fetch location width address) = refl
  stmt-quiet (inner.Store width address e) = refl
  stmt-quiet (inner.Div location e) = refl
  stmt-quiet (inner.Call results entry arguments own) = refl
  stmt-quiet (inner.Dos number place argument) = refl

  pub do-quiet : (b m : ℕ) → m < length (block_in graph b).stmts → is_jump_stmt (text_of_stmt s graph b m) ≡ false
  do-quiet b m less = elim (slice_get_cases (block_in graph b).stmts m).1 [
    | inl x ↦ ap (λ o. is_jump_stmt (elim o [ Some stmt ↦ stmt_text s 2 stmt | None ↦ tree.Empty ])) x.2 ∙ stmt-quiet x.0
    | inr past ↦ (let over = past.0 in absurd (omega (arith, less, over)))
  ]

  pub return-quiet : (exit : inner.Exit) (values : List inner.Expr) → exit ≡ inner.Ret values → is_jump_stmt (text_of_return s exit) ≡ false
  return-quiet exit values is = ap (λ e. is_jump_stmt (text_of_return s e)) is

  -- what starts with an item of a block starts with no jump
  pub starts-quiet : (head : ℕ) (p : Plan) (c : Context) (lines : Lines) (rest : Continuation) → IsPlanText s graph p lines → IsValid graph whole p c → starts_with head p ≡ true
      → is_jumping (runs lines rest) ≡ false
  starts-quiet head no_items c lines rest text valid is = absurd (true≢false (sym is))
  starts-quiet head (item i p) c no_lines rest text valid is = elim text [ ]
  starts-quiet head (item i p) c (line stmt at lines) rest (one_more text others) valid is = by i stmt text valid.0 is
    where
      by : (i : Item) (stmt : Stmt) → IsItemText s graph i stmt → IsValidItem graph whole i p c → plan.is_of head i ≡ true → is_jump_stmt stmt ≡ false
      by (plan.Do a m) stmt planned.does here is = do-quiet a m here.1
      by (plan.If a one other) stmt (planned.tests x y) here is = refl
      by (plan.Switch a arms) stmt (planned.chooses x) here is = refl
      by (plan.Mark a) stmt x here is = absurd (true≢false (sym is))
      by (plan.Jump a) stmt x here is = absurd (true≢false (sym is))
      by (plan.Return a) stmt x here is = absurd (true≢false (sym is))
      by (plan.For a body) stmt x here is = absurd (true≢false (sym is))
      by (plan.While on a body) stmt x here is = absurd (true≢false (sym is))
      by (plan.DoWhile on a head body) stmt x here is = absurd (true≢false (sym is))
      by plan.Break stmt x here is = absurd (true≢false (sym is))
      by plan.Continue stmt x here is = absurd (true≢false (sym is))
      by plan.Empty stmt x here is = absurd (true≢false (sym is))

  module _ (limit : ℕ) (well : IsGraph graph) (b : ℕ) (known : b < length graph.blocks) where
    abbrev word : Word
    word = label_at graph.blocks b

    at-label : (a at : ℕ) (later : Plan) (lines : Lines) (rest : Continuation) (c : Context) → SoundItem (plan.Mark a) later c → IsPlanText s graph later lines → Sound later c
        → Stands limit rest c → Search limit (suc (0 + lines_count lines + left rest)) b (is_in b (a ∷ [])) (from_label_inside word (tree.Label (label_at graph.blocks a)) at lines rest)
    at-label a at later lines rest c valid text later_valid stands = by (a == b) refl
      where
        by : (same : Bool) → (a == b) ≡ same → Search limit (suc (0 + lines_count lines + left rest)) b ((a == b) || false) (from_label_inside word (tree.Label (label_at graph.blocks a)) at lines rest)
        by true same = lands (record {
          to = runs (line (tree.Label (label_at graph.blocks a)) at lines) rest;
          context = record c { next = Begin a };
          found = ap (λ x. if x then Some (runs (line (tree.Label (label_at graph.blocks a)) at lines) rest) else None) (label-tested graph well a b valid.0.0 known ∙ same);
          stands = goes (one_more planned.marks text) ((valid.0, later_valid.0), (valid.1, later_valid.1)) stands;
          is = ap Begin (eqb-true a b same);
          quiet = λ e. refl;
          few = omega arith;
        })
        by false apart = absent (ap (λ x. x || false) apart)
            (ap (λ x. if x then Some (runs (line (tree.Label (label_at graph.blocks a)) at lines) rest) else None) (label-tested graph well a b valid.0.0 known ∙ apart))

    mutual
      pub search-plan : (p : Plan) (lines : Lines) (rest : Continuation) (c : Context) → IsPlanText s graph p lines → Sound p c → Stands limit rest c → lines_count lines + left rest ≤ limit
          → Search limit (lines_count lines + left rest) b (is_in b (marks p)) (from_label word lines rest)
      search-plan no_items no_lines rest c nothing valid stands few = absent refl refl
      search-plan no_items (line stmt at lines) rest c text valid stands few = elim text [ ]
      search-plan (item i p) no_lines rest c text valid stands few = elim text [ ]
      search-plan (item i p) (line stmt at lines) rest c (one_more text others) valid stands few =
          in-lists limit _ b (item_marks i) (marks p) _
          (in-either limit _ b (is_in b (item_marks i)) (is_in b (marks p)) _ _
          (wider (lines_count (line stmt at lines) + left rest) (omega arith) (search-item i stmt at p lines rest c text (valid.0.0, valid.1.0) others (valid.0.1, valid.1.1) stands (omega (arith, few))))
          (wider (lines_count (line stmt at lines) + left rest) (omega arith) (search-plan p lines rest c others (valid.0.1, valid.1.1) stands (omega (arith, few)))))

      search-item : (i : Item) (stmt : Stmt) (at : ℕ) (later : Plan) (lines : Lines) (rest : Continuation) (c : Context) → IsItemText s graph i stmt → SoundItem i later c
          → IsPlanText s graph later lines → Sound later c → Stands limit rest c → suc (inside_count stmt + lines_count lines + left rest) ≤ limit
          → Search limit (suc (inside_count stmt + lines_count lines + left rest)) b (is_in b (item_marks i)) (from_label_inside word stmt at lines rest)
      search-item (plan.Do a m) stmt at later lines rest c planned.does valid others later_valid stands few = absent refl ((do-plain a m).no_label word at lines rest)
      search-item (plan.Mark a) stmt at later lines rest c planned.marks valid others later_valid stands few = at-label a at later lines rest c valid others later_valid stands
      search-item (plan.Jump a) stmt at later lines rest c planned.jumps valid others later_valid stands few = absent refl refl
      search-item (plan.If a one other) stmt at later lines rest c (planned.tests {first = first} {second = second} text text') valid others later_valid stands few =
          let inside = goes others later_valid stands in
          let most = suc (lines_count first + lines_count second + lines_count lines + left rest) in
          let has : (on : Bool) → Sound (planned.side on one other) (in_sides graph later c) =
          λ on. side-has (λ p. Sound p (in_sides graph later c)) on one other (valid.0.6, valid.1.0) (valid.0.8, valid.1.1) in
          let on = planned.is_true_first graph one other in
          let here = planned.side on one other in
          let there = planned.side (not on) one other in
          subst (λ has. Search limit most b has (from_label_inside word stmt at lines rest))
          (sym (list_any-IsPermutation (λ a. a == b) (marks one ++ marks other) (marks here ++ marks there) (sides-marked on one other)))
          (in-lists limit _ b (marks here) (marks there) _
          (in-either limit _ b (is_in b (marks here)) (is_in b (marks there)) _ _
          (wider most (omega arith) (search-plan here first (runs lines rest) _ text (has on) inside (omega (arith, few))))
          (wider most (omega arith) (search-plan there second (runs lines rest) _ text' (has (not on)) inside (omega (arith, few))))))
      search-item (plan.Switch a arms) stmt at later lines rest c (planned.chooses {bodies = bodies} text) valid others later_valid stands few =
          let inside = leaves (goes others later_valid stands) in
          in-front limit (suc (arms_count bodies + 0 + lines_count lines + left rest)) b (is_in b (arm_marks arms)) (from_label_in_arms word bodies (ends_switch (runs lines rest)))
          (wider (suc (arms_count bodies + 0 + lines_count lines + left rest)) (omega arith) (search-arms arms bodies (ends_switch (runs lines rest)) _ text (valid.0.5, valid.1) inside (omega (arith, few))))
      search-item (plan.Return a) stmt at later lines rest c planned.returns valid others later_valid stands few = absent refl ((return-plain (block_in graph a).exit).no_label word at lines rest)
      search-item (plan.For a body) stmt at later lines rest c (planned.repeats {lines = inner_lines} text) valid others later_valid stands few =
          wider (suc (lines_count inner_lines + lines_count lines + left rest)) (omega arith)
          (search-plan body inner_lines (turns inner_lines (runs lines rest)) _ text (valid.0.2, valid.1.1) (loops text valid.0.0 valid.1.0 valid.0.1 (valid.0.2, valid.1.1) (goes others later_valid stands) (omega (arith, few))) (omega (arith, few)))
      search-item (plan.While on a body) stmt at later lines rest c (planned.tests_first {lines = inner_lines} text) valid others later_valid stands few =
          let testing = while-testing on a body later c valid in
          wider (suc (suc (lines_count inner_lines) + lines_count lines + left rest)) (omega arith)
          (search-plan body inner_lines (tests (text_of_way s on (block_in graph a).exit) inner_lines at (runs lines rest)) _ text testing.valid
          (retests text testing (goes others later_valid stands) (omega (arith, few))) (omega (arith, few)))
      search-item (plan.DoWhile on a top body) stmt at later lines rest c (planned.tests_last {lines = inner_lines} text) valid others later_valid stands few =
          let testing = do-testing on a top body later c valid in
          wider (suc (suc (lines_count inner_lines) + lines_count lines + left rest)) (omega arith)
          (search-plan body inner_lines (tests (text_of_way s on (block_in graph a).exit) inner_lines at (runs lines rest)) _ text testing.valid
          (retests text testing (goes others later_valid stands) (omega (arith, few))) (omega (arith, few)))
      search-item plan.Break stmt at later lines rest c planned.breaks valid others later_valid stands few = absent refl refl
      search-item plan.Continue stmt at later lines rest c planned.continues valid others later_valid stands few = absent refl refl
      search-item plan.Empty stmt at later lines rest c planned.does_nothing valid others later_valid stands few = absent refl refl

      search-arms : (arms : Arms) (bodies : tree.Arms) (rest : Continuation) (c : Context) → AreArmsText s graph arms bodies → SoundArms arms c → Stands limit rest c
          → arms_count bodies + left rest ≤ limit → Search limit (arms_count bodies + left rest) b (is_in b (arm_marks arms)) (from_label_in_arms word bodies rest)
      search-arms plan.no_arms tree.no_arms rest c planned.no_more valid stands few = absent refl refl
      search-arms plan.no_arms (tree.arm cases lines bodies) rest c text valid stands few = elim text [ ]
      search-arms (plan.arm cases body arms) tree.no_arms rest c text valid stands few = elim text [ ]
      search-arms (plan.arm cases body arms) (tree.arm cases' lines bodies) rest c (planned.next_arm text others) valid stands few =
          in-lists limit _ b (marks body) (arm_marks arms) _
          (in-either limit _ b (is_in b (marks body)) (is_in b (arm_marks arms)) _ _
          (wider (lines_count lines + arms_count bodies + left rest) (omega arith) (search-plan body lines rest c text (valid.0.0, valid.1.0) stands (omega (arith, few))))
          (wider (lines_count lines + arms_count bodies + left rest) (omega arith) (search-arms arms bodies rest c others (valid.0.1, valid.1.1) stands (omega (arith, few)))))

  -- the labels and loops of the plan are among those of the whole plan, where that is known of their blocks
  abbrev Among : List ℕ → Type 0
  Among few = (b : ℕ) → is_in b few ≡ true → begun b ≡ true

  first-among : (xs ys : List ℕ) → Among (xs ++ ys) → Among xs
  first-among xs ys all b found = all b (list_any-append (λ a. a == b) xs ys ∙ or_left (is_in b xs) (is_in b ys) found)

  later-among : (xs ys : List ℕ) → Among (xs ++ ys) → Among ys
  later-among xs ys all b found = all b (list_any-append (λ a. a == b) xs ys ∙ or_right (is_in b xs) (is_in b ys) found)

  one-among : (b : ℕ) (bs : List ℕ) → Among (b ∷ bs) → begun b ≡ true
  one-among b bs all = all b (or_left (b == b) (is_in b bs) (eq-eqb b b refl))

  mutual
    are-begun : (p : Plan) → Among (marks p) → Among (turns_of p) → AreBegun p
    are-begun no_items ms ts = tt
    are-begun (item i p) ms ts = (
      is-begun i (first-among (item_marks i) (marks p) ms) (first-among (item_turns i) (turns_of p) ts),
      are-begun p (later-among (item_marks i) (marks p) ms) (later-among (item_turns i) (turns_of p) ts),
    )

    is-begun : (i : Item) → Among (item_marks i) → Among (item_turns i) → IsBegun i
    is-begun (plan.Do b m) ms ts = tt
    is-begun (plan.Mark b) ms ts = one-among b [] ms
    is-begun (plan.Jump b) ms ts = tt
    is-begun (plan.If b one other) ms ts = (
      are-begun one (first-among (marks one) (marks other) ms) (first-among (turns_of one) (turns_of other) ts),
      are-begun other (later-among (marks one) (marks other) ms)
          (later-among (turns_of one) (turns_of other) ts),
    )
    is-begun (plan.Switch b arms) ms ts = arms-begun arms ms ts
    is-begun (plan.Return b) ms ts = tt
    is-begun (plan.For b body) ms ts = (one-among b (turns_of body) ts, are-begun body ms (λ a found. ts a (or_right (b == a) (is_in a (turns_of body)) found)))
    is-begun (plan.While on b body) ms ts = are-begun body ms ts
    is-begun (plan.DoWhile on b top body) ms ts = are-begun body ms ts
    is-begun plan.Break ms ts = tt
    is-begun plan.Continue ms ts = tt
    is-begun plan.Empty ms ts = tt

    arms-begun : (arms : Arms) → Among (arm_marks arms) → Among (arm_turns arms) → ArmsBegun arms
    arms-begun plan.no_arms ms ts = tt
    arms-begun (plan.arm cases body arms) ms ts = (
      are-begun body (first-among (marks body) (arm_marks arms) ms) (first-among (turns_of body) (arm_turns arms) ts),
      arms-begun arms (later-among (marks body) (arm_marks arms) ms)
          (later-among (turns_of body) (arm_turns arms) ts),
    )

  -- the labels and loops of the whole plan
  pub whole-begun : AreBegun whole
  whole-begun = are-begun whole (λ b found. or_left (is_in b (marks whole)) (is_in b (turns_of whole)) found) (λ b found. or_right (is_in b (marks whole)) (is_in b (turns_of whole)) found)
