-- The text of a plan.
use Rattle.std.specs.Prelude.{ℕ, nat_le, Bool, true, false, not, if◌then◌else◌, List, slice_get, Option, Some, None}
use Rattle.std.specs.Prelude.{option_map}
use Rattle.dcc_ir.specs.Tree as inner
use Rattle.dcc_ir.specs.Live.{block_in}
use Rattle.dcc_c.specs.declared.syntax.Base.TheVariants.{Int}
use Rattle.dcc_c.specs.declared.syntax.CUn.TheVariants.{Not}
use Rattle.dcc_c.specs.Tree.{Expr, Number, Unary, Stmt, If, While, DoWhile, Forever, Switch, Break, Continue, Goto}
use Rattle.dcc_c.specs.Tree.{Label, Empty, Lines, no_lines, line, Arms, no_arms, arm}
use Rattle.dcc_text.specs.Spelling.{Spelling}
use Rattle.dcc_text.specs.Spelled.{Low, Exact, text, turned_or}
use Rattle.dcc_text.specs.Stmts.{stmt_text}
use Rattle.dcc_variables.specs.Functions.{ret_text}
use Rattle.dcc_plan.specs.Labels.{label_at}
use Rattle.dcc_control.specs.Plan as plan
use Rattle.dcc_control.specs.Plan.{Plan, Item, no_items, item}

-- the text of the statement at a place of a block: a DOS call carries the depth 2, which its step doesn't use, and a
-- call of a function of the text a depth of its own
abbrev pub text_of_stmt : Spelling → inner.Graph → ℕ → ℕ → Stmt
text_of_stmt s graph b m = elim (slice_get (block_in graph b).stmts m) [
  | Some stmt ↦ stmt_text s 2 stmt
  | None ↦ Empty
]

-- the test at the end of a block
abbrev pub text_of_test : Spelling → inner.Exit → Expr
text_of_test s (inner.If test one other) = text s Exact false test
text_of_test s _ = Number 0 Int

-- the test, or its opposite, that comes to a truth value where the test comes to this one
abbrev pub text_of_way : Spelling → Bool → inner.Exit → Expr
text_of_way s true exit = text_of_test s exit
text_of_way s false exit = turned_or (Unary Not) (text_of_test s exit)

-- the value that a block's end chooses by: a `switch` takes it modulo 65536
abbrev pub text_of_choice : Spelling → inner.Exit → Expr
text_of_choice s (inner.Switch e places) = text s Low false e
text_of_choice s _ = Number 0 Int

-- the return at the end of a block
abbrev pub text_of_return : Spelling → inner.Exit → Stmt
text_of_return s (inner.Ret values) = ret_text s values
text_of_return s _ = Empty

-- the block at which an item begins: jumps, `break`, `continue` and empty statements begin at none
abbrev pub first_block : Item → Option ℕ
first_block (plan.Do b m) = Some b
first_block (plan.Mark b) = Some b
first_block (plan.If b one other) = Some b
first_block (plan.Switch b arms) = Some b
first_block (plan.Return b) = Some b
first_block (plan.For b body) = Some b
first_block (plan.While on b body) = Some b
first_block (plan.DoWhile on b head body) = Some head
first_block _ = None

-- the address of the block at which a plan begins
abbrev pub begins_at : inner.Graph → Plan → Option ℕ
begins_at graph no_items = None
begins_at graph (item i plan) = option_map (λ b. (block_in graph b).at) (first_block i)

-- whether the side of true may stand first: not where that of false alone has items, since no text has an empty side
-- and then an `else`
abbrev pub may_be_first : Plan → Plan → Bool
may_be_first no_items (item i plan) = false
may_be_first one other = true

-- whether what begins at the first address stands before what begins at the second; where one has none, as told
abbrev pub in_order : Option ℕ → Option ℕ → Bool → Bool
in_order (Some first) (Some second) told = nat_le first second
in_order first second told = told

-- Whether the text of a test has the side of true first. The sides stand in the order of the addresses at which they
-- begin. Where one of them begins at no block, that of true stands first if it may. With the side of false first the
-- text tests the opposite.
abbrev pub is_true_first : inner.Graph → Plan → Plan → Bool
is_true_first graph one other = in_order (begins_at graph one) (begins_at graph other) (may_be_first one other)

-- the side of a test for a truth value
abbrev pub side : Bool → Plan → Plan → Plan
side on one other = if on then one else other

abbrev mutual
  -- the lines of a plan, not numbered yet
  pub plan_text : Spelling → inner.Graph → Plan → Lines
  plan_text s graph no_items = no_lines
  plan_text s graph (item i plan) = line (item_text s graph i) 0 (plan_text s graph plan)

  pub item_text : Spelling → inner.Graph → Item → Stmt
  item_text s graph (plan.Do b m) = text_of_stmt s graph b m
  item_text s graph (plan.Mark b) = Label (label_at graph.blocks b)
  item_text s graph (plan.Jump b) = Goto (label_at graph.blocks b)
  item_text s graph (plan.If b one other) =
      let on = is_true_first graph one other in
      let body = plan_text s graph one in
      let otherwise = plan_text s graph other in
      If (text_of_way s on (block_in graph b).exit) (if on then body else otherwise) (if on then otherwise else body)
  item_text s graph (plan.Switch b arms) =
      Switch (text_of_choice s (block_in graph b).exit) (arms_text s graph arms) no_arms
  item_text s graph (plan.Return b) = text_of_return s (block_in graph b).exit
  item_text s graph (plan.For b body) = Forever (plan_text s graph body)
  item_text s graph (plan.While on b body) =
      While (text_of_way s on (block_in graph b).exit) (plan_text s graph body)
  item_text s graph (plan.DoWhile on b head body) =
      DoWhile (plan_text s graph body) (text_of_way s on (block_in graph b).exit)
  item_text s graph plan.Break = Break
  item_text s graph plan.Continue = Continue
  item_text s graph plan.Empty = Empty

  pub arms_text : Spelling → inner.Graph → plan.Arms → Arms
  arms_text s graph plan.no_arms = no_arms
  arms_text s graph (plan.arm cases body arms) = arm cases (plan_text s graph body) (arms_text s graph arms)

-- When lines are the text of a plan, whatever numbers they have.
mutual
  -- the lines are the text of the plan
  pub data IsPlanText (s : Spelling) (graph : inner.Graph) : Plan → Lines → Type 0 where
    nothing : IsPlanText s graph no_items no_lines
    one_more : {i : Item} {stmt : Stmt} {at : ℕ} {plan : Plan} {lines : Lines} → IsItemText s graph i stmt
        → IsPlanText s graph plan lines → IsPlanText s graph (item i plan) (line stmt at lines)

  -- the statement is the text of the item
  pub data IsItemText (s : Spelling) (graph : inner.Graph) : Item → Stmt → Type 0 where
    does : {b m : ℕ} → IsItemText s graph (plan.Do b m) (text_of_stmt s graph b m)
    marks : {b : ℕ} → IsItemText s graph (plan.Mark b) (Label (label_at graph.blocks b))
    jumps : {b : ℕ} → IsItemText s graph (plan.Jump b) (Goto (label_at graph.blocks b))
    tests : {b : ℕ} {one other : Plan} {first second : Lines}
        → IsPlanText s graph (side (is_true_first graph one other) one other) first
        → IsPlanText s graph (side (not (is_true_first graph one other)) one other) second
        → IsItemText s graph (plan.If b one other)
        (If (text_of_way s (is_true_first graph one other) (block_in graph b).exit) first second)
    chooses : {b : ℕ} {arms : plan.Arms} {bodies : Arms} → AreArmsText s graph arms bodies
        → IsItemText s graph (plan.Switch b arms) (Switch (text_of_choice s (block_in graph b).exit) bodies no_arms)
    returns : {b : ℕ} → IsItemText s graph (plan.Return b) (text_of_return s (block_in graph b).exit)
    repeats : {b : ℕ} {body : Plan} {lines : Lines} → IsPlanText s graph body lines
        → IsItemText s graph (plan.For b body) (Forever lines)
    tests_first : {on : Bool} {b : ℕ} {body : Plan} {lines : Lines} → IsPlanText s graph body lines
        → IsItemText s graph (plan.While on b body) (While (text_of_way s on (block_in graph b).exit) lines)
    tests_last : {on : Bool} {b head : ℕ} {body : Plan} {lines : Lines} → IsPlanText s graph body lines
        → IsItemText s graph (plan.DoWhile on b head body) (DoWhile lines (text_of_way s on (block_in graph b).exit))
    breaks : IsItemText s graph plan.Break Break
    continues : IsItemText s graph plan.Continue Continue
    does_nothing : IsItemText s graph plan.Empty Empty

  -- the arms are the text of the plan's
  pub data AreArmsText (s : Spelling) (graph : inner.Graph) : plan.Arms → Arms → Type 0 where
    no_more : AreArmsText s graph plan.no_arms no_arms
    next_arm : {cases : List ℕ} {body : Plan} {arms : plan.Arms} {lines : Lines} {bodies : Arms}
        → IsPlanText s graph body lines → AreArmsText s graph arms bodies
        → AreArmsText s graph (plan.arm cases body arms) (arm cases lines bodies)
