-- The text of a plan, its lines numbered.
use Rattle.std.proofs.Common.{◌≡◌, ℕ, Option, Some, None, refl, sym, subst}
use Rattle.std.specs.Prelude.{slice_get}
use Rattle.dcc_ir.specs.Live.{block_in}
use Rattle.dcc_ir.specs.Tree as inner
use Rattle.dcc_c.specs.Numbered.{numbered_stmt, numbered_lines, numbered_arms}
use Rattle.dcc_c.specs.Tree.{Lines, Empty}
use Rattle.dcc_text.specs.Spelling.{Spelling}
use Rattle.dcc_text.specs.Stmts.{stmt_text}
use Rattle.dcc_control.specs.Plan.{Item, Do, Mark, Jump, If, Switch, Return, For, While, DoWhile, Break, Continue, Empty as Nothing, Plan, no_items, item, Arms, no_arms, arm}
use Rattle.dcc_plan.specs.PlanText.{text_of_stmt, text_of_return, is_true_first, plan_text, item_text, arms_text, IsPlanText, nothing, one_more, IsItemText, does, marks, jumps, tests, chooses, returns, repeats, tests_first, tests_last, breaks, continues, does_nothing, AreArmsText, no_more, next_arm}
use Rattle.dcc_plan.proofs.Sides.{first-has, second-has}

module _ (s : Spelling) (graph : inner.Graph) where
  -- a statement has no lines inside
  stmt-kept : (stmt : inner.Stmt) (depth at : ℕ) → numbered_stmt depth at (stmt_text s 2 stmt) ≡ stmt_text s 2 stmt
  stmt-kept (inner.Set location e) depth at = refl
  stmt-kept (inner.Fetch location width address) depth at = refl
  stmt-kept (inner.Store width address e) depth at = refl
  stmt-kept (inner.Div location e) depth at = refl
  stmt-kept (inner.Call results entry arguments own) depth at = refl
  stmt-kept (inner.Dos number place argument) depth at = refl

  do-kept : (b m depth at : ℕ) → numbered_stmt depth at (text_of_stmt s graph b m) ≡ text_of_stmt s graph b m
  do-kept b m depth at = by (slice_get (block_in graph b).stmts m)
    where
      by : (o : Option inner.Stmt) → numbered_stmt depth at (elim o [ Some stmt ↦ stmt_text s 2 stmt | None ↦ Empty ]) ≡ elim o [ Some stmt ↦ stmt_text s 2 stmt | None ↦ Empty ]
      by (Some stmt) = stmt-kept stmt depth at
      by None = refl

  return-kept : (exit : inner.Exit) (depth at : ℕ) → numbered_stmt depth at (text_of_return s exit) ≡ text_of_return s exit
  return-kept (inner.Goto next) depth at = refl
  return-kept (inner.If test one other) depth at = refl
  return-kept (inner.Switch e places) depth at = refl
  return-kept (inner.Ret values) depth at = refl
  return-kept inner.Stop depth at = refl

  -- the lines are the text of the plan, whatever numbers they are given
  abbrev IsNumbered : Plan → Lines → Type 0
  IsNumbered plan lines = (depth at : ℕ) → IsPlanText s graph plan (numbered_lines depth at lines)

  mutual
    numbered-plan : (plan : Plan) (depth at : ℕ) → IsPlanText s graph plan (numbered_lines depth at (plan_text s graph plan))
    numbered-plan no_items depth at = nothing
    numbered-plan (item i plan) depth at = one_more (numbered-item i _ _) (numbered-plan plan _ _)

    numbered-item : (i : Item) (depth at : ℕ) → IsItemText s graph i (numbered_stmt depth at (item_text s graph i))
    numbered-item (Do b m) depth at = subst (IsItemText s graph (Do b m)) (sym (do-kept b m depth at)) does
    numbered-item (Mark b) depth at = marks
    numbered-item (Jump b) depth at = jumps
    numbered-item (If b one other) depth at =
        let on = is_true_first graph one other in
        let body = plan_text s graph one in
        let otherwise = plan_text s graph other in
        tests (first-has IsNumbered on one other body otherwise (numbered-plan one) (numbered-plan other) _ _)
        (second-has IsNumbered on one other body otherwise (numbered-plan one) (numbered-plan other) _ _)
    numbered-item (Switch b arms) depth at = chooses (numbered-arms arms _ _)
    numbered-item (Return b) depth at = subst (IsItemText s graph (Return b)) (sym (return-kept (block_in graph b).exit depth at)) returns
    numbered-item (For b body) depth at = repeats (numbered-plan body _ _)
    numbered-item (While on b body) depth at = tests_first (numbered-plan body _ _)
    numbered-item (DoWhile on b head body) depth at = tests_last (numbered-plan body _ _)
    numbered-item Break depth at = breaks
    numbered-item Continue depth at = continues
    numbered-item Nothing depth at = does_nothing

    numbered-arms : (arms : Arms) (depth at : ℕ) → AreArmsText s graph arms (numbered_arms depth at (arms_text s graph arms))
    numbered-arms no_arms depth at = no_more
    numbered-arms (arm cases body arms) depth at = next_arm (numbered-plan body _ _) (numbered-arms arms _ _)

pub numbered-text : (s : Spelling) (graph : inner.Graph) (plan : Plan) (depth at : ℕ) → IsPlanText s graph plan (numbered_lines depth at (plan_text s graph plan))
numbered-text s graph = numbered-plan s graph
