-- When the text of a plan is allowed as the body of a function.
use Rattle.std.specs.Prelude.{◌≡◌, ℕ, ◌+◌, ◌*◌, ◌≤◌, nat_le, true, false, Bool, ◌&&◌, not, List, [], ◌∷◌, Option, Some}
use Rattle.std.specs.Prelude.{None, All}
use Rattle.std.specs.List.{list_all}
use Rattle.dcc_ir.specs.Measure.{depth_of}
use Rattle.dcc_ir.specs.Run.{is_call}
use Rattle.dcc_ir.specs.Tree as inner
use Rattle.dcc_ir.specs.Use.{reads_of, writes_of, graph_exprs}
use Rattle.dcc_ir.specs.WellFormed.{IsGraph}
use Rattle.dcc_c.specs.declared.syntax.CType.{CType}
use Rattle.dcc_c.specs.Grammar.{Around, outermost, in_block, in_loop, in_switch}
use Rattle.dcc_c.specs.Parts.{stmts_in}
use Rattle.dcc_c.specs.Rules.{declared_in, allows_labels, allows_stmt, shallow_stmt, differ}
use Rattle.dcc_c.specs.Tree.{Function, Tree, Lines}
use Rattle.dcc_c.proofs.Writable.{are_cases, are_writable_lines}
use Rattle.dcc_text.specs.Allowed.{AreDeclared, IsAllowedStmt}
use Rattle.dcc_text.specs.Spelling.{Spelling}
use Rattle.dcc_text.specs.Stmts.{stmt_text}
use Rattle.dcc_control.specs.Complete.{completed}
use Rattle.dcc_control.specs.GotoPlan.{goto_plan}
use Rattle.dcc_control.specs.Plan.{Item, If, Switch, For, While, DoWhile, Break, Continue, Plan, no_items, item}
use Rattle.dcc_control.specs.Plan.{Arms, no_arms, arm, all_cases, is_mark}
use Rattle.dcc_plan.specs.PlanText.{IsPlanText}
use Rattle.dcc_control.specs.Valid.{IsPlanOf}

-- Where items may stand.

abbrev pub has_an_arm : Arms → Bool
has_an_arm no_arms = false
has_an_arm (arm cases body arms) = true

abbrev mutual
  -- items with this around them, the first after a label or not: an item follows each label, and blocks nest at most
  -- 200 deep
  pub may_stand : Around → Bool → Plan → Bool
  may_stand around labelled no_items = not labelled
  may_stand around labelled (item i plan) =
      nat_le around.blocks 200 && (item_may_stand around i && may_stand around (is_mark i) plan)

  -- `break` stands in a loop or a choice, `continue` in a loop; a choice has an arm, and its cases differ
  pub item_may_stand : Around → Item → Bool
  item_may_stand around (If b one other) =
      may_stand (in_block around) false one && may_stand (in_block around) false other
  item_may_stand around (Switch b arms) =
      has_an_arm arms && (differ (all_cases arms) && arms_may_stand (in_switch around) arms)
  item_may_stand around (For b body) = may_stand (in_loop around) false body
  item_may_stand around (While on b body) = may_stand (in_loop around) false body
  item_may_stand around (DoWhile on b head body) = may_stand (in_loop around) false body
  item_may_stand around Break = around.breaks
  item_may_stand around Continue = around.continues
  item_may_stand around _ = true

  -- each arm has a case, and its cases are numbers of 16 bits
  pub arms_may_stand : Around → Arms → Bool
  arms_may_stand around no_arms = true
  arms_may_stand around (arm cases body arms) =
      nat_le around.blocks 200 && (are_cases cases && (may_stand around false body && arms_may_stand around arms))

-- Texts.

-- All that the graph reads and writes has variables, and its expressions have at most so many levels.
pub record IsSpelled (s : Spelling) (levels : ℕ) (graph : inner.Graph) : Type 0 where
  pub bits : s.bits ≡ graph.bits
  pub reads : All (λ e. All (λ location. s.named location ≡ true) (reads_of e)) (graph_exprs graph)
  pub writes : All (λ b. All (λ stmt. All (λ location. s.named location ≡ true) (writes_of stmt)) b.stmts) graph.blocks
  pub shallow : All (λ e. depth_of e ≤ levels) (graph_exprs graph)

-- each call of the graph is allowed in the function
abbrev pub CallsFit : Tree → Function → Spelling → ℕ → inner.Graph → Type 0
CallsFit tree f s limit graph = All (λ b. All (λ stmt. is_call stmt ≡ true
    → IsAllowedStmt tree f limit (stmt_text s 2 stmt)) b.stmts) graph.blocks

-- a function with this result, or with none, may give these values back: a number for a number
abbrev pub may_give : Option CType → List inner.Expr → Bool
may_give None [] = true
may_give (Some type) (e ∷ es) = not type.pointer
may_give _ _ = false

-- the end of a block may stand in such a function
abbrev pub may_return : Option CType → inner.Exit → Bool
may_return result (inner.Ret values) = may_give result values
may_return result _ = true

-- each end of the graph's blocks gives what the function's result may be
abbrev pub ReturnsFit : Function → inner.Graph → Type 0
ReturnsFit f graph = All (λ b. may_return f.result b.exit ≡ true) graph.blocks

-- The lines may be the body of the function: they can be written, each `goto` has its label, which stands once, types
-- are allowed, and no expression is deeper.
pub record AreAllowedLines (tree : Tree) (f : Function) (limit : ℕ) (lines : Lines) : Type 0 where
  pub writable : are_writable_lines outermost false lines ≡ true
  pub labels : allows_labels lines ≡ true
  pub types : list_all (allows_stmt tree f) (stmts_in lines) ≡ true
  pub depth : list_all (shallow_stmt limit) (stmts_in lines) ≡ true

-- The text of a valid plan whose items may stand where they do, whatever the numbers of its lines, may be the body of
-- a function that declares the names, may make the calls and gives back what the graph does.
abbrev pub PlanTextsAreAllowed : Type 0
PlanTextsAreAllowed = (tree : Tree) (f : Function) (s : Spelling) (graph : inner.Graph) (plan : Plan) (lines : Lines)
    (levels limit : ℕ) → AreDeclared (declared_in tree f) s → IsGraph graph → IsSpelled s levels graph
    → CallsFit tree f s limit graph → ReturnsFit f graph → 6 * levels + 3 ≤ limit → IsPlanOf graph plan
    → may_stand outermost false plan ≡ true
    → IsPlanText s graph plan lines → AreAllowedLines tree f limit lines

-- the items of the plan of a text with jumps, completed, may stand where they do
abbrev pub GotoPlansMayStand : Type 0
GotoPlansMayStand = (graph : inner.Graph) → IsGraph graph → may_stand outermost false (completed (goto_plan graph))
    ≡ true
