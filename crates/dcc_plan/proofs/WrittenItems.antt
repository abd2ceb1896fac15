-- The text of an item with others inside, from the texts of these.
use Rattle.std.proofs.Common.{◌≡◌, ℕ, Bool, List, ◌∷◌, ◌++◌, [], drop, get_or, length, ◌+◌, ◌<◌, Vec, Global, None, refl, sym, ap, ap₂, ◌∙◌, arith}
use Rattle.std.specs.Prelude.{◌==◌, ◌||◌, not, if◌then◌else◌}
use Rattle.std.proofs.lemmas.Bool.{ne_eqb}
use Rattle.std.proofs.lemmas.List.{at_drop_more}
use Rattle.dcc_ir.specs.Live.{block_in}
use Rattle.dcc_ir.specs.Tree as inner
use Rattle.dcc_c.specs.declared.syntax.CExpr.{CExpr}
use Rattle.dcc_c.specs.declared.syntax.CStmt.{CStmt, Switch as CSwitch, Forever as CForever, While as CWhile, DoWhile as CDoWhile}
use Rattle.dcc_c.specs.declared.syntax.Line.{Line}
use Rattle.dcc_c.specs.declared.syntax.Arm.{Arm as CArm}
use Rattle.dcc_c.specs.Tree as tree
use Rattle.dcc_c.specs.Views.{expr_of, stmt_of, lines_of, arms_of as c_arms_of, arm_before}
use Rattle.dcc_c.proofs.RowLaws.{switch-tree, forever-tree, while-tree, do_while-tree}
use Rattle.dcc_text.specs.Spelling.{Spelling}
use Rattle.dcc_control.specs.declared.item.Item.{Item as TheItem, If as IfOf, Switch as SwitchOf, For as ForOf, While as WhileOf, DoWhile as DoWhileOf}
use Rattle.dcc_control.specs.declared.item.Arm.{Arm as TheArm}
use Rattle.dcc_plan.specs.PlanText.{text_of_way, text_of_choice, may_be_first, is_true_first, plan_text, item_text, arms_text}
use Rattle.dcc_control.specs.Views.{item_of, plan_of, arms_of}
use Rattle.dcc_control.proofs.ItemRows.{if-item, switch-item, for-item, while-item, do-item}
use Rattle.dcc_plan.proofs.TextRows.{lines_before, lines_before-append, bodies_before, bodies_before-append}

-- whether the side of true may stand first, by the items of the sides
pub first-side : (one other : List TheItem) → (not (length one == 0) || length other == 0) ≡ may_be_first (plan_of one) (plan_of other)
first-side [] [] = refl
first-side [] (i ∷ items) = ne_eqb (length (i ∷ items)) 0 (λ none. omega arith)
first-side (i ∷ items) other = ap (λ none. not none || length other == 0) (ne_eqb (length (i ∷ items)) 0 (λ none. omega arith))

module _ (s : Spelling) (graph : inner.Graph) where
  -- the statement of a test for a truth, with the lines for true and the lines for false
  abbrev test_stmt : Bool → tree.Expr → tree.Lines → tree.Lines → tree.Stmt
  test_stmt on e body otherwise = tree.If e (if on then body else otherwise) (if on then otherwise else body)

  pub if-text : (i : TheItem) (b : ℕ) (one other : Vec TheItem Global) (on : Bool) (test : CExpr) (body otherwise : Vec Line Global) (made : CStmt)
      → i ≡ IfOf b one other → on ≡ is_true_first graph (plan_of one.items) (plan_of other.items)
      → expr_of test ≡ text_of_way s on (block_in graph b).exit → lines_of body.items ≡ plan_text s graph (plan_of one.items)
      → lines_of otherwise.items ≡ plan_text s graph (plan_of other.items)
      → stmt_of made ≡ test_stmt on (expr_of test) (lines_of body.items) (lines_of otherwise.items) → stmt_of made ≡ item_text s graph (item_of i)
  if-text i b one other on test body otherwise made is on_is test_is body_is otherwise_is made_is =
      let text : List TheItem → tree.Lines = λ items. plan_text s graph (plan_of items) in
      let e : Bool → tree.Expr = λ turn. text_of_way s turn (block_in graph b).exit in
      made_is
      ∙ ap (λ x. test_stmt on x (lines_of body.items) (lines_of otherwise.items)) test_is
      ∙ ap₂ (test_stmt on (e on)) body_is otherwise_is
      ∙ ap (λ turn. test_stmt turn (e turn) (text one.items) (text other.items)) on_is
      ∙ ap (item_text s graph) (sym (if-item b one other))
      ∙ ap (λ x. item_text s graph (item_of x)) (sym is)

  pub switch-text : (i : TheItem) (b : ℕ) (arms : Vec TheArm Global) (given : List TheArm) (value : CExpr) (bodies : Vec CArm Global)
      → i ≡ SwitchOf b arms → given ≡ arms.items
      → expr_of value ≡ text_of_choice s (block_in graph b).exit → c_arms_of bodies.items ≡ arms_text s graph (arms_of given)
      → stmt_of (CSwitch value bodies None) ≡ item_text s graph (item_of i)
  switch-text i b arms given value bodies is of_arms value_is bodies_is =
      switch-tree value bodies None
      ∙ ap (λ e. tree.Switch e (c_arms_of bodies.items) tree.no_arms) value_is
      ∙ ap (λ l. tree.Switch (text_of_choice s (block_in graph b).exit) l tree.no_arms)
      (bodies_is ∙ ap (λ l. arms_text s graph (arms_of l)) of_arms)
      ∙ ap (item_text s graph) (sym (switch-item b arms))
      ∙ ap (λ x. item_text s graph (item_of x)) (sym is)

  pub for-text : (i : TheItem) (b : ℕ) (inside : Vec TheItem Global) (given : List TheItem) (body : Vec Line Global)
      → i ≡ ForOf b inside → given ≡ inside.items → lines_of body.items ≡ plan_text s graph (plan_of given)
      → stmt_of (CForever body) ≡ item_text s graph (item_of i)
  for-text i b inside given body is of_inside body_is =
      forever-tree body
      ∙ ap tree.Forever (body_is ∙ ap (λ items. plan_text s graph (plan_of items)) of_inside)
      ∙ ap (item_text s graph) (sym (for-item b inside))
      ∙ ap (λ x. item_text s graph (item_of x)) (sym is)

  pub while-text : (i : TheItem) (on : Bool) (b : ℕ) (inside : Vec TheItem Global) (given : List TheItem) (test : CExpr) (body : Vec Line Global)
      → i ≡ WhileOf on b inside → given ≡ inside.items → expr_of test ≡ text_of_way s on (block_in graph b).exit
      → lines_of body.items ≡ plan_text s graph (plan_of given) → stmt_of (CWhile test body) ≡ item_text s graph (item_of i)
  while-text i on b inside given test body is of_inside test_is body_is =
      while-tree test body
      ∙ ap₂ tree.While test_is (body_is ∙ ap (λ items. plan_text s graph (plan_of items)) of_inside)
      ∙ ap (item_text s graph) (sym (while-item on b inside))
      ∙ ap (λ x. item_text s graph (item_of x)) (sym is)

  pub do-text : (i : TheItem) (on : Bool) (b head : ℕ) (inside : Vec TheItem Global) (given : List TheItem) (test : CExpr) (body : Vec Line Global)
      → i ≡ DoWhileOf on b head inside → given ≡ inside.items → expr_of test ≡ text_of_way s on (block_in graph b).exit
      → lines_of body.items ≡ plan_text s graph (plan_of given) → stmt_of (CDoWhile body test) ≡ item_text s graph (item_of i)
  do-text i on b head inside given test body is of_inside test_is body_is =
      do_while-tree test body
      ∙ ap₂ tree.DoWhile (body_is ∙ ap (λ items. plan_text s graph (plan_of items)) of_inside) test_is
      ∙ ap (item_text s graph) (sym (do-item on b head inside))
      ∙ ap (λ x. item_text s graph (item_of x)) (sym is)

  -- the text of the items that are left, one further on
  pub item-step : (items : List TheItem) (k : ℕ) (i : TheItem) (lines : List Line) (l : Line) (whole : tree.Lines)
      → k < length items → i ≡ get_or items k i → stmt_of l.stmt ≡ item_text s graph (item_of i) → l.line ≡ 0
      → lines_before lines (plan_text s graph (plan_of (drop k items))) ≡ whole
      → lines_before (lines ++ l ∷ []) (plan_text s graph (plan_of (drop (k + 1) items))) ≡ whole
  item-step items k i lines l whole within is stmt_is line_is before =
      let rest : tree.Lines = plan_text s graph (plan_of (drop (k + 1) items)) in
      lines_before-append lines (l ∷ []) rest
      ∙ ap (λ stmt. lines_before lines (tree.line stmt l.line rest)) (stmt_is ∙ ap (λ x. item_text s graph (item_of x)) is)
      ∙ ap (λ n. lines_before lines (tree.line (item_text s graph (item_of (get_or items k i))) n rest)) line_is
      ∙ ap (lines_before lines) (sym (at_drop_more (λ left. plan_text s graph (plan_of left)) items k i within))
      ∙ before

  -- the text of the arms that are left, one further on
  pub arm-step : (arms : List TheArm) (k : ℕ) (a : TheArm) (bodies : List CArm) (made : CArm) (whole : tree.Arms)
      → k < length arms → a ≡ get_or arms k a
      → ((rest : tree.Arms) → arm_before made rest ≡ tree.arm a.cases.items (plan_text s graph (plan_of a.body.items)) rest)
      → bodies_before bodies (arms_text s graph (arms_of (drop k arms))) ≡ whole
      → bodies_before (bodies ++ made ∷ []) (arms_text s graph (arms_of (drop (k + 1) arms))) ≡ whole
  arm-step arms k a bodies made whole within is made_is before =
      let rest : tree.Arms = arms_text s graph (arms_of (drop (k + 1) arms)) in
      let at : TheArm → tree.Arms = λ x. tree.arm x.cases.items (plan_text s graph (plan_of x.body.items)) rest in
      bodies_before-append bodies (made ∷ []) rest
      ∙ ap (bodies_before bodies) (made_is rest ∙ ap at is)
      ∙ ap (bodies_before bodies) (sym (at_drop_more (λ left. arms_text s graph (arms_of left)) arms k a within))
      ∙ before
