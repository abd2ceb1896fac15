use Rattle.std.proofs.Common.{◌≡◌, ℕ, ◌+◌, ◌-◌, ◌<◌, ◌++◌, [], ◌∷◌, codes, List, Vec, Global, get_or, length, take, drop, string_bytes, OnOk, sym, ap, ◌∙◌, subst, arith, append_assoc, length-drop}
use Rattle.std.proofs.lemmas.List.{at_drop_more, take_all, append-nil}
use Rattle.dcc_c.specs.declared.syntax.CExpr.{CExpr}
use Rattle.dcc_c.specs.declared.syntax.CStmt.{CStmt, If as IfOf}
use Rattle.dcc_c.specs.declared.syntax.Line.{Line}
use Rattle.dcc_c.specs.declared.syntax.Arm.{Arm, out-Arm}
use Rattle.dcc_c.specs.Tree.{If, While, DoWhile, Forever, Switch, line, arm, no_arms}
use Rattle.dcc_c.specs.Parts.{stmts_in, inner_stmts, arm_stmts}
use Rattle.dcc_c.specs.Written.{indentation, depth_after, next_depth, written_depth, written_test, written_stmt, written_else, written_lines, written_arms, written_default}
use Rattle.dcc_c.specs.Views.{expr_of, stmt_of, lines_of, arms_of, arm_before, arms_if}
use Rattle.dcc_print.proofs.BlockLaws.{append-on_ok, depth-on_ok, else-some, default-written, lines-step, depth-step, label-step, arms-step, arm_depth-step}
use Rattle.dcc_print.proofs.DepthLaws.{depth_after-append}
use Rattle.dcc_print.proofs.IndentLaws.{lines-counted, arms-counted, default-counted}
use Rattle.dcc_c.proofs.RowLaws.{arm-parts, if-tree, while-tree, do_while-tree, forever-tree, switch-tree}
use Rattle.dcc_print.proofs.block.+block.Goals as goal

-- the first of the lines that are left
first_line : (lines : List Line) (i : ℕ) (l : Line) → i < length lines → l ≡ get_or lines i l → lines_of (drop i lines) ≡ line (stmt_of l.stmt) l.line (lines_of (drop (i + 1) lines))
first_line lines i l within is =
    ap lines_of (at_drop_more (λ xs. xs) lines i l within)
    ∙ ap (λ x. line (stmt_of x.stmt) x.line (lines_of (drop (i + 1) lines))) (sym is)

-- the first of the arms that are left
first_arm : (arms : List Arm) (i : ℕ) (a : Arm) → i < length arms → a ≡ get_or arms i a →
    arms_of (drop i arms) ≡ arm (out-Arm a).cases.items (lines_of (out-Arm a).body.items) (arms_of (drop (i + 1) arms))
first_arm arms i a within is =
    ap arms_of (at_drop_more (λ xs. xs) arms i a within)
    ∙ ap (λ x. arm_before x (arms_of (drop (i + 1) arms))) (sym is)
    ∙ arm-parts a (arms_of (drop (i + 1) arms))

pub push_arms-loop-arm-preserved : goal.push_arms-loop-arm-preserved
push_arms-loop-arm-preserved t c =
    let arms = c.args.arms.now in
    let i = c.loop-arm.arm-index in
    let within : i < length arms = omega arith in
    let rest = arms_of (drop (i + 1) arms) in
    let cases = c.deref.result.now in
    let body = lines_of c.deref-in-loop-arm.result.now in
    let is : arms_of (drop i arms) ≡ arm cases body rest =
    first_arm arms i c.arm-item.result within c.arm-item.is
    ∙ ap (λ l. arm l (lines_of (out-Arm c.arm-item.result).body.items) rest) (sym c.deref.ensures.value)
    ∙ ap (λ l. arm cases (lines_of l) rest) (sym c.deref-in-loop-arm.ensures.value) in
    let after = c.in_ok-in_force.ensures in
    record {
      text = arms-step c.args.braces c.loop-arm.in_force c.in_ok-in_force.in_force cases body rest
          (arms_of (drop i arms)) _ _ _ _ _ is c.loop-arm.invariant.text c.in_ok-push_cases.ensures after.text c.in_ok-push_line.ensures after.depth;
      depth = arm_depth-step c.loop-arm.in_force c.in_ok-in_force.in_force _ cases body rest (arms_of (drop i arms)) is c.loop-arm.invariant.depth after.depth;
    }

pub push_default-returns-in_ok-push_line-in-Some-3-clause-text :
    goal.push_default-returns-in_ok-push_line-in-Some-3-clause-text
push_default-returns-in_ok-push_line-in-Some-3-clause-text t c =
    let inner = c.inside-inner.result in
    let depth = c.args.depth in
    let old = string_bytes c.args.text.now in
    let label = indentation inner ++ codes "default:\n" in
    let lines = written_lines inner depth (lines_of c.deref.result.now) in
    let last = indentation inner ++ codes "break;\n" in
    let end = indentation c.args.braces ++ codes "}\n" in
    let arms =
    ap (λ l. arm (out-Arm c.in-Some.arm).cases.items (lines_of l) no_arms) c.deref.ensures.value
    ∙ sym (arm-parts c.in-Some.arm no_arms)
    ∙ ap arms_if (sym c.in-Some.is) in
    c.in_ok-push_line-in-Some-3.ensures
    ∙ ap (λ l. l ++ end) (c.in_ok-push_line-in-Some-2.ensures ∙ ap (λ l. l ++ last) (c.in_ok-in_force-in-Some.ensures.text ∙ ap (λ l. l ++ lines) c.in_ok-push_line-in-Some.ensures))
    ∙ default-written old label lines last end
    ∙ ap (λ l. old ++ (written_default inner depth l ++ end)) arms
    ∙ ap (λ l. old ++ (l ++ end)) (default-counted inner (1 + c.args.braces) c.inside-inner.ensures depth (arms_if c.args.last.now))

pub push_default-returns-in_ok-push_line-in-Some-3-clause-depth :
    goal.push_default-returns-in_ok-push_line-in-Some-3-clause-depth
push_default-returns-in_ok-push_line-in-Some-3-clause-depth t c =
    let arms =
    ap (λ l. arm (out-Arm c.in-Some.arm).cases.items (lines_of l) no_arms) c.deref.ensures.value
    ∙ sym (arm-parts c.in-Some.arm no_arms)
    ∙ ap arms_if (sym c.in-Some.is) in
    c.in_ok-in_force-in-Some.ensures.depth
    ∙ ap (depth_after c.args.depth) (sym (append-nil (stmts_in (lines_of c.deref.result.now))))
    ∙ ap (λ l. depth_after c.args.depth (arm_stmts l)) arms

pub push_else-returns-clause-text : goal.push_else-returns-clause-text
push_else-returns-clause-text t c =
    let braces = c.args.braces in
    let lines = c.args.otherwise.now in
    let block = written_lines (1 + braces) c.args.depth (lines_of lines) in
    let head = indentation braces ++ codes "} else {\n" in
    let end = indentation braces ++ codes "}\n" in
    append-on_ok c.push_block.result _ _ _ _ _ _ c.in_ok-push_line-2.ensures
    (sym (append_assoc head block end) ∙ ap (λ l. l ++ end) (sym (else-some braces lines block (sym c.is_empty.ensures ∙ c.if-is_empty.false))))
    c.push_block.ensures.text

pub push_block-returns-clause-text : goal.push_block-returns-clause-text
push_block-returns-clause-text t c =
    let braces = c.args.braces in
    let old = string_bytes c.args.text.now in
    let lines = lines_of c.args.body.now in
    let end = indentation braces ++ c.args.end.now in
    c.in_ok-push_line.ensures
    ∙ ap (λ l. l ++ end) (c.in_ok-in_force.ensures.text ∙ ap (λ l. old ++ l) (lines-counted c.inside.result (1 + braces) c.inside.ensures c.args.depth lines))
    ∙ append_assoc old (written_lines (1 + braces) c.args.depth lines) end

pub push_lines-loop-i-preserved : goal.push_lines-loop-i-preserved
push_lines-loop-i-preserved t c =
    let lines = c.args.lines.now in
    let i = c.loop-i.i in
    let within : i < length lines = omega arith in
    let depth = c.loop-i.in_force in
    let own = c.in_ok-own.own in
    let in_force = c.in_ok-in_force.in_force in
    let item = c.index-lines-i.result in
    let stmt = stmt_of item.stmt in
    let rest = lines_of (drop (i + 1) lines) in
    let left = lines_of (drop i lines) in
    let is : left ≡ line stmt item.line rest = first_line lines i item within c.index-lines-i.is in
    let slice : lines_of (take (length lines - i) (drop i lines)) ≡ left =
    ap lines_of (take_all (length lines - i) (drop i lines) (omega (arith, length-drop i lines))) in
    let own_is : own ≡ next_depth depth left = c.in_ok-own.ensures.depth ∙ ap (next_depth depth) slice in
    let pragma : string_bytes c.push_depth.new.text ≡ string_bytes c.loop-i.text ++ written_depth depth (next_depth depth left) =
    c.in_ok-own.ensures.text ∙ ap (λ l. string_bytes c.loop-i.text ++ written_depth depth (next_depth depth l)) slice in
    let after = c.in_ok-in_force.ensures in
    record {
      text = lines-step c.args.braces depth own in_force item.line stmt rest left _ _ _ _ is c.loop-i.invariant.text own_is pragma after.text after.depth;
      depth = depth-step depth own in_force item.line _ stmt rest left is c.loop-i.invariant.depth own_is after.depth;
      label = λ label. label-step depth own in_force item.line stmt rest left is own_is after.depth (sym c.is_label-is_after_label.ensures ∙ label);
    }

-- the tree of an `if`, by the statements that its blocks lend
if-lent : (stmt : CStmt) (e : CExpr) (body otherwise : Vec Line Global) (first second : List Line) → first ≡ body.items → second ≡ otherwise.items →
    stmt ≡ IfOf e body otherwise → If (expr_of e) (lines_of first) (lines_of second) ≡ stmt_of stmt
if-lent stmt e body otherwise first second of_body of_otherwise is =
    ap (λ l. If (expr_of e) (lines_of l) (lines_of second)) of_body
    ∙ ap (λ l. If (expr_of e) (lines_of body.items) (lines_of l)) of_otherwise
    ∙ sym (if-tree e body otherwise)
    ∙ ap stmt_of (sym is)

pub push_stmt-returns-in-If-clause-text : goal.push_stmt-returns-in-If-clause-text
push_stmt-returns-in-If-clause-text t c =
    let braces = c.args.braces in
    let depth = c.args.depth in
    let body = lines_of c.deref-in-If.result.now in
    let otherwise = lines_of c.deref-in-If-2.result.now in
    let old = string_bytes c.args.text.now in
    let head = indentation braces ++ written_test (codes "if") (expr_of c.in-If.e) in
    let inner = written_lines c.inside.result depth body in
    let last = indentation braces ++ codes "}\n" in
    let tree = if-lent _ c.in-If.e c.in-If.body c.in-If.otherwise _ _ c.deref-in-If.ensures.value c.deref-in-If-2.ensures.value c.in-If.is in
    append-on_ok c.push_else.result old _ _ (head ++ inner) _ _
    (c.in_ok-middle-in-If.ensures.text ∙ ap (λ l. l ++ inner) c.in_ok-push_test-in-If.ensures ∙ append_assoc old head inner)
    (append_assoc head inner _
    ∙ ap (λ n. head ++ (inner ++ (written_else braces otherwise (written_lines (1 + braces) n otherwise) ++ last))) c.in_ok-middle-in-If.ensures.depth
    ∙ ap (λ l. head ++ (l ++ (written_else braces otherwise (written_lines (1 + braces) (depth_after depth (stmts_in body)) otherwise) ++ last))) (lines-counted c.inside.result (1 + braces) c.inside.ensures depth body)
    ∙ ap (written_stmt braces depth) tree)
    c.push_else.ensures.text

pub push_stmt-returns-in-If-clause-depth : goal.push_stmt-returns-in-If-clause-depth
push_stmt-returns-in-If-clause-depth t c =
    let depth = c.args.depth in
    let body = lines_of c.deref-in-If.result.now in
    let otherwise = lines_of c.deref-in-If-2.result.now in
    let tree = if-lent _ c.in-If.e c.in-If.body c.in-If.otherwise _ _ c.deref-in-If.ensures.value c.deref-in-If-2.ensures.value c.in-If.is in
    depth-on_ok c.push_else.result _ _
    (ap (λ n. depth_after n (stmts_in otherwise)) c.in_ok-middle-in-If.ensures.depth
    ∙ sym (depth_after-append depth (stmts_in body) (stmts_in otherwise))
    ∙ ap (λ s. depth_after depth (s ∷ inner_stmts s)) tree)
    c.push_else.ensures.depth

pub push_stmt-returns-in-While-clause-text : goal.push_stmt-returns-in-While-clause-text
push_stmt-returns-in-While-clause-text t c =
    let tree =
    ap (λ l. While (expr_of c.in-While.e) (lines_of l)) c.deref-in-While.ensures.value
    ∙ sym (while-tree c.in-While.e c.in-While.body)
    ∙ ap stmt_of (sym c.in-While.is) in
    append-on_ok c.push_block.result _ _ _ _ _ _ c.in_ok-push_test-in-While.ensures (ap (written_stmt c.args.braces c.args.depth) tree) c.push_block.ensures.text

pub push_stmt-returns-in-While-clause-depth : goal.push_stmt-returns-in-While-clause-depth
push_stmt-returns-in-While-clause-depth t c =
    let tree =
    ap (λ l. While (expr_of c.in-While.e) (lines_of l)) c.deref-in-While.ensures.value
    ∙ sym (while-tree c.in-While.e c.in-While.body)
    ∙ ap stmt_of (sym c.in-While.is) in
    depth-on_ok c.push_block.result _ _ (ap (λ s. depth_after c.args.depth (s ∷ inner_stmts s)) tree) c.push_block.ensures.depth

pub push_stmt-returns-in-DoWhile-clause-text : goal.push_stmt-returns-in-DoWhile-clause-text
push_stmt-returns-in-DoWhile-clause-text t c =
    let tree =
    ap (λ l. DoWhile (lines_of l) (expr_of c.in-DoWhile.e)) c.deref-in-DoWhile.ensures.value
    ∙ sym (do_while-tree c.in-DoWhile.e c.in-DoWhile.body)
    ∙ ap stmt_of (sym c.in-DoWhile.is) in
    subst (λ s. OnOk c.push_do_while.result (string_bytes c.push_do_while.new.text ≡ string_bytes c.args.text.now ++ written_stmt c.args.braces c.args.depth s)) tree c.push_do_while.ensures.text

pub push_stmt-returns-in-DoWhile-clause-depth : goal.push_stmt-returns-in-DoWhile-clause-depth
push_stmt-returns-in-DoWhile-clause-depth t c =
    let tree =
    ap (λ l. DoWhile (lines_of l) (expr_of c.in-DoWhile.e)) c.deref-in-DoWhile.ensures.value
    ∙ sym (do_while-tree c.in-DoWhile.e c.in-DoWhile.body)
    ∙ ap stmt_of (sym c.in-DoWhile.is) in
    depth-on_ok c.push_do_while.result _ _ (ap (λ s. depth_after c.args.depth (s ∷ inner_stmts s)) tree) c.push_do_while.ensures.depth

pub push_stmt-returns-in-Forever-clause-text : goal.push_stmt-returns-in-Forever-clause-text
push_stmt-returns-in-Forever-clause-text t c =
    let tree =
    ap (λ l. Forever (lines_of l)) c.deref-in-Forever.ensures.value
    ∙ sym (forever-tree c.in-Forever.body)
    ∙ ap stmt_of (sym c.in-Forever.is) in
    append-on_ok c.push_block-in-Forever.result _ _ _ _ _ _ c.in_ok-push_line-in-Forever.ensures (ap (written_stmt c.args.braces c.args.depth) tree) c.push_block-in-Forever.ensures.text

pub push_stmt-returns-in-Forever-clause-depth : goal.push_stmt-returns-in-Forever-clause-depth
push_stmt-returns-in-Forever-clause-depth t c =
    let tree =
    ap (λ l. Forever (lines_of l)) c.deref-in-Forever.ensures.value
    ∙ sym (forever-tree c.in-Forever.body)
    ∙ ap stmt_of (sym c.in-Forever.is) in
    depth-on_ok c.push_block-in-Forever.result _ _ (ap (λ s. depth_after c.args.depth (s ∷ inner_stmts s)) tree) c.push_block-in-Forever.ensures.depth

pub push_stmt-returns-in-Switch-clause-text : goal.push_stmt-returns-in-Switch-clause-text
push_stmt-returns-in-Switch-clause-text t c =
    let braces = c.args.braces in
    let depth = c.args.depth in
    let arms = arms_of c.deref-in-Switch.result.now in
    let last = arms_if c.in-Switch.last in
    let old = string_bytes c.args.text.now in
    let head = indentation braces ++ written_test (codes "switch") (expr_of c.in-Switch.e) in
    let inner = written_arms c.inside-in-Switch.result depth arms in
    let end = indentation braces ++ codes "}\n" in
    let middle = c.in_ok-middle-in-Switch.ensures.depth ∙ ap (depth_after depth) (sym (append-nil (arm_stmts arms))) in
    let tree =
    ap (λ l. Switch (expr_of c.in-Switch.e) (arms_of l) last) c.deref-in-Switch.ensures.value
    ∙ sym (switch-tree c.in-Switch.e c.in-Switch.arms c.in-Switch.last)
    ∙ ap stmt_of (sym c.in-Switch.is) in
    append-on_ok c.push_default.result old _ _ (head ++ inner) _ _
    (c.in_ok-middle-in-Switch.ensures.text ∙ ap (λ l. l ++ inner) c.in_ok-push_test-in-Switch.ensures ∙ append_assoc old head inner)
    (append_assoc head inner _
    ∙ ap (λ n. head ++ (inner ++ (written_default (1 + braces) n last ++ end))) middle
    ∙ ap (λ l. head ++ (l ++ (written_default (1 + braces) (depth_after depth (arm_stmts arms ++ [])) last ++ end))) (arms-counted c.inside-in-Switch.result (1 + braces) c.inside-in-Switch.ensures depth arms)
    ∙ ap (written_stmt braces depth) tree)
    c.push_default.ensures.text

pub push_stmt-returns-in-Switch-clause-depth : goal.push_stmt-returns-in-Switch-clause-depth
push_stmt-returns-in-Switch-clause-depth t c =
    let depth = c.args.depth in
    let arms = arms_of c.deref-in-Switch.result.now in
    let last = arms_if c.in-Switch.last in
    let tree =
    ap (λ l. Switch (expr_of c.in-Switch.e) (arms_of l) last) c.deref-in-Switch.ensures.value
    ∙ sym (switch-tree c.in-Switch.e c.in-Switch.arms c.in-Switch.last)
    ∙ ap stmt_of (sym c.in-Switch.is) in
    depth-on_ok c.push_default.result _ _
    (ap (λ n. depth_after n (arm_stmts last)) c.in_ok-middle-in-Switch.ensures.depth
    ∙ sym (depth_after-append depth (arm_stmts arms) (arm_stmts last))
    ∙ ap (λ s. depth_after depth (s ∷ inner_stmts s)) tree)
    c.push_default.ensures.depth
