-- No name and no expression of a writable tree has a line feed.
use Rattle.std.proofs.Common.{◌≡◌, Bool, true, false, List, [], ◌∷◌, ◌++◌, None, Some, refl, ◌∙◌}
use Rattle.std.specs.Prelude.{◌&&◌, ◌||◌, nat_le}
use Rattle.std.specs.List.{list_all}
use Rattle.std.proofs.lemmas.Bool.{and_parts, and_from, eq-eqb, both_ways}
use Rattle.std.proofs.lemmas.List.Folds.{list_all-append}
use Rattle.dcc_c.specs.Tree.{Word, Expr, Stmt, Assign, Call, If, While, DoWhile, Forever, Switch, Break, Continue, Goto, Label, Empty, Return, Lines, no_lines, line, Arms, no_arms, arm, Function, Tree}
use Rattle.dcc_c.specs.Grammar.{is_name, Around, outermost, in_block, in_loop, in_switch, has_arm}
use Rattle.dcc_c.specs.Parts.{stmts_in, inner_stmts, arm_stmts}
use Rattle.dcc_c.specs.Written.{written_expr}
use Rattle.dcc_c.specs.Numbered.{rows}
use Rattle.dcc_c.proofs.Writable.{is_writable_expr, is_place, is_writable_place, is_small, is_label, are_cases, has_no_case, is_writable_stmt, are_writable_lines, are_writable_arms, is_writable_default, is_writable_param, is_writable_local, is_writable_function, IsWritable}
use Rattle.dcc_c.proofs.WrittenLaws.{is_word-name}
use Rattle.dcc_c.proofs.WrittenRows.{word_flat}
use Rattle.dcc_c.proofs.WrittenExprs.{expr_reads}
use Rattle.dcc_print.specs.Unbroken.{is_unbroken, is_unbroken_stmt, are_unbroken, is_unbroken_tree}

expr-unbroken : (e : Expr) → is_writable_expr e ≡ true → is_unbroken (written_expr e) ≡ true
expr-unbroken e good = eq-eqb (rows (written_expr e)) 0 (expr_reads e good 1 false).counted

word-unbroken : (word : Word) → is_name word ≡ true → is_unbroken word ≡ true
word-unbroken word is = eq-eqb (rows word) 0 (word_flat word (is_word-name word is))

place-unbroken : (place : Expr) → is_writable_place place ≡ true → is_unbroken (written_expr place) ≡ true
place-unbroken place good = expr-unbroken place (and_parts (is_place place) (is_writable_expr place) good).1

exprs-unbroken : (es : List Expr) → list_all is_writable_expr es ≡ true → list_all (λ e. is_unbroken (written_expr e)) es ≡ true
exprs-unbroken [] good = refl
exprs-unbroken (e ∷ es) good =
    let (first, others) = and_parts (is_writable_expr e) (list_all is_writable_expr es) good in
    and_from _ _ (expr-unbroken e first) (exprs-unbroken es others)

-- one expression, and one name
one : (b : Bool) → b ≡ true → (b && true) ≡ true
one b is = and_from b true is refl

both : (first second : List Stmt) → are_unbroken first ≡ true → are_unbroken second ≡ true → are_unbroken (first ++ second) ≡ true
both first second is also = list_all-append is_unbroken_stmt first second ∙ and_from _ _ is also

expr-alone : (e : Expr) → is_writable_expr e ≡ true → ((is_unbroken (written_expr e) && true) && true) ≡ true
expr-alone e good = one _ (one _ (expr-unbroken e good))

mutual
  stmt-unbroken : (stmt : Stmt) (around : Around) → is_writable_stmt around stmt ≡ true → are_unbroken (stmt ∷ inner_stmts stmt) ≡ true
  stmt-unbroken (Assign place e) around good =
      let (first, second) = and_parts (is_writable_place place) (is_writable_expr e) good in
      one _ (one _ (and_from _ _ (place-unbroken place first) (one _ (expr-unbroken e second))))
  stmt-unbroken (Call None function arguments own) around good =
      let (named, others) = and_parts (is_name function) (list_all is_writable_expr arguments && is_small own) good in
      let (fit, small) = and_parts (list_all is_writable_expr arguments) (is_small own) others in
      one _ (and_from _ _ (exprs-unbroken arguments fit) (one _ (word-unbroken function named)))
  stmt-unbroken (Call (Some place) function arguments own) around good =
      let (first, second) = and_parts (is_writable_place place) (is_name function && (list_all is_writable_expr arguments && is_small own)) good in
      let (named, others) = and_parts (is_name function) (list_all is_writable_expr arguments && is_small own) second in
      let (fit, small) = and_parts (list_all is_writable_expr arguments) (is_small own) others in
      one _ (and_from _ _ (and_from _ _ (place-unbroken place first) (exprs-unbroken arguments fit)) (one _ (word-unbroken function named)))
  stmt-unbroken (If e body otherwise) around good =
      let (test, blocks) = and_parts (is_writable_expr e) (are_writable_lines (in_block around) false body && are_writable_lines (in_block around) false otherwise) good in
      let (first, second) = and_parts (are_writable_lines (in_block around) false body) (are_writable_lines (in_block around) false otherwise) blocks in
      and_from _ _ (expr-alone e test) (both (stmts_in body) (stmts_in otherwise) (lines-unbroken body (in_block around) false first) (lines-unbroken otherwise (in_block around) false second))
  stmt-unbroken (While e body) around good =
      let (test, inner) = and_parts (is_writable_expr e) (are_writable_lines (in_loop around) false body) good in
      and_from _ _ (expr-alone e test) (lines-unbroken body (in_loop around) false inner)
  stmt-unbroken (DoWhile body e) around good =
      let (test, inner) = and_parts (is_writable_expr e) (are_writable_lines (in_loop around) false body) good in
      and_from _ _ (expr-alone e test) (lines-unbroken body (in_loop around) false inner)
  stmt-unbroken (Forever body) around good = lines-unbroken body (in_loop around) false good
  stmt-unbroken (Switch e arms last) around good =
      let (test, others) = and_parts (is_writable_expr e) ((has_arm arms || has_arm last) && (are_writable_arms (in_switch around) arms && is_writable_default (in_switch around) last)) good in
      let (some, rest) = and_parts (has_arm arms || has_arm last) (are_writable_arms (in_switch around) arms && is_writable_default (in_switch around) last) others in
      let (first, second) = and_parts (are_writable_arms (in_switch around) arms) (is_writable_default (in_switch around) last) rest in
      and_from _ _ (expr-alone e test) (both (arm_stmts arms) (arm_stmts last) (arms-unbroken arms (in_switch around) first) (default-unbroken last (in_switch around) second))
  stmt-unbroken Break around good = refl
  stmt-unbroken Continue around good = refl
  stmt-unbroken (Goto word) around good = one _ (one _ (word-unbroken word good))
  stmt-unbroken (Label word) around good = one _ (one _ (word-unbroken word good))
  stmt-unbroken Empty around good = refl
  stmt-unbroken (Return None) around good = refl
  stmt-unbroken (Return (Some e)) around good = one _ (expr-alone e good)

  lines-unbroken : (lines : Lines) (around : Around) (labelled : Bool) → are_writable_lines around labelled lines ≡ true → are_unbroken (stmts_in lines) ≡ true
  lines-unbroken no_lines around labelled good = refl
  lines-unbroken (line stmt was lines) around labelled good =
      let (here, others) = and_parts (nat_le around.blocks 200) (is_writable_stmt around stmt && are_writable_lines around (is_label stmt) lines) good in
      let (first, second) = and_parts (is_writable_stmt around stmt) (are_writable_lines around (is_label stmt) lines) others in
      both (stmt ∷ inner_stmts stmt) (stmts_in lines) (stmt-unbroken stmt around first) (lines-unbroken lines around (is_label stmt) second)

  arms-unbroken : (arms : Arms) (around : Around) → are_writable_arms around arms ≡ true → are_unbroken (arm_stmts arms) ≡ true
  arms-unbroken no_arms around good = refl
  arms-unbroken (arm cases body arms) around good =
      let (few, own) = and_parts (nat_le around.blocks 200) (are_cases cases && (are_writable_lines around false body && are_writable_arms around arms)) good in
      let (numbers, others) = and_parts (are_cases cases) (are_writable_lines around false body && are_writable_arms around arms) own in
      let (inner, rest) = and_parts (are_writable_lines around false body) (are_writable_arms around arms) others in
      both (stmts_in body) (arm_stmts arms) (lines-unbroken body around false inner) (arms-unbroken arms around rest)

  default-unbroken : (last : Arms) (around : Around) → is_writable_default around last ≡ true → are_unbroken (arm_stmts last) ≡ true
  default-unbroken no_arms around good = refl
  default-unbroken (arm cases body no_arms) around good =
      let (few, own) = and_parts (nat_le around.blocks 200) (has_no_case cases && (are_writable_lines around false body && true)) good in
      let (numbers, others) = and_parts (has_no_case cases) (are_writable_lines around false body && true) own in
      both (stmts_in body) [] (lines-unbroken body around false (and_parts (are_writable_lines around false body) true others).0) refl
  default-unbroken (arm cases body (arm more inner arms)) around good =
      let (few, own) = and_parts (nat_le around.blocks 200) (has_no_case cases && (are_writable_lines around false body && false)) good in
      let (numbers, others) = and_parts (has_no_case cases) (are_writable_lines around false body && false) own in
      absurd (both_ways false refl (and_parts (are_writable_lines around false body) false others).1)

functions-unbroken : (functions : List Function) → list_all is_writable_function functions ≡ true → list_all (λ f. are_unbroken (stmts_in f.body)) functions ≡ true
functions-unbroken [] good = refl
functions-unbroken (f ∷ functions) good =
    let (first, others) = and_parts (is_writable_function f) (list_all is_writable_function functions) good in
    let (named, rest) = and_parts (is_name f.name) (list_all is_writable_param f.params && (list_all is_writable_local f.locals && are_writable_lines outermost false f.body)) first in
    let (given, more) = and_parts (list_all is_writable_param f.params) (list_all is_writable_local f.locals && are_writable_lines outermost false f.body) rest in
    let (local, inner) = and_parts (list_all is_writable_local f.locals) (are_writable_lines outermost false f.body) more in
    and_from _ _ (lines-unbroken f.body outermost false inner) (functions-unbroken functions others)

pub tree-unbroken : (tree : Tree) → IsWritable tree → is_unbroken_tree tree ≡ true
tree-unbroken tree good = functions-unbroken tree.functions good.functions
