-- The trees of statements with blocks, as the lists of their lines and arms give them.
use Rattle.std.proofs.Common.{◌≡◌, List, Vec, Global, Option, Some, None, refl, sym, ap, ◌∙◌}
use mathlib.Core.Former.{Count}
use Rattle.dcc_c.specs.declared.syntax.CExpr.{CExpr}
use Rattle.dcc_c.specs.declared.syntax.CStmt.{CStmt, If as IfOf, If', While as WhileOf, While', DoWhile as DoWhileOf, DoWhile', Forever as ForeverOf, Forever', Switch as SwitchOf, Switch', Row_of-Line, end_of-Line, more_of-Line, Row_of-Arm, end_of-Arm, more_of-Arm, items-the_row-Line, items-the_row-Arm, items_hidden-the_row-Line-0, items_hidden-the_row-Arm-1, items_shown-the_row-Line-0}
use Rattle.dcc_c.specs.declared.syntax.Line.{Line}
use Rattle.dcc_c.specs.declared.syntax.Arm.{Arm, Arm', out-Arm, outs-Arm'}
use Rattle.dcc_c.specs.Tree.{If, While, DoWhile, Forever, Switch, line, Arms, no_arms, arm}
use Rattle.dcc_c.specs.Views.{expr_of, stmt_of, lines_of, lines_of_row, arm_before, arms_of, arms_of_row, arms_if}

row-lines : {n : _} (row : Row_of-Line n) → lines_of (items-the_row-Line n row) ≡ lines_of_row row
row-lines end_of-Line = refl
row-lines (more_of-Line stmt at rest) = ap (line (stmt_of stmt) at) (row-lines rest)

row-arms : {n : _} (row : Row_of-Arm n) → arms_of (items-the_row-Arm n row) ≡ arms_of_row row
row-arms end_of-Arm = refl
row-arms (more_of-Arm a rest) = ap (arm_before a) (row-arms rest)

-- the rows of a statement's blocks
abbrev first_row : CStmt → (n : Count) × Row_of-Line n
first_row (If' e _ body _ otherwise) = (_, body)
first_row (While' e _ body) = (_, body)
first_row (DoWhile' _ body e) = (_, body)
first_row (Forever' _ body) = (_, body)
first_row _ = (_, end_of-Line)

abbrev second_row : CStmt → (n : Count) × Row_of-Line n
second_row (If' e _ body _ otherwise) = (_, otherwise)
second_row _ = (_, end_of-Line)

abbrev arm_row : CStmt → (n : Count) × Row_of-Arm n
arm_row (Switch' e _ arms last) = (_, arms)
arm_row _ = (_, end_of-Arm)

-- the row that a list of lines becomes
hidden-lines : {n : _} (row : Row_of-Line n) (lines : List Line) → items-the_row-Line n row ≡ lines → lines_of_row row ≡ lines_of lines
hidden-lines row lines same = sym (row-lines row) ∙ ap lines_of same

hidden-arms : {n : _} (row : Row_of-Arm n) (arms : List Arm) → items-the_row-Arm n row ≡ arms → arms_of_row row ≡ arms_of arms
hidden-arms row arms same = sym (row-arms row) ∙ ap arms_of same

-- an arm, by the record of its parts
pub arm-parts : (a : Arm) (arms : Arms) → arm_before a arms ≡ arm (out-Arm a).cases.items (lines_of (out-Arm a).body.items) arms
arm-parts (Arm' cases n body) arms =
    let shown = ap lines_of (items_shown-the_row-Line-0 n body) ∙ row-lines body in
    ap (λ lines. arm cases.items lines arms) (sym shown)
    ∙ ap (λ parts. arm parts.cases.items (lines_of parts.body.items) arms) (sym (outs-Arm' cases n body))

pub if-tree : (e : CExpr) (body otherwise : Vec Line Global) → stmt_of (IfOf e body otherwise) ≡ If (expr_of e) (lines_of body.items) (lines_of otherwise.items)
if-tree e body otherwise =
    let stmt = IfOf e body otherwise in
    let first = hidden-lines (first_row stmt).1 body.items (items_hidden-the_row-Line-0 body) in
    let second = hidden-lines (second_row stmt).1 otherwise.items (items_hidden-the_row-Line-0 otherwise) in
    ap (λ lines. If (expr_of e) lines (lines_of_row (second_row stmt).1)) first
    ∙ ap (λ lines. If (expr_of e) (lines_of body.items) lines) second

pub while-tree : (e : CExpr) (body : Vec Line Global) → stmt_of (WhileOf e body) ≡ While (expr_of e) (lines_of body.items)
while-tree e body =
    ap (λ lines. While (expr_of e) lines) (hidden-lines (first_row (WhileOf e body)).1 body.items (items_hidden-the_row-Line-0 body))

pub do_while-tree : (e : CExpr) (body : Vec Line Global) → stmt_of (DoWhileOf body e) ≡ DoWhile (lines_of body.items) (expr_of e)
do_while-tree e body =
    ap (λ lines. DoWhile lines (expr_of e)) (hidden-lines (first_row (DoWhileOf body e)).1 body.items (items_hidden-the_row-Line-0 body))

pub forever-tree : (body : Vec Line Global) → stmt_of (ForeverOf body) ≡ Forever (lines_of body.items)
forever-tree body =
    ap (λ lines. Forever lines) (hidden-lines (first_row (ForeverOf body)).1 body.items (items_hidden-the_row-Line-0 body))

pub switch-tree : (e : CExpr) (arms : Vec Arm Global) (last : Option Arm) → stmt_of (SwitchOf e arms last) ≡ Switch (expr_of e) (arms_of arms.items) (arms_if last)
switch-tree e arms None =
    ap (λ trees. Switch (expr_of e) trees no_arms) (hidden-arms (arm_row (SwitchOf e arms None)).1 arms.items (items_hidden-the_row-Arm-1 arms))
switch-tree e arms (Some a) =
    ap (λ trees. Switch (expr_of e) trees (arm_before a no_arms)) (hidden-arms (arm_row (SwitchOf e arms (Some a))).1 arms.items (items_hidden-the_row-Arm-1 arms))
