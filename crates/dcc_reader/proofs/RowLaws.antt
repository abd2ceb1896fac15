-- The partial trees of statements with blocks, by the lists of their statements and arms.
use Rattle.std.proofs.Common.{◌≡◌, ℕ, ◌+◌, ◌<◌, Bool, List, Vec, Global, length, map, drop, get_or, refl, sym, ap, ◌∙◌}
use mathlib.Core.Former.{Count}
use Rattle.dcc_c.specs.Partial.{IfOf, WhileOf, DoWhileOf, ForeverOf, SwitchOf, PartialArms, row, cases}
use Rattle.dcc_reader.specs.declared.partial.PartialExpr.{PartialExpr}
use Rattle.dcc_reader.specs.declared.partial.PartialStmt.{PartialStmt, If, If', While, While', DoWhile, DoWhile', Forever, Forever', Switch, Switch', Row_of-Row, end_of-Row, more_of-Row, Row_of-PartialArm, end_of-PartialArm, more_of-PartialArm, items-the_row-Row, items-the_row-PartialArm, items_hidden-the_row-Row-0, items_hidden-the_row-PartialArm-1, items_shown-the_row-Row-0}
use Rattle.dcc_reader.specs.declared.partial.Row.{Row}
use Rattle.dcc_reader.specs.declared.partial.PartialArm.{PartialArm, PartialArm', out-PartialArm, outs-PartialArm'}
use Rattle.dcc_reader.specs.PartialViews.{case_of, expr_of, stmt_of, lines_of, lines_of_row, arm_before, arms_of, arms_of_row}
use Rattle.dcc_reader.proofs.LeftLaws.{next-left}

row-lines : {n : _} (rows : Row_of-Row n) → lines_of (items-the_row-Row n rows) ≡ lines_of_row rows
row-lines end_of-Row = refl
row-lines (more_of-Row stmt at line rest) = ap (row (stmt_of stmt) at line) (row-lines rest)

row-arms : {n : _} (arms : Row_of-PartialArm n) → arms_of (items-the_row-PartialArm n arms) ≡ arms_of_row arms
row-arms end_of-PartialArm = refl
row-arms (more_of-PartialArm a rest) = ap (arm_before a) (row-arms rest)

-- the rows of a statement's blocks
abbrev first_row : PartialStmt → (n : Count) × Row_of-Row n
first_row (If' e done _ body _ otherwise) = (_, body)
first_row (While' e done _ body) = (_, body)
first_row (DoWhile' _ body e done) = (_, body)
first_row (Forever' _ body) = (_, body)
first_row _ = (_, end_of-Row)

abbrev second_row : PartialStmt → (n : Count) × Row_of-Row n
second_row (If' e done _ body _ otherwise) = (_, otherwise)
second_row _ = (_, end_of-Row)

abbrev arm_row : PartialStmt → (n : Count) × Row_of-PartialArm n
arm_row (Switch' e done _ arms) = (_, arms)
arm_row _ = (_, end_of-PartialArm)

-- the row that a list of statements becomes
hidden-lines : {n : _} (rows : Row_of-Row n) (lines : List Row) → items-the_row-Row n rows ≡ lines → lines_of_row rows ≡ lines_of lines
hidden-lines rows lines same = sym (row-lines rows) ∙ ap lines_of same

hidden-arms : {n : _} (rows : Row_of-PartialArm n) (arms : List PartialArm) → items-the_row-PartialArm n rows ≡ arms → arms_of_row rows ≡ arms_of arms
hidden-arms rows arms same = sym (row-arms rows) ∙ ap arms_of same

-- an arm, by the record of its parts
pub arm-parts : (a : PartialArm) (arms : PartialArms) → arm_before a arms
    ≡ cases (map case_of (out-PartialArm a).numbers.items) (out-PartialArm a).default (lines_of (out-PartialArm a).body.items) arms
arm-parts (PartialArm' numbers default n body) arms =
    let shown = ap lines_of (items_shown-the_row-Row-0 n body) ∙ row-lines body in
    ap (λ lines. cases (map case_of numbers.items) default lines arms) (sym shown)
    ∙ ap (λ parts. cases (map case_of parts.numbers.items) parts.default (lines_of parts.body.items) arms) (sym (outs-PartialArm' numbers default n body))

-- the first of the arms that are left, by the record of its parts
pub arm-left : {Y : Type 0} (F : PartialArms → Y) (arms : List PartialArm) (i : ℕ) (a : PartialArm) → i < length arms → a ≡ get_or arms i a →
    F (arms_of (drop i arms))
    ≡ F (cases (map case_of (out-PartialArm a).numbers.items) (out-PartialArm a).default (lines_of (out-PartialArm a).body.items) (arms_of (drop (i + 1) arms)))
arm-left F arms i a within is = next-left (λ l. F (arms_of l)) arms i a within is ∙ ap F (arm-parts a (arms_of (drop (i + 1) arms)))

pub if-tree : (e : PartialExpr) (done : Bool) (body otherwise : Vec Row Global) →
    stmt_of (If e done body otherwise) ≡ IfOf (expr_of e) done (lines_of body.items) (lines_of otherwise.items)
if-tree e done body otherwise =
    let stmt = If e done body otherwise in
    let first = hidden-lines (first_row stmt).1 body.items (items_hidden-the_row-Row-0 body) in
    let second = hidden-lines (second_row stmt).1 otherwise.items (items_hidden-the_row-Row-0 otherwise) in
    ap (λ lines. IfOf (expr_of e) done lines (lines_of_row (second_row stmt).1)) first
    ∙ ap (λ lines. IfOf (expr_of e) done (lines_of body.items) lines) second

pub while-tree : (e : PartialExpr) (done : Bool) (body : Vec Row Global) → stmt_of (While e done body) ≡ WhileOf (expr_of e) done (lines_of body.items)
while-tree e done body =
    ap (λ lines. WhileOf (expr_of e) done lines) (hidden-lines (first_row (While e done body)).1 body.items (items_hidden-the_row-Row-0 body))

pub do_while-tree : (e : PartialExpr) (done : Bool) (body : Vec Row Global) → stmt_of (DoWhile body e done) ≡ DoWhileOf (lines_of body.items) (expr_of e) done
do_while-tree e done body =
    ap (λ lines. DoWhileOf lines (expr_of e) done) (hidden-lines (first_row (DoWhile body e done)).1 body.items (items_hidden-the_row-Row-0 body))

pub forever-tree : (body : Vec Row Global) → stmt_of (Forever body) ≡ ForeverOf (lines_of body.items)
forever-tree body =
    ap (λ lines. ForeverOf lines) (hidden-lines (first_row (Forever body)).1 body.items (items_hidden-the_row-Row-0 body))

pub switch-tree : (e : PartialExpr) (done : Bool) (arms : Vec PartialArm Global) → stmt_of (Switch e done arms) ≡ SwitchOf (expr_of e) done (arms_of arms.items)
switch-tree e done arms =
    ap (λ trees. SwitchOf (expr_of e) done trees) (hidden-arms (arm_row (Switch e done arms)).1 arms.items (items_hidden-the_row-PartialArm-1 arms))
