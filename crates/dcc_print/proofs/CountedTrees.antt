-- Lines and arms, some of which are counted already.
use Rattle.std.proofs.Common.{◌≡◌, ℕ, ◌+◌, ◌<◌, Bool, true, false, ◌==◌, List, [], ◌∷◌, ◌++◌, length, get_or, take, drop, set, refl, ap, ap₂, sym, ◌∙◌, subst, arith}
use Rattle.std.proofs.lemmas.List.{append-nil, with_items_is, at_drop_more, take_more_set, drop-set-lt}
use Rattle.std.proofs.Common.{Vec, Global, Option}
use Rattle.std.specs.Prelude.{not, if◌then◌else◌, Result, Ok, Err, IfOk, OnOk}
use Rattle.std.specs.Vec.{with_items}
use Rattle.std.proofs.lemmas.Bool.{and_parts, ne_eqb}
use Rattle.std.proofs.lemmas.List.Folds.{list_all-append}
use Rattle.dcc_c.specs.declared.syntax.CExpr.{CExpr}
use Rattle.dcc_c.specs.declared.syntax.CStmt.{If as IfOf, While as WhileOf, DoWhile as DoWhileOf, Forever as ForeverOf, Switch as SwitchOf}
use Rattle.dcc_c.specs.declared.syntax.Line.{Line}
use Rattle.dcc_c.specs.declared.syntax.Arm.{Arm, out-Arm, roll-Arm, out-roll-Arm}
use Rattle.dcc_c.specs.Tree.{Expr, Stmt, If, While, DoWhile, Forever, Switch, Lines, no_lines, line, Arms, no_arms, arm}
use Rattle.dcc_c.specs.Parts.{stmts_in, inner_stmts, arm_stmts, exprs_of}
use Rattle.dcc_c.specs.Written.{depth_after, next_depth, written_depth, written_expr, written_else, written_cases, written_stmt, written_lines, written_arms, written_default}
use Rattle.dcc_c.specs.Numbered.{rows, numbered_stmt, numbered_lines, numbered_arms, numbered_default}
use Rattle.dcc_c.specs.Views.{expr_of, stmt_of, lines_of, arm_before, arms_of, arms_if}
use Rattle.dcc_print.specs.Unbroken.{is_unbroken_stmt, are_unbroken}
use Rattle.dcc_print.proofs.BlockLaws.{depth-step}
use Rattle.dcc_print.proofs.DepthLaws.{depth_after-append}
use Rattle.dcc_c.proofs.RowLaws.{arm-parts, if-tree, while-tree, do_while-tree, forever-tree, switch-tree}
use Rattle.dcc_print.proofs.CountedRows.{else-count, if-count, switch-count, arm-count, lines-count, has_block, test-flat, own-count}

-- lines before others
abbrev pub lines_before : List Line → Lines → Lines
lines_before [] rest = rest
lines_before (l ∷ ls) rest = line (stmt_of l.stmt) l.line (lines_before ls rest)

-- arms before others
abbrev pub arms_before : List Arm → Arms → Arms
arms_before [] rest = rest
arms_before (a ∷ given) rest = arm_before a (arms_before given rest)

pub lines_before-append : (first second : List Line) (rest : Lines) → lines_before (first ++ second) rest ≡ lines_before first (lines_before second rest)
lines_before-append [] second rest = refl
lines_before-append (l ∷ ls) second rest = ap (line (stmt_of l.stmt) l.line) (lines_before-append ls second rest)

pub arms_before-append : (first second : List Arm) (rest : Arms) → arms_before (first ++ second) rest ≡ arms_before first (arms_before second rest)
arms_before-append [] second rest = refl
arms_before-append (a ∷ given) second rest = ap (arm_before a) (arms_before-append given second rest)

-- Parts of statements without line feeds.

pub both-unbroken : (first second : List Stmt) → are_unbroken (first ++ second) ≡ true → (are_unbroken first ≡ true) × (are_unbroken second ≡ true)
both-unbroken first second is = and_parts (are_unbroken first) (are_unbroken second) (sym (list_all-append is_unbroken_stmt first second) ∙ is)

pub arm-unbroken : (a : Arm) → are_unbroken (arm_stmts (arm_before a no_arms)) ≡ true → are_unbroken (stmts_in (lines_of (out-Arm a).body.items)) ≡ true
arm-unbroken a is =
    (both-unbroken (stmts_in (lines_of (out-Arm a).body.items)) [] (subst (λ arms. are_unbroken (arm_stmts arms) ≡ true) (arm-parts a no_arms) is)).0

-- an arm that is made of parts
pub rolled-parts : (r : _) (arms : Arms) → arm_before (roll-Arm r) arms ≡ arm r.cases.items (lines_of r.body.items) arms
rolled-parts r arms = arm-parts (roll-Arm r) arms ∙ ap (λ parts. arm parts.cases.items (lines_of parts.body.items) arms) (out-roll-Arm r)

-- A statement with blocks, from the blocks inside it.

pub if-numbered : (depth at : ℕ) (stmt : Stmt) (e : Expr) (body otherwise : Lines) (first middle following second : ℕ) (new_body new_otherwise : Lines) → stmt ≡ If e body otherwise
    → first ≡ at + 1 → new_body ≡ numbered_lines depth first body
    → following ≡ first + rows (written_lines 1 depth body) → middle ≡ depth_after depth (stmts_in body)
    → second ≡ following + 1 → new_otherwise ≡ numbered_lines middle second otherwise
    → If e new_body new_otherwise ≡ numbered_stmt depth at stmt
if-numbered depth at stmt e body otherwise first middle following second new_body new_otherwise is first_is body_is following_is middle_is second_is otherwise_is =
    let there : second ≡ at + 2 + rows (written_lines 1 depth body) = omega (arith, first_is, following_is, second_is) in
    ap₂ (If e) (body_is ∙ ap (λ n. numbered_lines depth n body) first_is) (otherwise_is ∙ ap₂ (λ m n. numbered_lines m n otherwise) middle_is there)
    ∙ ap (numbered_stmt depth at) (sym is)

pub if-line : (depth at : ℕ) (stmt : Stmt) (e : Expr) (body otherwise : Lines) (first middle following second last : ℕ) → stmt ≡ If e body otherwise → rows (written_expr e) ≡ 0
    → first ≡ at + 1 → following ≡ first + rows (written_lines 1 depth body) → middle ≡ depth_after depth (stmts_in body)
    → second ≡ following + 1 → last ≡ second + rows (written_else 1 otherwise (written_lines 1 middle otherwise))
    → last ≡ at + rows (written_stmt 1 depth stmt)
if-line depth at stmt e body otherwise first middle following second last is flat first_is following_is middle_is second_is last_is =
    let there : last ≡ second + rows (written_else 1 otherwise (written_lines 1 (depth_after depth (stmts_in body)) otherwise)) =
    last_is ∙ ap (λ m. second + rows (written_else 1 otherwise (written_lines 1 m otherwise))) middle_is in
    let all : rows (written_stmt 1 depth stmt) ≡ rows (written_lines 1 depth body) + 2 + rows (written_else 1 otherwise (written_lines 1 (depth_after depth (stmts_in body)) otherwise)) =
    ap (λ s. rows (written_stmt 1 depth s)) is ∙ if-count depth e body otherwise flat in
    omega (arith, first_is, following_is, second_is, there, all)

pub if-depth : (depth : ℕ) (stmt : Stmt) (e : Expr) (body otherwise : Lines) (middle last : ℕ) → stmt ≡ If e body otherwise
    → middle ≡ depth_after depth (stmts_in body) → last ≡ depth_after middle (stmts_in otherwise)
    → last ≡ depth_after depth (stmt ∷ inner_stmts stmt)
if-depth depth stmt e body otherwise middle last is middle_is last_is =
    last_is ∙ ap (λ m. depth_after m (stmts_in otherwise)) middle_is
    ∙ sym (depth_after-append depth (stmts_in body) (stmts_in otherwise))
    ∙ ap (λ s. depth_after depth (s ∷ inner_stmts s)) (sym is)

pub switch-numbered : (depth at : ℕ) (stmt : Stmt) (e : Expr) (arms last : Arms) (first middle following second : ℕ) (counted_arms counted_last : Arms) → stmt ≡ Switch e arms last
    → first ≡ at + 1 → counted_arms ≡ numbered_arms depth first arms
    → following ≡ first + rows (written_arms 1 depth arms) → middle ≡ depth_after depth (arm_stmts arms)
    → second ≡ following + 1 → counted_last ≡ numbered_default middle second last
    → Switch e counted_arms counted_last ≡ numbered_stmt depth at stmt
switch-numbered depth at stmt e arms last first middle following second counted_arms counted_last is first_is arms_is following_is middle_is second_is last_is =
    let there : second ≡ at + 2 + rows (written_arms 1 depth arms) = omega (arith, first_is, following_is, second_is) in
    ap₂ (Switch e) (arms_is ∙ ap (λ n. numbered_arms depth n arms) first_is)
    (last_is ∙ ap₂ (λ m n. numbered_default m n last) (middle_is ∙ ap (depth_after depth) (sym (append-nil (arm_stmts arms)))) there)
    ∙ ap (numbered_stmt depth at) (sym is)

pub switch-line : (depth at : ℕ) (stmt : Stmt) (e : Expr) (arms last : Arms) (first middle following second end : ℕ) → stmt ≡ Switch e arms last → rows (written_expr e) ≡ 0
    → first ≡ at + 1 → following ≡ first + rows (written_arms 1 depth arms) → middle ≡ depth_after depth (arm_stmts arms)
    → second ≡ following + 1 → end ≡ second + rows (written_default 1 middle last)
    → end ≡ at + rows (written_stmt 1 depth stmt)
switch-line depth at stmt e arms last first middle following second end is flat first_is following_is middle_is second_is end_is =
    let there : end ≡ second + rows (written_default 1 (depth_after depth (inner_stmts (Switch e arms no_arms))) last) =
    end_is ∙ ap (λ m. second + rows (written_default 1 m last)) (middle_is ∙ ap (depth_after depth) (sym (append-nil (arm_stmts arms)))) in
    let all : rows (written_stmt 1 depth stmt) ≡ rows (written_arms 1 depth arms) + 2 + rows (written_default 1 (depth_after depth (inner_stmts (Switch e arms no_arms))) last) =
    ap (λ s. rows (written_stmt 1 depth s)) is ∙ switch-count depth e arms last flat in
    omega (arith, first_is, following_is, second_is, there, all)

pub switch-depth : (depth : ℕ) (stmt : Stmt) (e : Expr) (arms last : Arms) (middle end : ℕ) → stmt ≡ Switch e arms last
    → middle ≡ depth_after depth (arm_stmts arms) → end ≡ depth_after middle (arm_stmts last)
    → end ≡ depth_after depth (stmt ∷ inner_stmts stmt)
switch-depth depth stmt e arms last middle end is middle_is end_is =
    end_is ∙ ap (λ m. depth_after m (arm_stmts last)) middle_is
    ∙ sym (depth_after-append depth (arm_stmts arms) (arm_stmts last))
    ∙ ap (λ s. depth_after depth (s ∷ inner_stmts s)) (sym is)

-- One more of the lines that are left, and what of the count is left after it.

pub line-numbered : (depth at own here following last : ℕ) (stmt new : Stmt) (was : ℕ) (rest left : Lines) → left ≡ line stmt was rest → own ≡ next_depth depth left
    → here ≡ at + rows (written_depth depth own) → new ≡ numbered_stmt own here stmt
    → last ≡ here + rows (written_stmt 1 own stmt) → following ≡ depth_after own (stmt ∷ inner_stmts stmt)
    → line new here (numbered_lines following last rest) ≡ numbered_lines depth at left
line-numbered depth at own here following last stmt new was rest left is own_is here_is new_is last_is following_is =
    rw (new_is, last_is, following_is, here_is, own_is, is) refl

pub line-line : (depth at own here following last : ℕ) (stmt : Stmt) (was : ℕ) (rest left : Lines) → left ≡ line stmt was rest → own ≡ next_depth depth left
    → here ≡ at + rows (written_depth depth own)
    → last ≡ here + rows (written_stmt 1 own stmt) → following ≡ depth_after own (stmt ∷ inner_stmts stmt)
    → last + rows (written_lines 1 following rest) ≡ at + rows (written_lines 1 depth left)
line-line depth at own here following last stmt was rest left is own_is here_is last_is following_is =
    let n = next_depth depth (line stmt was rest) in
    let same : own ≡ n = own_is ∙ ap (next_depth depth) is in
    let all : rows (written_lines 1 depth left) ≡ rows (written_depth depth n) + (rows (written_stmt 1 n stmt) + rows (written_lines 1 (depth_after n (stmt ∷ inner_stmts stmt)) rest)) =
    ap (λ l. rows (written_lines 1 depth l)) is ∙ lines-count depth stmt was rest in
    let one : last ≡ at + rows (written_depth depth n) + rows (written_stmt 1 n stmt) =
    last_is ∙ ap (λ h. h + rows (written_stmt 1 own stmt)) here_is ∙ ap (λ m. at + rows (written_depth depth m) + rows (written_stmt 1 m stmt)) same in
    let other : rows (written_lines 1 following rest) ≡ rows (written_lines 1 (depth_after n (stmt ∷ inner_stmts stmt)) rest) =
    ap (λ m. rows (written_lines 1 m rest)) (following_is ∙ ap (λ m. depth_after m (stmt ∷ inner_stmts stmt)) same) in
    omega (arith, all, one, other)

pub line-depth : (depth own following was : ℕ) (stmt : Stmt) (rest left : Lines) → left ≡ line stmt was rest → own ≡ next_depth depth left → following ≡ depth_after own (stmt ∷ inner_stmts stmt)
    → depth_after following (stmts_in rest) ≡ depth_after depth (stmts_in left)
line-depth depth own following was stmt rest left is own_is following_is =
    depth-step depth own following was (depth_after depth (stmts_in left)) stmt rest left is refl own_is following_is

pub line-unbroken : (stmt : Stmt) (was : ℕ) (rest left : Lines) → left ≡ line stmt was rest → are_unbroken (stmts_in left) ≡ true
    → (are_unbroken (stmt ∷ inner_stmts stmt) ≡ true) × (are_unbroken (stmts_in rest) ≡ true)
line-unbroken stmt was rest left is unbroken =
    both-unbroken (stmt ∷ inner_stmts stmt) (stmts_in rest) (subst (λ l. are_unbroken (stmts_in l) ≡ true) is unbroken)

-- the lines of a slice in which one is counted
pub one-line : (lines : List Line) (i : ℕ) (new : Line) (rest : Lines) → i < length lines → lines_before (take (i + 1) (set lines i new)) rest
    ≡ lines_before (take i lines) (line (stmt_of new.stmt) new.line rest)
one-line lines i new rest within =
    ap (λ ls. lines_before ls rest) (take_more_set lines i new within) ∙ lines_before-append (take i lines) (new ∷ []) rest

pub one-arm : (arms : List Arm) (i : ℕ) (new : Arm) (rest : Arms) → i < length arms → arms_before (take (i + 1) (set arms i new)) rest ≡ arms_before (take i arms) (arm_before new rest)
one-arm arms i new rest within =
    ap (λ ls. arms_before ls rest) (take_more_set arms i new within) ∙ arms_before-append (take i arms) (new ∷ []) rest

-- the lines and arms that are left after one that is counted
pub lines-left : (lines : List Line) (i : ℕ) (new : Line) → lines_of (drop (i + 1) (set lines i new)) ≡ lines_of (drop (i + 1) lines)
lines-left lines i new = ap lines_of (drop-set-lt (i + 1) lines i new (omega arith))

pub arms-left : (arms : List Arm) (i : ℕ) (new : Arm) → arms_of (drop (i + 1) (set arms i new)) ≡ arms_of (drop (i + 1) arms)
arms-left arms i new = ap arms_of (drop-set-lt (i + 1) arms i new (omega arith))

-- the first of those that are left
pub first_line : (lines : List Line) (i : ℕ) (d : Line) → i < length lines → lines_of (drop i lines) ≡ line (stmt_of (get_or lines i d).stmt) (get_or lines i d).line (lines_of (drop (i + 1) lines))
first_line lines i d within = ap lines_of (at_drop_more (λ xs. xs) lines i d within)

pub first_arm : (arms : List Arm) (i : ℕ) (d : Arm) → i < length arms → arms_of (drop i arms) ≡ arm_before (get_or arms i d) (arms_of (drop (i + 1) arms))
first_arm arms i d within = ap arms_of (at_drop_more (λ xs. xs) arms i d within)

-- all lines and all arms, counted
pub whole_lines : (lines : List Line) → lines_before lines no_lines ≡ lines_of lines
whole_lines [] = refl
whole_lines (l ∷ ls) = ap (line (stmt_of l.stmt) l.line) (whole_lines ls)

pub whole_arms : (arms : List Arm) → arms_before arms no_arms ≡ arms_of arms
whole_arms [] = refl
whole_arms (a ∷ given) = ap (arm_before a) (whole_arms given)

-- An arm before others, from its body.

pub arm-numbered : (depth at first following last end : ℕ) (cases : List ℕ) (body new : Lines) (rest : Arms)
    → first ≡ at + length cases → new ≡ numbered_lines depth first body
    → last ≡ first + rows (written_lines 1 depth body) → following ≡ depth_after depth (stmts_in body) → end ≡ last + 1
    → arm cases new (numbered_arms following end rest) ≡ numbered_arms depth at (arm cases body rest)
arm-numbered depth at first following last end cases body new rest first_is new_is last_is following_is end_is =
    rw (new_is, end_is, last_is, following_is, first_is) refl

pub arm-line : (depth at first following last end : ℕ) (cases : List ℕ) (body : Lines) (rest : Arms)
    → first ≡ at + rows (written_cases 1 cases)
    → last ≡ first + rows (written_lines 1 depth body) → following ≡ depth_after depth (stmts_in body) → end ≡ last + 1
    → end + rows (written_arms 1 following rest) ≡ at + rows (written_arms 1 depth (arm cases body rest))
arm-line depth at first following last end cases body rest first_is last_is following_is end_is =
    let all = arm-count depth cases body rest in
    let other : rows (written_arms 1 following rest) ≡ rows (written_arms 1 (depth_after depth (stmts_in body)) rest) = ap (λ m. rows (written_arms 1 m rest)) following_is in
    omega (arith, all, other, first_is, last_is, end_is)

pub arm-depth : (depth following : ℕ) (cases : List ℕ) (body : Lines) (rest : Arms) → following ≡ depth_after depth (stmts_in body)
    → depth_after following (arm_stmts rest) ≡ depth_after depth (arm_stmts (arm cases body rest))
arm-depth depth following cases body rest following_is =
    ap (λ m. depth_after m (arm_stmts rest)) following_is ∙ sym (depth_after-append depth (stmts_in body) (arm_stmts rest))

-- The parts of a statement without line feeds.

pub test-unbroken : (stmt : Stmt) (e : Expr) → exprs_of stmt ≡ e ∷ [] → are_unbroken (stmt ∷ inner_stmts stmt) ≡ true → rows (written_expr e) ≡ 0
test-unbroken stmt e tests is = test-flat stmt e (and_parts (is_unbroken_stmt stmt) (are_unbroken (inner_stmts stmt)) is).0 tests

pub inner-unbroken : (stmt : Stmt) (inner : List Stmt) → inner_stmts stmt ≡ inner → are_unbroken (stmt ∷ inner_stmts stmt) ≡ true → are_unbroken inner ≡ true
inner-unbroken stmt inner inside is =
    ap are_unbroken (sym inside) ∙ (and_parts (is_unbroken_stmt stmt) (are_unbroken (inner_stmts stmt)) is).1

pub own-line : (depth at last : ℕ) (stmt : Stmt) → has_block stmt ≡ false → are_unbroken (stmt ∷ inner_stmts stmt) ≡ true → last ≡ at + 1 → last ≡ at + rows (written_stmt 1 depth stmt)
own-line depth at last stmt none is last_is =
    last_is ∙ ap (λ n. at + n) (sym (own-count depth stmt (and_parts (is_unbroken_stmt stmt) (are_unbroken (inner_stmts stmt)) is).0 none))

-- What holds of the place after a part.

pub if-both : {T E : Type 0} (r : Result T E) (P Q R : T → Type 0) → ((x : T) → P x → Q x → R x) → IfOk r P → IfOk r Q → IfOk r R
if-both (Ok x) P Q R both p q = both x p q
if-both (Err e) P Q R both p q = tt

pub on-ok : {T E P : Type 0} (r : Result T E) → P → OnOk r P
on-ok (Ok x) p = p
on-ok (Err e) p = tt

-- the line that ends a block, where there is one
abbrev pub ends : Bool → ℕ
ends is_there = if is_there then 1 else 0

-- the lines of the else part of an `if`
pub else-lines : (depth : ℕ) (lines : List Line) (has_else : Bool) → has_else ≡ not (length lines == 0)
    → rows (written_else 1 (lines_of lines) (written_lines 1 depth (lines_of lines))) ≡ rows (written_lines 1 depth (lines_of lines)) + ends has_else
else-lines depth [] has_else is =
    let none : ends has_else ≡ 0 = ap ends is in
    omega (arith, none)
else-lines depth (l ∷ ls) has_else is =
    else-count (stmt_of l.stmt) l.line (lines_of ls) (written_lines 1 depth (lines_of (l ∷ ls)))
    ∙ ap (λ b. rows (written_lines 1 depth (lines_of (l ∷ ls))) + ends b) (sym (is ∙ ap not (ne_eqb (length (l ∷ ls)) 0 (λ none. omega (arith, none)))))

-- What is made of an arm and of statements, where their blocks are replaced by others of their lengths.

pub with-items : {X : Type 0} (v : Vec X Global) (items : List X) → length items ≡ length v.items → (with_items v items).items ≡ items
with-items v items same = with_items_is v items (same ∙ sym v.ok.0)

pub counted-arm : (a : Arm) (lines : List Line) (arms : Arms) → length lines ≡ length (out-Arm a).body.items
    → arm_before (roll-Arm (record { cases = (out-Arm a).cases; body = with_items (out-Arm a).body lines })) arms ≡ arm (out-Arm a).cases.items (lines_of lines) arms
counted-arm a lines arms same =
    rolled-parts _ arms ∙ ap (λ ls. arm (out-Arm a).cases.items (lines_of ls) arms) (with-items (out-Arm a).body lines same)

-- a statement with its blocks counted, where it tests the value e
pub counted-if : (test : CExpr) (body otherwise : Vec Line Global) (e : CExpr) (lines others : List Line) (counted : Stmt) → test ≡ e
    → length lines ≡ length body.items → length others ≡ length otherwise.items → If (expr_of e) (lines_of lines) (lines_of others) ≡ counted
    → stmt_of (IfOf test (with_items body lines) (with_items otherwise others)) ≡ counted
counted-if test body otherwise e lines others counted tests same also is =
    if-tree test (with_items body lines) (with_items otherwise others)
    ∙ ap₂ (λ b o. If (expr_of test) (lines_of b) (lines_of o)) (with-items body lines same) (with-items otherwise others also)
    ∙ ap (λ x. If (expr_of x) (lines_of lines) (lines_of others)) tests ∙ is

pub counted-while : (test : CExpr) (body : Vec Line Global) (e : CExpr) (lines : List Line) (counted : Stmt) → test ≡ e
    → length lines ≡ length body.items → While (expr_of e) (lines_of lines) ≡ counted
    → stmt_of (WhileOf test (with_items body lines)) ≡ counted
counted-while test body e lines counted tests same is =
    while-tree test (with_items body lines) ∙ ap (λ b. While (expr_of test) (lines_of b)) (with-items body lines same)
    ∙ ap (λ x. While (expr_of x) (lines_of lines)) tests ∙ is

pub counted-do_while : (test : CExpr) (body : Vec Line Global) (e : CExpr) (lines : List Line) (counted : Stmt) → test ≡ e
    → length lines ≡ length body.items → DoWhile (lines_of lines) (expr_of e) ≡ counted
    → stmt_of (DoWhileOf (with_items body lines) test) ≡ counted
counted-do_while test body e lines counted tests same is =
    do_while-tree test (with_items body lines) ∙ ap (λ b. DoWhile (lines_of b) (expr_of test)) (with-items body lines same)
    ∙ ap (λ x. DoWhile (lines_of lines) (expr_of x)) tests ∙ is

pub counted-forever : (body : Vec Line Global) (lines : List Line) (counted : Stmt) → length lines ≡ length body.items → Forever (lines_of lines) ≡ counted
    → stmt_of (ForeverOf (with_items body lines)) ≡ counted
counted-forever body lines counted same is =
    forever-tree (with_items body lines) ∙ ap (λ b. Forever (lines_of b)) (with-items body lines same) ∙ is

pub counted-switch : (test : CExpr) (arms : Vec Arm Global) (e : CExpr) (last : Option Arm) (given : List Arm) (counted : Stmt) → test ≡ e
    → length given ≡ length arms.items → Switch (expr_of e) (arms_of given) (arms_if last) ≡ counted
    → stmt_of (SwitchOf test (with_items arms given) last) ≡ counted
counted-switch test arms e last given counted tests same is =
    switch-tree test (with_items arms given) last ∙ ap (λ b. Switch (expr_of test) (arms_of b) (arms_if last)) (with-items arms given same)
    ∙ ap (λ x. Switch (expr_of x) (arms_of given) (arms_if last)) tests ∙ is

-- the parts of an arm before others without line feeds
pub arms-unbroken : (a : Arm) (rest left : Arms) → left ≡ arm_before a rest → are_unbroken (arm_stmts left) ≡ true
    → (are_unbroken (arm_stmts (arm_before a no_arms)) ≡ true) × (are_unbroken (arm_stmts rest) ≡ true)
arms-unbroken a rest left is unbroken =
    let body = stmts_in (lines_of (out-Arm a).body.items) in
    let (first, others) = both-unbroken body (arm_stmts rest) (subst (λ arms. are_unbroken (arm_stmts arms) ≡ true) (is ∙ arm-parts a rest) unbroken) in
    (ap (λ arms. are_unbroken (arm_stmts arms)) (arm-parts a no_arms) ∙ ap are_unbroken (append-nil body) ∙ first, others)

-- a statement without blocks has no lines inside it
pub simple-same : (depth at : ℕ) (stmt : Stmt) → has_block stmt ≡ false → stmt ≡ numbered_stmt depth at stmt
simple-same depth at (If e body otherwise) none = absurd cc
simple-same depth at (While e body) none = absurd cc
simple-same depth at (DoWhile body e) none = absurd cc
simple-same depth at (Forever body) none = absurd cc
simple-same depth at (Switch e arms last) none = absurd cc
simple-same depth at stmt none = refl

pub simple-inner : (stmt : Stmt) → has_block stmt ≡ false → inner_stmts stmt ≡ []
simple-inner (If e body otherwise) none = absurd cc
simple-inner (While e body) none = absurd cc
simple-inner (DoWhile body e) none = absurd cc
simple-inner (Forever body) none = absurd cc
simple-inner (Switch e arms last) none = absurd cc
simple-inner stmt none = refl
