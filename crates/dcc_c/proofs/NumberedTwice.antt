-- Counting the lines of a tree anew gives what counting them at first gives.
use Rattle.std.proofs.Common.{◌≡◌, ℕ, ◌+◌, List, [], ◌∷◌, length, None, refl, ap, ap₂, sym, ◌∙◌, append-nil}
use Rattle.dcc_c.specs.Tree.{Expr, Stmt, If, While, DoWhile, Forever, Switch, Lines, no_lines, line, Arms, no_arms, arm, Function, Tree}
use Rattle.dcc_c.specs.Parts.{stmts_in, inner_stmts, arm_stmts}
use Rattle.dcc_c.specs.Written.{depth_after, next_depth, written_depth, written_stmt, written_lines, written_arms, written_globals}
use Rattle.dcc_c.specs.Numbered.{rows, numbered_stmt, numbered_lines, numbered_arms, numbered_default, numbered_function, numbered_functions, numbered}
use Rattle.dcc_c.proofs.NumberedForm.{after_lines, after_arms, after_stmt, next_same, stmt_written, lines_written, arms_written}

-- What is shown of each part.

abbrev SameStmt : Stmt → Type 0
SameStmt stmt = (depth at was_depth was_at : ℕ) → numbered_stmt depth at (numbered_stmt was_depth was_at stmt) ≡ numbered_stmt depth at stmt

abbrev SameLines : Lines → Type 0
SameLines lines = (depth at was_depth was_at : ℕ) → numbered_lines depth at (numbered_lines was_depth was_at lines) ≡ numbered_lines depth at lines

abbrev SameArms : Arms → Type 0
SameArms arms = (depth at was_depth was_at : ℕ) → numbered_arms depth at (numbered_arms was_depth was_at arms) ≡ numbered_arms depth at arms

abbrev SameDefault : Arms → Type 0
SameDefault arms = (depth at was_depth was_at : ℕ) → numbered_default depth at (numbered_default was_depth was_at arms) ≡ numbered_default depth at arms

line_twice : (stmt : Stmt) (was : ℕ) (lines : Lines) → SameStmt stmt → SameLines lines → SameLines (line stmt was lines)
line_twice stmt was lines first later depth at was_depth was_at =
    let before = next_depth was_depth (line stmt was lines) in
    let there = was_at + rows (written_depth was_depth before) in
    let changed = numbered_stmt before there stmt in
    let others = numbered_lines (depth_after before (stmt ∷ inner_stmts stmt)) (there + rows (written_stmt 1 before stmt)) lines in
    let own = next_depth depth (line stmt was lines) in
    let here = at + rows (written_depth depth own) in
    ap (λ n. line (numbered_stmt n (at + rows (written_depth depth n)) changed) (at + rows (written_depth depth n)) (numbered_lines (depth_after n (changed ∷ inner_stmts changed)) (at + rows (written_depth depth n) + rows (written_stmt 1 n changed)) others)) (next_same (line stmt was lines) was_depth was_at depth)
    ∙ ap₂ (λ d w. line (numbered_stmt own here changed) here (numbered_lines d (here + rows w) others)) (after_stmt stmt before there own) (stmt_written stmt before there 1 own)
    ∙ ap₂ (λ s l. line s here l) (first _ _ _ _) (later _ _ _ _)

if_twice : (e : Expr) (body otherwise : Lines) → SameLines body → SameLines otherwise → SameStmt (If e body otherwise)
if_twice e body otherwise first second depth at was_depth was_at =
    let changed = numbered_lines was_depth (was_at + 1) body in
    let others = numbered_lines (depth_after was_depth (stmts_in body)) (was_at + 2 + rows (written_lines 1 was_depth body)) otherwise in
    ap₂ (λ d w. If e (numbered_lines depth (at + 1) changed) (numbered_lines d (at + 2 + rows w) others)) (after_lines body was_depth (was_at + 1) depth) (lines_written body was_depth (was_at + 1) 1 depth)
    ∙ ap₂ (λ b o. If e b o) (first _ _ _ _) (second _ _ _ _)

switch_twice : (e : Expr) (arms last : Arms) → SameArms arms → SameDefault last → SameStmt (Switch e arms last)
switch_twice e arms last first second depth at was_depth was_at =
    let changed = numbered_arms was_depth (was_at + 1) arms in
    let other = numbered_default (depth_after was_depth (inner_stmts (Switch e arms no_arms))) (was_at + 2 + rows (written_arms 1 was_depth arms)) last in
    let deep : depth_after depth (inner_stmts (Switch e changed no_arms)) ≡ depth_after depth (inner_stmts (Switch e arms no_arms)) =
    ap (depth_after depth) (append-nil (arm_stmts changed)) ∙ after_arms arms was_depth (was_at + 1) depth ∙ ap (depth_after depth) (sym (append-nil (arm_stmts arms)))
    in
    ap₂ (λ d w. Switch e (numbered_arms depth (at + 1) changed) (numbered_default d (at + 2 + rows w) other)) deep (arms_written arms was_depth (was_at + 1) 1 depth)
    ∙ ap₂ (λ a l. Switch e a l) (first _ _ _ _) (second _ _ _ _)

arm_twice : (cases : List ℕ) (body : Lines) (arms : Arms) → SameLines body → SameArms arms → SameArms (arm cases body arms)
arm_twice cases body arms first later depth at was_depth was_at =
    let there = was_at + length cases in
    let here = at + length cases in
    let changed = numbered_lines was_depth there body in
    let others = numbered_arms (depth_after was_depth (stmts_in body)) (there + rows (written_lines 1 was_depth body) + 1) arms in
    ap₂ (λ d w. arm cases (numbered_lines depth here changed) (numbered_arms d (here + rows w + 1) others)) (after_lines body was_depth there depth) (lines_written body was_depth there 1 depth)
    ∙ ap₂ (λ b a. arm cases b a) (first _ _ _ _) (later _ _ _ _)

mutual
  stmt_twice : (stmt : Stmt) → SameStmt stmt
  stmt_twice (If e body otherwise) = if_twice e body otherwise (lines_twice body) (lines_twice otherwise)
  stmt_twice (While e body) = λ depth at was_depth was_at. ap (While e) (lines_twice body _ _ _ _)
  stmt_twice (DoWhile body e) = λ depth at was_depth was_at. ap (λ b. DoWhile b e) (lines_twice body _ _ _ _)
  stmt_twice (Forever body) = λ depth at was_depth was_at. ap Forever (lines_twice body _ _ _ _)
  stmt_twice (Switch e arms last) = switch_twice e arms last (arms_twice arms) (last_twice last)
  stmt_twice _ = λ depth at was_depth was_at. refl

  lines_twice : (lines : Lines) → SameLines lines
  lines_twice no_lines = λ depth at was_depth was_at. refl
  lines_twice (line stmt was lines) = line_twice stmt was lines (stmt_twice stmt) (lines_twice lines)

  arms_twice : (arms : Arms) → SameArms arms
  arms_twice no_arms = λ depth at was_depth was_at. refl
  arms_twice (arm cases body arms) = arm_twice cases body arms (lines_twice body) (arms_twice arms)

  last_twice : (arms : Arms) → SameDefault arms
  last_twice no_arms = λ depth at was_depth was_at. refl
  last_twice (arm cases body arms) = λ depth at was_depth was_at. ap (λ b. arm cases b arms) (lines_twice body _ _ _ _)

function_twice : (f : Function) (at was : ℕ) → numbered_function at (numbered_function was f) ≡ numbered_function at f
function_twice f at was =
    let first = at + 2 + length f.locals in
    let there = was + 2 + length f.locals in
    ap₂ (λ b w. record f { body = b; last = first + rows w }) (lines_twice f.body 2 first 2 there) (lines_written f.body 2 there 1 2)

functions_twice : (functions : List Function) (at was : ℕ) → numbered_functions at (numbered_functions was functions) ≡ numbered_functions at functions
functions_twice [] at was = refl
functions_twice (f ∷ functions) at was =
    let others = numbered_functions ((numbered_function was f).last + 1) functions in
    ap (λ g. g ∷ numbered_functions (g.last + 1) others) (function_twice f at was)
    ∙ ap (λ l. numbered_function at f ∷ l) (functions_twice functions _ _)

-- counting the lines of a tree anew changes nothing
pub numbered_twice : (tree : Tree) → numbered (numbered tree) ≡ numbered tree
numbered_twice tree =
    let first = 3 + rows (written_globals None tree.globals) in
    ap (λ l. record tree { functions = l }) (functions_twice tree.functions first first)
