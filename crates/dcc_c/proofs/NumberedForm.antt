-- Numbering the lines of a tree changes neither its written form nor what numbering gives.
use Rattle.std.proofs.Common.{◌≡◌, ℕ, ◌+◌, Bool, true, false, List, [], ◌∷◌, ◌++◌, map, length, Option, Some, None, refl, ap, ap₂, sym, ◌∙◌, append-nil}
use Rattle.std.specs.Prelude.{codes}
use Rattle.std.specs.List.{flat_map}
use Rattle.std.specs.Fmt.{decimal}
use Rattle.dcc_c.specs.Tree.{Expr, Stmt, Call, If, While, DoWhile, Forever, Switch, Label, Lines, no_lines, line, Arms, no_arms, arm, Function, Tree}
use Rattle.dcc_c.specs.Parts.{stmts_in, inner_stmts, arm_stmts}
use Rattle.dcc_c.specs.Written.{written_expr, indented, written_test, written_local, written_head, written_head_params, depth_after, next_depth, written_depth, written_cases, written_stmt, written_lines, written_arms, written_default, written_function, written_functions, written_globals, written_form}
use Rattle.dcc_c.specs.Numbered.{rows, numbered_stmt, numbered_lines, numbered_arms, numbered_default, numbered_function, numbered_functions, numbered}
use Rattle.dcc_c.proofs.NumberedLaws.{same_lines, same_inner, same_arms}

-- Depth.

-- the depth of a call
abbrev call_depth : Stmt → Option ℕ
call_depth (Call place function arguments own) = Some own
call_depth stmt = None

-- the last of these depths, or the one before them
abbrev last_depth : ℕ → List (Option ℕ) → ℕ
last_depth depth [] = depth
last_depth depth (None ∷ depths) = last_depth depth depths
last_depth depth (Some own ∷ depths) = last_depth own depths

after_last : (stmts : List Stmt) (depth : ℕ) → depth_after depth stmts ≡ last_depth depth (map call_depth stmts)
after_last [] depth = refl
after_last (Call place function arguments own ∷ stmts) depth = after_last stmts own
after_last (stmt ∷ stmts) depth = after_last stmts depth

call_depth-same : (depth at : ℕ) (stmt : Stmt) → call_depth (numbered_stmt depth at stmt) ≡ call_depth stmt
call_depth-same depth at (Call place function arguments own) = refl
call_depth-same depth at (If e body otherwise) = refl
call_depth-same depth at _ = refl

-- statements with the same depths have the same depth after them
same_after : (first second : List Stmt) → map call_depth first ≡ map call_depth second → (depth : ℕ) → depth_after depth first ≡ depth_after depth second
same_after first second same depth = after_last first depth ∙ ap (last_depth depth) same ∙ sym (after_last second depth)

pub after_lines : (lines : Lines) (depth at own : ℕ) → depth_after own (stmts_in (numbered_lines depth at lines)) ≡ depth_after own (stmts_in lines)
after_lines lines depth at own = same_after _ (stmts_in lines) (same_lines call_depth call_depth-same lines depth at) own

pub after_arms : (arms : Arms) (depth at own : ℕ) → depth_after own (arm_stmts (numbered_arms depth at arms)) ≡ depth_after own (arm_stmts arms)
after_arms arms depth at own = same_after _ (arm_stmts arms) (same_arms call_depth call_depth-same arms depth at) own

pub after_stmt : (stmt : Stmt) (depth at own : ℕ) → depth_after own (numbered_stmt depth at stmt ∷ inner_stmts (numbered_stmt depth at stmt)) ≡ depth_after own (stmt ∷ inner_stmts stmt)
after_stmt stmt depth at own =
    same_after (numbered_stmt depth at stmt ∷ inner_stmts (numbered_stmt depth at stmt)) (stmt ∷ inner_stmts stmt)
    (ap₂ (λ s l. s ∷ l) (call_depth-same depth at stmt) (same_inner call_depth call_depth-same stmt depth at)) own

pub next_same : (lines : Lines) (depth at own : ℕ) → next_depth own (numbered_lines depth at lines) ≡ next_depth own lines
next_same no_lines depth at own = refl
next_same (line (Label name) was lines) depth at own = next_same lines _ _ own
next_same (line (Call place function arguments deep) was lines) depth at own = refl
next_same (line (If e body otherwise) was lines) depth at own = refl
next_same (line _ was lines) depth at own = refl

-- The written form.

-- there is no statement
abbrev is_nothing : Lines → Bool
is_nothing no_lines = true
is_nothing (line stmt at lines) = false

-- blocks that are written alike, the second after the first
second_same : (body otherwise : Lines) (depth first at second braces own : ℕ) → ((braces own : ℕ) → written_lines braces own (numbered_lines depth second otherwise) ≡ written_lines braces own otherwise) →
    written_lines braces (depth_after own (stmts_in (numbered_lines first at body))) (numbered_lines depth second otherwise) ≡ written_lines braces (depth_after own (stmts_in body)) otherwise
second_same body otherwise depth first at second braces own same =
    ap (λ d. written_lines braces d (numbered_lines depth second otherwise)) (after_lines body first at own) ∙ same braces (depth_after own (stmts_in body))

line_written : (stmt : Stmt) (was : ℕ) (lines : Lines) (depth at braces own : ℕ) →
    let next = next_depth depth (line stmt was lines) in
    let here = at + rows (written_depth depth next) in
    let following = here + rows (written_stmt 1 next stmt) in
    ((braces own : ℕ) → written_stmt braces own (numbered_stmt next here stmt) ≡ written_stmt braces own stmt) →
    ((braces own : ℕ) → written_lines braces own (numbered_lines (depth_after next (stmt ∷ inner_stmts stmt)) following lines) ≡ written_lines braces own lines) →
    written_lines braces own (numbered_lines depth at (line stmt was lines)) ≡ written_lines braces own (line stmt was lines)
line_written stmt was lines depth at braces own first later =
    let next = next_depth depth (line stmt was lines) in
    let here = at + rows (written_depth depth next) in
    let following = here + rows (written_stmt 1 next stmt) in
    let old = next_depth own (line stmt was lines) in
    let new = next_depth own (numbered_lines depth at (line stmt was lines)) in
    let others = numbered_lines (depth_after next (stmt ∷ inner_stmts stmt)) following lines in
    let changed = numbered_stmt next here stmt in
    ap (λ n. written_depth own n ++ (written_stmt braces n changed ++ written_lines braces (depth_after n (changed ∷ inner_stmts changed)) others)) (next_same (line stmt was lines) depth at own)
    ∙ ap (λ d. written_depth own old ++ (written_stmt braces old changed ++ written_lines braces d others)) (after_stmt stmt next here old)
    ∙ ap₂ (λ s l. written_depth own old ++ (s ++ l)) (first braces old) (later braces (depth_after old (stmt ∷ inner_stmts stmt)))

switch_written : (e : Expr) (arms last : Arms) (depth at following second braces own : ℕ) →
    written_arms (1 + braces) own (numbered_arms depth at arms) ≡ written_arms (1 + braces) own arms →
    ((own : ℕ) → written_default (1 + braces) own (numbered_default following second last) ≡ written_default (1 + braces) own last) →
    written_stmt braces own (Switch e (numbered_arms depth at arms) (numbered_default following second last)) ≡ written_stmt braces own (Switch e arms last)
switch_written e arms last depth at following second braces own first later =
    let old = depth_after own (inner_stmts (Switch e arms no_arms)) in
    let deep : depth_after own (inner_stmts (Switch e (numbered_arms depth at arms) no_arms)) ≡ old =
    ap (depth_after own) (append-nil (arm_stmts (numbered_arms depth at arms))) ∙ after_arms arms depth at own ∙ ap (depth_after own) (sym (append-nil (arm_stmts arms)))
    in
    ap₂ (λ a d. indented braces (written_test (codes "switch") e) ++ (a ++ (written_default (1 + braces) d (numbered_default following second last) ++ indented braces (codes "}\n")))) first deep
    ∙ ap (λ l. indented braces (written_test (codes "switch") e) ++ (written_arms (1 + braces) own arms ++ (l ++ indented braces (codes "}\n")))) (later old)

if_written : (e : Expr) (body was otherwise new : Lines) (braces own : ℕ) → is_nothing otherwise ≡ is_nothing new →
    written_lines (1 + braces) own body ≡ written_lines (1 + braces) own was →
    written_lines (1 + braces) (depth_after own (stmts_in body)) otherwise ≡ written_lines (1 + braces) (depth_after own (stmts_in was)) new →
    written_stmt braces own (If e body otherwise) ≡ written_stmt braces own (If e was new)
if_written e body was no_lines no_lines braces own kind first second =
    ap (λ b. indented braces (written_test (codes "if") e) ++ (b ++ indented braces (codes "}\n"))) first
if_written e body was no_lines (line stmt at lines) braces own kind first second = absurd cc
if_written e body was (line stmt at lines) no_lines braces own kind first second = absurd cc
if_written e body was (line stmt at lines) (line other on others) braces own kind first second =
    ap₂ (λ b o. indented braces (written_test (codes "if") e) ++ (b ++ ((indented braces (codes "} else {\n") ++ o) ++ indented braces (codes "}\n")))) first second

nothing_same : (depth at : ℕ) (lines : Lines) → is_nothing (numbered_lines depth at lines) ≡ is_nothing lines
nothing_same depth at no_lines = refl
nothing_same depth at (line stmt was lines) = refl

arm_written : (cases : List ℕ) (body was : Lines) (arms others : Arms) (braces own : ℕ) → written_lines braces own body ≡ written_lines braces own was →
    depth_after own (stmts_in body) ≡ depth_after own (stmts_in was) → ((own : ℕ) → written_arms braces own arms ≡ written_arms braces own others) →
    written_arms braces own (arm cases body arms) ≡ written_arms braces own (arm cases was others)
arm_written cases body was arms others braces own first deep later =
    ap₂ (λ b d. written_cases braces cases ++ (b ++ (indented braces (codes "break;\n") ++ written_arms braces d arms))) first deep
    ∙ ap (λ l. written_cases braces cases ++ (written_lines braces own was ++ (indented braces (codes "break;\n") ++ l))) (later (depth_after own (stmts_in was)))

mutual
  pub stmt_written : (stmt : Stmt) (depth at braces own : ℕ) → written_stmt braces own (numbered_stmt depth at stmt) ≡ written_stmt braces own stmt
  stmt_written (If e body otherwise) depth at braces own =
      let first = lines_written body depth (at + 1) (1 + braces) own in
      let between = depth_after depth (stmts_in body) in
      let beyond = at + 2 + rows (written_lines 1 depth body) in
      let second = second_same body otherwise between depth (at + 1) beyond (1 + braces) own (λ b o. lines_written otherwise between beyond b o) in
      if_written e (numbered_lines depth (at + 1) body) body (numbered_lines between beyond otherwise) otherwise braces own (nothing_same between beyond otherwise) first second
  stmt_written (While e body) depth at braces own =
      ap (λ b. indented braces (written_test (codes "while") e) ++ (b ++ indented braces (codes "}\n"))) (lines_written body depth (at + 1) (1 + braces) own)
  stmt_written (DoWhile body e) depth at braces own =
      ap (λ b. indented braces (codes "do {\n") ++ (b ++ indented braces (codes "} while (" ++ (written_expr e ++ codes ");\n")))) (lines_written body depth (at + 1) (1 + braces) own)
  stmt_written (Forever body) depth at braces own =
      ap (λ b. indented braces (codes "for (;;) {\n") ++ (b ++ indented braces (codes "}\n"))) (lines_written body depth (at + 1) (1 + braces) own)
  stmt_written (Switch e arms last) depth at braces own =
      let first = arms_written arms depth (at + 1) (1 + braces) own in
      let following = depth_after depth (inner_stmts (Switch e arms no_arms)) in
      let beyond = at + 2 + rows (written_arms 1 depth arms) in
      switch_written e arms last depth (at + 1) following beyond braces own first (λ o. last_written last following beyond (1 + braces) o)
  stmt_written _ depth at braces own = refl

  pub lines_written : (lines : Lines) (depth at braces own : ℕ) → written_lines braces own (numbered_lines depth at lines) ≡ written_lines braces own lines
  lines_written no_lines depth at braces own = refl
  lines_written (line stmt was lines) depth at braces own =
      let next = next_depth depth (line stmt was lines) in
      let here = at + rows (written_depth depth next) in
      let following = here + rows (written_stmt 1 next stmt) in
      line_written stmt was lines depth at braces own (λ b o. stmt_written stmt next here b o) (λ b o. lines_written lines (depth_after next (stmt ∷ inner_stmts stmt)) following b o)

  pub arms_written : (arms : Arms) (depth at braces own : ℕ) → written_arms braces own (numbered_arms depth at arms) ≡ written_arms braces own arms
  arms_written no_arms depth at braces own = refl
  arms_written (arm cases body arms) depth at braces own =
      let first = at + length cases in
      arm_written cases (numbered_lines depth first body) body _ arms braces own (lines_written body depth first braces own) (after_lines body depth first own) (λ o. arms_written arms (depth_after depth (stmts_in body)) (first + rows (written_lines 1 depth body) + 1) braces o)

  last_written : (arms : Arms) (depth at braces own : ℕ) → written_default braces own (numbered_default depth at arms) ≡ written_default braces own arms
  last_written no_arms depth at braces own = refl
  last_written (arm cases body arms) depth at braces own =
      ap (λ b. indented braces (codes "default:\n") ++ (b ++ indented braces (codes "break;\n"))) (lines_written body depth at braces own)

function_written : (f : Function) (at : ℕ) → written_function (numbered_function at f) ≡ written_function f
function_written f at =
    ap (λ b. written_head f.result f.name ++ (codes "(" ++ (written_head_params f.params ++ (codes ")\n{\n" ++ (flat_map written_local f.locals ++ (b ++ codes "}\n")))))) (lines_written f.body 2 (at + 2 + length f.locals) 1 2)

functions_written : (functions : List Function) (at : ℕ) → written_functions (numbered_functions at functions) ≡ written_functions functions
functions_written [] at = refl
functions_written (f ∷ functions) at = ap₂ (λ a b. a ++ b) (function_written f at) (functions_written functions _)

-- a tree with its lines counted has the written form that it had
pub written_numbered : (tree : Tree) → written_form (numbered tree) ≡ written_form tree
written_numbered tree =
    ap (λ b. codes "#pragma dcc text 1\n#pragma dcc stack " ++ (decimal tree.lo ++ (codes " " ++ (decimal tree.hi ++ (codes "\n" ++ (written_globals None tree.globals ++ b)))))) (functions_written tree.functions (3 + rows (written_globals None tree.globals)))
