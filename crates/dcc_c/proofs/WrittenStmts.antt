-- The written form of statements is read as their tokens.
use Rattle.std.proofs.Common.{◌≡◌, ℕ, ◌+◌, ◌≤◌, Bool, true, false, ◌&&◌, ◌||◌, List, [], ◌∷◌, ◌++◌, length, None, Some, refl, subst, arith, ◌⊎◌, inl, inr}
use Rattle.std.specs.Prelude.{codes, nat_le}
use Rattle.std.specs.List.{list_all}
use Rattle.std.proofs.lemmas.Bool.{and_parts, and_from, leb-true, le-leb}
use Rattle.dcc_c.specs.Tree.{Word, Expr, Stmt, Assign, Call, If, While, DoWhile, Forever, Switch, Break, Continue, Goto, Label, Empty, Return, Lines, no_lines, line, Arms, no_arms, arm}
use Rattle.dcc_c.specs.Parts.{stmts_in, inner_stmts}
use Rattle.dcc_c.specs.Lexing.{Placed}
use Rattle.dcc_c.specs.Grammar.{word, mark, is_name, Around, in_block, in_loop, in_switch, has_arm}
use Rattle.dcc_c.specs.Written.{depth_after, next_depth, written_expr, written_stmt, written_lines, written_arms, written_default}
use Rattle.dcc_c.specs.Numbered.{rows}
use Rattle.dcc_c.proofs.WrittenLaws.{is_word-name}
use Rattle.dcc_c.proofs.Writable.{is_small, is_place, is_writable_expr, is_writable_place, is_place_if, is_label, are_cases, has_no_case, is_writable_stmt, are_writable_lines, are_writable_arms, is_writable_default}
use Rattle.dcc_c.proofs.WrittenTokens.{expr_tokens, stmt_tokens, lines_tokens, arms_tokens, default_tokens}
use Rattle.dcc_c.proofs.WrittenReads.{LineAfter, Reads, space_then, reads_then, no_line, lines_then, counted_as}
use Rattle.dcc_c.proofs.WrittenExprs.{word_then, mark_then, opening_then, closing_then, expr_reads}
use Rattle.dcc_c.proofs.WrittenRows.{stmt_rows, lines_rows, arms_rows, default_rows}
use Rattle.dcc_c.proofs.WrittenParts.{indented_then, after_rows, semicolon_line, colon_line, brace_line, closing_line, word_line, call_reads, return_reads, test_reads, depth_reads, cases_read}

-- the next call has the depth in force, or one that a text can hold
abbrev IsKnown : ℕ → ℕ → Type 0
IsKnown depth next = (depth ≡ next) ⊎ (is_small next ≡ true)

next_of_stmt : (around : Around) (depth : ℕ) (stmt : Stmt) (at : ℕ) (lines : Lines) → is_writable_stmt around stmt ≡ true →
    IsKnown depth (next_depth depth lines) → IsKnown depth (next_depth depth (line stmt at lines))
next_of_stmt around depth (Label name) at lines good known = known
next_of_stmt around depth (Call place function arguments own) at lines good known =
    let (placed, others) = and_parts (is_place_if place) _ good in
    let (named, rest) = and_parts (is_name function) _ others in
    inr (and_parts (list_all is_writable_expr arguments) (is_small own) rest).1
next_of_stmt around depth _ at lines good known = inl refl

next_small : (around : Around) (labelled : Bool) (depth : ℕ) (lines : Lines) → are_writable_lines around labelled lines ≡ true →
    IsKnown depth (next_depth depth lines)
next_small around labelled depth no_lines good = inl refl
next_small around labelled depth (line stmt at lines) good =
    let (here, others) = and_parts (nat_le around.blocks 200) (is_writable_stmt around stmt && are_writable_lines around (is_label stmt) lines) good in
    let (stmt_good, lines_good) = and_parts (is_writable_stmt around stmt) (are_writable_lines around (is_label stmt) lines) others in
    next_of_stmt around depth stmt at lines stmt_good (next_small around (is_label stmt) depth lines lines_good)

-- the cases of an arm are numbers that a text can hold
small_cases : (cases : List ℕ) → are_cases cases ≡ true → list_all is_small cases ≡ true
small_cases [] good = absurd cc
small_cases (n ∷ cases) good = all (n ∷ cases) good
  where
    all : (ns : List ℕ) → list_all (λ m. nat_le m 65535) ns ≡ true → list_all is_small ns ≡ true
    all [] small = refl
    all (m ∷ ns) small =
        let (here, others) = and_parts (nat_le m 65535) (list_all (λ k. nat_le k 65535) ns) small in
        let low : m ≤ 65535 = leb-true m 65535 here in
        and_from _ _ (le-leb m 4294967295 (omega arith)) (all ns others)

place_is : (place : Expr) → is_writable_place place ≡ true → is_writable_expr place ≡ true
place_is place good = (and_parts (is_place place) (is_writable_expr place) good).1

-- a place and what it takes
assign_then : {at following : ℕ} {b : List ℕ} {g : List Placed → List Placed} (place : Expr) → is_writable_place place ≡ true →
    Reads false at (LineAfter following) b g →
    Reads false at (LineAfter following) (written_expr place ++ (codes " = " ++ b)) (λ others. expr_tokens at place (mark at (codes "=") ∷ g others))
assign_then {at} place good r =
    reads_then (expr_reads place (place_is place good) at false) (λ rest fits. refl) (space_then (mark_then (codes "=") refl (λ rest fits. refl) (space_then r)))

-- the line of a statement that has one
whole : {at : ℕ} {bytes : Word} {tokens : List Placed → List Placed} (braces depth : ℕ) (stmt : Stmt) →
    bytes ≡ written_stmt braces depth stmt → Reads true at (LineAfter (at + 1)) bytes tokens →
    Reads true at (LineAfter (at + rows (written_stmt 1 depth stmt))) (written_stmt braces depth stmt) tokens
whole {at} {bytes} {tokens} braces depth stmt is r =
    after_rows _ (stmt_rows braces 1 depth stmt).same (subst (λ b. Reads true at (LineAfter (at + 1)) b tokens) is r)

-- The lines of statements with blocks.

else_line : {at : ℕ} →
    Reads false at (LineAfter (at + 1)) (codes "} else {\n") (λ others. mark at (codes "}") ∷ word at (codes "else") ∷ mark at (codes "{") ∷ others)
else_line =
    mark_then (codes "}") refl (λ rest fits. refl) (space_then (word_then (codes "else") refl (λ rest fits. refl) (space_then brace_line)))

do_line : {at : ℕ} →
    Reads false at (LineAfter (at + 1)) (codes "do {\n") (λ others. word at (codes "do") ∷ mark at (codes "{") ∷ others)
do_line = word_then (codes "do") refl (λ rest fits. refl) (space_then brace_line)

again_reads : {at : ℕ} (e : Expr) → is_writable_expr e ≡ true →
    Reads false at (LineAfter (at + 1)) (codes "} while (" ++ (written_expr e ++ codes ");\n")) (λ others. mark at (codes "}") ∷ word at (codes "while") ∷ mark at (codes "(") ∷ expr_tokens at e (mark at (codes ")") ∷ mark at (codes ";") ∷ others))
again_reads {at} e good =
    mark_then (codes "}") refl (λ rest fits. refl) (space_then (word_then (codes "while") refl (λ rest fits. refl) (space_then (opening_then (reads_then (expr_reads e good at false) (λ rest fits. refl) (closing_then semicolon_line))))))

for_line : {at : ℕ} →
    Reads false at (LineAfter (at + 1)) (codes "for (;;) {\n") (λ others. word at (codes "for") ∷ mark at (codes "(") ∷ mark at (codes ";") ∷ mark at (codes ";") ∷ mark at (codes ")") ∷ mark at (codes "{") ∷ others)
for_line =
    word_then (codes "for") refl (λ rest fits. refl) (space_then (opening_then (mark_then (codes ";") refl (λ rest fits. refl) (mark_then (codes ";") refl (λ rest fits. refl) (closing_then (space_then brace_line))))))

default_line : {at : ℕ} →
    Reads false at (LineAfter (at + 1)) (codes "default:\n") (λ others. word at (codes "default") ∷ mark at (codes ":") ∷ others)
default_line = word_then (codes "default") refl (λ rest fits. refl) colon_line

-- a statement is read, and statements and arms are
abbrev StmtReads : Around → Stmt → Type 0
StmtReads around stmt =
    is_writable_stmt around stmt ≡ true → (braces depth at : ℕ) →
    Reads true at (LineAfter (at + rows (written_stmt 1 depth stmt))) (written_stmt braces depth stmt) (stmt_tokens depth at stmt)

abbrev LinesRead : Around → Bool → Lines → Type 0
LinesRead around labelled lines =
    are_writable_lines around labelled lines ≡ true → (braces depth at : ℕ) →
    Reads true at (LineAfter (at + rows (written_lines 1 depth lines))) (written_lines braces depth lines) (lines_tokens depth at lines)

abbrev ArmsRead : Around → Arms → Type 0
ArmsRead around arms =
    are_writable_arms around arms ≡ true → (braces depth at : ℕ) →
    Reads true at (LineAfter (at + rows (written_arms 1 depth arms))) (written_arms braces depth arms) (arms_tokens depth at arms)

abbrev DefaultReads : Around → Arms → Type 0
DefaultReads around last =
    is_writable_default around last ≡ true → (braces depth at second : ℕ) → at + 1 ≡ second →
    Reads true at (LineAfter (at + rows (written_default 1 depth last))) (written_default braces depth last) (default_tokens depth at second last)

mutual
  pub stmt_reads : (stmt : Stmt) (around : Around) → StmtReads around stmt
  stmt_reads (Assign place e) around good braces depth at =
      let (first, second) = and_parts (is_writable_place place) (is_writable_expr e) good in
      whole braces depth (Assign place e) refl (indented_then braces (assign_then place first (reads_then (expr_reads e second at false) (λ rest fits. refl) semicolon_line)))
  stmt_reads (Call None function arguments own) around good braces depth at =
      let (named, others) = and_parts (is_name function) _ good in
      let (fit, small) = and_parts (list_all is_writable_expr arguments) (is_small own) others in
      whole braces depth (Call None function arguments own) refl (indented_then braces (call_reads function arguments named fit))
  stmt_reads (Call (Some place) function arguments own) around good braces depth at =
      let (first, second) = and_parts (is_writable_place place) _ good in
      let (named, others) = and_parts (is_name function) _ second in
      let (fit, small) = and_parts (list_all is_writable_expr arguments) (is_small own) others in
      whole braces depth (Call (Some place) function arguments own) refl (indented_then braces (assign_then place first (call_reads function arguments named fit)))
  stmt_reads (If e body no_lines) around good braces depth at =
      let (test, blocks) = and_parts (is_writable_expr e) _ good in
      let (inner, none) = and_parts (are_writable_lines (in_block around) false body) _ blocks in
      let block = lines_read body (in_block around) false inner (1 + braces) depth (at + 1) in
      after_rows _ (stmt_rows braces 1 depth (If e body no_lines)).same (lines_then (indented_then braces (test_reads (codes "if") e refl test)) (lines_then block (indented_then braces closing_line)))
  stmt_reads (If e body (line stmt was lines)) around good braces depth at =
      let (test, blocks) = and_parts (is_writable_expr e) _ good in
      let (inner, others) = and_parts (are_writable_lines (in_block around) false body) (are_writable_lines (in_block around) false (line stmt was lines)) blocks in
      let block = lines_read body (in_block around) false inner (1 + braces) depth (at + 1) in
      let second = at + 2 + rows (written_lines 1 depth body) in
      let between = depth_after depth (stmts_in body) in
      let other_block = lines_read (line stmt was lines) (in_block around) false others (1 + braces) between second in
      let else_row = counted_as second (omega arith) (indented_then braces else_line) in
      after_rows _ (stmt_rows braces 1 depth (If e body (line stmt was lines))).same (lines_then (indented_then braces (test_reads (codes "if") e refl test)) (lines_then block (lines_then (lines_then else_row other_block) (indented_then braces closing_line))))
  stmt_reads (While e body) around good braces depth at =
      let (test, inner) = and_parts (is_writable_expr e) (are_writable_lines (in_loop around) false body) good in
      let block = lines_read body (in_loop around) false inner (1 + braces) depth (at + 1) in
      after_rows _ (stmt_rows braces 1 depth (While e body)).same (lines_then (indented_then braces (test_reads (codes "while") e refl test)) (lines_then block (indented_then braces closing_line)))
  stmt_reads (DoWhile body e) around good braces depth at =
      let (test, inner) = and_parts (is_writable_expr e) (are_writable_lines (in_loop around) false body) good in
      let block = lines_read body (in_loop around) false inner (1 + braces) depth (at + 1) in
      after_rows _ (stmt_rows braces 1 depth (DoWhile body e)).same (lines_then (indented_then braces do_line) (lines_then block (indented_then braces (again_reads e test))))
  stmt_reads (Forever body) around good braces depth at =
      let block = lines_read body (in_loop around) false good (1 + braces) depth (at + 1) in
      after_rows _ (stmt_rows braces 1 depth (Forever body)).same (lines_then (indented_then braces for_line) (lines_then block (indented_then braces closing_line)))
  stmt_reads (Switch e arms last) around good braces depth at =
      let (test, others) = and_parts (is_writable_expr e) _ good in
      let (some, rest) = and_parts (has_arm arms || has_arm last) _ others in
      let (first, second) = and_parts (are_writable_arms (in_switch around) arms) (is_writable_default (in_switch around) last) rest in
      let following = depth_after depth (inner_stmts (Switch e arms no_arms)) in
      let cases = arms_read arms (in_switch around) first (1 + braces) depth (at + 1) in
      let default = default_reads last (in_switch around) second (1 + braces) following _ (at + 2 + rows (written_arms 1 depth arms)) (omega arith) in
      after_rows _ (stmt_rows braces 1 depth (Switch e arms last)).same (lines_then (indented_then braces (test_reads (codes "switch") e refl test)) (lines_then cases (lines_then default (indented_then braces closing_line))))
  stmt_reads Break around good braces depth at =
      whole braces depth Break refl (indented_then braces (word_line (codes "break") refl))
  stmt_reads Continue around good braces depth at =
      whole braces depth Continue refl (indented_then braces (word_line (codes "continue") refl))
  stmt_reads (Goto name) around good braces depth at =
      whole braces depth (Goto name) refl (indented_then braces (word_then (codes "goto") refl (λ rest fits. refl) (space_then (word_line name (is_word-name name good)))))
  stmt_reads (Label name) around good braces depth at =
      whole braces depth (Label name) refl (indented_then 0 (word_then name (is_word-name name good) (λ rest fits. refl) colon_line))
  stmt_reads Empty around good braces depth at =
      whole braces depth Empty refl (indented_then braces semicolon_line)
  stmt_reads (Return value) around good braces depth at =
      whole braces depth (Return value) refl (indented_then braces (return_reads value good))

  pub lines_read : (lines : Lines) (around : Around) (labelled : Bool) → LinesRead around labelled lines
  lines_read no_lines around labelled good braces depth at = after_rows 0 refl no_line
  lines_read (line stmt was lines) around labelled good braces depth at =
      let (here, others) = and_parts (nat_le around.blocks 200) (is_writable_stmt around stmt && are_writable_lines around (is_label stmt) lines) good in
      let (first, second) = and_parts (is_writable_stmt around stmt) (are_writable_lines around (is_label stmt) lines) others in
      let own = next_depth depth (line stmt was lines) in
      let after = depth_after own (stmt ∷ inner_stmts stmt) in
      after_rows _ (lines_rows braces 1 depth (line stmt was lines)).same (lines_then (depth_reads depth own (next_small around labelled depth (line stmt was lines) good)) (lines_then (stmt_reads stmt around first braces own _) (lines_read lines around (is_label stmt) second braces after _)))

  pub arms_read : (arms : Arms) (around : Around) → ArmsRead around arms
  arms_read no_arms around good braces depth at = after_rows 0 refl no_line
  arms_read (arm cases body arms) around good braces depth at =
      let (few, own) = and_parts (nat_le around.blocks 200) _ good in
      let (numbers, others) = and_parts (are_cases cases) _ own in
      let (inner, rest) = and_parts (are_writable_lines around false body) (are_writable_arms around arms) others in
      let block = lines_read body around false inner braces depth (at + length cases) in
      let later = arms_read arms around rest braces (depth_after depth (stmts_in body)) _ in
      after_rows _ (arms_rows braces 1 depth (arm cases body arms)).same (lines_then (cases_read braces at cases (small_cases cases numbers)) (lines_then block (lines_then (indented_then braces (word_line (codes "break") refl)) later)))

  pub default_reads : (last : Arms) (around : Around) → DefaultReads around last
  default_reads no_arms around good braces depth at second next = after_rows 0 refl no_line
  default_reads (arm cases body arms) around good braces depth at second next =
      let (few, own) = and_parts (nat_le around.blocks 200) _ good in
      let (numbers, others) = and_parts (has_no_case cases) _ own in
      let (inner, rest) = and_parts (are_writable_lines around false body) _ others in
      let head = counted_as second next (indented_then braces default_line) in
      let block = lines_read body around false inner braces depth second in
      after_rows _ (default_rows braces 1 depth (arm cases body arms)).same (lines_then head (lines_then block (indented_then braces (word_line (codes "break") refl))))
