-- The tokens of statements in the written form are read as the numbered statements.
use Rattle.std.proofs.Common.{◌≡◌, ℕ, ◌+◌, ◌≤◌, Bool, true, false, ◌&&◌, ◌||◌, if◌then◌else◌, List, [], ◌∷◌, ◌++◌, length, Option, Some, None, refl, ap, sym, ◌∙◌, subst, arith, append-nil, true≢false}
use Rattle.std.specs.Prelude.{codes, nat_le, ◌==◌}
use Rattle.std.specs.List.{list_all}
use Rattle.std.proofs.lemmas.Bool.{and_parts, eqb-true, leb-true}
use Rattle.dcc_c.specs.declared.syntax.CUn.TheVariants.{Deref}
use Rattle.dcc_c.specs.Token.{Token, Decimal, Pragma, plain_number, depth_line}
use Rattle.dcc_c.specs.Lexing.{Placed, placed}
use Rattle.dcc_c.specs.Tree.{Word, Expr, Name, Unary, Stmt, Assign, Call, If, While, DoWhile, Forever, Switch, Break, Continue, Goto, Label, Empty, Return, Lines, no_lines, line, Arms, no_arms, arm}
use Rattle.dcc_c.specs.Parts.{stmts_in, inner_stmts, arm_stmts}
use Rattle.dcc_c.specs.Grammar.{word, mark, is_name, none, one, Around, in_block, in_loop, in_switch, plain_decimal, AreCases, last_case, more_cases, has_arm, IsStmt, assign, call_alone, call_into, if_alone, if_else, while, do_while, for_ever, switch, break, continue, goto, empty, return_nothing, return_value, IsBlock, block, AreLines, no_more, depth_pragma, label, statement, AreArms, no_arm, case_arm, default_arm}
use Rattle.dcc_c.specs.Written.{depth_after, next_depth, written_depth, written_stmt, written_lines, written_arms, written_default}
use Rattle.dcc_c.specs.Numbered.{rows, numbered_stmt, numbered_lines, numbered_arms, numbered_default}
use Rattle.dcc_c.proofs.Writable.{is_writable_expr, is_writable_place, is_label, are_cases, is_small, is_writable_stmt, are_writable_lines, are_writable_arms, is_writable_default}
use Rattle.dcc_c.proofs.WrittenTokens.{expr_tokens, cases_tokens, stmt_tokens, lines_tokens, arms_tokens, default_tokens}
use Rattle.dcc_c.proofs.FormedExprs.{expr_formed, place_formed, call_formed}

-- Depth.

-- the depth after statements and others is that after the others
depth_after-append : (first second : List Stmt) (depth : ℕ) → depth_after depth (first ++ second) ≡ depth_after (depth_after depth first) second
depth_after-append [] second depth = refl
depth_after-append (Call place function arguments own ∷ first) second depth = depth_after-append first second own
depth_after-append (stmt ∷ first) second depth = depth_after-append first second depth

-- the next depth changes no more, where it is in force
next_depth-twice : (lines : Lines) (depth : ℕ) → next_depth (next_depth depth lines) lines ≡ next_depth depth lines
next_depth-twice (line (Label name) at lines) depth = next_depth-twice lines depth
next_depth-twice (line stmt at lines) depth = refl
next_depth-twice no_lines depth = refl

-- where the next depth is in force before statements, the depth after them is the same
following-next_depth : (lines : Lines) (depth : ℕ) → depth_after (next_depth depth lines) (stmts_in lines) ≡ depth_after depth (stmts_in lines)
following-next_depth (line (Label name) at lines) depth = following-next_depth lines depth
following-next_depth (line stmt at lines) depth = refl
following-next_depth no_lines depth = refl

-- the depth of a call, or for another statement the depth in force
abbrev own_depth : ℕ → Stmt → ℕ
own_depth depth (Call place function arguments own) = own
own_depth depth stmt = depth

-- the depth in force is a call's own
abbrev IsOwn : ℕ → Stmt → Type 0
IsOwn depth stmt = depth ≡ own_depth depth stmt

is_own : (depth : ℕ) (stmt : Stmt) (was : ℕ) (lines : Lines) → is_label stmt ≡ false → IsOwn (next_depth depth (line stmt was lines)) stmt
is_own depth (Label name) was lines other = absurd cc
is_own depth stmt was lines other = refl

-- the tokens begin with statements, with the pragma before them where the depth changes
with_pragma : {around : Around} {labelled : Bool} {after : ℕ} {tokens rest : List Placed} {lines : Lines} (at depth own : ℕ) (same : Bool) →
    (depth == own) ≡ same → around.blocks ≤ 200 → (labelled ≡ true → own ≡ depth) → AreLines 200 around labelled own tokens lines after rest →
    AreLines 200 around labelled depth (if same then tokens else placed at (Pragma depth_line) ∷ placed at (Decimal own plain_number) ∷ tokens) lines after rest
with_pragma {around} {labelled} {after} {tokens} {rest} {lines} at depth own true test small joins formed =
    subst (λ d. AreLines 200 around labelled d tokens lines after rest) (sym (eqb-true depth own test)) formed
with_pragma {labelled = true} at depth own false test small joins formed = let same = joins refl in absurd (grind arith)
with_pragma {labelled = false} at depth own false test small joins formed = depth_pragma small formed

-- What is read of the tokens of each part.

abbrev FormedStmt : Stmt → Type 0
FormedStmt stmt =
    (around : Around) (depth at : ℕ) (rest : List Placed) → is_writable_stmt around stmt ≡ true → is_label stmt ≡ false → IsOwn depth stmt →
    IsStmt 200 around depth (stmt_tokens depth at stmt rest) (numbered_stmt depth at stmt) (depth_after depth (stmt ∷ inner_stmts stmt)) rest

abbrev FormedLines : Lines → Type 0
FormedLines lines =
    (around : Around) (labelled : Bool) (depth at : ℕ) (rest : List Placed) → are_writable_lines around labelled lines ≡ true →
    (labelled ≡ true → next_depth depth lines ≡ depth) →
    AreLines 200 around labelled depth (lines_tokens depth at lines rest) (numbered_lines depth at lines) (depth_after depth (stmts_in lines)) rest

-- arms before the default arm
abbrev FormedArms : Arms → Type 0
FormedArms arms =
    (around : Around) (depth at after : ℕ) (others rest : List Placed) (last : Arms) → are_writable_arms around arms ≡ true →
    AreArms 200 around (depth_after depth (arm_stmts arms)) others no_arms last after rest →
    AreArms 200 around depth (arms_tokens depth at arms others) (numbered_arms depth at arms) last after rest

abbrev FormedDefault : Arms → Type 0
FormedDefault arms =
    (around : Around) (depth first second : ℕ) (rest : List Placed) → is_writable_default around arms ≡ true →
    AreArms 200 around depth (default_tokens depth first second arms rest) no_arms (numbered_default depth second arms) (depth_after depth (arm_stmts arms)) rest

-- Lines.

-- the first of the tokens stands in this line
abbrev Starts : ℕ → List Placed → Type 0
Starts at tokens = (token : Token) × (others : List Placed) × (tokens ≡ placed at token ∷ others)

place_starts : (place : Expr) → is_writable_place place ≡ true → (at : ℕ) (rest : List Placed) → Starts at (expr_tokens at place rest)
place_starts (Name name) good at rest = (_, _, refl)
place_starts (Unary Deref a) good at rest = (_, _, refl)
place_starts _ good at rest = absurd cc

stmt_starts : (stmt : Stmt) (around : Around) → is_writable_stmt around stmt ≡ true → (depth at : ℕ) (rest : List Placed) → Starts at (stmt_tokens depth at stmt rest)
stmt_starts (Assign place e) around good depth at rest =
    place_starts place (and_parts (is_writable_place place) (is_writable_expr e) good).0 at _
stmt_starts (Call None function arguments own) around good depth at rest = (_, _, refl)
stmt_starts (Call (Some place) function arguments own) around good depth at rest =
    place_starts place (and_parts (is_writable_place place) _ good).0 at _
stmt_starts (Return None) around good depth at rest = (_, _, refl)
stmt_starts (Return (Some e)) around good depth at rest = (_, _, refl)
stmt_starts _ around good depth at rest = (_, _, refl)

-- a statement whose tokens start in a line, before others
first_statement : {around : Around} {labelled : Bool} {depth between after at : ℕ} {tokens others rest : List Placed} {stmt : Stmt} {lines : Lines} →
    Starts at tokens → around.blocks ≤ 200 → IsStmt 200 around depth tokens stmt between others → AreLines 200 around false between others lines after rest →
    AreLines 200 around labelled depth tokens (line stmt at lines) after rest
first_statement {around} {labelled} {depth} {between} {after} {at} {tokens} {others} {rest} {stmt} {lines} (token, following, starts) small first later =
    let P : List Placed → Type 0 = λ ts. IsStmt 200 around depth ts stmt between others in
    let Q : List Placed → Type 0 = λ ts. AreLines 200 around labelled depth ts (line stmt at lines) after rest in
    subst Q (sym starts) (statement small (subst P starts first) later)

-- the depth after a statement, those inside it, and others
following_line : (depth own : ℕ) (stmt : Stmt) (was : ℕ) (lines : Lines) → own ≡ next_depth depth (line stmt was lines) →
    depth_after (depth_after own (stmt ∷ inner_stmts stmt)) (stmts_in lines) ≡ depth_after depth (stmts_in (line stmt was lines))
following_line depth own stmt was lines is =
    sym (depth_after-append (stmt ∷ inner_stmts stmt) (stmts_in lines) own)
    ∙ ap (λ d. depth_after d (stmts_in (line stmt was lines))) is
    ∙ following-next_depth (line stmt was lines) depth

plain_line : (stmt : Stmt) (was : ℕ) (lines : Lines) → is_label stmt ≡ false → FormedStmt stmt → FormedLines lines → FormedLines (line stmt was lines)
plain_line stmt was lines other first later around labelled depth at rest good joins =
    let own = next_depth depth (line stmt was lines) in
    let here = at + rows (written_depth depth own) in
    let following = here + rows (written_stmt 1 own stmt) in
    let between = depth_after own (stmt ∷ inner_stmts stmt) in
    let (small, parts) = and_parts (nat_le around.blocks 200) (is_writable_stmt around stmt && are_writable_lines around (is_label stmt) lines) good in
    let (here_good, later_good) = and_parts (is_writable_stmt around stmt) (are_writable_lines around (is_label stmt) lines) parts in
    let tokens : List Placed = lines_tokens between following lines rest in
    let later_formed : AreLines 200 around false between tokens (numbered_lines between following lines) (depth_after between (stmts_in lines)) rest =
    later around false between following rest (subst (λ b. are_writable_lines around b lines ≡ true) other later_good) (λ f. absurd cc) in
    let stmt_is = first around own here tokens here_good other (is_own depth stmt was lines other) in
    let formed = first_statement {labelled = labelled} (stmt_starts stmt around here_good own here tokens) (leb-true _ _ small) stmt_is later_formed in
    let Q : ℕ → Type 0 = λ after. AreLines 200 around labelled own (stmt_tokens own here stmt tokens) (line (numbered_stmt own here stmt) here (numbered_lines between following lines)) after rest in
    with_pragma at depth own (depth == own) refl (leb-true _ _ small) joins (subst Q (following_line depth own stmt was lines refl) formed)

label_line : (name : Word) (was : ℕ) (lines : Lines) → FormedLines lines → FormedLines (line (Label name) was lines)
label_line name was lines later around labelled depth at rest good joins =
    let own = next_depth depth lines in
    let here = at + rows (written_depth depth own) in
    let following = here + rows (written_stmt 1 own (Label name)) in
    let (small, parts) = and_parts (nat_le around.blocks 200) (is_name name && are_writable_lines around true lines) good in
    let (is, later_good) = and_parts (is_name name) (are_writable_lines around true lines) parts in
    let later_formed = later around true own following rest later_good (λ labels. next_depth-twice lines depth) in
    let tokens : List Placed = word here name ∷ mark here (codes ":") ∷ lines_tokens own following lines rest in
    let Q : ℕ → Type 0 = λ after. AreLines 200 around labelled own tokens (line (Label name) here (numbered_lines own following lines)) after rest in
    with_pragma at depth own (depth == own) refl (leb-true _ _ small) joins (subst Q (following-next_depth lines depth) (label name is (leb-true _ _ small) later_formed))

line_formed : (stmt : Stmt) (was : ℕ) (lines : Lines) → FormedStmt stmt → FormedLines lines → FormedLines (line stmt was lines)
line_formed (Label name) was lines first later = label_line name was lines later
line_formed stmt was lines first later = plain_line stmt was lines refl first later

no_lines_formed : FormedLines no_lines
no_lines_formed around true depth at rest good joins = absurd cc
no_lines_formed around false depth at rest good joins = no_more

-- Statements.

assign_formed : (place e : Expr) → FormedStmt (Assign place e)
assign_formed place e around depth at rest good other own =
    let (to, from) = and_parts (is_writable_place place) (is_writable_expr e) good in
    assign (place_formed place to at _) (expr_formed e from at _)

call_read : (place : Option Expr) (function : Word) (arguments : List Expr) (own : ℕ) → FormedStmt (Call place function arguments own)
call_read None function arguments own around depth at rest good other same =
    let (is, more) = and_parts (is_name function) (list_all is_writable_expr arguments && is_small own) good in
    let P : ℕ → Type 0 = λ d. IsStmt 200 around d (stmt_tokens d at (Call None function arguments own) rest) (Call None function arguments own) own rest in
    subst P (sym same) (call_alone (call_formed function arguments is (and_parts (list_all is_writable_expr arguments) (is_small own) more).0 at rest))
call_read (Some place) function arguments own around depth at rest good other same =
    let (to, parts) = and_parts (is_writable_place place) (is_name function && (list_all is_writable_expr arguments && is_small own)) good in
    let (is, more) = and_parts (is_name function) (list_all is_writable_expr arguments && is_small own) parts in
    let P : ℕ → Type 0 = λ d. IsStmt 200 around d (stmt_tokens d at (Call (Some place) function arguments own) rest) (Call (Some place) function arguments own) own rest in
    subst P (sym same) (call_into (place_formed place to at _) (call_formed function arguments is (and_parts (list_all is_writable_expr arguments) (is_small own) more).0 at rest))

-- statements in braces are a block
block_formed : (lines : Lines) → FormedLines lines → (around : Around) (depth at opening closing : ℕ) (rest : List Placed) → are_writable_lines around false lines ≡ true →
    IsBlock 200 around depth (mark opening (codes "{") ∷ lines_tokens depth at lines (mark closing (codes "}") ∷ rest)) (numbered_lines depth at lines) (depth_after depth (stmts_in lines)) rest
block_formed lines formed around depth at opening closing rest good =
    block (formed around false depth at (mark closing (codes "}") ∷ rest) good (λ f. absurd cc))

if_formed : (e : Expr) (body otherwise : Lines) → FormedLines body → FormedLines otherwise → FormedStmt (If e body otherwise)
if_formed e body no_lines first second around depth at rest good other own =
    let (tested, parts) = and_parts (is_writable_expr e) (are_writable_lines (in_block around) false body && true) good in
    let here = block_formed body first (in_block around) depth (at + 1) at (at + 1 + rows (written_lines 1 depth body)) rest (and_parts (are_writable_lines (in_block around) false body) true parts).0 in
    let P : ℕ → Type 0 = λ after. IsStmt 200 around depth (stmt_tokens depth at (If e body no_lines) rest) (numbered_stmt depth at (If e body no_lines)) after rest in
    subst P (ap (depth_after depth) (sym (append-nil (stmts_in body)))) (if_alone (expr_formed e tested at _) here)
if_formed e body (line stmt was lines) first second around depth at rest good other own =
    let otherwise : Lines = line stmt was lines in
    let between = depth_after depth (stmts_in body) in
    let middle = at + 1 + rows (written_lines 1 depth body) in
    let beyond = at + 2 + rows (written_lines 1 depth body) in
    let last = beyond + rows (written_lines 1 between otherwise) in
    let (tested, parts) = and_parts (is_writable_expr e) (are_writable_lines (in_block around) false body && are_writable_lines (in_block around) false otherwise) good in
    let (body_good, otherwise_good) = and_parts (are_writable_lines (in_block around) false body) (are_writable_lines (in_block around) false otherwise) parts in
    let else_block = block_formed otherwise second (in_block around) between beyond middle last rest otherwise_good in
    let here = block_formed body first (in_block around) depth (at + 1) at middle _ body_good in
    let P : ℕ → Type 0 = λ after. IsStmt 200 around depth (stmt_tokens depth at (If e body otherwise) rest) (numbered_stmt depth at (If e body otherwise)) after rest in
    subst P (sym (depth_after-append (stmts_in body) (stmts_in otherwise) depth)) (if_else (expr_formed e tested at _) here else_block)

while_formed : (e : Expr) (body : Lines) → FormedLines body → FormedStmt (While e body)
while_formed e body first around depth at rest good other own =
    let (tested, body_good) = and_parts (is_writable_expr e) (are_writable_lines (in_loop around) false body) good in
    while (expr_formed e tested at _) (block_formed body first (in_loop around) depth (at + 1) at _ rest body_good)

do_formed : (body : Lines) (e : Expr) → FormedLines body → FormedStmt (DoWhile body e)
do_formed body e first around depth at rest good other own =
    let (tested, body_good) = and_parts (is_writable_expr e) (are_writable_lines (in_loop around) false body) good in
    do_while (block_formed body first (in_loop around) depth (at + 1) at _ _ body_good) (expr_formed e tested _ _)

ever_formed : (body : Lines) → FormedLines body → FormedStmt (Forever body)
ever_formed body first around depth at rest good other own =
    for_ever (one (one (one (one (one none))))) (block_formed body first (in_loop around) depth (at + 1) at _ rest good)

return_formed : (e : Option Expr) → FormedStmt (Return e)
return_formed None around depth at rest good other own = return_nothing
return_formed (Some e) around depth at rest good other own = return_value (expr_formed e good at _)

-- Arms.

cases_formed : (n : ℕ) (cases : List ℕ) → list_all (λ m. nat_le m 65535) (n ∷ cases) ≡ true → (at : ℕ) (rest : List Placed) → AreCases (cases_tokens at (n ∷ cases) rest) (n ∷ cases) rest
cases_formed n [] good at rest = last_case (plain_decimal (leb-true _ _ (and_parts (nat_le n 65535) true good).0))
cases_formed n (m ∷ cases) good at rest =
    let (first, others) = and_parts (nat_le n 65535) (list_all (λ m. nat_le m 65535) (m ∷ cases)) good in
    more_cases (plain_decimal (leb-true _ _ first)) (cases_formed m cases others (at + 1) rest)

some_cases : (cases : List ℕ) → are_cases cases ≡ true → (at : ℕ) (rest : List Placed) → AreCases (cases_tokens at cases rest) cases rest
some_cases [] good at rest = absurd cc
some_cases (n ∷ cases) good at rest = cases_formed n cases good at rest

no_arms_formed : FormedArms no_arms
no_arms_formed around depth at after others rest last good formed = formed

arm_formed : (cases : List ℕ) (body : Lines) (arms : Arms) → FormedLines body → FormedArms arms → FormedArms (arm cases body arms)
arm_formed cases body arms first later around depth at after others rest last good formed =
    let (few, own) = and_parts (nat_le around.blocks 200) (are_cases cases && (are_writable_lines around false body && are_writable_arms around arms)) good in
    let (cases_good, parts) = and_parts (are_cases cases) (are_writable_lines around false body && are_writable_arms around arms) own in
    let (body_good, arms_good) = and_parts (are_writable_lines around false body) (are_writable_arms around arms) parts in
    let between = depth_after depth (stmts_in body) in
    let P : ℕ → Type 0 = λ d. AreArms 200 around d others no_arms last after rest in
    let following = later around between (at + length cases + rows (written_lines 1 depth body) + 1) after others rest last arms_good (subst P (depth_after-append (stmts_in body) (arm_stmts arms) depth) formed) in
    case_arm (some_cases cases cases_good at _) (leb-true _ _ few) (first around false depth (at + length cases) _ body_good (λ f. absurd cc)) following

no_default_formed : FormedDefault no_arms
no_default_formed around depth first second rest good = no_arm

default_formed : (cases : List ℕ) (body : Lines) (arms : Arms) → FormedLines body → FormedDefault (arm cases body arms)
default_formed [] body no_arms inner around depth first second rest good =
    let (few, own) = and_parts (nat_le around.blocks 200) (are_writable_lines around false body && true) good in
    let body_good = (and_parts (are_writable_lines around false body) true own).0 in
    let P : ℕ → Type 0 = λ after. AreArms 200 around depth (default_tokens depth first second (arm [] body no_arms) rest) no_arms (numbered_default depth second (arm [] body no_arms)) after rest in
    subst P (ap (depth_after depth) (sym (append-nil (stmts_in body)))) (default_arm (leb-true _ _ few) (inner around false depth second _ body_good (λ f. absurd cc)) no_arm)
default_formed [] body (arm cases more arms) inner around depth first second rest good =
    absurd (true≢false (sym (and_parts (are_writable_lines around false body) false (and_parts (nat_le around.blocks 200) (are_writable_lines around false body && false) good).1).1))
default_formed (n ∷ cases) body arms inner around depth first second rest good = absurd (true≢false (sym (and_parts (nat_le around.blocks 200) false good).1))

-- numbering keeps whether there is an arm
has_arm_numbered : (depth at : ℕ) (arms : Arms) → has_arm (numbered_arms depth at arms) ≡ has_arm arms
has_arm_numbered depth at no_arms = refl
has_arm_numbered depth at (arm cases body arms) = refl

has_default_numbered : (depth at : ℕ) (arms : Arms) → has_arm (numbered_default depth at arms) ≡ has_arm arms
has_default_numbered depth at no_arms = refl
has_default_numbered depth at (arm cases body arms) = refl

switch_formed : (e : Expr) (arms last : Arms) → FormedArms arms → FormedDefault last → FormedStmt (Switch e arms last)
switch_formed e arms last first second around depth at rest good other own =
    let (tested, parts) = and_parts (is_writable_expr e) ((has_arm arms || has_arm last) && (are_writable_arms (in_switch around) arms && is_writable_default (in_switch around) last)) good in
    let (some, both) = and_parts (has_arm arms || has_arm last) (are_writable_arms (in_switch around) arms && is_writable_default (in_switch around) last) parts in
    let (arms_good, last_good) = and_parts (are_writable_arms (in_switch around) arms) (is_writable_default (in_switch around) last) both in
    let following = depth_after depth (inner_stmts (Switch e arms no_arms)) in
    let before_default = at + 1 + rows (written_arms 1 depth arms) in
    let in_default = at + 2 + rows (written_arms 1 depth arms) in
    let end = before_default + rows (written_default 1 following last) in
    let closing : List Placed = mark end (codes "}") ∷ rest in
    let after = depth_after following (arm_stmts last) in
    let here : following ≡ depth_after depth (arm_stmts arms) = ap (depth_after depth) (append-nil (arm_stmts arms)) in
    let default_is = second (in_switch around) following before_default in_default closing last_good in
    let P : ℕ → Type 0 = λ d. AreArms 200 (in_switch around) d (default_tokens following before_default in_default last closing) no_arms (numbered_default following in_default last) after closing in
    let arms_are = first (in_switch around) depth (at + 1) after (default_tokens following before_default in_default last closing) closing (numbered_default following in_default last) arms_good (subst P here default_is) in
    let either : (has_arm (numbered_arms depth (at + 1) arms) || has_arm (numbered_default following in_default last)) ≡ true =
    rw (has_arm_numbered depth (at + 1) arms, has_default_numbered following in_default last) some in
    let Q : ℕ → Type 0 = λ d. IsStmt 200 around depth (stmt_tokens depth at (Switch e arms last) rest) (numbered_stmt depth at (Switch e arms last)) d rest in
    subst Q (ap (λ d. depth_after d (arm_stmts last)) here ∙ sym (depth_after-append (arm_stmts arms) (arm_stmts last) depth)) (switch (expr_formed e tested at _) arms_are either)

mutual
  -- the tokens of a statement are read as the numbered statement
  pub stmt_formed : (stmt : Stmt) → FormedStmt stmt
  stmt_formed (Assign place e) = assign_formed place e
  stmt_formed (Call place function arguments own) = call_read place function arguments own
  stmt_formed (If e body otherwise) = if_formed e body otherwise (lines_formed body) (lines_formed otherwise)
  stmt_formed (While e body) = while_formed e body (lines_formed body)
  stmt_formed (DoWhile body e) = do_formed body e (lines_formed body)
  stmt_formed (Forever body) = ever_formed body (lines_formed body)
  stmt_formed (Switch e arms last) = switch_formed e arms last (arms_formed arms) (last_formed last)
  stmt_formed Break = λ around depth at rest good other own. break good
  stmt_formed Continue = λ around depth at rest good other own. continue good
  stmt_formed (Goto name) = λ around depth at rest good other own. goto name good
  stmt_formed (Label name) = λ around depth at rest good other own. absurd cc
  stmt_formed Empty = λ around depth at rest good other own. empty
  stmt_formed (Return e) = return_formed e

  -- the tokens of statements are read as the numbered statements
  pub lines_formed : (lines : Lines) → FormedLines lines
  lines_formed no_lines = no_lines_formed
  lines_formed (line stmt was lines) = line_formed stmt was lines (stmt_formed stmt) (lines_formed lines)

  arms_formed : (arms : Arms) → FormedArms arms
  arms_formed no_arms = no_arms_formed
  arms_formed (arm cases body arms) = arm_formed cases body arms (lines_formed body) (arms_formed arms)

  last_formed : (arms : Arms) → FormedDefault arms
  last_formed no_arms = no_default_formed
  last_formed (arm cases body arms) = default_formed cases body arms (lines_formed body)
