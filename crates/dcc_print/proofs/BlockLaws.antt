-- What several appends to a text come to, in blocks.
use Rattle.std.proofs.Common.{◌≡◌, ℕ, ◌==◌, true, false, List, [], ◌∷◌, ◌++◌, length, refl, sym, ap, ◌∙◌, append_assoc}
use Rattle.std.specs.Prelude.{Result, OnOk, IfOk, codes}
use Rattle.std.proofs.lemmas.Result.{on_ok_weaker}
use Rattle.dcc_c.specs.declared.syntax.Line.{Line}
use Rattle.dcc_c.specs.Tree.{Word, Stmt, Label, Lines, line, Arms, arm}
use Rattle.dcc_c.specs.Parts.{stmts_in, inner_stmts, arm_stmts}
use Rattle.dcc_c.specs.Written.{indentation, depth_after, next_depth, written_depth, written_cases, written_else, written_stmt, written_lines, written_arms}
use Rattle.dcc_c.specs.Views.{lines_of}
use Rattle.dcc_print.specs.Blocks.{is_label}
use Rattle.dcc_print.proofs.DepthLaws.{depth_after-append, depth_after-next, next_depth-again}

-- two appends, where the second succeeds
pub append-on_ok : {T E : Type 0} (r : Result T E) (old mid new first second whole : Word) → mid ≡ old ++ first → first ++ second ≡ whole → OnOk r (new ≡ mid ++ second) → OnOk r (new ≡ old ++ whole)
append-on_ok r old mid new first second whole before all after =
    on_ok_weaker r (λ is. is ∙ ap (λ l. l ++ second) before ∙ append_assoc old first second ∙ ap (λ l. old ++ l) all) after

-- the depth that a call answers, by another name
pub depth-on_ok : {E : Type 0} (r : Result ℕ E) (first second : ℕ) → first ≡ second → IfOk r (λ after. after ≡ first) → IfOk r (λ after. after ≡ second)
depth-on_ok (Result.Ok v) first second same is = is ∙ same
depth-on_ok (Result.Err e) first second same is = is

-- the else part of an `if` that has one
pub else-some : (braces : ℕ) (lines : List Line) (block : Word) → (length lines == 0) ≡ false → written_else braces (lines_of lines) block ≡ (indentation braces ++ codes "} else {\n") ++ block
else-some braces [] block some = cc
else-some braces (l ∷ ls) block some = refl

-- The statements that are left, after one more.

pub lines-step : (braces depth own after at : ℕ) (stmt : Stmt) (rest left : Lines) (total old before text : Word) →
    left ≡ line stmt at rest → old ++ written_lines braces depth left ≡ total → own ≡ next_depth depth left →
    before ≡ old ++ written_depth depth (next_depth depth left) → text ≡ before ++ written_stmt braces own stmt →
    after ≡ depth_after own (stmt ∷ inner_stmts stmt) → text ++ written_lines braces after rest ≡ total
lines-step braces depth own after at stmt rest left total old before text is whole own_is before_is text_is after_is =
    let with : ℕ → Word → Word = λ n l. (l ++ written_stmt braces n stmt) ++ written_lines braces (depth_after n (stmt ∷ inner_stmts stmt)) rest in
    let all : Lines → Word = λ l. with (next_depth depth l) (old ++ written_depth depth (next_depth depth l)) in
    let next = next_depth depth (line stmt at rest) in
    let pragma = written_depth depth next in
    let own_text = written_stmt braces next stmt in
    let others = written_lines braces (depth_after next (stmt ∷ inner_stmts stmt)) rest in
    ap (λ l. l ++ written_lines braces after rest) text_is
    ∙ ap (λ n. (before ++ written_stmt braces own stmt) ++ written_lines braces n rest) after_is
    ∙ ap (with own) before_is
    ∙ ap (λ n. with n (old ++ written_depth depth (next_depth depth left))) own_is
    ∙ ap all is
    ∙ append_assoc (old ++ pragma) own_text others
    ∙ append_assoc old pragma (own_text ++ others)
    ∙ sym (ap (λ l. old ++ written_lines braces depth l) is)
    ∙ whole

pub depth-step : (depth own after at total : ℕ) (stmt : Stmt) (rest left : Lines) → left ≡ line stmt at rest →
    depth_after depth (stmts_in left) ≡ total → own ≡ next_depth depth left →
    after ≡ depth_after own (stmt ∷ inner_stmts stmt) → depth_after after (stmts_in rest) ≡ total
depth-step depth own after at total stmt rest left is whole own_is after_is =
    ap (λ n. depth_after n (stmts_in rest)) after_is
    ∙ sym (depth_after-append own (stmt ∷ inner_stmts stmt) (stmts_in rest))
    ∙ sym (ap (λ l. depth_after own (stmts_in l)) is)
    ∙ ap (λ n. depth_after n (stmts_in left)) own_is
    ∙ depth_after-next depth left
    ∙ whole

pub label-step : (depth own after at : ℕ) (stmt : Stmt) (rest left : Lines) → left ≡ line stmt at rest →
    own ≡ next_depth depth left → after ≡ depth_after own (stmt ∷ inner_stmts stmt) → is_label stmt ≡ true →
    next_depth after rest ≡ after
label-step depth own after at (Label word) rest left is own_is after_is label =
    let same : after ≡ next_depth depth rest = after_is ∙ own_is ∙ ap (next_depth depth) is in
    ap (λ n. next_depth n rest) same ∙ next_depth-again depth rest ∙ sym same
label-step depth own after at stmt rest left is own_is after_is label = cc

-- the default arm and the end of its `switch`
pub default-written : (old label lines last end : Word) → (((old ++ label) ++ lines) ++ last) ++ end ≡ old ++ ((label ++ (lines ++ last)) ++ end)
default-written old label lines last end = simp append_assoc

-- The arms that are left, after one more.

pub arms-step : (braces depth after : ℕ) (cases : List ℕ) (body : Lines) (rest left : Arms) (total old heads before text : Word) →
    left ≡ arm cases body rest → old ++ written_arms braces depth left ≡ total →
    heads ≡ old ++ written_cases braces cases → before ≡ heads ++ written_lines braces depth body →
    text ≡ before ++ (indentation braces ++ codes "break;\n") → after ≡ depth_after depth (stmts_in body) →
    text ++ written_arms braces after rest ≡ total
arms-step braces depth after cases body rest left total old heads before text is whole heads_is before_is text_is after_is =
    let first = written_cases braces cases in
    let lines = written_lines braces depth body in
    let last = indentation braces ++ codes "break;\n" in
    let others = written_arms braces (depth_after depth (stmts_in body)) rest in
    ap (λ n. text ++ written_arms braces n rest) after_is
    ∙ ap (λ l. l ++ others) (text_is ∙ ap (λ l. l ++ last) (before_is ∙ ap (λ l. l ++ lines) heads_is))
    ∙ append_assoc ((old ++ first) ++ lines) last others
    ∙ append_assoc (old ++ first) lines (last ++ others)
    ∙ append_assoc old first (lines ++ (last ++ others))
    ∙ sym (ap (λ l. old ++ written_arms braces depth l) is)
    ∙ whole

pub arm_depth-step : (depth after total : ℕ) (cases : List ℕ) (body : Lines) (rest left : Arms) →
    left ≡ arm cases body rest → depth_after depth (arm_stmts left) ≡ total →
    after ≡ depth_after depth (stmts_in body) → depth_after after (arm_stmts rest) ≡ total
arm_depth-step depth after total cases body rest left is whole after_is =
    ap (λ n. depth_after n (arm_stmts rest)) after_is
    ∙ sym (depth_after-append depth (stmts_in body) (arm_stmts rest))
    ∙ sym (ap (λ l. depth_after depth (arm_stmts l)) is)
    ∙ whole
