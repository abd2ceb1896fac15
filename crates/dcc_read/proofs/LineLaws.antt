-- Reading statements one after the other, and the arms of a `switch`.
use Rattle.std.proofs.Common.{◌≡◌, ℕ, option_to_list, length, IsSome, ◌↔◌, zero, suc, ◌+◌, ◌-◌, ◌<◌, Bool, true, false, ◌&&◌, if◌then◌else◌, not, List, [], ◌∷◌, ◌++◌, Option, Some, None, refl, sym, ap, ◌∙◌, add-one, arith}
use Rattle.std.proofs.lemmas.List.{append-nil}
use Rattle.std.proofs.lemmas.Bool.{false≢true}
use Rattle.dcc_c.specs.Grammar.{Around}
use Rattle.dcc_c.specs.Kinds.{of_depth}
use Rattle.dcc_c.specs.Token.{depth_line as depth_words}
use Rattle.dcc_c.specs.Partial.{PartialStmt, PartialLines, no_rows, row, PartialArms, no_cases, cases}
use Rattle.dcc_c.specs.Reading.{Reader, Got, got, next_token, line_of, stop_at, fail}
use Rattle.dcc_c.specs.ReadingStatements as s
use Rattle.dcc_reader.specs.declared.partial.Row.{Row}
use Rattle.dcc_reader.specs.declared.partial.PartialArm.{PartialArm}
use Rattle.dcc_read.specs.declared.statement.LineRead.{LineRead}
use Rattle.dcc_reader.specs.PartialViews.{stmt_of, lines_of, arm_before, arms_of}
use Rattle.dcc_read.specs.Lines.{before_lines, after_line, depth_line, label_line, arm_read}
use Rattle.dcc_reader.proofs.LoopLaws.{counted, if-true, if-false}

-- two less, and two more again
pub counted-two : (n : ℕ) → 1 < n → suc (suc (n - 2)) ≡ n
counted-two n within = sym (add-one (suc (n - 2))) ∙ ap (λ k. k + 1) (sym (add-one (n - 2))) ∙ omega arith

-- Statements.

pub lines-append : (rows more : List Row) (others : Got s.Block) → before_lines (rows ++ more) others ≡ before_lines rows (before_lines more others)
lines-append [] more others = refl
lines-append (r ∷ rows) more others = ap (s.before_others (stmt_of r.stmt) r.at r.line) (lines-append rows more others)

pub lines-end : (rows : List Row) (leaves : Bool) (r : Reader) → before_lines rows (got (s.block_of no_rows leaves) r) ≡ got (s.block_of (lines_of rows) leaves) r
lines-end [] leaves r = refl
lines-end (first ∷ rows) leaves r = ap (s.before_others (stmt_of first.stmt) first.at first.line) (lines-end rows leaves r)

-- the end of a loop over statements
pub lines-done : (rows : List Row) (leaves : Bool) (r : Reader) (whole target : Got s.Block) → got (s.block_of no_rows leaves) r ≡ whole →
    before_lines rows whole ≡ target → got (s.block_of (lines_of rows) leaves) r ≡ target
lines-done rows leaves r whole target end had = sym (lines-end rows leaves r) ∙ ap (before_lines rows) end ∙ had

-- what was read where a statement may begin
line-some : (n : ℕ) (around : Around) (labelled leaves : Bool) (r following : Reader) (l : LineRead) → 1 < n → s.begins_stmt (next_token r) ≡ true →
    after_line l (n - 2) around following ≡ s.read_line (suc (n - 2)) around labelled r →
    s.read_lines n around labelled leaves r ≡ after_line l (n - 2) around following
line-some n around labelled leaves r following l within begins reads =
    ap (λ k. s.read_lines k around labelled leaves r) (sym (counted-two n within))
    ∙ if-true (s.begins_stmt (next_token r)) _ _ begins ∙ sym reads

pub lines-step : (n : ℕ) (around : Around) (labelled leaves : Bool) (r following : Reader) (l : LineRead) (rows now : List Row) (target : Got s.Block) → 1 < n →
    s.begins_stmt (next_token r) ≡ true → after_line l (n - 2) around following ≡ s.read_line (suc (n - 2)) around labelled r →
    now ≡ rows ++ option_to_list l.row → l.is_last ≡ false → before_lines rows (s.read_lines n around labelled leaves r) ≡ target →
    before_lines now (s.read_lines (n - 2) around l.labelled l.leaves following) ≡ target
lines-step n around labelled leaves r following l rows now target within begins reads grown last had =
    ap (λ rs. before_lines rs (s.read_lines (n - 2) around l.labelled l.leaves following)) grown
    ∙ lines-append rows (option_to_list l.row) _
    ∙ ap (λ others. before_lines rows (before_lines (option_to_list l.row) others)) (sym (if-false l.is_last (got (s.block_of no_rows l.leaves) following) _ last))
    ∙ ap (before_lines rows) (sym (line-some n around labelled leaves r following l within begins reads))
    ∙ had

pub lines-last : (n : ℕ) (around : Around) (labelled leaves : Bool) (r following : Reader) (l : LineRead) (rows now : List Row) (target : Got s.Block) → 1 < n →
    s.begins_stmt (next_token r) ≡ true → after_line l (n - 2) around following ≡ s.read_line (suc (n - 2)) around labelled r →
    now ≡ rows ++ option_to_list l.row → l.is_last ≡ true → before_lines rows (s.read_lines n around labelled leaves r) ≡ target →
    got (s.block_of (lines_of now) l.leaves) following ≡ target
lines-last n around labelled leaves r following l rows now target within begins reads grown last had =
    sym (lines-end now l.leaves following)
    ∙ ap (λ rs. before_lines rs (got (s.block_of no_rows l.leaves) following)) grown
    ∙ lines-append rows (option_to_list l.row) _
    ∙ ap (λ others. before_lines rows (before_lines (option_to_list l.row) others)) (sym (if-true l.is_last _ (s.read_lines (n - 2) around l.labelled l.leaves following) last))
    ∙ ap (before_lines rows) (sym (line-some n around labelled leaves r following l within begins reads))
    ∙ had

pub lines-none : (n : ℕ) (around : Around) (labelled leaves : Bool) (r failed : Reader) → 0 < n → s.begins_stmt (next_token r) ≡ false →
    failed ≡ (if labelled then fail r else r) → got (s.block_of no_rows leaves) failed ≡ s.read_lines n around labelled leaves r
lines-none n around labelled leaves r failed within begins fails =
    ap (got (s.block_of no_rows leaves)) fails
    ∙ sym (if-false (s.begins_stmt (next_token r)) _ _ begins)
    ∙ ap (λ k. s.read_lines k around labelled leaves r) (counted n within)

pub lines-one : (n : ℕ) (around : Around) (labelled leaves : Bool) (r : Reader) → n ≡ 1 → s.begins_stmt (next_token r) ≡ true →
    got (s.block_of no_rows false) r ≡ s.read_lines n around labelled leaves r
lines-one n around labelled leaves r one begins =
    sym (if-true (s.begins_stmt (next_token r)) _ _ begins) ∙ ap (λ k. s.read_lines k around labelled leaves r) (sym one)

-- One line.

-- after the test for a depth line
pub line-depth : (calls : ℕ) (around : Around) (labelled : Bool) (r : Reader) → s.sees_head depth_words r ≡ true →
    s.read_line (suc calls) around labelled r ≡ depth_line calls around labelled r
line-depth calls around labelled r e = if-true (s.sees_head depth_words r) _ _ e

pub line-label : (calls : ℕ) (around : Around) (labelled : Bool) (r : Reader) → s.sees_head depth_words r ≡ false → s.begins_label r ≡ true →
    s.read_line (suc calls) around labelled r ≡ label_line calls around r
line-label calls around labelled r other e = if-false (s.sees_head depth_words r) _ _ other ∙ if-true (s.begins_label r) _ _ e

pub line-deep : (calls : ℕ) (around : Around) (labelled : Bool) (r : Reader) → s.sees_head depth_words r ≡ false → s.begins_label r ≡ false →
    (s.is_nested around && s.is_block_word (next_token r)) ≡ true →
    s.read_line (suc calls) around labelled r ≡ got (s.block_of no_rows false) (stop_at of_depth r.at r)
line-deep calls around labelled r other neither e =
    if-false (s.sees_head depth_words r) _ _ other ∙ if-false (s.begins_label r) _ _ neither
    ∙ if-true (s.is_nested around && s.is_block_word (next_token r)) _ _ e

pub line-stmt : (calls number : ℕ) (around : Around) (labelled : Bool) (r following end : Reader) (stmt : PartialStmt) (leaves : Bool) → s.sees_head depth_words r ≡ false →
    s.begins_label r ≡ false → (s.is_nested around && s.is_block_word (next_token r)) ≡ false → number ≡ line_of r.left →
    got stmt following ≡ s.read_stmt calls around r → end ≡ s.stop_if_nested around r.at following → leaves ≡ (s.is_break stmt && not labelled) →
    s.before_others stmt r.at number (s.read_lines calls around false leaves end) ≡ s.read_line (suc calls) around labelled r
line-stmt calls number around labelled r following end stmt leaves other neither flat numbers reads ends is =
    ap (λ n. s.before_others stmt r.at n (s.read_lines calls around false leaves end)) numbers
    ∙ ap (λ l. s.before_others stmt r.at (line_of r.left) (s.read_lines calls around false l end)) is
    ∙ ap (λ e. s.before_others stmt r.at (line_of r.left) (s.read_lines calls around false (s.is_break stmt && not labelled) e)) ends
    ∙ ap (λ (g : Got PartialStmt). s.before_others g.value r.at (line_of r.left) (s.read_lines calls around false (s.is_break g.value && not labelled) (s.stop_if_nested around r.at g.following))) reads
    ∙ sym (if-false (s.sees_head depth_words r) _ _ other ∙ if-false (s.begins_label r) _ _ neither
    ∙ if-false (s.is_nested around && s.is_block_word (next_token r)) _ _ flat)

-- Arms.

abbrev pub before_arms : List PartialArm → Got PartialArms → Got PartialArms
before_arms [] others = others
before_arms (a ∷ arms) others = let rest = before_arms arms others in got (arm_before a rest.value) rest.following

pub arms-append : (arms more : List PartialArm) (others : Got PartialArms) → before_arms (arms ++ more) others ≡ before_arms arms (before_arms more others)
arms-append [] more others = refl
arms-append (a ∷ arms) more others = ap (λ (g : Got PartialArms). got (arm_before a g.value) g.following) (arms-append arms more others)

pub arms-end : (arms : List PartialArm) (r : Reader) → before_arms arms (got no_cases r) ≡ got (arms_of arms) r
arms-end [] r = refl
arms-end (a ∷ arms) r = ap (λ (g : Got PartialArms). got (arm_before a g.value) g.following) (arms-end arms r)

-- the end of a loop over arms
pub arms-done : (arms : List PartialArm) (r : Reader) (whole target : Got PartialArms) → whole ≡ got no_cases r →
    before_arms arms whole ≡ target → got (arms_of arms) r ≡ target
arms-done arms r whole target end had = sym (arms-end arms r) ∙ ap (before_arms arms) (sym end) ∙ had

pub arms-none : (n : ℕ) (around : Around) (r : Reader) → s.begins_arm r ≡ false → s.read_more_arms n around r ≡ got no_cases r
arms-none zero around r e = refl
arms-none (suc n) around r e = if-false (s.begins_arm r) _ _ e

pub arms-step : (n : ℕ) (around : Around) (r following : Reader) (a : PartialArm) (arms now : List PartialArm) (target : Got PartialArms) → 0 < n → s.begins_arm r ≡ true →
    ((others : PartialArms) → got (arm_before a others) following ≡ arm_read (n - 1) around others r) →
    now ≡ arms ++ a ∷ [] → before_arms arms (s.read_more_arms n around r) ≡ target →
    before_arms now (s.read_more_arms (n - 1) around following) ≡ target
arms-step n around r following a arms now target within begins reads grown had =
    let f = s.read_more_arms (n - 1) around in
    let head = s.read_arm_head (n - 1) r in
    let body = s.end_arm (s.read_lines (n - 1) around false false head.following) in
    let same = reads (f following).value in
    ap (λ l. before_arms l (f following)) grown
    ∙ arms-append arms (a ∷ []) (f following)
    ∙ ap (before_arms arms) (
    ap (λ (g : Got PartialArms). got g.value (f following).following) same
    ∙ ap (λ (g : Got PartialArms). got (cases head.value.numbers head.value.default body.value (f g.following).value) (f g.following).following) same
    ∙ sym (if-true (s.begins_arm r) _ (got no_cases r) begins)
    ∙ ap (λ k. s.read_more_arms k around r) (counted n within))
    ∙ had

pub arms-first : (n : ℕ) (around : Around) (r : Reader) → 0 < n → s.begins_arm r ≡ true → s.read_more_arms (n - 1) around r ≡ s.read_arms n around r
arms-first n around r within begins = sym (if-true (s.begins_arm r) _ _ begins) ∙ ap (λ k. s.read_arms k around r) (counted n within)

pub arms-missing : (n : ℕ) (around : Around) (r : Reader) → 0 < n → s.begins_arm r ≡ false → got no_cases (fail r) ≡ s.read_arms n around r
arms-missing n around r within begins = sym (if-false (s.begins_arm r) _ _ begins) ∙ ap (λ k. s.read_arms k around r) (counted n within)

pub arms-zero : (n : ℕ) (around : Around) (r : Reader) → n ≡ 0 → got no_cases r ≡ s.read_arms n around r
arms-zero n around r none = ap (λ k. s.read_arms k around r) (sym none)

-- An arm.
pub arm-read : (calls : ℕ) (around : Around) (r headed lined end : Reader) (head : s.ArmHead) (block : s.Block) (body : PartialLines) (others : PartialArms) →
    got head headed ≡ s.read_arm_head calls r → got block lined ≡ s.read_lines calls around false false headed → got body end ≡ s.end_arm (got block lined) →
    got (cases head.numbers head.default body others) end ≡ arm_read calls around others r
arm-read calls around r headed lined end head block body others heads lines ends =
    ap (λ (g : Got PartialLines). got (cases head.numbers head.default g.value others) g.following) (ends ∙ ap s.end_arm lines)
    ∙ ap (λ (g : Got s.ArmHead).
    let body = s.end_arm (s.read_lines calls around false false g.following) in
    got (cases g.value.numbers g.value.default body.value others) body.following) heads

-- all statements but the last
pub last-dropped : (rows : List Row) (x : Row) → s.without_last (lines_of (rows ++ x ∷ [])) ≡ lines_of rows
last-dropped [] x = refl
last-dropped (a ∷ []) x = refl
last-dropped (a ∷ (b ∷ rows)) x = ap (row (stmt_of a.stmt) a.at a.line) (last-dropped (b ∷ rows) x)

-- a list of statements whose last one has been taken away, if there was one
pub popped : (old now : List Row) (x : Option Row) (n : ℕ) → length old ≡ n → old ≡ now ++ option_to_list x → (IsSome x ↔ (0 < n)) →
    lines_of now ≡ s.without_last (lines_of old)
popped old now (Some last) n counts is both = sym (ap (λ l. s.without_last (lines_of l)) is ∙ last-dropped now last)
popped [] now None n counts is both = ap lines_of (sym (is ∙ append-nil now))
popped (a ∷ old) now None n counts is both = let more : 0 < n = omega (arith, sym counts) in absurd (false≢true (both.1 more))

pub arms-empty : (arms : List PartialArm) (r : Reader) → arms ≡ [] → got (arms_of arms) r ≡ got no_cases r
arms-empty arms r none = ap (λ l. got (arms_of l) r) none

pub arms-end_calls : (n : ℕ) (around : Around) (r : Reader) → n ≡ 0 → s.read_more_arms n around r ≡ got no_cases r
arms-end_calls n around r none = ap (λ k. s.read_more_arms k around r) none
