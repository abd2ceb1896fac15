-- Reading that has stopped stays so, in statements.
use Rattle.std.proofs.Common.{ℕ, zero, suc, ◌&&◌, Bool, true, false, not, List, Option, Some, None}
use Rattle.std.specs.Prelude.{codes, if◌then◌else◌, ◌==◌}
use Rattle.dcc_c.specs.Token.{depth_line}
use Rattle.dcc_c.specs.Grammar.{Around, in_block, in_loop, in_switch}
use Rattle.dcc_c.specs.Kinds.{of_depth}
use Rattle.dcc_c.specs.Partial.{WordAt, NumberAt, PartialExpr, PartialStmt, BreakOf, ContinueOf, EmptyOf, LabelOf, no_rows}
use Rattle.dcc_c.specs.Reading.{Reader, Got, got, is_stopped, next_token, line_of, skip, fail, name_of, plain_of, sees_mark, sees_word, take_mark, take_word, take_name, take_plain, in_operator}
use Rattle.dcc_c.specs.ReadingStatements.{whole, read_value, read_enclosed, read_test, sees_head, take_number_of_line, set_depth, read_depth, begins_call, more_arguments, read_arguments, call_of, read_call, read_place, assignment_of, read_assigned, read_simple, read_leave, read_goto, read_return, case_number, read_case, read_cases, read_arm_head, begins_arm, begins_stmt, begins_label, is_nested, stop_if_nested, is_block_word, Block, block_of, is_break, before_others, end_arm, read_stmt, read_if, read_block, read_lines, read_line, read_arms, read_more_arms}
use Rattle.dcc_c.proofs.reading.Passing.{if-cases, stop_at-stops, fail-stops, take_mark-took, take_word-took}
use Rattle.dcc_c.proofs.reading.Stopping.{GoesOn, choice-cases, keeps_stop}

abbrev KeepsIn : {A : Type 0} → Reader → Got A → Type 0
KeepsIn r g = GoesOn r g.following

pub mark-keeps : (bytes : List ℕ) (r : Reader) → GoesOn r (take_mark bytes r)
mark-keeps bytes r going = (take_mark-took bytes r going).passed.going

pub word-keeps : (bytes : List ℕ) (r : Reader) → GoesOn r (take_word bytes r)
word-keeps bytes r going = (take_word-took bytes r going).passed.going

pub name-keeps : (r : Reader) → GoesOn r (take_name r).following
name-keeps r = choice-cases (KeepsIn r) (name_of (next_token r)) (λ _ _ going. going) (λ _ going. absurd (fail-stops r going))

pub plain-keeps : (r : Reader) → GoesOn r (take_plain r).following
plain-keeps r = choice-cases (KeepsIn r) (plain_of (next_token r)) (λ _ _ going. going) (λ _ going. absurd (fail-stops r going))

pub number-keeps : (line : ℕ) (r : Reader) → GoesOn r (take_number_of_line line r).following
number-keeps line r = if-cases (KeepsIn r) (line_of r.left == line) (λ _. plain-keeps r) (λ _ going. absurd (fail-stops r going))

pub set-keeps : (n : Option NumberAt) (r : Reader) → GoesOn r (set_depth n r)
set-keeps (Some n) r going = going
set-keeps None r going = going

pub depth-keeps : (r : Reader) → GoesOn r (read_depth r)
depth-keeps r going =
    let n = take_number_of_line (line_of r.left) (skip r) in number-keeps (line_of r.left) (skip r) (set-keeps n.value n.following going)

-- Expressions in statements.

pub test-keeps : (calls : ℕ) (r : Reader) → GoesOn r (read_test calls r).following
test-keeps calls r going =
    let here = take_mark (codes "(") r in
    let e = read_enclosed calls here in
    mark-keeps (codes "(") r ((keeps_stop calls).expr (whole 1 here) here (mark-keeps (codes ")") e.following going))

pub place-keeps : (calls : ℕ) (r : Reader) → GoesOn r (read_place calls r).following
place-keeps calls r =
    choice-cases (KeepsIn r) (name_of (next_token r)) (λ _ _ going. going)
    (λ _ going. mark-keeps (codes "*") r ((keeps_stop calls).unary (in_operator (whole 0 r)) (take_mark (codes "*") r) going))

pub more_arguments-keeps : (calls : ℕ) (r : Reader) → GoesOn r (more_arguments calls r).following
more_arguments-keeps zero r = λ going. going
more_arguments-keeps (suc calls) r =
    if-cases (KeepsIn r) (sees_mark (codes ",") r)
    (λ _ going.
    let first = read_enclosed calls (skip r) in
    (keeps_stop calls).expr (whole 1 (skip r)) (skip r) (more_arguments-keeps calls first.following going))
    (λ _ going. going)

pub arguments-keeps : (calls : ℕ) (r : Reader) → GoesOn r (read_arguments calls r).following
arguments-keeps calls r =
    if-cases (KeepsIn r) (sees_mark (codes ")") r) (λ _ going. going)
    (λ _ going. (keeps_stop calls).expr (whole 1 r) r (more_arguments-keeps calls (read_enclosed calls r).following going))

pub call_of-keeps : (calls : ℕ) (place : Option PartialExpr) (function : WordAt) (r : Reader) → GoesOn r (call_of calls place function r).following
call_of-keeps calls place function r going =
    let arguments = read_arguments calls (skip r) in
    arguments-keeps calls (skip r) (mark-keeps (codes ")") arguments.following (mark-keeps (codes ";") (take_mark (codes ")") arguments.following) going))

-- the call, after what was read of its name
abbrev pub call_named : ℕ → Option PartialExpr → Option WordAt → Reader → Got PartialStmt
call_named calls place name following = elim name [ Some function ↦ call_of calls place function following | None ↦ got EmptyOf following ]

named-keeps : (calls : ℕ) (place : Option PartialExpr) (r : Reader) (name : Option WordAt) (following : Reader) → GoesOn r following →
    KeepsIn r (call_named calls place name following)
named-keeps calls place r (Some function) following before = λ going. before (call_of-keeps calls place function following going)
named-keeps calls place r None following before = before

pub call-keeps : (calls : ℕ) (place : Option PartialExpr) (r : Reader) → GoesOn r (read_call calls place r).following
call-keeps calls place r = named-keeps calls place r (take_name r).value (take_name r).following (name-keeps r)

pub assignment-keeps : (calls : ℕ) (place : PartialExpr) (r : Reader) → GoesOn r (assignment_of calls place r).following
assignment-keeps calls place r going = (keeps_stop calls).expr (whole 0 r) r (mark-keeps (codes ";") (read_value calls r).following going)

pub assigned-keeps : (calls : ℕ) (place : Got PartialExpr) → GoesOn place.following (read_assigned calls place).following
assigned-keeps calls place =
    if-cases (KeepsIn place.following) (not (sees_mark (codes "=") place.following)) (λ _ going. absurd (fail-stops place.following going))
    (λ _. if-cases (KeepsIn place.following) (begins_call (skip place.following)) (λ _. call-keeps calls (Some place.value) (skip place.following))
    (λ _. assignment-keeps calls place.value (skip place.following)))

pub simple-keeps : (calls : ℕ) (r : Reader) → GoesOn r (read_simple calls r).following
simple-keeps calls r =
    if-cases (KeepsIn r) (begins_call r) (λ _. call-keeps calls None r) (λ _ going. place-keeps calls r (assigned-keeps calls (read_place calls r) going))

-- Short statements and cases.

pub left-keeps : (inside : Bool) (r : Reader) → GoesOn r (if inside then skip r else fail r)
left-keeps true r going = going
left-keeps false r going = absurd (fail-stops r going)

pub leave-keeps : (inside : Bool) (stmt : PartialStmt) (r : Reader) → GoesOn r (read_leave inside stmt r).following
leave-keeps inside stmt r going = left-keeps inside r (mark-keeps (codes ";") (if inside then skip r else fail r) going)

pub goto-keeps : (r : Reader) → GoesOn r (read_goto r).following
goto-keeps r going = name-keeps (skip r) (mark-keeps (codes ";") (take_name (skip r)).following going)

pub return-keeps : (calls : ℕ) (r : Reader) → GoesOn r (read_return calls r).following
return-keeps calls r =
    if-cases (KeepsIn r) (sees_mark (codes ";") (skip r)) (λ _ going. going)
    (λ _ going. (keeps_stop calls).expr (whole 0 (skip r)) (skip r) (mark-keeps (codes ";") (read_value calls (skip r)).following going))

pub case-keeps : (r : Reader) → GoesOn r (read_case r).following
case-keeps r =
    choice-cases (KeepsIn r) (case_number (next_token (skip r))) (λ _ _ going. mark-keeps (codes ":") (skip (skip r)) going)
    (λ _ going. absurd (fail-stops (skip r) going))

pub cases-keeps : (calls : ℕ) (r : Reader) → GoesOn r (read_cases calls r).following
cases-keeps zero r = λ going. going
cases-keeps (suc calls) r =
    if-cases (KeepsIn r) (sees_word (codes "case") r) (λ _ going. case-keeps r (cases-keeps calls (read_case r).following going)) (λ _ going. going)

pub arm_head-keeps : (calls : ℕ) (r : Reader) → GoesOn r (read_arm_head calls r).following
arm_head-keeps calls r =
    if-cases (KeepsIn r) (sees_word (codes "default") r) (λ _ going. mark-keeps (codes ":") (skip r) going) (λ _. cases-keeps calls r)

pub nested-keeps : (around : Around) (at : ℕ) (r : Reader) → GoesOn r (stop_if_nested around at r)
nested-keeps around at r = if-cases (GoesOn r) (is_nested around) (λ _ going. absurd (stop_at-stops of_depth at r going)) (λ _ going. going)

pub end_arm-keeps : (body : Got Block) → GoesOn body.following (end_arm body).following
end_arm-keeps body =
    if-cases (KeepsIn body.following) (is_stopped body.following) (λ _ going. going)
    (λ _. if-cases (KeepsIn body.following) body.value.leaves (λ _ going. going) (λ _ going. absurd (fail-stops body.following going)))

-- Statements.

-- reading statements with so many calls keeps the stop
pub record KeepsStmts (calls : ℕ) : Type 0 where
  pub stmt : (around : Around) (r : Reader) → GoesOn r (read_stmt calls around r).following
  pub otherwise : (around : Around) (test : Got PartialExpr) → GoesOn test.following (read_if calls around test).following
  pub block : (around : Around) (r : Reader) → GoesOn r (read_block calls around r).following
  pub lines : (around : Around) (labelled leaves : Bool) (r : Reader) → GoesOn r (read_lines calls around labelled leaves r).following
  pub line : (around : Around) (labelled : Bool) (r : Reader) → GoesOn r (read_line calls around labelled r).following
  pub arms : (around : Around) (r : Reader) → GoesOn r (read_arms calls around r).following
  pub more_arms : (around : Around) (r : Reader) → GoesOn r (read_more_arms calls around r).following

none-keep : KeepsStmts zero
none-keep =
    record {
      stmt = λ around r going. going;
      otherwise = λ around test going. going;
      block = λ around r going. going;
      lines = λ around labelled leaves r going. going;
      line = λ around labelled r going. going;
      arms = λ around r going. going;
      more_arms = λ around r going. going;
    }

module _ (calls : ℕ) (keep : KeepsStmts calls) where
  stmt-keeps : (around : Around) (r : Reader) → KeepsIn r (read_stmt (suc calls) around r)
  stmt-keeps around r =
      if-cases (KeepsIn r) (sees_word (codes "if") r)
      (λ _ going. test-keeps calls (skip r) (keep.otherwise around (read_test calls (skip r)) going))
      (λ _. if-cases (KeepsIn r) (sees_word (codes "while") r)
      (λ _ going. test-keeps calls (skip r) (keep.block (in_loop around) (read_test calls (skip r)).following going))
      (λ _. if-cases (KeepsIn r) (sees_word (codes "do") r)
      (λ _ going.
      let body = read_block calls (in_loop around) (skip r) in
      let test = read_test calls (take_word (codes "while") body.following) in
      keep.block (in_loop around) (skip r) (word-keeps (codes "while") body.following (test-keeps calls (take_word (codes "while") body.following) (mark-keeps (codes ";") test.following going))))
      (λ _. if-cases (KeepsIn r) (sees_word (codes "for") r)
      (λ _ going.
      let a = take_mark (codes "(") (skip r) in
      let b = take_mark (codes ";") a in
      let c = take_mark (codes ";") b in
      mark-keeps (codes "(") (skip r) (mark-keeps (codes ";") a (mark-keeps (codes ";") b (mark-keeps (codes ")") c (keep.block (in_loop around) (take_mark (codes ")") c) going)))))
      (λ _. if-cases (KeepsIn r) (sees_word (codes "switch") r)
      (λ _ going.
      let test = read_test calls (skip r) in
      let arms = read_arms calls (in_switch around) (take_mark (codes "{") test.following) in
      test-keeps calls (skip r) (mark-keeps (codes "{") test.following (keep.arms (in_switch around) (take_mark (codes "{") test.following) (mark-keeps (codes "}") arms.following going))))
      (λ _. if-cases (KeepsIn r) (sees_word (codes "break") r) (λ _. leave-keeps around.breaks BreakOf r)
      (λ _. if-cases (KeepsIn r) (sees_word (codes "continue") r) (λ _. leave-keeps around.continues ContinueOf r)
      (λ _. if-cases (KeepsIn r) (sees_word (codes "goto") r) (λ _. goto-keeps r)
      (λ _. if-cases (KeepsIn r) (sees_word (codes "return") r) (λ _. return-keeps calls r)
      (λ _. if-cases (KeepsIn r) (sees_mark (codes ";") r) (λ _ going. going) (λ _. simple-keeps calls r))))))))))

  if-keeps : (around : Around) (test : Got PartialExpr) → KeepsIn test.following (read_if (suc calls) around test)
  if-keeps around test =
      let body = read_block calls (in_block around) test.following in
      if-cases (KeepsIn test.following) (sees_word (codes "else") body.following)
      (λ _ going. keep.block (in_block around) test.following (keep.block (in_block around) (skip body.following) going))
      (λ _ going. keep.block (in_block around) test.following going)

  block-keeps : (around : Around) (r : Reader) → KeepsIn r (read_block (suc calls) around r)
  block-keeps around r = λ going.
      mark-keeps (codes "{") r (keep.lines around false false (take_mark (codes "{") r) (mark-keeps (codes "}") (read_lines calls around false false (take_mark (codes "{") r)).following going))

  lines-keeps : (around : Around) (labelled leaves : Bool) (r : Reader) → KeepsIn r (read_lines (suc calls) around labelled leaves r)
  lines-keeps around labelled leaves r =
      if-cases (KeepsIn r) (begins_stmt (next_token r)) (λ _. keep.line around labelled r) (λ _. labelled_end labelled)
    where
      labelled_end : (is : Bool) → GoesOn r (if is then fail r else r)
      labelled_end true going = absurd (fail-stops r going)
      labelled_end false going = going

  labels-keep : (around : Around) (r : Reader) (name : Option WordAt) (following : Reader) → GoesOn r following →
      KeepsIn r (elim name [ Some word ↦ before_others (LabelOf word) r.at (line_of r.left) (read_lines calls around true false (stop_if_nested around r.at (skip following))) | None ↦ got (block_of no_rows false) following ])
  labels-keep around r (Some word) following before = λ going.
      before (nested-keeps around r.at (skip following) (keep.lines around true false (stop_if_nested around r.at (skip following)) going))
  labels-keep around r None following before = before

  line-keeps : (around : Around) (labelled : Bool) (r : Reader) → KeepsIn r (read_line (suc calls) around labelled r)
  line-keeps around labelled r =
      if-cases (KeepsIn r) (sees_head depth_line r)
      (λ _. if-cases (KeepsIn r) labelled (λ _ going. absurd (fail-stops r going))
      (λ _. if-cases (KeepsIn r) (is_nested around) (λ _ going. absurd (stop_at-stops of_depth r.at r going))
      (λ _ going. depth-keeps r (keep.lines around false false (read_depth r) going))))
      (λ _. if-cases (KeepsIn r) (begins_label r) (λ _. labels-keep around r (take_name r).value (take_name r).following (name-keeps r))
      (λ _. if-cases (KeepsIn r) (is_nested around && is_block_word (next_token r)) (λ _ going. absurd (stop_at-stops of_depth r.at r going))
      (λ _ going.
      let stmt = read_stmt calls around r in
      let following = stop_if_nested around r.at stmt.following in
      keep.stmt around r (nested-keeps around r.at stmt.following (keep.lines around false (is_break stmt.value && not labelled) following going)))))

  arms-keeps : (around : Around) (r : Reader) → KeepsIn r (read_arms (suc calls) around r)
  arms-keeps around r = if-cases (KeepsIn r) (begins_arm r) (λ _. keep.more_arms around r) (λ _ going. absurd (fail-stops r going))

  more_arms-keeps : (around : Around) (r : Reader) → KeepsIn r (read_more_arms (suc calls) around r)
  more_arms-keeps around r =
      if-cases (KeepsIn r) (begins_arm r)
      (λ _ going.
      let head = read_arm_head calls r in
      let lines = read_lines calls around false false head.following in
      let body = end_arm lines in
      arm_head-keeps calls r (keep.lines around false false head.following (end_arm-keeps lines (keep.more_arms around body.following going))))
      (λ _ going. going)

  one_more-keeps : KeepsStmts (suc calls)
  one_more-keeps =
      record { stmt = stmt-keeps; otherwise = if-keeps; block = block-keeps; lines = lines-keeps; line = line-keeps; arms = arms-keeps; more_arms = more_arms-keeps }

-- reading that goes on after statements has gone on before
pub keeps_stmts : (calls : ℕ) → KeepsStmts calls
keeps_stmts zero = none-keep
keeps_stmts (suc calls) = one_more-keeps calls (keeps_stmts calls)
