use Rattle.std.proofs.Common.{◌-◌, false, not, codes, map, Some, None, sym, ap, ◌∙◌, arith}
use Rattle.dcc_c.specs.Partial.{IfOf, SwitchOf, BreakOf, ContinueOf, no_rows, no_cases, cases}
use Rattle.dcc_c.specs.Reading.{got, next_token}
use Rattle.dcc_c.specs.Token.{depth_line}
use Rattle.dcc_c.specs.ReadingStatements as s
use Rattle.dcc_reader.specs.declared.partial.PartialArm.{out-roll-PartialArm}
use Rattle.dcc_reader.specs.declared.statement_word.StatementWord.TheVariants.{If, While, Do, For, Switch, Break, Continue, Goto, Return}
use Rattle.dcc_read.specs.ArmViews.{arm_head_of}
use Rattle.dcc_reader.specs.AroundViews.{around_of}
use Rattle.dcc_read.specs.Lines.{block_of, before_lines}
use Rattle.dcc_reader.specs.PartialViews.{case_of, expr_of, stmt_of, lines_of, arms_of}
use Rattle.dcc_reader.specs.ReaderViews.{reader_of}
use Rattle.dcc_reader.proofs.RowLaws.{arm-parts, if-tree, while-tree, do_while-tree, forever-tree, switch-tree}
use Rattle.dcc_reader.proofs.SeenLaws.{word-seen, head-seen}
use Rattle.dcc_reader.proofs.WordLaws.{statement-seen}
use Rattle.dcc_read.proofs.StatementLaws as laws
use Rattle.dcc_read.proofs.LineLaws as lines
use Rattle.dcc_read.proofs.statement.+statement.Goals as goal

-- Arms.

pub read_arm-returns : goal.read_arm-returns
read_arm-returns t c others =
    ap (λ arms. got arms (reader_of c.end_arm-body.new.r))
    (arm-parts _ others
    ∙ ap (λ a. cases (map case_of a.numbers.items) a.default (lines_of a.body.items) others) (out-roll-PartialArm _)
    ∙ ap (λ rows. cases (map case_of c.in_ok-head.head.numbers.items) c.in_ok-head.head.default (lines_of rows) others) c.without_spare.ensures)
    ∙ lines.arm-read c.args.calls (around_of c.args.around) (reader_of c.args.r.now) (reader_of c.read_arm_head.new.r) (reader_of c.read_lines.new.r)
    (reader_of c.end_arm-body.new.r) (arm_head_of c.in_ok-head.head) (block_of c.in_ok-block.block) (lines_of c.end_arm-body.result.items) others
    c.in_ok-head.ensures c.in_ok-block.ensures c.end_arm-body.ensures

pub read_arms-returns-then-calls-eq0 : goal.read_arms-returns-then-calls-eq0
read_arms-returns-then-calls-eq0 t c =
    lines.arms-empty c.new-arms.result.items (reader_of c.args.r.now) c.new-arms.ensures.items ∙ lines.arms-zero c.args.calls (around_of c.args.around) (reader_of c.args.r.now) c.if-calls-eq0.true

pub read_arms-returns-then-not-begins_arm : goal.read_arms-returns-then-not-begins_arm
read_arms-returns-then-not-begins_arm t c =
    lines.arms-empty c.new-arms.result.items (reader_of c.fail.new.self) c.new-arms.ensures.items
    ∙ ap (got no_cases) c.fail.ensures
    ∙ lines.arms-missing c.args.calls (around_of c.args.around) (reader_of c.args.r.now) (omega arith) (sym c.begins_arm.ensures ∙ c.if-not-begins_arm.true)

pub read_arms-loop-left-init : goal.read_arms-loop-left-init
read_arms-loop-left-init t c = record {
  within = omega arith;
  read =
      ap (λ l. lines.before_arms l (s.read_more_arms (c.args.calls - 1) (around_of c.args.around) (reader_of c.args.r.now))) c.new-arms.ensures.items
      ∙ lines.arms-first c.args.calls (around_of c.args.around) (reader_of c.args.r.now) (omega arith) (sym c.begins_arm.ensures ∙ c.if-not-begins_arm.false);
}

pub read_arms-returns-then-not-begins_arm-2 : goal.read_arms-returns-then-not-begins_arm-2
read_arms-returns-then-not-begins_arm-2 t c =
    lines.arms-done _ (reader_of c.loop-left.r) _ _
    (lines.arms-none c.loop-left.left (around_of c.args.around) (reader_of c.loop-left.r)
    (sym c.begins_arm-in-loop-left.ensures ∙ c.if-not-begins_arm-2.true)) c.loop-left.invariant.read

pub read_arms-loop-left-preserved : goal.read_arms-loop-left-preserved
read_arms-loop-left-preserved t c = record {
  within = omega arith;
  read =
      lines.arms-step c.loop-left.left (around_of c.args.around) (reader_of c.loop-left.r) (reader_of c.read_arm.new.r) c.in_ok-arm.arm _ _ _
      c.loop-left-test.true (sym c.begins_arm-in-loop-left.ensures ∙ c.if-not-begins_arm-2.false)
      c.in_ok-arm.ensures c.in_ok-push.ensures.items c.loop-left.invariant.read;
}

pub read_arms-returns : goal.read_arms-returns
read_arms-returns t c = lines.arms-done _ (reader_of c.loop-left.r) _ _
    (lines.arms-end_calls c.loop-left.left (around_of c.args.around) (reader_of c.loop-left.r) (omega arith)) c.loop-left.invariant.read

-- Blocks.

pub read_block-returns : goal.read_block-returns
read_block-returns t c =
    ap (λ rows. got (lines_of rows) (reader_of c.take_mark-2.new.self)) c.without_spare.ensures
    ∙ laws.block-read c.args.calls (around_of c.args.around) (reader_of c.args.r.now) (reader_of c.take_mark.new.self) (reader_of c.read_lines.new.r) (reader_of c.take_mark-2.new.self)
    (block_of c.in_ok-block.block) (omega arith) c.take_mark.ensures c.in_ok-block.ensures c.take_mark-2.ensures

-- `if`

pub read_if-skip-requires : goal.read_if-skip-requires
read_if-skip-requires t c = record { seen = c.requires.seen }

pub read_if-returns-then-calls-eq0 : goal.read_if-returns-then-calls-eq0
read_if-returns-then-calls-eq0 t c =
    sym (laws.if-end c.args.calls (around_of c.args.around) (got (expr_of c.in_ok-test.test) (reader_of c.read_test.new.r)) c.if-calls-eq0.true)
    ∙ ap (s.read_if c.args.calls (around_of c.args.around)) (c.in_ok-test.ensures ∙ ap (s.read_test c.args.calls) c.skip.ensures)

pub read_if-skip-requires-then-sees_word : goal.read_if-skip-requires-then-sees_word
read_if-skip-requires-then-sees_word t c = record { seen = word-seen (codes "else") (reader_of c.read_block.new.r) (sym c.sees_word.ensures ∙ c.if-sees_word.true) }

pub read_if-returns-then-sees_word : goal.read_if-returns-then-sees_word
read_if-returns-then-sees_word t c =
    ap (λ stmt. got stmt (reader_of c.read_block-then-sees_word.new.r)) (if-tree c.in_ok-test.test (not c.is_stopped-done.result) c.in_ok-body.body c.in_ok-otherwise.otherwise)
    ∙ laws.else-read c.args.calls (around_of c.args.around) (around_of c.in_block.result) (around_of c.in_block-then-sees_word.result) (reader_of c.args.r.now) (reader_of c.skip.new.self)
    (reader_of c.read_test.new.r) (reader_of c.read_block.new.r) (reader_of c.skip-then-sees_word.new.self) (reader_of c.read_block-then-sees_word.new.r)
    (expr_of c.in_ok-test.test) c.is_stopped-done.result (lines_of c.in_ok-body.body.items) (lines_of c.in_ok-otherwise.otherwise.items)
    (omega arith) c.skip.ensures c.in_ok-test.ensures c.is_stopped-done.ensures c.in_block.ensures
    c.in_ok-body.ensures (sym c.sees_word.ensures ∙ c.if-sees_word.true) c.skip-then-sees_word.ensures c.in_block-then-sees_word.ensures
    c.in_ok-otherwise.ensures

pub read_if-returns : goal.read_if-returns
read_if-returns t c =
    ap (λ stmt. got stmt (reader_of c.read_block.new.r)) (if-tree c.in_ok-test.test (not c.is_stopped-done.result) c.in_ok-body.body c.new.result
    ∙ ap (λ l. IfOf (expr_of c.in_ok-test.test) (not c.is_stopped-done.result) (lines_of c.in_ok-body.body.items) (lines_of l)) c.new.ensures.items)
    ∙ laws.if-read c.args.calls (around_of c.args.around) (around_of c.in_block.result) (reader_of c.args.r.now) (reader_of c.skip.new.self)
    (reader_of c.read_test.new.r) (reader_of c.read_block.new.r)
    (expr_of c.in_ok-test.test) c.is_stopped-done.result (lines_of c.in_ok-body.body.items) (omega arith) c.skip.ensures c.in_ok-test.ensures c.is_stopped-done.ensures c.in_block.ensures
    c.in_ok-body.ensures (sym c.sees_word.ensures ∙ c.if-sees_word.false)

-- Lines.

pub read_line-read_depth_line-requires : goal.read_line-read_depth_line-requires
read_line-read_depth_line-requires t c = record { seen = head-seen depth_line (reader_of c.args.r.now) (sym c.sees_head.ensures ∙ c.if-sees_head.true) }

pub read_line-returns-then-sees_head : goal.read_line-returns-then-sees_head
read_line-returns-then-sees_head t c =
    c.read_depth_line.ensures c.args.calls ∙ sym (lines.line-depth c.args.calls (around_of c.args.around) c.args.labelled (reader_of c.args.r.now) (sym c.sees_head.ensures ∙ c.if-sees_head.true))

pub read_line-read_label-requires : goal.read_line-read_label-requires
read_line-read_label-requires t c = record { begins = sym c.sees_name_and.ensures ∙ c.if-sees_name_and.true }

pub read_line-returns-then-sees_name_and : goal.read_line-returns-then-sees_name_and
read_line-returns-then-sees_name_and t c =
    c.read_label.ensures c.args.calls
    ∙ sym (lines.line-label c.args.calls (around_of c.args.around) c.args.labelled (reader_of c.args.r.now)
    (sym c.sees_head.ensures ∙ c.if-sees_head.false) (sym c.sees_name_and.ensures ∙ c.if-sees_name_and.true))

pub read_line-returns-then-begins_nested_block : goal.read_line-returns-then-begins_nested_block
read_line-returns-then-begins_nested_block t c =
    c.last_line.ensures c.args.calls (around_of c.args.around) (reader_of c.stop_at.new.self)
    ∙ ap (got (s.block_of no_rows false)) c.stop_at.ensures
    ∙ sym (lines.line-deep c.args.calls (around_of c.args.around) c.args.labelled (reader_of c.args.r.now)
    (sym c.sees_head.ensures ∙ c.if-sees_head.false) (sym c.sees_name_and.ensures ∙ c.if-sees_name_and.false)
    (sym c.begins_nested_block.ensures ∙ c.if-begins_nested_block.true))

pub read_line-returns : goal.read_line-returns
read_line-returns t c =
    lines.line-stmt c.args.calls c.line-line.result (around_of c.args.around) c.args.labelled (reader_of c.args.r.now) (reader_of c.read_stmt.new.r) (reader_of c.stop_if_nested.new.r)
    (stmt_of c.in_ok-stmt.stmt) c.is_leaving-leaves.result (sym c.sees_head.ensures ∙ c.if-sees_head.false) (sym c.sees_name_and.ensures ∙ c.if-sees_name_and.false)
    (sym c.begins_nested_block.ensures ∙ c.if-begins_nested_block.false) c.line-line.ensures c.in_ok-stmt.ensures c.stop_if_nested.ensures
    c.is_leaving-leaves.ensures

pub read_lines-loop-left-init : goal.read_lines-loop-left-init
read_lines-loop-left-init t c = record {
  within = omega arith;
  read = ap (λ l. before_lines l (s.read_lines c.args.calls (around_of c.args.around) false false (reader_of c.args.r.now))) c.new-lines.ensures.items;
}

pub read_lines-returns-then-not-begins_stmt : goal.read_lines-returns-then-not-begins_stmt
read_lines-returns-then-not-begins_stmt t c =
    lines.lines-done _ _ (reader_of c.fail_if.new.r) _ _
    (lines.lines-none c.loop-left.left (around_of c.args.around) c.loop-left.labelled c.loop-left.leaves (reader_of c.loop-left.r)
    (reader_of c.fail_if.new.r) (omega arith) (sym c.begins_stmt.ensures ∙ c.if-not-begins_stmt.true) c.fail_if.ensures) c.loop-left.invariant.read

pub read_lines-returns-then-line : goal.read_lines-returns-then-line
read_lines-returns-then-line t c =
    lines.lines-last c.loop-left.left (around_of c.args.around) c.loop-left.labelled c.loop-left.leaves (reader_of c.loop-left.r) (reader_of c.read_line.new.r) c.in_ok-line.line
    c.loop-left.lines.items c.push_some.new.list.items _ c.loop-left-test.true (sym c.begins_stmt.ensures ∙ c.if-not-begins_stmt.false) c.in_ok-line.ensures
    c.in_ok-push_some.ensures c.if-line.true c.loop-left.invariant.read

pub read_lines-loop-left-preserved : goal.read_lines-loop-left-preserved
read_lines-loop-left-preserved t c = record {
  within = omega arith;
  read =
      lines.lines-step c.loop-left.left (around_of c.args.around) c.loop-left.labelled c.loop-left.leaves (reader_of c.loop-left.r) (reader_of c.read_line.new.r) c.in_ok-line.line
      c.loop-left.lines.items c.push_some.new.list.items _ c.loop-left-test.true (sym c.begins_stmt.ensures ∙ c.if-not-begins_stmt.false) c.in_ok-line.ensures
      c.in_ok-push_some.ensures c.if-line.false c.loop-left.invariant.read;
}

pub read_lines-returns : goal.read_lines-returns
read_lines-returns t c =
    lines.lines-done c.loop-left.lines.items c.end_lines-leaves.result (reader_of c.end_lines-leaves.new.r) _ _ (c.end_lines-leaves.ensures (around_of c.args.around)) c.loop-left.invariant.read

-- Loops.

pub read_while-skip-requires : goal.read_while-skip-requires
read_while-skip-requires t c = record { seen = c.requires.seen }

pub read_while-returns : goal.read_while-returns
read_while-returns t c =
    ap (λ stmt. got stmt (reader_of c.read_block.new.r)) (while-tree c.in_ok-test.test (not c.is_stopped-done.result) c.in_ok-body.body)
    ∙ laws.while-read c.args.calls (around_of c.args.around) (around_of c.in_loop.result) (reader_of c.args.r.now)
    (reader_of c.skip.new.self) (reader_of c.read_test.new.r) (reader_of c.read_block.new.r) (expr_of c.in_ok-test.test)
    c.is_stopped-done.result (lines_of c.in_ok-body.body.items) c.skip.ensures c.in_ok-test.ensures c.is_stopped-done.ensures
    c.in_loop.ensures c.in_ok-body.ensures

pub read_do-skip-requires : goal.read_do-skip-requires
read_do-skip-requires t c = record { seen = c.requires.seen }

pub read_do-returns : goal.read_do-returns
read_do-returns t c =
    ap (λ stmt. got stmt (reader_of c.take_mark.new.self)) (do_while-tree c.in_ok-test.test (not c.is_stopped-done.result) c.in_ok-body.body)
    ∙ laws.do-read c.args.calls (around_of c.args.around) (around_of c.in_loop.result) (reader_of c.args.r.now)
    (reader_of c.skip.new.self) (reader_of c.read_block.new.r) (reader_of c.take_word.new.self) (reader_of c.read_test.new.r)
    (reader_of c.take_mark.new.self) (expr_of c.in_ok-test.test) c.is_stopped-done.result (lines_of c.in_ok-body.body.items)
    c.skip.ensures c.in_loop.ensures c.in_ok-body.ensures c.take_word.ensures c.in_ok-test.ensures c.is_stopped-done.ensures
    c.take_mark.ensures

pub read_for-skip-requires : goal.read_for-skip-requires
read_for-skip-requires t c = record { seen = c.requires.seen }

pub read_for-returns : goal.read_for-returns
read_for-returns t c =
    ap (λ stmt. got stmt (reader_of c.read_block.new.r)) (forever-tree c.in_ok-body.body)
    ∙ laws.forever-read c.args.calls (around_of c.args.around) (around_of c.in_loop.result) (reader_of c.args.r.now)
    (reader_of c.skip.new.self) (reader_of c.take_forever.new.r) (reader_of c.read_block.new.r) (lines_of c.in_ok-body.body.items)
    c.skip.ensures c.take_forever.ensures c.in_loop.ensures c.in_ok-body.ensures

-- Statements in general.

pub read_stmt-returns-then-calls-eq0 : goal.read_stmt-returns-then-calls-eq0
read_stmt-returns-then-calls-eq0 t c = laws.stmt-end c.args.calls (around_of c.args.around) (reader_of c.args.r.now) c.if-calls-eq0.true

pub read_stmt-read_if-requires : goal.read_stmt-read_if-requires
read_stmt-read_if-requires t c =
    (omega arith, (statement-seen (next_token (reader_of c.args.r.now)) c.in-Some-If.ensures, omega arith))

pub read_stmt-returns-in-Some-If : goal.read_stmt-returns-in-Some-If
read_stmt-returns-in-Some-If t c =
    laws.read-with c.read_if.result (reader_of c.read_if.new.r) c.args.calls (around_of c.args.around) (reader_of c.args.r.now) (Some If)
    (omega arith) (ap Some (sym c.in-Some-If.field-0-is) ∙ c.in-Some-If.ensures) c.read_if.ensures

pub read_stmt-read_while-requires : goal.read_stmt-read_while-requires
read_stmt-read_while-requires t c =
    (omega arith, (statement-seen (next_token (reader_of c.args.r.now)) c.in-Some-While.ensures, omega arith))

pub read_stmt-returns-in-Some-While : goal.read_stmt-returns-in-Some-While
read_stmt-returns-in-Some-While t c =
    laws.read-with c.read_while.result (reader_of c.read_while.new.r) c.args.calls (around_of c.args.around) (reader_of c.args.r.now) (Some While)
    (omega arith) (ap Some (sym c.in-Some-While.field-0-is) ∙ c.in-Some-While.ensures) c.read_while.ensures

pub read_stmt-read_do-requires : goal.read_stmt-read_do-requires
read_stmt-read_do-requires t c =
    (omega arith, (statement-seen (next_token (reader_of c.args.r.now)) c.in-Some-Do.ensures, omega arith))

pub read_stmt-returns-in-Some-Do : goal.read_stmt-returns-in-Some-Do
read_stmt-returns-in-Some-Do t c =
    laws.read-with c.read_do.result (reader_of c.read_do.new.r) c.args.calls (around_of c.args.around) (reader_of c.args.r.now) (Some Do)
    (omega arith) (ap Some (sym c.in-Some-Do.field-0-is) ∙ c.in-Some-Do.ensures) c.read_do.ensures

pub read_stmt-read_for-requires : goal.read_stmt-read_for-requires
read_stmt-read_for-requires t c =
    (omega arith, (statement-seen (next_token (reader_of c.args.r.now)) c.in-Some-For.ensures, omega arith))

pub read_stmt-returns-in-Some-For : goal.read_stmt-returns-in-Some-For
read_stmt-returns-in-Some-For t c =
    laws.read-with c.read_for.result (reader_of c.read_for.new.r) c.args.calls (around_of c.args.around) (reader_of c.args.r.now) (Some For)
    (omega arith) (ap Some (sym c.in-Some-For.field-0-is) ∙ c.in-Some-For.ensures) c.read_for.ensures

pub read_stmt-read_switch-requires : goal.read_stmt-read_switch-requires
read_stmt-read_switch-requires t c =
    (omega arith, (statement-seen (next_token (reader_of c.args.r.now)) c.in-Some-Switch.ensures, omega arith))

pub read_stmt-returns-in-Some-Switch : goal.read_stmt-returns-in-Some-Switch
read_stmt-returns-in-Some-Switch t c =
    laws.read-with c.read_switch.result (reader_of c.read_switch.new.r) c.args.calls (around_of c.args.around) (reader_of c.args.r.now) (Some Switch)
    (omega arith) (ap Some (sym c.in-Some-Switch.field-0-is) ∙ c.in-Some-Switch.ensures) c.read_switch.ensures

pub read_stmt-returns-in-Some-Break : goal.read_stmt-returns-in-Some-Break
read_stmt-returns-in-Some-Break t c =
    c.read_leave.ensures BreakOf
    ∙ laws.stmt-with c.args.calls (around_of c.args.around) (reader_of c.args.r.now) (Some Break) (omega arith)
    (ap Some (sym c.in-Some-Break.field-0-is) ∙ c.in-Some-Break.ensures)

pub read_stmt-returns-in-Some-Continue : goal.read_stmt-returns-in-Some-Continue
read_stmt-returns-in-Some-Continue t c =
    c.read_leave-in-Some-Continue.ensures ContinueOf
    ∙ laws.stmt-with c.args.calls (around_of c.args.around) (reader_of c.args.r.now) (Some Continue) (omega arith)
    (ap Some (sym c.in-Some-Continue.field-0-is) ∙ c.in-Some-Continue.ensures)

pub read_stmt-read_goto-requires : goal.read_stmt-read_goto-requires
read_stmt-read_goto-requires t c = record { seen = statement-seen (next_token (reader_of c.args.r.now)) c.in-Some-Goto.ensures }

pub read_stmt-returns-in-Some-Goto : goal.read_stmt-returns-in-Some-Goto
read_stmt-returns-in-Some-Goto t c =
    c.read_goto.ensures
    ∙ laws.stmt-with c.args.calls (around_of c.args.around) (reader_of c.args.r.now) (Some Goto) (omega arith)
    (ap Some (sym c.in-Some-Goto.field-0-is) ∙ c.in-Some-Goto.ensures)

pub read_stmt-read_return-requires : goal.read_stmt-read_return-requires
read_stmt-read_return-requires t c = record { seen = statement-seen (next_token (reader_of c.args.r.now)) c.in-Some-Return.ensures }

pub read_stmt-returns-in-Some-Return : goal.read_stmt-returns-in-Some-Return
read_stmt-returns-in-Some-Return t c =
    laws.read-with c.read_return.result (reader_of c.read_return.new.r) c.args.calls (around_of c.args.around) (reader_of c.args.r.now) (Some Return)
    (omega arith) (ap Some (sym c.in-Some-Return.field-0-is) ∙ c.in-Some-Return.ensures) c.read_return.ensures

pub read_stmt-returns-in-None : goal.read_stmt-returns-in-None
read_stmt-returns-in-None t c =
    laws.read-with c.read_wordless.result (reader_of c.read_wordless.new.r) c.args.calls (around_of c.args.around) (reader_of c.args.r.now) None
    (omega arith) c.in-None.ensures c.read_wordless.ensures

-- `switch`

pub read_switch-skip-requires : goal.read_switch-skip-requires
read_switch-skip-requires t c = record { seen = c.requires.seen }

pub read_switch-returns : goal.read_switch-returns
read_switch-returns t c =
    ap (λ stmt. got stmt (reader_of c.take_mark-2.new.self)) (switch-tree c.in_ok-test.test (not c.is_stopped-done.result) c.without_spare.result
    ∙ ap (λ l. SwitchOf (expr_of c.in_ok-test.test) (not c.is_stopped-done.result) (arms_of l)) c.without_spare.ensures)
    ∙ laws.switch-read c.args.calls (around_of c.args.around) (around_of c.in_switch.result) (reader_of c.args.r.now) (reader_of c.skip.new.self)
    (reader_of c.read_test.new.r) (reader_of c.take_mark.new.self)
    (reader_of c.read_arms.new.r) (reader_of c.take_mark-2.new.self) (expr_of c.in_ok-test.test) c.is_stopped-done.result
    (arms_of c.in_ok-arms.arms.items) c.skip.ensures c.in_ok-test.ensures c.is_stopped-done.ensures c.take_mark.ensures
    c.in_switch.ensures c.in_ok-arms.ensures c.take_mark-2.ensures
