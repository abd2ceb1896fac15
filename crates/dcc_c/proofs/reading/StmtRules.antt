-- What is read of statements is what the grammar says.
use Rattle.std.proofs.Common.{◌≡◌, ℕ, zero, suc, Bool, true, false, Option, Some, None, refl, ap, arith}
use Rattle.std.specs.Prelude.{codes, not, ◌&&◌, is_some, if◌then◌else◌}
use Rattle.std.proofs.lemmas.Bool.{and_parts, ltb-false}
use Rattle.dcc_c.specs.Token.{Token, WordToken, depth_line}
use Rattle.dcc_c.specs.Grammar.{word, Around, in_block, in_loop, in_switch, no_arm}
use Rattle.dcc_c.specs.Kinds.{of_depth}
use Rattle.dcc_c.specs.Tree.{Word}
use Rattle.dcc_c.specs.Partial.{WordAt, PartialExpr, BreakOf, ContinueOf, EmptyOf, LabelOf, PartialLines, no_rows, cases}
use Rattle.dcc_c.specs.Reading.{Reader, Got, got, is_stopped, next_token, second_token, line_of, skip, stop_at, fail, is_the_mark, name_of, sees_mark, sees_word, take_mark, take_word, take_name}
use Rattle.dcc_c.specs.ReadingStatements.{read_test, read_leave, read_goto, read_return, read_simple, begins_stmt, begins_label, begins_arm, sees_head, read_depth, is_nested, stop_if_nested, is_block_word, block_of, before_others, without_last, is_break, read_arm_head, read_stmt, read_if, read_block, read_lines, read_line, read_arms, read_more_arms}
use Rattle.dcc_c.proofs.reading.Passing.{Took, if-cases, stop_at-stops, fail-stops, skip-took, sees_mark-took, sees_word-took, take_mark-took, take_word-took}
use Rattle.dcc_c.proofs.reading.Words.{name_of-is}
use Rattle.dcc_c.proofs.reading.Statements.{IsEnough}
use Rattle.dcc_c.proofs.reading.Stopping.{choice-cases}
use Rattle.dcc_c.proofs.reading.StmtStopping.{KeepsStmts, keeps_stmts, test-keeps}
use Rattle.dcc_c.proofs.reading.Steps.{no_steps}
use Rattle.dcc_c.proofs.reading.StmtParts.{ReadsTest, test-sound}
use Rattle.dcc_c.proofs.reading.SimpleSound.{SoundStmt, simple-sound, break-sound, continue-sound, goto-sound, return-sound, empty-sound}
use Rattle.dcc_c.proofs.reading.LineSound.{SoundLines, no_lines-sound, begins_here, depth-sound, depth_then, label_then, stmt_then}
use Rattle.dcc_c.proofs.reading.StmtSound.{ReadsBlock, SoundBlock, ReadsArms, SoundArms, SoundStmts, none-sound, while-sound, if_alone-sound, if_else-sound, do_while-sound, for-sound, switch-sound, block-sound}
use Rattle.dcc_c.proofs.reading.StmtKinds.{last_stmts, return_stmts, goto_stmts, leave_stmts, switch_stmt, switch_stmts, for_stmt, for_stmts, do_stmt, do_stmts, while_stmt, while_stmts}
use Rattle.dcc_c.proofs.reading.ArmRules.{head-sound, arm_then}

module _ (calls : ℕ) (keep : KeepsStmts calls) (sound : SoundStmts calls) where
  do-sound : (around : Around) (r : Reader) → sees_word (codes "do") r ≡ true → IsEnough (suc calls) 1 r.left →
      SoundStmt around r (do_stmt calls around r)
  do-sound around r sees enough going =
      let took = sees_word-took (codes "do") r sees in
      let body = read_block calls (in_loop around) (skip r) in
      let here = take_word (codes "while") body.following in
      let test = read_test calls here in
      let end = take_mark-took (codes ";") test.following going in
      let again = take_word-took (codes "while") body.following (test-keeps calls here end.passed.going) in
      let inner = sound.block (in_loop around) (skip r) (omega (arith, took.one_less)) again.passed.going in
      let read = test-sound calls here (omega (arith, took.one_less, inner.shorter, again.one_less)) end.passed.going in
      do_while-sound around r body test took inner again read end

  choice-sound : (around : Around) (r : Reader) → sees_word (codes "switch") r ≡ true → IsEnough (suc calls) 1 r.left →
      SoundStmt around r (switch_stmt calls around r)
  choice-sound around r sees enough going =
      let took = sees_word-took (codes "switch") r sees in
      let test = read_test calls (skip r) in
      let inside = take_mark (codes "{") test.following in
      let arms = read_arms calls (in_switch around) inside in
      let end = take_mark-took (codes "}") arms.following going in
      let brace = take_mark-took (codes "{") test.following (keep.arms (in_switch around) inside end.passed.going) in
      let read = test-sound calls (skip r) (omega (arith, took.one_less)) brace.passed.going in
      let inner = sound.arms (in_switch around) inside (omega (arith, took.one_less, read.shorter, brace.one_less)) end.passed.going in
      switch-sound around r test arms took read brace inner.0 inner.1 end

  ever-sound : (around : Around) (r : Reader) → sees_word (codes "for") r ≡ true → IsEnough (suc calls) 1 r.left → SoundStmt around r (for_stmt calls around r)
  ever-sound around r sees enough going =
      let took = sees_word-took (codes "for") r sees in
      let a = take_mark (codes "(") (skip r) in
      let b = take_mark (codes ";") a in
      let c = take_mark (codes ";") b in
      let d = take_mark (codes ")") c in
      let close = take_mark-took (codes ")") c (keep.block (in_loop around) d going) in
      let second = take_mark-took (codes ";") b close.passed.going in
      let first = take_mark-took (codes ";") a second.passed.going in
      let begun = take_mark-took (codes "(") (skip r) first.passed.going in
      for-sound around r a b c d (read_block calls (in_loop around) d) took begun first second close (sound.block (in_loop around) d (omega (arith, took.one_less, begun.one_less, first.one_less, second.one_less, close.one_less)) going)

  turns-sound : (around : Around) (r : Reader) → sees_word (codes "while") r ≡ true → IsEnough (suc calls) 1 r.left → SoundStmt around r (while_stmt calls around r)
  turns-sound around r sees enough going =
      let took = sees_word-took (codes "while") r sees in
      let test = read_test calls (skip r) in
      let read = test-sound calls (skip r) (omega (arith, took.one_less)) (keep.block (in_loop around) test.following going) in
      while-sound around r test (read_block calls (in_loop around) test.following) took read (sound.block (in_loop around) test.following (omega (arith, took.one_less, read.shorter)) going)

  goto-stmts : (around : Around) (r : Reader) → IsEnough calls 0 r.left → SoundStmt around r (goto_stmts calls around r)
  goto-stmts around r room =
      if-cases (SoundStmt around r) (sees_word (codes "continue") r) {x = read_leave around.continues ContinueOf r} {y = return_stmts calls r} (λ sees. continue-sound around r sees)
      (λ _. if-cases (SoundStmt around r) (sees_word (codes "goto") r) {x = read_goto r} {y = last_stmts calls r} (λ sees. goto-sound around r sees)
      (λ _. if-cases (SoundStmt around r) (sees_word (codes "return") r) {x = read_return calls r} {y = if sees_mark (codes ";") r then got EmptyOf (skip r) else read_simple calls r} (λ sees. return-sound around calls r sees room)
      (λ _. if-cases (SoundStmt around r) (sees_mark (codes ";") r) {x = got EmptyOf (skip r)} {y = read_simple calls r} (λ sees. empty-sound around r sees) (λ _. simple-sound around calls r room))))

  leave-sound : (around : Around) (r : Reader) → IsEnough calls 0 r.left → SoundStmt around r (leave_stmts calls around r)
  leave-sound around r room =
      if-cases (SoundStmt around r) (sees_word (codes "break") r) {x = read_leave around.breaks BreakOf r} {y = goto_stmts calls around r} (λ sees. break-sound around r sees)
      (λ _. goto-stmts around r room)

  loops-sound : (around : Around) (r : Reader) → IsEnough (suc calls) 1 r.left → SoundStmt around r (for_stmts calls around r)
  loops-sound around r enough =
      if-cases (SoundStmt around r) (sees_word (codes "for") r) {x = for_stmt calls around r} {y = switch_stmts calls around r}
      (λ sees. ever-sound around r sees enough)
      (λ _. if-cases (SoundStmt around r) (sees_word (codes "switch") r) {x = switch_stmt calls around r} {y = leave_stmts calls around r}
      (λ sees. choice-sound around r sees enough)
      (λ _. leave-sound around r (omega arith)))

  tests-sound : (around : Around) (r : Reader) → IsEnough (suc calls) 1 r.left → SoundStmt around r (while_stmts calls around r)
  tests-sound around r enough =
      if-cases (SoundStmt around r) (sees_word (codes "while") r) {x = while_stmt calls around r} {y = do_stmts calls around r}
      (λ sees. turns-sound around r sees enough)
      (λ _. if-cases (SoundStmt around r) (sees_word (codes "do") r) {x = do_stmt calls around r} {y = for_stmts calls around r}
      (λ sees. do-sound around r sees enough) (λ _. loops-sound around r enough))

  stmt-sound : (around : Around) (r : Reader) → IsEnough (suc calls) 1 r.left → SoundStmt around r (read_stmt (suc calls) around r)
  stmt-sound around r enough =
      if-cases (SoundStmt around r) (sees_word (codes "if") r) {x = read_if calls around (read_test calls (skip r))} {y = while_stmts calls around r}
      (λ sees.
      let took = sees_word-took (codes "if") r sees in
      let read = test-sound calls (skip r) (omega (arith, took.one_less)) in
      sound.otherwise around r (skip r) (read_test calls (skip r)) took read (λ going. omega (arith, took.one_less, (read going).shorter)))
      (λ _. tests-sound around r enough)

  if-sound : (around : Around) (start r : Reader) (test : Got PartialExpr) → Took (WordToken (codes "if")) start r →
      (test.following.stop ≡ None → ReadsTest r test) → (test.following.stop ≡ None → IsEnough (suc calls) 2 test.following.left) →
      SoundStmt around start (read_if (suc calls) around test)
  if-sound around start r test took read enough =
      let body = read_block calls (in_block around) test.following in
      let first : body.following.stop ≡ None → ReadsBlock (in_block around) test.following body = λ going.
      sound.block (in_block around) test.following (let room = enough (keep.block (in_block around) test.following going) in omega (arith, room)) going
      in
      if-cases (SoundStmt around start) (sees_word (codes "else") body.following)
      (λ sees going.
      let between = sees_word-took (codes "else") body.following sees in
      let inner = first between.passed.going in
      let room = enough inner.steps.passed.going in
      if_else-sound around start r test body (read_block calls (in_block around) (skip body.following)) took (read inner.steps.passed.going) inner between
      (sound.block (in_block around) (skip body.following) (omega (arith, room, inner.shorter, between.one_less)) going))
      (λ _ going.
      let inner = first going in
      if_alone-sound around start r test body took (read inner.steps.passed.going) inner)

  blocks-sound : (around : Around) (r : Reader) → IsEnough (suc calls) 1 r.left → SoundBlock around r (read_block (suc calls) around r)
  blocks-sound around r enough going =
      let inside = take_mark (codes "{") r in
      let lines = read_lines calls around false false inside in
      let end = take_mark-took (codes "}") lines.following going in
      let begun = take_mark-took (codes "{") r (keep.lines around false false inside end.passed.going) in
      block-sound around r inside lines begun (sound.lines around false false inside (omega (arith, begun.one_less)) end.passed.going) end

  lines-sound : (around : Around) (labelled leaves : Bool) (r : Reader) → IsEnough (suc calls) 3 r.left → SoundLines around labelled leaves r (read_lines (suc calls) around labelled leaves r)
  lines-sound around labelled leaves r enough =
      if-cases (SoundLines around labelled leaves r) (begins_stmt (next_token r))
      (λ begins. sound.line around labelled leaves r begins (omega arith)) (λ _. nothing_more labelled)
    where
      nothing_more : (is : Bool) → SoundLines around is leaves r (got (block_of no_rows leaves) (if is then fail r else r))
      nothing_more true going = absurd (fail-stops r going)
      nothing_more false going = no_lines-sound around leaves r going

  -- a label that stands in so many blocks
  label-sound : (around : Around) (labelled leaves : Bool) (r : Reader) (name : Word) → name_of (next_token r) ≡ Some name → sees_mark (codes ":") (skip r) ≡ true → IsEnough (suc calls) 2 r.left →
      SoundLines around labelled leaves r (before_others (LabelOf (record { word = name; at = r.at })) r.at (line_of r.left) (read_lines calls around true false (stop_if_nested around r.at (skip (skip r)))))
  label-sound around labelled leaves r name is second enough =
      let here : WordAt = record { word = name; at = r.at } in
      let result : Reader → Type 0 = λ q. SoundLines around labelled leaves r (before_others (LabelOf here) r.at (line_of r.left) (read_lines calls around true false q)) in
      let stopped : Reader = stop_at of_depth r.at (skip (skip r)) in
      if-cases result (is_nested around) {x = stopped} {y = skip (skip r)}
      (λ _ going. absurd (stop_at-stops of_depth r.at (skip (skip r)) (keep.lines around true false stopped going)))
      (λ room going.
      let seen = name_of-is (next_token r) name is in
      let took = skip-took r (WordToken name) seen.0 in
      let colon = sees_mark-took (codes ":") (skip r) second in
      let others = read_lines calls around true false (skip (skip r)) in
      label_then around labelled leaves r (skip r) here others (ltb-false 200 around.blocks room) seen.1 took colon (sound.lines around true false (skip (skip r)) (omega (arith, took.one_less, colon.one_less)) going))

  labels-sound : (around : Around) (labelled leaves : Bool) (r : Reader) → begins_label r ≡ true → IsEnough (suc calls) 2 r.left →
      SoundLines around labelled leaves r (elim (take_name r).value [ Some word ↦ before_others (LabelOf word) r.at (line_of r.left) (read_lines calls around true false (stop_if_nested around r.at (skip (take_name r).following))) | None ↦ got (block_of no_rows false) (take_name r).following ])
  labels-sound around labelled leaves r begins enough =
      let second = (and_parts (is_some (name_of (next_token r))) (is_the_mark (codes ":") (second_token r)) begins).1 in
      choice-cases (λ (g : Got (Option WordAt)). SoundLines around labelled leaves r (elim g.value [ Some word ↦ before_others (LabelOf word) r.at (line_of r.left) (read_lines calls around true false (stop_if_nested around r.at (skip g.following))) | None ↦ got (block_of no_rows false) g.following ])) (name_of (next_token r))
      (λ name is. label-sound around labelled leaves r name is second enough)
      (λ _ going. absurd (fail-stops r going))

  -- a statement that is no label
  one_stmt-sound : (around : Around) (labelled leaves : Bool) (r : Reader) (token : Token) → next_token r ≡ Some token → IsEnough (suc calls) 2 r.left →
      SoundLines around labelled leaves r (before_others (read_stmt calls around r).value r.at (line_of r.left) (read_lines calls around false (is_break (read_stmt calls around r).value && not labelled) (stop_if_nested around r.at (read_stmt calls around r).following)))
  one_stmt-sound around labelled leaves r token is enough =
      let stmt = read_stmt calls around r in
      let leaving : Bool = is_break stmt.value && not labelled in
      let result : Reader → Type 0 = λ q. SoundLines around labelled leaves r (before_others stmt.value r.at (line_of r.left) (read_lines calls around false leaving q)) in
      let stopped : Reader = stop_at of_depth r.at stmt.following in
      if-cases result (is_nested around) {x = stopped} {y = stmt.following}
      (λ _ going. absurd (stop_at-stops of_depth r.at stmt.following (keep.lines around false leaving stopped going)))
      (λ room going.
      let others = read_lines calls around false leaving stmt.following in
      let first = sound.stmt around r (omega arith) (keep.lines around false leaving stmt.following going) in
      let took = skip-took r token is in
      stmt_then around labelled leaves r (skip r) token stmt others (ltb-false 200 around.blocks room) (begins_here took) first (sound.lines around false leaving stmt.following (omega (arith, first.shorter)) going))

  line-sound : (around : Around) (labelled leaves : Bool) (r : Reader) → begins_stmt (next_token r) ≡ true → IsEnough (suc calls) 2 r.left →
      SoundLines around labelled leaves r (read_line (suc calls) around labelled r)
  line-sound around labelled leaves r begins enough =
      if-cases (SoundLines around labelled leaves r) (sees_head depth_line r) (λ sees. depths labelled sees)
      (λ _. if-cases (SoundLines around labelled leaves r) (begins_label r) (λ label. labels-sound around labelled leaves r label enough)
      (λ _. if-cases (SoundLines around labelled leaves r) (is_nested around && is_block_word (next_token r)) (λ _ going. absurd (stop_at-stops of_depth r.at r going))
      (λ _. let token = begins_token (next_token r) begins in one_stmt-sound around labelled leaves r token.0 token.1 enough)))
    where
      begins_token : (token : Option Token) → begins_stmt token ≡ true → (t : Token) × (token ≡ Some t)
      begins_token (Some t) is = (t, refl)
      begins_token None is = absurd cc

      depths : (is : Bool) → sees_head depth_line r ≡ true →
          SoundLines around is leaves r (if is then got (block_of no_rows false) (fail r) else if is_nested around then got (block_of no_rows false) (stop_at of_depth r.at r) else read_lines calls around false false (read_depth r))
      depths true sees = λ going. absurd (fail-stops r going)
      depths false sees =
          if-cases (SoundLines around false leaves r) (is_nested around) (λ _ going. absurd (stop_at-stops of_depth r.at r going))
          (λ room going.
          let read = depth-sound r sees (keep.lines around false false (read_depth r) going) in
          depth_then around leaves r (read_depth r) (read_lines calls around false false (read_depth r)) (ltb-false 200 around.blocks room) read (sound.lines around false false (read_depth r) (omega (arith, read.shorter)) going))

  arms-sound : (around : Around) (r : Reader) → IsEnough (suc calls) 2 r.left →
      (read_arms (suc calls) around r).following.stop ≡ None → ReadsArms around r (read_arms (suc calls) around r) × (begins_arm r ≡ true)
  arms-sound around r enough =
      if-cases (λ g. g.following.stop ≡ None → ReadsArms around r g × (begins_arm r ≡ true)) (begins_arm r)
      (λ begins going. (sound.more_arms around r (omega arith) going, begins)) (λ _ going. absurd (fail-stops r going))

  more_arms-sound : (around : Around) (r : Reader) → IsEnough (suc calls) 1 r.left → SoundArms around r (read_more_arms (suc calls) around r)
  more_arms-sound around r enough =
      let head = read_arm_head calls r in
      let lines = read_lines calls around false false head.following in
      let result : Got PartialLines → Type 0 = λ body.
      SoundArms around r (got (cases head.value.numbers head.value.default body.value (read_more_arms calls around body.following).value) (read_more_arms calls around body.following).following)
      in
      if-cases (SoundArms around r) (begins_arm r)
      (λ begins. if-cases result (is_stopped lines.following) {x = got lines.value.lines lines.following} {y = if lines.value.leaves then got (without_last lines.value.lines) lines.following else got lines.value.lines (fail lines.following)}
      (λ stopped going. absurd (going_on lines.following (keep.more_arms around lines.following going) stopped))
      (λ _. if-cases result lines.value.leaves {x = got (without_last lines.value.lines) lines.following} {y = got lines.value.lines (fail lines.following)}
      (λ leaves going.
      let following = keep.more_arms around lines.following going in
      let first = head-sound around calls r begins (omega arith) (keep.lines around false false head.following following) in
      let body = sound.lines around false false head.following (omega (arith, first.shorter)) following in
      arm_then around r head lines (read_more_arms calls around lines.following) first body leaves (sound.more_arms around lines.following (omega (arith, first.shorter, body.steps.passed.fewer)) going))
      (λ _ going. absurd (fail-stops lines.following (keep.more_arms around (fail lines.following) going)))))
      (λ none going.
      record { steps = no_steps r going; derived = no_arm; shallow = refl; shallow_last = refl; has = λ begins. absurd cc })
    where
      going_on : (q : Reader) → q.stop ≡ None → is_stopped q ≡ true → ⊥
      going_on q none stopped = absurd (let same : is_stopped q ≡ false = ap is_some none in cc)

  one_more-sound : SoundStmts (suc calls)
  one_more-sound =
      record { stmt = stmt-sound; otherwise = if-sound; block = blocks-sound; lines = lines-sound; line = line-sound; arms = arms-sound; more_arms = more_arms-sound }

-- what has been read of statements is what the grammar says
pub sound_stmts : (calls : ℕ) → SoundStmts calls
sound_stmts zero = none-sound
sound_stmts (suc calls) = one_more-sound calls (keeps_stmts calls) (sound_stmts calls)
