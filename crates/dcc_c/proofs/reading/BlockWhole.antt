-- A statement that has been read is complete, and at most 200 blocks stand around each.
use Rattle.std.proofs.Common.{◌≡◌, ℕ, zero, suc, ◌≤◌, length, Bool, true, false, Option, Some, None, refl, ap, arith}
use Rattle.std.specs.Prelude.{codes, nat_le, not, ◌&&◌, ◌==◌, is_some, if◌then◌else◌}
use Rattle.std.proofs.lemmas.Bool.{and_parts, and_from, le-leb, ltb-false}
use Rattle.dcc_c.specs.Token.{WordToken, depth_line}
use Rattle.dcc_c.specs.Grammar.{Around, in_block, in_loop, in_switch}
use Rattle.dcc_c.specs.Kinds.{of_depth}
use Rattle.dcc_c.specs.Partial.{WordAt, PartialExpr, PartialStmt, LabelOf, PartialLines, no_rows, row, PartialArms, cases}
use Rattle.dcc_c.specs.Reading.{Reader, Got, got, is_stopped, next_token, line_of, skip, stop_at, fail, name_of, sees_word, take_mark, take_word}
use Rattle.dcc_c.specs.ReadingStatements.{read_test, is_nested, stop_if_nested, is_block_word, begins_stmt, begins_label, begins_arm, sees_head, read_depth, Block, block_of, before_others, without_last, is_break, ArmHead, read_arm_head, read_stmt, read_if, read_block, read_lines, read_line, read_arms, read_more_arms}
use Rattle.dcc_c.specs.Complete.{is_complete_expr, is_complete_stmt, is_complete_lines, are_complete_arms, is_within, are_within, are_arms_within}
use Rattle.dcc_c.proofs.reading.Passing.{if-cases, stop_at-stops, fail-stops, skip-took, sees_word-took, take_mark-took, take_word-took}
use Rattle.dcc_c.proofs.reading.Words.{name_of-is}
use Rattle.dcc_c.proofs.reading.Statements.{IsEnough}
use Rattle.dcc_c.proofs.reading.Stopping.{choice-cases}
use Rattle.dcc_c.proofs.reading.StmtStopping.{KeepsStmts, keeps_stmts, test-keeps, mark-keeps}
use Rattle.dcc_c.proofs.reading.StmtParts.{test-sound}
use Rattle.dcc_c.proofs.reading.LineSound.{depth-sound}
use Rattle.dcc_c.proofs.reading.ArmRules.{head-sound}
use Rattle.dcc_c.proofs.reading.StmtSound.{SoundStmts}
use Rattle.dcc_c.proofs.reading.StmtKinds.{leave_stmts, switch_stmt, switch_stmts, for_stmt, for_stmts, do_stmt, do_stmts, while_stmt, while_stmts}
use Rattle.dcc_c.proofs.reading.StmtRules.{sound_stmts}
use Rattle.dcc_c.proofs.reading.SimpleWhole.{going-done, fewer_after, test-entire, EntireStmt, leave_stmts-entire}

-- statements are complete, with at most 200 blocks around each, where so many are around these
abbrev pub AreEntire : ℕ → PartialLines → Type 0
AreEntire blocks lines = (is_complete_lines lines ≡ true) × (are_within blocks lines ≡ true)

abbrev pub EntireBlock : ℕ → Got PartialLines → Type 0
EntireBlock blocks g = g.following.stop ≡ None → AreEntire blocks g.value

abbrev pub EntireLines : ℕ → Got Block → Type 0
EntireLines blocks g = g.following.stop ≡ None → AreEntire blocks g.value.lines

abbrev pub EntireArms : ℕ → Got PartialArms → Type 0
EntireArms blocks g = g.following.stop ≡ None → (are_complete_arms g.value ≡ true) × (are_arms_within blocks g.value ≡ true)

-- reading statements with so many calls reads the whole of them
pub record EntireStmts (calls : ℕ) : Type 0 where
  pub stmt : (around : Around) (r : Reader) → IsEnough calls 1 r.left → EntireStmt (suc around.blocks) (read_stmt calls around r)
  pub otherwise : (around : Around) (test : Got PartialExpr) → (test.following.stop ≡ None → is_complete_expr test.value ≡ true) →
      (test.following.stop ≡ None → IsEnough calls 2 test.following.left) → EntireStmt (suc around.blocks) (read_if calls around test)
  pub block : (around : Around) (r : Reader) → IsEnough calls 1 r.left → EntireBlock around.blocks (read_block calls around r)
  pub lines : (around : Around) (labelled leaves : Bool) (r : Reader) → IsEnough calls 3 r.left → EntireLines around.blocks (read_lines calls around labelled leaves r)
  pub line : (around : Around) (labelled : Bool) (r : Reader) → IsEnough calls 2 r.left → EntireLines around.blocks (read_line calls around labelled r)
  pub arms : (around : Around) (r : Reader) → IsEnough calls 2 r.left → EntireArms around.blocks (read_arms calls around r)
  pub more_arms : (around : Around) (r : Reader) → IsEnough calls 1 r.left → EntireArms around.blocks (read_more_arms calls around r)

none-entire : EntireStmts zero
none-entire =
    record {
      stmt = λ around r enough going. (refl, refl);
      otherwise = λ around test complete enough going. (refl, refl);
      block = λ around r enough going. (refl, refl);
      lines = λ around labelled leaves r enough going. (refl, refl);
      line = λ around labelled r enough going. (refl, refl);
      arms = λ around r enough going. (refl, refl);
      more_arms = λ around r enough going. (refl, refl);
    }

-- a statement, and those after it
row-entire : (blocks : ℕ) (stmt : PartialStmt) (at number : ℕ) (rows : PartialLines) → blocks ≤ 200 →
    (is_complete_stmt stmt ≡ true) × (is_within (suc blocks) stmt ≡ true) → AreEntire blocks rows → AreEntire blocks (row stmt at number rows)
row-entire blocks stmt at number rows room first others =
    (and_from _ _ first.0 others.0, and_from _ _ (le-leb blocks 200 room) (and_from _ _ first.1 others.1))

-- all but the last
without-entire : (blocks : ℕ) (rows : PartialLines) → AreEntire blocks rows → AreEntire blocks (without_last rows)
without-entire blocks no_rows all = all
without-entire blocks (row stmt at number no_rows) all = (refl, refl)
without-entire blocks (row stmt at number (row next place other rest)) all =
    let rows = row next place other rest in
    let complete = and_parts (is_complete_stmt stmt) (is_complete_lines rows) all.0 in
    let here = and_parts (nat_le blocks 200) (is_within (suc blocks) stmt && are_within blocks rows) all.1 in
    let within = and_parts (is_within (suc blocks) stmt) (are_within blocks rows) here.1 in
    let others = without-entire blocks (row next place other rest) (complete.1, within.1) in
    (and_from _ _ complete.0 others.0, and_from _ _ here.0 (and_from _ _ within.0 others.1))

-- the head of an arm has no cases where it is `default`
head-entire : (calls : ℕ) (r : Reader) →
    (if is_some (read_arm_head calls r).value.default then length (read_arm_head calls r).value.numbers == 0 else true) ≡ true
head-entire calls r =
    if-cases (λ (g : Got ArmHead). (if is_some g.value.default then length g.value.numbers == 0 else true) ≡ true) (sees_word (codes "default") r) (λ _. refl) (λ _. refl)

module _ (calls : ℕ) (keep : KeepsStmts calls) (sound : SoundStmts calls) (entire : EntireStmts calls) where
  while_entire : (around : Around) (r : Reader) → sees_word (codes "while") r ≡ true → IsEnough (suc calls) 1 r.left → EntireStmt (suc around.blocks) (while_stmt calls around r)
  while_entire around r sees enough going =
      let took = sees_word-took (codes "while") r sees in
      let test = read_test calls (skip r) in
      let on = keep.block (in_loop around) test.following going in
      let read = test-sound calls (skip r) (omega (arith, took.one_less)) on in
      let body = entire.block (in_loop around) test.following (omega (arith, took.one_less, read.shorter)) going in
      (and_from _ _ (and_from _ _ (test-entire calls (skip r) (omega (arith, took.one_less)) on) (going-done test.following on)) body.0, body.1)

  do_entire : (around : Around) (r : Reader) → sees_word (codes "do") r ≡ true → IsEnough (suc calls) 1 r.left → EntireStmt (suc around.blocks) (do_stmt calls around r)
  do_entire around r sees enough going =
      let took = sees_word-took (codes "do") r sees in
      let body = read_block calls (in_loop around) (skip r) in
      let here = take_word (codes "while") body.following in
      let test = read_test calls here in
      let tested = mark-keeps (codes ";") test.following going in
      let again = take_word-took (codes "while") body.following (test-keeps calls here tested) in
      let inner = sound.block (in_loop around) (skip r) (omega (arith, took.one_less)) again.passed.going in
      let lines = entire.block (in_loop around) (skip r) (omega (arith, took.one_less)) again.passed.going in
      (and_from _ _ (and_from _ _ (test-entire calls here (omega (arith, took.one_less, inner.shorter, again.one_less)) tested) (going-done test.following tested)) lines.0, lines.1)

  for_entire : (around : Around) (r : Reader) → sees_word (codes "for") r ≡ true → IsEnough (suc calls) 1 r.left → EntireStmt (suc around.blocks) (for_stmt calls around r)
  for_entire around r sees enough going =
      let took = sees_word-took (codes "for") r sees in
      let a = take_mark (codes "(") (skip r) in
      let b = take_mark (codes ";") a in
      let c = take_mark (codes ";") b in
      let d = take_mark (codes ")") c in
      let close = take_mark-took (codes ")") c (keep.block (in_loop around) d going) in
      let second = take_mark-took (codes ";") b close.passed.going in
      let first = take_mark-took (codes ";") a second.passed.going in
      let begun = take_mark-took (codes "(") (skip r) first.passed.going in
      entire.block (in_loop around) d (omega (arith, took.one_less, begun.one_less, first.one_less, second.one_less, close.one_less)) going

  switch_entire : (around : Around) (r : Reader) → sees_word (codes "switch") r ≡ true → IsEnough (suc calls) 1 r.left → EntireStmt (suc around.blocks) (switch_stmt calls around r)
  switch_entire around r sees enough going =
      let took = sees_word-took (codes "switch") r sees in
      let test = read_test calls (skip r) in
      let inside = take_mark (codes "{") test.following in
      let arms = read_arms calls (in_switch around) inside in
      let ended = mark-keeps (codes "}") arms.following going in
      let brace = take_mark-took (codes "{") test.following (keep.arms (in_switch around) inside ended) in
      let on = brace.passed.going in
      let read = test-sound calls (skip r) (omega (arith, took.one_less)) on in
      let all = entire.arms (in_switch around) inside (omega (arith, took.one_less, read.shorter, brace.one_less)) ended in
      (and_from _ _ (and_from _ _ (test-entire calls (skip r) (omega (arith, took.one_less)) on) (going-done test.following on)) all.0, all.1)

  stmt_entire : (around : Around) (r : Reader) → IsEnough (suc calls) 1 r.left → EntireStmt (suc around.blocks) (read_stmt (suc calls) around r)
  stmt_entire around r enough =
      let result : Got PartialStmt → Type 0 = EntireStmt (suc around.blocks) in
      if-cases result (sees_word (codes "if") r) {x = read_if calls around (read_test calls (skip r))} {y = while_stmts calls around r}
      (λ sees.
      let took = sees_word-took (codes "if") r sees in
      entire.otherwise around (read_test calls (skip r)) (test-entire calls (skip r) (omega (arith, took.one_less)))
      (λ going. omega (arith, took.one_less, (test-sound calls (skip r) (omega (arith, took.one_less)) going).shorter)))
      (λ _. if-cases result (sees_word (codes "while") r) {x = while_stmt calls around r} {y = do_stmts calls around r} (λ sees. while_entire around r sees enough)
      (λ _. if-cases result (sees_word (codes "do") r) {x = do_stmt calls around r} {y = for_stmts calls around r} (λ sees. do_entire around r sees enough)
      (λ _. if-cases result (sees_word (codes "for") r) {x = for_stmt calls around r} {y = switch_stmts calls around r} (λ sees. for_entire around r sees enough)
      (λ _. if-cases result (sees_word (codes "switch") r) {x = switch_stmt calls around r} {y = leave_stmts calls around r} (λ sees. switch_entire around r sees enough)
      (λ _. leave_stmts-entire (suc around.blocks) calls around r (omega arith))))))

  if_entire : (around : Around) (test : Got PartialExpr) → (test.following.stop ≡ None → is_complete_expr test.value ≡ true) →
      (test.following.stop ≡ None → IsEnough (suc calls) 2 test.following.left) → EntireStmt (suc around.blocks) (read_if (suc calls) around test)
  if_entire around test complete enough =
      let body = read_block calls (in_block around) test.following in
      let tested : test.following.stop ≡ None → (is_complete_expr test.value && not (is_stopped test.following)) ≡ true = λ on. and_from _ _ (complete on) (going-done test.following on) in
      let on : body.following.stop ≡ None → test.following.stop ≡ None = keep.block (in_block around) test.following in
      let room : body.following.stop ≡ None → IsEnough calls 1 test.following.left = λ going. (let some = enough (on going) in omega (arith, some)) in
      if-cases (EntireStmt (suc around.blocks)) (sees_word (codes "else") body.following)
      (λ sees going.
      let between = sees_word-took (codes "else") body.following sees in
      let before = between.passed.going in
      let first = entire.block (in_block around) test.following (room before) before in
      let inner = sound.block (in_block around) test.following (room before) before in
      let some = room before in
      let second = entire.block (in_block around) (skip body.following) (omega (arith, some, inner.shorter, between.one_less)) going in
      (and_from _ _ (tested (on before)) (and_from _ _ first.0 second.0), and_from _ _ first.1 second.1))
      (λ _ going.
      let first = entire.block (in_block around) test.following (room going) going in
      (and_from _ _ (tested (on going)) (and_from _ _ first.0 refl), and_from _ _ first.1 refl))

  block_entire : (around : Around) (r : Reader) → IsEnough (suc calls) 1 r.left → EntireBlock around.blocks (read_block (suc calls) around r)
  block_entire around r enough going =
      let inside = take_mark (codes "{") r in
      let lines = read_lines calls around false false inside in
      let ended = mark-keeps (codes "}") lines.following going in
      let begun = take_mark-took (codes "{") r (keep.lines around false false inside ended) in
      entire.lines around false false inside (omega (arith, begun.one_less)) ended

  lines_entire : (around : Around) (labelled leaves : Bool) (r : Reader) → IsEnough (suc calls) 3 r.left → EntireLines around.blocks (read_lines (suc calls) around labelled leaves r)
  lines_entire around labelled leaves r enough =
      if-cases (EntireLines around.blocks) (begins_stmt (next_token r)) (λ _. entire.line around labelled r (omega arith)) (λ _ going. (refl, refl))

  -- a label, and what stands after it
  label_entire : (around : Around) (r : Reader) (name : WordAt) (following : Reader) → IsEnough calls 3 following.left →
      EntireLines around.blocks (before_others (LabelOf name) r.at (line_of r.left) (read_lines calls around true false (stop_if_nested around r.at following)))
  label_entire around r name following enough =
      let result : Reader → Type 0 = λ q. EntireLines around.blocks (before_others (LabelOf name) r.at (line_of r.left) (read_lines calls around true false q)) in
      let stopped : Reader = stop_at of_depth r.at following in
      if-cases result (is_nested around) {x = stopped} {y = following}
      (λ _ going. absurd (stop_at-stops of_depth r.at following (keep.lines around true false stopped going)))
      (λ room going. row-entire around.blocks (LabelOf name) r.at (line_of r.left) (read_lines calls around true false following).value.lines (ltb-false 200 around.blocks room) (refl, refl) (entire.lines around true false following enough going))

  -- a statement, and those after it
  one_stmt_entire : (around : Around) (leaves : Bool) (r : Reader) → IsEnough (suc calls) 2 r.left →
      EntireLines around.blocks (before_others (read_stmt calls around r).value r.at (line_of r.left) (read_lines calls around false leaves (stop_if_nested around r.at (read_stmt calls around r).following)))
  one_stmt_entire around leaves r enough =
      let stmt = read_stmt calls around r in
      let result : Reader → Type 0 = λ q. EntireLines around.blocks (before_others stmt.value r.at (line_of r.left) (read_lines calls around false leaves q)) in
      let stopped : Reader = stop_at of_depth r.at stmt.following in
      if-cases result (is_nested around) {x = stopped} {y = stmt.following}
      (λ _ going. absurd (stop_at-stops of_depth r.at stmt.following (keep.lines around false leaves stopped going)))
      (λ room going.
      let on = keep.lines around false leaves stmt.following going in
      let first = sound.stmt around r (omega arith) on in
      row-entire around.blocks stmt.value r.at (line_of r.left) (read_lines calls around false leaves stmt.following).value.lines (ltb-false 200 around.blocks room) (entire.stmt around r (omega arith) on) (entire.lines around false leaves stmt.following (omega (arith, first.shorter)) going))

  line_entire : (around : Around) (labelled : Bool) (r : Reader) → IsEnough (suc calls) 2 r.left → EntireLines around.blocks (read_line (suc calls) around labelled r)
  line_entire around labelled r enough =
      let result : Got Block → Type 0 = EntireLines around.blocks in
      if-cases result (sees_head depth_line r)
      (λ sees. if-cases result labelled (λ _ going. (refl, refl))
      (λ _. if-cases result (is_nested around) (λ _ going. (refl, refl))
      (λ _ going.
      let read = depth-sound r sees (keep.lines around false false (read_depth r) going) in
      entire.lines around false false (read_depth r) (omega (arith, read.shorter)) going)))
      (λ _. if-cases result (begins_label r)
      (λ _. choice-cases (λ (g : Got (Option WordAt)). EntireLines around.blocks (elim g.value [ Some word ↦ before_others (LabelOf word) r.at (line_of r.left) (read_lines calls around true false (stop_if_nested around r.at (skip g.following))) | None ↦ got (block_of no_rows false) g.following ])) (name_of (next_token r))
      (λ name is.
      let took = skip-took r (WordToken name) (name_of-is (next_token r) name is).0 in
      label_entire around r (record { word = name; at = r.at }) (skip (skip r)) (omega (arith, took.one_less, fewer_after (skip r).left)))
      (λ _ going. (refl, refl)))
      (λ _. if-cases result (is_nested around && is_block_word (next_token r)) (λ _ going. (refl, refl))
      (λ _. one_stmt_entire around (is_break (read_stmt calls around r).value && not labelled) r enough)))

  arms_entire : (around : Around) (r : Reader) → IsEnough (suc calls) 2 r.left → EntireArms around.blocks (read_arms (suc calls) around r)
  arms_entire around r enough =
      if-cases (EntireArms around.blocks) (begins_arm r) (λ _. entire.more_arms around r (omega arith)) (λ _ going. (refl, refl))

  -- an arm with its body, and those after it
  arm_entire : (around : Around) (r : Reader) (body : PartialLines) (others : Got PartialArms) → AreEntire around.blocks body → EntireArms around.blocks others →
      EntireArms around.blocks (got (cases (read_arm_head calls r).value.numbers (read_arm_head calls r).value.default body others.value) others.following)
  arm_entire around r body others first more going =
      let following = more going in
      (and_from _ _ (head-entire calls r) (and_from _ _ first.0 following.0), and_from _ _ first.1 following.1)

  more_arms_entire : (around : Around) (r : Reader) → IsEnough (suc calls) 1 r.left → EntireArms around.blocks (read_more_arms (suc calls) around r)
  more_arms_entire around r enough =
      let head = read_arm_head calls r in
      let lines = read_lines calls around false false head.following in
      let result : Got PartialLines → Type 0 = λ body.
      EntireArms around.blocks (got (cases head.value.numbers head.value.default body.value (read_more_arms calls around body.following).value) (read_more_arms calls around body.following).following)
      in
      if-cases (EntireArms around.blocks) (begins_arm r)
      (λ begins. if-cases result (is_stopped lines.following) {x = got lines.value.lines lines.following} {y = if lines.value.leaves then got (without_last lines.value.lines) lines.following else got lines.value.lines (fail lines.following)}
      (λ stopped going. absurd (going_on lines.following (keep.more_arms around lines.following going) stopped))
      (λ _. if-cases result lines.value.leaves {x = got (without_last lines.value.lines) lines.following} {y = got lines.value.lines (fail lines.following)}
      (λ _ going.
      let following = keep.more_arms around lines.following going in
      let first = head-sound around calls r begins (omega arith) (keep.lines around false false head.following following) in
      let body = entire.lines around false false head.following (omega (arith, first.shorter)) following in
      let passed = (sound.lines around false false head.following (omega (arith, first.shorter)) following).steps.passed in
      arm_entire around r (without_last lines.value.lines) (read_more_arms calls around lines.following) (without-entire around.blocks lines.value.lines body)
      (entire.more_arms around lines.following (omega (arith, first.shorter, passed.fewer))) going)
      (λ _ going. absurd (fail-stops lines.following (keep.more_arms around (fail lines.following) going)))))
      (λ _ going. (refl, refl))
    where
      going_on : (q : Reader) → q.stop ≡ None → is_stopped q ≡ true → ⊥
      going_on q none stopped = absurd (let same : is_stopped q ≡ false = ap is_some none in cc)

  one_more-entire : EntireStmts (suc calls)
  one_more-entire =
      record { stmt = stmt_entire; otherwise = if_entire; block = block_entire; lines = lines_entire; line = line_entire; arms = arms_entire; more_arms = more_arms_entire }

-- statements that have been read are complete
pub entire_stmts : (calls : ℕ) → EntireStmts calls
entire_stmts zero = none-entire
entire_stmts (suc calls) = one_more-entire calls (keeps_stmts calls) (sound_stmts calls) (entire_stmts calls)
