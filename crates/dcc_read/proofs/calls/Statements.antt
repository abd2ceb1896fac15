-- Statements are the same with more calls than enough.
use Rattle.std.proofs.Common.{◌≡◌, ℕ, zero, suc, ◌+◌, ◌*◌, ◌<◌, ◌≤◌, ◌&&◌, ◌||◌, Bool, true, false, not, None, refl, ap, ◌∙◌, arith}
use Rattle.std.specs.Prelude.{codes, if◌then◌else◌}
use Rattle.dcc_c.specs.Token.{depth_line}
use Rattle.dcc_c.specs.Grammar.{Around, in_block, in_loop, in_switch}
use Rattle.dcc_c.specs.Kinds.{of_depth}
use Rattle.dcc_c.specs.Partial.{PartialExpr, PartialStmt, ForeverOf, LabelOf, PartialLines, no_rows, PartialArms, cases}
use Rattle.dcc_c.specs.Reading.{Reader, Got, got, is_stopped, next_token, line_of, skip, is_the_word, sees_mark, sees_word, take_mark, take_word, take_name}
use Rattle.dcc_c.specs.ReadingStatements.{read_test, is_the_head, sees_head, read_depth, ArmHead, read_arm_head, begins_arm, begins_stmt, begins_label, is_nested, stop_if_nested, is_block_word, Block, is_break, before_others, end_arm, end_block, while_of, if_of, do_while_of, switch_of, read_stmt, read_if, read_block, read_lines, read_line, read_arms, read_more_arms}
use Rattle.dcc_c.proofs.reading.Passing.{if-cases}
use Rattle.dcc_c.proofs.reading.StmtStopping.{keeps_stmts}
use Rattle.dcc_c.proofs.reading.Steps.{name-sound}
use Rattle.dcc_c.proofs.reading.LineSound.{depth-sound}
use Rattle.dcc_c.proofs.reading.ArmRules.{head-sound}
use Rattle.dcc_c.proofs.reading.StmtRules.{sound_stmts}
use Rattle.dcc_reader.proofs.calls.ToRead.{to_read, Enough, going-reads, passed-reads, shorter-reads, skip-reads, sees-reads, sees-going, stop-reads, fail-reads, mark-reads, word-reads, if-same, choice-same}
use Rattle.dcc_read.proofs.calls.Simple.{test-reads, test-same, simple-same, return-same, arm_head-same}

-- What is left to read.

stmt-reads : (calls : ℕ) (around : Around) (r : Reader) → r.stop ≡ None → Enough calls 1 r → to_read (read_stmt calls around r).following < to_read r
stmt-reads calls around r going enough =
    shorter-reads r (read_stmt calls around r).following going (λ on. ((sound_stmts calls).stmt around r (omega (arith, enough, going-reads r going)) on).shorter)

block-reads : (calls : ℕ) (around : Around) (r : Reader) → Enough calls 1 r → to_read (read_block calls around r).following ≤ to_read r
block-reads calls around r enough =
    passed-reads r (read_block calls around r).following
    (λ on. ((sound_stmts calls).block around r (omega (arith, enough, going-reads r ((keeps_stmts calls).block around r on))) on).steps.passed)

pub lines-reads : (calls : ℕ) (around : Around) (labelled leaves : Bool) (r : Reader) → Enough calls 3 r → to_read (read_lines calls around labelled leaves r).following ≤ to_read r
lines-reads calls around labelled leaves r enough =
    passed-reads r (read_lines calls around labelled leaves r).following
    (λ on. ((sound_stmts calls).lines around labelled leaves r (omega (arith, enough, going-reads r ((keeps_stmts calls).lines around labelled leaves r on))) on).steps.passed)

arm_head-reads : (calls : ℕ) (around : Around) (r : Reader) → begins_arm r ≡ true → r.stop ≡ None → Enough calls 1 r → to_read (read_arm_head calls r).following < to_read r
arm_head-reads calls around r begins going enough =
    shorter-reads r (read_arm_head calls r).following going (λ on. (head-sound around calls r begins (omega (arith, enough, going-reads r going)) on).shorter)

depth-reads : (r : Reader) → sees_head depth_line r ≡ true → to_read (read_depth r) < to_read r
depth-reads r sees =
    shorter-reads r (read_depth r) (sees-going (is_the_head depth_line) r refl sees) (λ on. (depth-sound r sees on).shorter)

nested-reads : (around : Around) (at : ℕ) (r : Reader) → to_read (stop_if_nested around at r) ≤ to_read r
nested-reads around at r =
    if-cases (λ following. to_read following ≤ to_read r) (is_nested around) (λ _. omega (arith, stop-reads of_depth at r)) (λ _. omega arith)

end_arm-reads : (body : Got Block) → to_read (end_arm body).following ≤ to_read body.following
end_arm-reads body =
    let less : Got PartialLines → Type 0 = λ g. to_read g.following ≤ to_read body.following in
    if-cases less (is_stopped body.following) (λ _. omega arith)
    (λ _. if-cases less body.value.leaves (λ _. omega arith) (λ _. omega (arith, fail-reads body.following)))

name-less : (r : Reader) → r.stop ≡ None → to_read (take_name r).following < to_read r
name-less r going = shorter-reads r (take_name r).following going (λ on. let took = (name-sound r on).took in omega (arith, took.one_less))

arm-going : (r : Reader) → begins_arm r ≡ true → r.stop ≡ None
arm-going r begins = sees-going (λ token. is_the_word (codes "case") token || is_the_word (codes "default") token) r refl begins

-- What is read.

-- an arm, from its head and its body, before other arms
abbrev with_arm : Got ArmHead → Got PartialLines → Got PartialArms → Got PartialArms
with_arm head body others = got (cases head.value.numbers head.value.default body.value others.value) others.following

-- reading statements with two numbers of calls gives the same where the first of them is enough
record StmtsSame (few many : ℕ) : Type 0 where
  stmt : (around : Around) (r : Reader) → Enough few 4 r → read_stmt few around r ≡ read_stmt many around r
  otherwise : (around : Around) (test : Got PartialExpr) → Enough few 8 test.following → read_if few around test ≡ read_if many around test
  block : (around : Around) (r : Reader) → Enough few 7 r → read_block few around r ≡ read_block many around r
  lines : (around : Around) (labelled leaves : Bool) (r : Reader) → Enough few 6 r → read_lines few around labelled leaves r ≡ read_lines many around labelled leaves r
  line : (around : Around) (labelled : Bool) (r : Reader) → r.stop ≡ None → Enough few 5 r → read_line few around labelled r ≡ read_line many around labelled r
  arms : (around : Around) (r : Reader) → Enough few 3 r → read_arms few around r ≡ read_arms many around r
  more_arms : (around : Around) (r : Reader) → Enough few 2 r → read_more_arms few around r ≡ read_more_arms many around r

none-same : (many : ℕ) → StmtsSame zero many
none-same many =
    record {
      stmt = λ around r enough. absurd (omega (arith, enough));
      otherwise = λ around test enough. absurd (omega (arith, enough));
      block = λ around r enough. absurd (omega (arith, enough));
      lines = λ around labelled leaves r enough. absurd (omega (arith, enough));
      line = λ around labelled r going enough. absurd (omega (arith, enough));
      arms = λ around r enough. absurd (omega (arith, enough));
      more_arms = λ around r enough. absurd (omega (arith, enough));
    }

module _ (few many : ℕ) (below : few ≤ many) (same : StmtsSame few many) where
  -- Statements that begin with a word, after it.

  tested-same : {A : Type 0} (rest : ℕ → Got PartialExpr → A) (r : Reader) → Enough few 8 r →
      ((test : Got PartialExpr) → Enough few 8 test.following → rest few test ≡ rest many test) → rest few (read_test few r) ≡ rest many (read_test many r)
  tested-same rest r enough others =
      let room : 16 * to_read r + 3 ≤ few = omega (arith, enough) in
      ap (rest few) (test-same few many r below room) ∙ others (read_test many r) (omega (arith, enough, test-reads many r (omega (arith, below, room))))

  while-same : (around : Around) (test : Got PartialExpr) → Enough few 8 test.following →
      while_of test (read_block few (in_loop around) test.following) ≡ while_of test (read_block many (in_loop around) test.following)
  while-same around test enough = ap (while_of test) (same.block (in_loop around) test.following (omega (arith, enough)))

  do-same : (around : Around) (r : Reader) → Enough few 7 r →
      do_while_of (read_block few (in_loop around) r) (read_test few (take_word (codes "while") (read_block few (in_loop around) r).following))
      ≡ do_while_of (read_block many (in_loop around) r) (read_test many (take_word (codes "while") (read_block many (in_loop around) r).following))
  do-same around r enough =
      let body = read_block many (in_loop around) r in
      let here = take_word (codes "while") body.following in
      ap (λ (g : Got PartialLines). do_while_of g (read_test few (take_word (codes "while") g.following))) (same.block (in_loop around) r enough)
      ∙ ap (do_while_of body) (test-same few many here below (omega (arith, enough, word-reads (codes "while") body.following, block-reads many (in_loop around) r (omega (arith, below, enough)))))

  for-same : (around : Around) (r : Reader) → Enough few 7 r → (g : Reader) → to_read g ≤ to_read r →
      (let body = read_block few (in_loop around) g in got (ForeverOf body.value) body.following) ≡ (let body = read_block many (in_loop around) g in got (ForeverOf body.value) body.following)
  for-same around r enough g less = ap (λ (body : Got PartialLines). got (ForeverOf body.value) body.following) (same.block (in_loop around) g (omega (arith, enough, less)))

  switch-same : (around : Around) (test : Got PartialExpr) → Enough few 8 test.following →
      switch_of test (read_arms few (in_switch around) (take_mark (codes "{") test.following)) ≡ switch_of test (read_arms many (in_switch around) (take_mark (codes "{") test.following))
  switch-same around test enough =
      ap (switch_of test) (same.arms (in_switch around) (take_mark (codes "{") test.following) (omega (arith, enough, mark-reads (codes "{") test.following)))

  stmt-same : (around : Around) (r : Reader) → Enough (suc few) 4 r → read_stmt (suc few) around r ≡ read_stmt (suc many) around r
  stmt-same around r enough =
      let here = skip r in
      if-same (sees_word (codes "if") r)
      (λ sees. tested-same (λ calls test. read_if calls around test) here (omega (arith, enough, sees-reads (is_the_word (codes "if")) r refl sees)) (same.otherwise around))
      (λ _. if-same (sees_word (codes "while") r)
      (λ sees. tested-same (λ calls test. while_of test (read_block calls (in_loop around) test.following)) here (omega (arith, enough, sees-reads (is_the_word (codes "while")) r refl sees)) (while-same around))
      (λ _. if-same (sees_word (codes "do") r)
      (λ sees. do-same around here (omega (arith, enough, sees-reads (is_the_word (codes "do")) r refl sees)))
      (λ _. if-same (sees_word (codes "for") r)
      (λ sees.
      let a = take_mark (codes "(") here in
      let b = take_mark (codes ";") a in
      let c = take_mark (codes ";") b in
      for-same around here (omega (arith, enough, sees-reads (is_the_word (codes "for")) r refl sees)) (take_mark (codes ")") c)
      (omega (arith, mark-reads (codes "(") here, mark-reads (codes ";") a, mark-reads (codes ";") b, mark-reads (codes ")") c)))
      (λ _. if-same (sees_word (codes "switch") r)
      (λ sees. tested-same (λ calls test. switch_of test (read_arms calls (in_switch around) (take_mark (codes "{") test.following))) here (omega (arith, enough, sees-reads (is_the_word (codes "switch")) r refl sees)) (switch-same around))
      (λ _. if-same (sees_word (codes "break") r) (λ _. refl)
      (λ _. if-same (sees_word (codes "continue") r) (λ _. refl)
      (λ _. if-same (sees_word (codes "goto") r) (λ _. refl)
      (λ _. if-same (sees_word (codes "return") r) (λ _. return-same few many r below (omega (arith, enough)))
      (λ _. if-same (sees_mark (codes ";") r) (λ _. refl) (λ _. simple-same few many r below (omega (arith, enough))))))))))))

  otherwise-same : (around : Around) (test : Got PartialExpr) → Enough (suc few) 8 test.following → read_if (suc few) around test ≡ read_if (suc many) around test
  otherwise-same around test enough =
      let within = in_block around in
      let body = read_block many within test.following in
      let room : 16 * to_read test.following + 7 ≤ few = omega (arith, enough) in
      ap (λ (g : Got PartialLines). if sees_word (codes "else") g.following then if_of test g.value (read_block few within (skip g.following)) else if_of test g.value (got no_rows g.following))
      (same.block within test.following room)
      ∙ if-same (sees_word (codes "else") body.following)
      (λ _. ap (if_of test body.value) (same.block within (skip body.following) (omega (arith, room, skip-reads body.following, block-reads many within test.following (omega (arith, below, room))))))
      (λ _. refl)

  block-same : (around : Around) (r : Reader) → Enough (suc few) 7 r → read_block (suc few) around r ≡ read_block (suc many) around r
  block-same around r enough =
      ap end_block (same.lines around false false (take_mark (codes "{") r) (omega (arith, enough, mark-reads (codes "{") r)))

  lines-same : (around : Around) (labelled leaves : Bool) (r : Reader) → Enough (suc few) 6 r → read_lines (suc few) around labelled leaves r ≡ read_lines (suc many) around labelled leaves r
  lines-same around labelled leaves r enough =
      if-same (begins_stmt (next_token r)) (λ begins. same.line around labelled r (sees-going begins_stmt r refl begins) (omega (arith, enough))) (λ _. refl)

  line-same : (around : Around) (labelled : Bool) (r : Reader) → r.stop ≡ None → Enough (suc few) 5 r → read_line (suc few) around labelled r ≡ read_line (suc many) around labelled r
  line-same around labelled r going enough =
      let name = take_name r in
      if-same (sees_head depth_line r)
      (λ sees. if-same labelled (λ _. refl) (λ _. if-same (is_nested around) (λ _. refl)
      (λ _. same.lines around false false (read_depth r) (omega (arith, enough, depth-reads r sees)))))
      (λ _. if-same (begins_label r)
      (λ _. choice-same name.value
      (λ word _. ap (before_others (LabelOf word) r.at (line_of r.left))
      (same.lines around true false (stop_if_nested around r.at (skip name.following)) (omega (arith, enough, nested-reads around r.at (skip name.following), skip-reads name.following, name-less r going))))
      (λ _. refl))
      (λ _. if-same (is_nested around && is_block_word (next_token r)) (λ _. refl)
      (λ _.
      let stmt = read_stmt many around r in
      let leaves = is_break stmt.value && not labelled in
      let here = stop_if_nested around r.at stmt.following in
      let room : 16 * to_read r + 4 ≤ few = omega (arith, enough) in
      ap (λ (g : Got PartialStmt). before_others g.value r.at (line_of r.left) (read_lines few around false (is_break g.value && not labelled) (stop_if_nested around r.at g.following))) (same.stmt around r room)
      ∙ ap (before_others stmt.value r.at (line_of r.left)) (same.lines around false leaves here (omega (arith, room, nested-reads around r.at stmt.following, stmt-reads many around r going (omega (arith, below, room))))))))

  arms-same : (around : Around) (r : Reader) → Enough (suc few) 3 r → read_arms (suc few) around r ≡ read_arms (suc many) around r
  arms-same around r enough = if-same (begins_arm r) (λ _. same.more_arms around r (omega (arith, enough))) (λ _. refl)

  more_arms-same : (around : Around) (r : Reader) → Enough (suc few) 2 r → read_more_arms (suc few) around r ≡ read_more_arms (suc many) around r
  more_arms-same around r enough =
      if-same (begins_arm r)
      (λ begins.
      let head = read_arm_head many r in
      let lines = read_lines many around false false head.following in
      let body = end_arm lines in
      let enough_head : 16 * to_read r + 1 ≤ few = omega (arith, enough) in
      let less = arm_head-reads many around r begins (arm-going r begins) (omega (arith, below, enough_head)) in
      let room : 16 * to_read head.following + 6 ≤ few = omega (arith, enough, less) in
      let left : to_read body.following ≤ to_read head.following = omega (arith, end_arm-reads lines, lines-reads many around false false head.following (omega (arith, below, room))) in
      ap (λ (g : Got ArmHead). let end = end_arm (read_lines few around false false g.following) in with_arm g end (read_more_arms few around end.following)) (arm_head-same few many r below enough_head)
      ∙ ap (λ (g : Got Block). with_arm head (end_arm g) (read_more_arms few around (end_arm g).following)) (same.lines around false false head.following room)
      ∙ ap (with_arm head body) (same.more_arms around body.following (omega (arith, room, left))))
      (λ _. refl)

  one_more-same : StmtsSame (suc few) (suc many)
  one_more-same =
      record { stmt = stmt-same; otherwise = otherwise-same; block = block-same; lines = lines-same; line = line-same; arms = arms-same; more_arms = more_arms-same }

stmts_same : (few many : ℕ) → few ≤ many → StmtsSame few many
stmts_same zero many below = none-same many
stmts_same (suc few) zero below = absurd (omega (arith, below))
stmts_same (suc few) (suc many) below =
    let less : few ≤ many = omega (arith, below) in
    one_more-same few many less (stmts_same few many less)

-- With calls that are enough for statements more calls read the same.
pub same_lines : (few many : ℕ) (around : Around) (labelled leaves : Bool) (r : Reader) → few ≤ many → Enough few 6 r →
    read_lines few around labelled leaves r ≡ read_lines many around labelled leaves r
same_lines few many around labelled leaves r below enough = (stmts_same few many below).lines around labelled leaves r enough
