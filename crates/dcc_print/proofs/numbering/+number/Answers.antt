use Rattle.std.proofs.Common.{◌≡◌, ◌≢◌, ◌+◌, ◌<◌, ◌≤◌, ◌∷◌, ◌++◌, true, ◌==◌, length, drop, take, get_or, set, refl, sym, ap, ap₂, ◌∙◌, arith}
use Rattle.std.specs.Prelude.{not}
use Rattle.std.proofs.lemmas.List.{append-nil, length-set, get_or-set_other, take_all, drop_all}
use Rattle.std.proofs.lemmas.Result.{IfOk-weaker}
use Rattle.dcc_c.specs.declared.syntax.Arm.{out-Arm}
use Rattle.dcc_c.specs.Tree.{Arms, If, While, DoWhile, Forever, Switch, no_lines, line, arm, no_arms}
use Rattle.dcc_c.specs.Parts.{stmts_in, inner_stmts, arm_stmts, exprs_of}
use Rattle.dcc_c.specs.Written.{depth_after, written_cases, written_stmt, written_lines, written_arms, written_default}
use Rattle.dcc_c.specs.Numbered.{rows, numbered_stmt, numbered_lines, numbered_arms, numbered_default}
use Rattle.dcc_c.specs.Views.{expr_of, stmt_of, lines_of, arm_before, arms_of, arms_if}
use Rattle.dcc_c.proofs.RowLaws.{arm-parts, if-tree, while-tree, do_while-tree, forever-tree, switch-tree}
use Rattle.dcc_print.specs.Unbroken.{are_unbroken}
use Rattle.dcc_print.proofs.CountedRows.{while-count, do_while-count, forever-count, default-count}
use Rattle.dcc_print.proofs.CountedTrees.{lines_before, arms_before, both-unbroken, arm-unbroken, arms-unbroken, counted-arm, counted-if, counted-while, counted-do_while, counted-forever, counted-switch, else-lines, if-numbered, if-line, if-depth, switch-numbered, switch-line, switch-depth, line-numbered, line-line, line-depth, line-unbroken, one-line, one-arm, lines-left, arms-left, first_line, first_arm, whole_lines, whole_arms, arm-numbered, arm-line, arm-depth, test-unbroken, inner-unbroken, own-line, simple-same, simple-inner, if-both, on-ok}
use Rattle.dcc_print.proofs.CountedSimple.{no-block}
use Rattle.dcc_print.proofs.numbering.+number.Goals as goal

-- An arm.

pub number_arm-returns : goal.number_arm-returns
number_arm-returns t c =
    let a = c.args.arm.now in
    let body = lines_of c.deref_mut.result.now in
    let cases = (out-Arm a).cases.items in
    let at = c.args.line in
    let lines = c.in_ok-number_lines.ensures in
    let last = c.in_ok-number_lines.field-0 in
    let is : (rest : Arms) → arm_before a rest ≡ arm cases body rest =
    λ rest. arm-parts a rest ∙ ap (λ ls. arm cases (lines_of ls) rest) (sym c.deref_mut.ensures.value) in
    let inner : are_unbroken (arm_stmts (arm_before a no_arms)) ≡ true → are_unbroken (stmts_in body) ≡ true =
    λ u. ap (λ ls. are_unbroken (stmts_in (lines_of ls))) c.deref_mut.ensures.value ∙ arm-unbroken a u in
    record {
      numbered = λ rest u.
          let first_is : c.in_ok-first.first ≡ at + length cases = c.in_ok-first.ensures ∙ ap (λ n. at + n) (c.cases_rows.ensures.count ∙ ap length c.deref.ensures.value) in
          if-both c.below.result _ _ _
          (λ following line_is depth_is. counted-arm a c.number_lines.new.lines (numbered_arms following.depth following.line rest) (c.number_lines.auto.lines ∙ ap length c.deref_mut.ensures.value)
          ∙ arm-numbered c.args.depth at c.in_ok-first.first following.depth last.line following.line cases body (lines_of c.number_lines.new.lines) rest first_is
          (lines.numbered (inner u)) (lines.line (inner u)) (depth_is ∙ lines.depth) line_is
          ∙ ap (numbered_arms c.args.depth at) (sym (is rest)))
          c.below.ensures.line c.below.ensures.depth;
      line = λ rest u.
          let first_is = c.in_ok-first.ensures ∙ ap (λ n. at + n) (c.cases_rows.ensures.rows ∙ ap (λ ns. rows (written_cases 1 ns)) c.deref.ensures.value) in
          if-both c.below.result _ _ _
          (λ following line_is depth_is. arm-line c.args.depth at c.in_ok-first.first following.depth last.line following.line cases body rest first_is (lines.line (inner u)) (depth_is ∙ lines.depth) line_is
          ∙ ap (λ arms. at + rows (written_arms 1 c.args.depth arms)) (sym (is rest)))
          c.below.ensures.line c.below.ensures.depth;
      depth = λ rest.
          IfOk-weaker c.below.result _ _
          (λ following depth_is. arm-depth c.args.depth following.depth cases body rest (depth_is ∙ c.in_ok-number_lines.ensures.depth)
          ∙ ap (λ arms. depth_after c.args.depth (arm_stmts arms)) (sym (is rest)))
          c.below.ensures.depth;
    }

-- The default arm.

pub number_default-returns-in_ok-below-in-Some : goal.number_default-returns-in_ok-below-in-Some
number_default-returns-in_ok-below-in-Some t c =
    let a = c.in-Some.arm in
    let body = lines_of c.deref_mut.result.now in
    let cases = (out-Arm a).cases.items in
    let is : arms_if c.args.last.now ≡ arm cases body no_arms = ap arms_if c.in-Some.is ∙ arm-parts a no_arms ∙ ap (λ ls. arm cases (lines_of ls) no_arms) (sym c.deref_mut.ensures.value) in
    record {
      numbered = λ u.
          let inner : are_unbroken (stmts_in body) ≡ true = ap (λ ls. are_unbroken (stmts_in (lines_of ls))) c.deref_mut.ensures.value
          ∙ arm-unbroken a (ap (λ last. are_unbroken (arm_stmts (arms_if last))) (sym c.in-Some.is) ∙ u) in
          on-ok c.below-in-Some.result
          (counted-arm a c.number_lines.new.lines no_arms (c.number_lines.auto.lines ∙ ap length c.deref_mut.ensures.value)
          ∙ ap (λ b. arm cases b no_arms) (c.in_ok-number_lines-in-Some.ensures.numbered inner)
          ∙ ap (numbered_default c.args.depth c.args.line) (sym is));
      line = λ u.
          let inner : are_unbroken (stmts_in body) ≡ true = ap (λ ls. are_unbroken (stmts_in (lines_of ls))) c.deref_mut.ensures.value
          ∙ arm-unbroken a (ap (λ last. are_unbroken (arm_stmts (arms_if last))) (sym c.in-Some.is) ∙ u) in
          let first = c.in_ok-number_lines-in-Some.ensures.line inner in
          let second = c.in_ok-below-in-Some.ensures.line in
          let all : rows (written_default 1 c.args.depth (arms_if c.args.last.now)) ≡ rows (written_lines 1 c.args.depth body) + 2 =
          ap (λ arms. rows (written_default 1 c.args.depth arms)) is ∙ default-count c.args.depth cases body in
          IfOk-weaker c.below-in-Some.result _ _ (λ following line_is. omega (arith, first, second, line_is, all)) c.below-in-Some.ensures.line;
      depth =
          IfOk-weaker c.below-in-Some.result _ _
          (λ following depth_is. depth_is ∙ c.in_ok-below-in-Some.ensures.depth ∙ c.in_ok-number_lines-in-Some.ensures.depth
          ∙ ap (depth_after c.args.depth) (sym (append-nil (stmts_in body))) ∙ ap (λ arms. depth_after c.args.depth (arm_stmts arms)) (sym is))
          c.below-in-Some.ensures.depth;
    }

-- An `if`.

pub number_stmt-returns-in_ok-following-in-If : goal.number_stmt-returns-in_ok-following-in-If
number_stmt-returns-in_ok-following-in-If t c =
    let e = expr_of c.in-If.test in
    let body = lines_of c.deref_mut.result.now in
    let otherwise = lines_of c.deref_mut-in-If.result.now in
    let stmt = stmt_of c.args.stmt in
    let is : stmt ≡ If e body otherwise = ap stmt_of c.in-If.is ∙ if-tree c.in-If.test c.in-If.body c.in-If.otherwise
    ∙ ap₂ (λ b o. If e (lines_of b) (lines_of o)) (sym c.deref_mut.ensures.value) (sym c.deref_mut-in-If.ensures.value) in
    record {
      numbered = λ u.
          let inner = both-unbroken (stmts_in body) (stmts_in otherwise) (inner-unbroken stmt (stmts_in body ++ stmts_in otherwise) (ap inner_stmts is) u) in
          let lines = c.in_ok-middle-in-If.ensures in
          let middle = c.in_ok-middle-in-If.middle in
          let counted : If e (lines_of c.number_lines.new.lines) (lines_of c.number_lines-in-If.new.lines) ≡ numbered_stmt c.args.depth c.args.line stmt =
          if-numbered c.args.depth c.args.line stmt e body otherwise c.in_ok-further-in-If.field-0 middle.depth middle.line c.in_ok-further-in-If-2.field-0
          (lines_of c.number_lines.new.lines) (lines_of c.number_lines-in-If.new.lines) is c.in_ok-further-in-If.ensures (lines.numbered inner.0)
          (lines.line inner.0) lines.depth c.in_ok-further-in-If-2.ensures (c.in_ok-end-in-If.ensures.numbered inner.1) in
          counted-if _ _ _ c.in-If.test c.number_lines.new.lines c.number_lines-in-If.new.lines _ refl
          (c.number_lines.auto.lines ∙ ap length c.deref_mut.ensures.value) (c.number_lines-in-If.auto.lines ∙ ap length c.deref_mut-in-If.ensures.value) counted;
      line = λ u.
          let inner = both-unbroken (stmts_in body) (stmts_in otherwise) (inner-unbroken stmt (stmts_in body ++ stmts_in otherwise) (ap inner_stmts is) u) in
          let lines = c.in_ok-middle-in-If.ensures in
          let middle = c.in_ok-middle-in-If.middle in
          let flat = test-unbroken stmt e (ap exprs_of is) u in
          let end = c.in_ok-end-in-If.ensures.line inner.1 in
          let last = c.in_ok-following-in-If.ensures.line in
          let has_else : not c.is_empty-has_else.result ≡ not (length c.deref_mut-in-If.result.now == 0) =
          ap not (c.is_empty-has_else.ensures ∙ ap (λ n. n == 0) (sym c.deref_mut-in-If.ensures.len)) in
          let more = else-lines middle.depth c.deref_mut-in-If.result.now (not c.is_empty-has_else.result) has_else in
          if-line c.args.depth c.args.line stmt e body otherwise c.in_ok-further-in-If.field-0 middle.depth middle.line c.in_ok-further-in-If-2.field-0
          c.in_ok-following-in-If.following.line is flat c.in_ok-further-in-If.ensures (lines.line inner.0) lines.depth c.in_ok-further-in-If-2.ensures
          (omega (arith, last, end, more));
      depth =
          if-depth c.args.depth stmt e body otherwise c.in_ok-middle-in-If.middle.depth c.in_ok-following-in-If.following.depth is c.in_ok-middle-in-If.ensures.depth
          (c.in_ok-following-in-If.ensures.depth ∙ c.in_ok-end-in-If.ensures.depth);
    }

-- Loops.

pub number_stmt-returns-in_ok-following-in-While : goal.number_stmt-returns-in_ok-following-in-While
number_stmt-returns-in_ok-following-in-While t c =
    let e = expr_of c.in-While.test in
    let body = lines_of c.deref_mut-in-While.result.now in
    let stmt = stmt_of c.args.stmt in
    let is : stmt ≡ While e body = ap stmt_of c.in-While.is ∙ while-tree c.in-While.test c.in-While.body ∙ ap (λ b. While e (lines_of b)) (sym c.deref_mut-in-While.ensures.value) in
    record {
      numbered = λ u.
          let inner = inner-unbroken stmt (stmts_in body) (ap inner_stmts is) u in
          let counted : While e (lines_of c.number_lines-in-While.new.lines) ≡ numbered_stmt c.args.depth c.args.line stmt =
          ap (λ b. While e b) (c.in_ok-number_lines-in-While.ensures.numbered inner ∙ ap (λ n. numbered_lines c.args.depth n body) c.in_ok-further-in-While.ensures)
          ∙ ap (numbered_stmt c.args.depth c.args.line) (sym is) in
          counted-while _ _ c.in-While.test c.number_lines-in-While.new.lines _ refl (c.number_lines-in-While.auto.lines ∙ ap length c.deref_mut-in-While.ensures.value) counted;
      line = λ u.
          let inner = inner-unbroken stmt (stmts_in body) (ap inner_stmts is) u in
          let flat = test-unbroken stmt e (ap exprs_of is) u in
          let first = c.in_ok-further-in-While.ensures in
          let last = c.in_ok-number_lines-in-While.ensures.line inner in
          let end = c.in_ok-following-in-While.ensures.line in
          let all = ap (λ s. rows (written_stmt 1 c.args.depth s)) is ∙ while-count c.args.depth e body flat in
          omega (arith, first, last, end, all);
      depth = c.in_ok-following-in-While.ensures.depth ∙ c.in_ok-number_lines-in-While.ensures.depth ∙ ap (λ s. depth_after c.args.depth (s ∷ inner_stmts s)) (sym is);
    }

pub number_stmt-returns-in_ok-following-in-DoWhile : goal.number_stmt-returns-in_ok-following-in-DoWhile
number_stmt-returns-in_ok-following-in-DoWhile t c =
    let e = expr_of c.in-DoWhile.test in
    let body = lines_of c.deref_mut-in-DoWhile.result.now in
    let stmt = stmt_of c.args.stmt in
    let is : stmt ≡ DoWhile body e = ap stmt_of c.in-DoWhile.is ∙ do_while-tree c.in-DoWhile.test c.in-DoWhile.body ∙ ap (λ b. DoWhile (lines_of b) e) (sym c.deref_mut-in-DoWhile.ensures.value) in
    record {
      numbered = λ u.
          let inner = inner-unbroken stmt (stmts_in body) (ap inner_stmts is) u in
          let counted : DoWhile (lines_of c.number_lines-in-DoWhile.new.lines) e ≡ numbered_stmt c.args.depth c.args.line stmt =
          ap (λ b. DoWhile b e) (c.in_ok-number_lines-in-DoWhile.ensures.numbered inner
          ∙ ap (λ n. numbered_lines c.args.depth n body) c.in_ok-further-in-DoWhile.ensures) ∙ ap (numbered_stmt c.args.depth c.args.line) (sym is) in
          counted-do_while _ _ c.in-DoWhile.test c.number_lines-in-DoWhile.new.lines _ refl (c.number_lines-in-DoWhile.auto.lines ∙ ap length c.deref_mut-in-DoWhile.ensures.value) counted;
      line = λ u.
          let inner = inner-unbroken stmt (stmts_in body) (ap inner_stmts is) u in
          let flat = test-unbroken stmt e (ap exprs_of is) u in
          let first = c.in_ok-further-in-DoWhile.ensures in
          let last = c.in_ok-number_lines-in-DoWhile.ensures.line inner in
          let end = c.in_ok-following-in-DoWhile.ensures.line in
          let all = ap (λ s. rows (written_stmt 1 c.args.depth s)) is ∙ do_while-count c.args.depth e body flat in
          omega (arith, first, last, end, all);
      depth = c.in_ok-following-in-DoWhile.ensures.depth ∙ c.in_ok-number_lines-in-DoWhile.ensures.depth ∙ ap (λ s. depth_after c.args.depth (s ∷ inner_stmts s)) (sym is);
    }

pub number_stmt-returns-in_ok-following-in-Forever : goal.number_stmt-returns-in_ok-following-in-Forever
number_stmt-returns-in_ok-following-in-Forever t c =
    let body = lines_of c.deref_mut-in-Forever.result.now in
    let stmt = stmt_of c.args.stmt in
    let is : stmt ≡ Forever body = ap stmt_of c.in-Forever.is ∙ forever-tree c.in-Forever.body ∙ ap (λ b. Forever (lines_of b)) (sym c.deref_mut-in-Forever.ensures.value) in
    record {
      numbered = λ u.
          let inner = inner-unbroken stmt (stmts_in body) (ap inner_stmts is) u in
          let counted : Forever (lines_of c.number_lines-in-Forever.new.lines) ≡ numbered_stmt c.args.depth c.args.line stmt =
          ap (λ b. Forever b) (c.in_ok-number_lines-in-Forever.ensures.numbered inner
          ∙ ap (λ n. numbered_lines c.args.depth n body) c.in_ok-further-in-Forever.ensures) ∙ ap (numbered_stmt c.args.depth c.args.line) (sym is) in
          counted-forever _ c.number_lines-in-Forever.new.lines _ (c.number_lines-in-Forever.auto.lines ∙ ap length c.deref_mut-in-Forever.ensures.value) counted;
      line = λ u.
          let inner = inner-unbroken stmt (stmts_in body) (ap inner_stmts is) u in
          let first = c.in_ok-further-in-Forever.ensures in
          let last = c.in_ok-number_lines-in-Forever.ensures.line inner in
          let end = c.in_ok-following-in-Forever.ensures.line in
          let all = ap (λ s. rows (written_stmt 1 c.args.depth s)) is ∙ forever-count c.args.depth body in
          omega (arith, first, last, end, all);
      depth = c.in_ok-following-in-Forever.ensures.depth ∙ c.in_ok-number_lines-in-Forever.ensures.depth ∙ ap (λ s. depth_after c.args.depth (s ∷ inner_stmts s)) (sym is);
    }

-- A `switch`.

pub number_stmt-returns-in_ok-following-in-Switch : goal.number_stmt-returns-in_ok-following-in-Switch
number_stmt-returns-in_ok-following-in-Switch t c =
    let e = expr_of c.in-Switch.value in
    let arms = arms_of c.deref_mut-in-Switch.result.now in
    let last = arms_if c.in-Switch.last in
    let stmt = stmt_of c.args.stmt in
    let is : stmt ≡ Switch e arms last = ap stmt_of c.in-Switch.is ∙ switch-tree c.in-Switch.value c.in-Switch.arms c.in-Switch.last
    ∙ ap (λ b. Switch e (arms_of b) last) (sym c.deref_mut-in-Switch.ensures.value) in
    record {
      numbered = λ u.
          let inner = both-unbroken (arm_stmts arms) (arm_stmts last) (inner-unbroken stmt (arm_stmts arms ++ arm_stmts last) (ap inner_stmts is) u) in
          let lines = c.in_ok-middle-in-Switch.ensures in
          let middle = c.in_ok-middle-in-Switch.middle in
          let following = c.in_ok-following-in-Switch.ensures in
          let counted : Switch e (arms_of c.number_arms.new.arms) (arms_if c.number_default.new.last) ≡ numbered_stmt c.args.depth c.args.line stmt =
          switch-numbered c.args.depth c.args.line stmt e arms last c.in_ok-further-in-Switch.field-0 middle.depth middle.line c.in_ok-further-in-Switch-2.field-0
          (arms_of c.number_arms.new.arms) (arms_if c.number_default.new.last) is c.in_ok-further-in-Switch.ensures (lines.numbered inner.0)
          (lines.line inner.0) lines.depth c.in_ok-further-in-Switch-2.ensures (following.numbered inner.1) in
          counted-switch _ _ c.in-Switch.value c.number_default.new.last c.number_arms.new.arms _ refl (c.number_arms.auto.arms ∙ ap length c.deref_mut-in-Switch.ensures.value) counted;
      line = λ u.
          let inner = both-unbroken (arm_stmts arms) (arm_stmts last) (inner-unbroken stmt (arm_stmts arms ++ arm_stmts last) (ap inner_stmts is) u) in
          let lines = c.in_ok-middle-in-Switch.ensures in
          let middle = c.in_ok-middle-in-Switch.middle in
          let following = c.in_ok-following-in-Switch.ensures in
          let flat = test-unbroken stmt e (ap exprs_of is) u in
          switch-line c.args.depth c.args.line stmt e arms last c.in_ok-further-in-Switch.field-0 middle.depth middle.line c.in_ok-further-in-Switch-2.field-0
          c.in_ok-following-in-Switch.following.line is flat c.in_ok-further-in-Switch.ensures (lines.line inner.0) lines.depth c.in_ok-further-in-Switch-2.ensures
          (following.line inner.1);
      depth =
          switch-depth c.args.depth stmt e arms last c.in_ok-middle-in-Switch.middle.depth c.in_ok-following-in-Switch.following.depth is
          c.in_ok-middle-in-Switch.ensures.depth c.in_ok-following-in-Switch.ensures.depth;
    }

-- The lines of a slice, and the arms.

pub number_lines-loop-i-preserved : goal.number_lines-loop-i-preserved
number_lines-loop-i-preserved t c =
    let lines = c.loop-i.lines in
    let i = c.loop-i.i in
    let within : i < length lines = omega arith in
    let depth = c.loop-i.place.depth in
    let at = c.loop-i.place.line in
    let old = get_or lines i c.index-lines-i.result in
    let stmt = stmt_of old.stmt in
    let rest = lines_of (drop (i + 1) lines) in
    let left = lines_of (drop i lines) in
    let is : left ≡ line stmt old.line rest = first_line lines i c.index-lines-i.result within in
    let new = c.number_line.new.line in
    let place = c.in_ok-place.place in
    let after = c.in_ok-place.ensures in
    let before = c.loop-i.invariant in
    let own = c.own_depth-own.result in
    let here = c.in_ok-here.here in
    let following = lines-left lines i new in
    record {
      unvisited = (
        length-set lines i new ∙ before.unvisited.0,
        λ k d later.
            let other : k ≢ i = omega (arith, later) in
            get_or-set_other lines i k new d other ∙ before.unvisited.1 k d (omega (arith, later)),
      );
      unbroken = λ u. ap (λ l. are_unbroken (stmts_in l)) following ∙ (line-unbroken stmt old.line rest left is (before.unbroken u)).1;
      numbered = λ u.
          let inner = (line-unbroken stmt old.line rest left is (before.unbroken u)).0 in
          one-line lines i new (numbered_lines place.depth place.line (lines_of (drop (i + 1) (set lines i new)))) within
          ∙ ap₂ (λ n l. lines_before (take i lines) (line (stmt_of new.stmt) n (numbered_lines place.depth place.line l))) after.here following
          ∙ ap (lines_before (take i lines))
          (line-numbered depth at own here place.depth place.line stmt
          (stmt_of new.stmt) old.line rest left is c.own_depth-own.ensures c.in_ok-here.ensures (after.numbered inner) (after.line inner) after.depth)
          ∙ before.numbered u;
      line = λ u.
          let inner = (line-unbroken stmt old.line rest left is (before.unbroken u)).0 in
          ap (λ l. place.line + rows (written_lines 1 place.depth l)) following
          ∙ line-line depth at own here place.depth place.line stmt old.line rest left is c.own_depth-own.ensures c.in_ok-here.ensures (after.line inner) after.depth
          ∙ before.line u;
      depth = ap (λ l. depth_after place.depth (stmts_in l)) following
          ∙ line-depth depth own place.depth old.line stmt rest left is c.own_depth-own.ensures after.depth
          ∙ before.depth;
    }

pub number_lines-returns-clause-numbered : goal.number_lines-returns-clause-numbered
number_lines-returns-clause-numbered t c u =
    let lines = c.loop-i.lines in
    let i = c.loop-i.i in
    let place = c.loop-i.place in
    let over : length lines ≤ i = omega arith in
    sym (whole_lines lines)
    ∙ ap (λ ls. lines_before ls no_lines) (sym (take_all i lines over))
    ∙ ap (λ ls. lines_before (take i lines) (numbered_lines place.depth place.line (lines_of ls))) (sym (drop_all i lines over))
    ∙ c.loop-i.invariant.numbered u

pub number_arms-loop-i-preserved : goal.number_arms-loop-i-preserved
number_arms-loop-i-preserved t c =
    let arms = c.loop-i.arms in
    let i = c.loop-i.i in
    let within : i < length arms = omega arith in
    let old = get_or arms i c.index-arms-i.result in
    let rest = arms_of (drop (i + 1) arms) in
    let left = arms_of (drop i arms) in
    let is : left ≡ arm_before old rest = first_arm arms i c.index-arms-i.result within in
    let depth = c.loop-i.place.depth in
    let at = c.loop-i.place.line in
    let new = c.number_arm.new.arm in
    let place = c.in_ok-place.place in
    let after = c.in_ok-place.ensures in
    let before = c.loop-i.invariant in
    let following = arms-left arms i new in
    record {
      unvisited = (
        length-set arms i new ∙ before.unvisited.0,
        λ k d later.
            let other : k ≢ i = omega (arith, later) in
            get_or-set_other arms i k new d other ∙ before.unvisited.1 k d (omega (arith, later)),
      );
      unbroken = λ u. ap (λ l. are_unbroken (arm_stmts l)) following ∙ (arms-unbroken old rest left is (before.unbroken u)).1;
      numbered = λ u.
          let inner = (arms-unbroken old rest left is (before.unbroken u)).0 in
          one-arm arms i new (numbered_arms place.depth place.line (arms_of (drop (i + 1) (set arms i new)))) within
          ∙ ap (λ l. arms_before (take i arms) (arm_before new (numbered_arms place.depth place.line l))) following
          ∙ ap (arms_before (take i arms)) (after.numbered rest inner ∙ ap (numbered_arms depth at) (sym is))
          ∙ before.numbered u;
      line = λ u.
          let inner = (arms-unbroken old rest left is (before.unbroken u)).0 in
          ap (λ l. place.line + rows (written_arms 1 place.depth l)) following
          ∙ after.line rest inner ∙ ap (λ l. at + rows (written_arms 1 depth l)) (sym is)
          ∙ before.line u;
      depth = ap (λ l. depth_after place.depth (arm_stmts l)) following
          ∙ after.depth rest ∙ ap (λ l. depth_after depth (arm_stmts l)) (sym is)
          ∙ before.depth;
    }

pub number_arms-returns-clause-numbered : goal.number_arms-returns-clause-numbered
number_arms-returns-clause-numbered t c u =
    let arms = c.loop-i.arms in
    let i = c.loop-i.i in
    let place = c.loop-i.place in
    let over : length arms ≤ i = omega arith in
    sym (whole_arms arms)
    ∙ ap (λ ls. arms_before ls no_arms) (sym (take_all i arms over))
    ∙ ap (λ ls. arms_before (take i arms) (numbered_arms place.depth place.line (arms_of ls))) (sym (drop_all i arms over))
    ∙ c.loop-i.invariant.numbered u

-- Statements without blocks.

pub number_stmt-returns-in_ok-following-in_default : goal.number_stmt-returns-in_ok-following-in_default
number_stmt-returns-in_ok-following-in_default t c =
    let not = c.in_default in
    let stmt = stmt_of c.args.stmt in
    let none = no-block c.args.stmt (record { no_if = not.not-If; no_while = not.not-While; no_do_while = not.not-DoWhile; no_forever = not.not-Forever; no_switch = not.not-Switch }) in
    let following = c.in_ok-following-in_default.ensures in
    record {
      numbered = λ u. simple-same c.args.depth c.args.line stmt none;
      line = λ u. own-line c.args.depth c.args.line c.in_ok-following-in_default.following.line stmt none u following.line;
      depth = following.depth ∙ c.depth_after_simple-depth.ensures ∙ ap (λ l. depth_after c.args.depth (stmt ∷ l)) (sym (simple-inner stmt none));
    }
