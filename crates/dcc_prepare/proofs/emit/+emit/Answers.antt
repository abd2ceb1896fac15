use Rattle.std.proofs.Common.{◌≡◌, ◌-◌, List, [], ◌∷◌, ◌++◌, length, drop, None, string_bytes, refl, sym, ap, ◌∙◌, subst, arith}
use Rattle.std.specs.Prelude.{option_map, map, IfOk}
use Rattle.std.proofs.lemmas.List.{drop_all}
use Rattle.dcc_c.specs.declared.syntax.CExpr.{CExpr}
use Rattle.dcc_c.specs.declared.syntax.Line.{Line}
use Rattle.dcc_c.specs.declared.syntax.Arm.{Arm, out-Arm}
use Rattle.dcc_c.specs.Tree.{Word, Assign, Call, If, While, DoWhile, Forever, Switch, Break, Continue, Goto, Label, Empty, Return, no_lines, line, Arms, no_arms, arm}
use Rattle.dcc_c.specs.Run.{runs, tests, turns, ends_switch, from_label, from_label_in_arms, default_body, first_of, after_break, after_continue}
use Rattle.dcc_c.specs.Views.{expr_of, stmt_of, lines_of, arms_of, arms_if}
use Rattle.dcc_value.specs.Resolved.{Names}
use Rattle.dcc_prepare.specs.Points.{Goes, StandsIf, StandAll}
use Rattle.dcc_prepare.specs.declared.emit.Following.{Following}
use Rattle.dcc_prepare.specs.Emission.{Emits, EmitsArms, Leads}
use Rattle.dcc_prepare.proofs.PointLaws.{stay_push, stay_all, goes_stay, goes_alike}
use Rattle.dcc_prepare.proofs.EmissionLaws.{emits_none, emits_found, first_of-none, emits_after_ok, pushed_ok}
use Rattle.dcc_prepare.proofs.StatementLaws.{stmt_at, lines_step, leads_stay, leads_after, in_loop_leads, loop_test, stands_here, emits_push, goes_push, if_test, while_test, switch_test, loop_made, first_arm, arms_step}
use Rattle.dcc_c.proofs.RowLaws.{arm-parts, if-tree, while-tree, do_while-tree, forever-tree, switch-tree}
use Rattle.dcc_prepare.proofs.emit.+emit.Goals as goal

pub emit_stmt-returns-in-Assign : goal.emit_stmt-returns-in-Assign
emit_stmt-returns-in-Assign t c lines rest tree f is_open points context are leads =
    stmt_at tree f is_open points c.args.code.now c.emit_assign.new.code c.args.line lines rest c.emit_assign.result
    (Assign (expr_of c.in-Assign.place) (expr_of c.in-Assign.e)) (stmt_of c.args.stmt.now)
    (sym (ap stmt_of c.in-Assign.is))
    (c.emit_assign.ensures lines rest tree f is_open points context are leads.next)

pub emit_repeated-returns : goal.emit_repeated-returns
emit_repeated-returns t c rest tree f is_open points context are goes =
    let e = expr_of c.args.test.now.e.now in
    let body = lines_of c.args.body.now in
    let turn = tests e body c.args.test.now.line rest in
    (loop_made tree f is_open points c.args.code.now c.push.new.self c.emit_lines.new.code c.set.new.self
    (λ word. from_label word body turn) turn c.in_ok-turn.turn c.in_ok-yes.yes (runs body turn) _ _
    c.in_ok-turn.ensures.point are c.in_ok-turn.ensures.rows c.in_ok-turn.ensures.labels
    (λ opened own.
    let there = goes_stay tree points (points ++ turn ∷ []) c.args.next rest (stay_push points turn) goes in
    let one = c.in_ok-yes.ensures turn tree f _ (points ++ turn ∷ []) context opened (in_loop_leads tree (points ++ turn ∷ []) turn rest c.in_ok-turn.turn c.args.next c.in_loop.result c.in_loop.ensures refl refl own there) in (
      one,
      record {
        in_line = refl;
        acts = loop_test tree f one.grows.grown e body c.args.test.now.line rest c.in_ok-value.value c.in_ok-yes.yes c.args.next
            (stands_here _ _ _ _ context.names c.in_ok-value.ensures) one.goes
            (goes_stay tree (points ++ turn ∷ []) one.grows.grown c.args.next rest one.grows.stay there);
      },
    ))
    c.set.ensures.rows c.set.ensures.labels).0

pub emit_lines-loop-i-init : goal.emit_lines-loop-i-init
emit_lines-loop-i-init t c =
    let none : drop (length c.args.lines.now) c.args.lines.now ≡ [] = drop_all (length c.args.lines.now) c.args.lines.now (omega arith) in
    record {
      within = omega arith;
      on_break = refl;
      on_continue = refl;
      made = λ tree f is_open points rest context are leads.
          subst (λ ls. Emits tree f is_open points c.args.code.now c.args.code.now (λ word. from_label word (lines_of ls) rest) c.args.following.next (runs (lines_of ls) rest)) (sym none)
          (emits_none tree f is_open points c.args.code.now c.args.following.next (runs no_lines rest) are
          (record { own = leads.next.own; here = leads.next.here; alike = leads.next.alike; in_line = leads.next.in_line }));
    }

pub emit_lines-loop-i-preserved : goal.emit_lines-loop-i-preserved
emit_lines-loop-i-preserved t c = record {
  within = omega arith;
  on_break = c.loop-i.invariant.on_break;
  on_continue = c.loop-i.invariant.on_continue;
  made = λ tree f is_open points rest context are leads.
      let lines = c.args.lines.now in
      let left = lines_of (drop c.loop-i.i lines) in
      let had = c.loop-i.invariant.made tree f is_open points rest context are leads in
      lines_step tree f is_open points c.args.code.now c.loop-i.code c.emit_stmt.new.code lines (c.loop-i.i - 1) c.loop-i.i
      c.index-lines-i.result c.in_ok-following.field-0 c.loop-i.following.next rest (omega arith) (omega arith) c.index-lines-i.is had
      (c.in_ok-following.ensures left rest tree f is_open had.grows.grown context had.grows.rows
      (leads_after tree had.grows.grown c.args.following c.loop-i.following left rest c.loop-i.invariant.on_break c.loop-i.invariant.on_continue
      (leads_stay tree points had.grows.grown c.args.following rest had.grows.stay leads) had.goes));
}

pub emit_lines-returns : goal.emit_lines-returns
emit_lines-returns t c rest tree f is_open points context are leads =
    let none : c.loop-i.i ≡ 0 = omega arith in
    subst (λ n. Emits tree f is_open points c.args.code.now c.loop-i.code (λ word. from_label word (lines_of (drop n c.args.lines.now)) rest) c.loop-i.following.next (runs (lines_of (drop n c.args.lines.now)) rest)) none
    (c.loop-i.invariant.made tree f is_open points rest context are leads)

pub emit_stmt-returns-in_ok-row-in-Call : goal.emit_stmt-returns-in_ok-row-in-Call
emit_stmt-returns-in_ok-row-in-Call t c lines rest tree f is_open points context are leads =
    let row = c.in_ok-row-in-Call.row in
    let made = c.in_ok-row-in-Call.ensures in
    let place = option_map expr_of c.in-Call.place in
    let arguments = map expr_of c.deref.result.now in
    let word = c.as_str-name.result.now in
    let st = Call place word arguments row.depth in
    let own = runs (line st c.args.line lines) rest in
    let named =
    ap (λ d. Call place word arguments d) made.depth
    ∙ ap (λ (w : Word). Call place w arguments c.in-Call.depth) c.as_str-name.ensures.value
    ∙ ap (λ (es : List CExpr). Call place (string_bytes c.in-Call.function) (map expr_of es) c.in-Call.depth) c.deref.ensures.value
    ∙ sym (ap stmt_of c.in-Call.is) in
    stmt_at tree f is_open points c.args.code.now c.push.new.self c.args.line lines rest c.push.result st (stmt_of c.args.stmt.now) named
    (pushed_ok tree f is_open points c.args.code.now c.push.new.self own c.args.line _ c.push.result are
    (record {
      in_line = refl;
      acts = record {
        to = runs lines rest;
        place = place;
        word = word;
        arguments = arguments;
        place_stands = subst (λ (n : Names). StandsIf n place row.place) context.names made.place;
        callee = made.callee tree context.functions;
        stand = subst (λ (n : Names). StandAll n arguments row.arguments.items) context.names made.arguments;
        goes = subst (λ n. Goes tree (points ++ own ∷ []) n (runs lines rest)) (sym made.next)
            (goes_stay tree points (points ++ own ∷ []) c.args.following.next (runs lines rest) (stay_push points own) leads.next);
        does = λ s. refl;
      };
    })
    c.push.ensures.point c.push.ensures.rows c.push.ensures.labels)

pub emit_stmt-returns-in_ok-no-in-If : goal.emit_stmt-returns-in_ok-no-in-If
emit_stmt-returns-in_ok-no-in-If t c lines rest tree f is_open points context are leads =
    let e = expr_of c.in-If.e in
    let body = lines_of c.deref-in-If-2.result.now in
    let otherwise = lines_of c.deref-in-If.result.now in
    let st = If e body otherwise in
    let own = runs (line st c.args.line lines) rest in
    let following = runs lines rest in
    let named =
    ap (λ (ls : List Line). If e (lines_of ls) otherwise) c.deref-in-If-2.ensures.value
    ∙ ap (λ (ls : List Line). If e (lines_of c.in-If.body.items) (lines_of ls)) c.deref-in-If.ensures.value
    ∙ sym (if-tree c.in-If.e c.in-If.body c.in-If.otherwise)
    ∙ sym (ap stmt_of c.in-If.is) in
    let first = c.in_ok-no-in-If.ensures following tree f is_open points context are leads in
    stmt_at tree f is_open points c.args.code.now c.emit_if.new.code c.args.line lines rest c.emit_if.result st (stmt_of c.args.stmt.now) named
    (emits_after_ok tree f is_open points c.args.code.now c.emit_lines.new.code c.emit_if.new.code
    (λ word. from_label word otherwise following) (λ word. from_label word body following) c.emit_if.result own first.grows
    (c.emit_if.ensures otherwise lines rest tree f is_open first.grows.grown context first.grows.rows
    (leads_stay tree points first.grows.grown c.args.following following first.grows.stay leads, first.goes)))

pub emit_if-returns : goal.emit_if-returns
emit_if-returns t c otherwise lines rest tree f is_open points context are leads =
    let e = expr_of c.args.test.now.e.now in
    let body = lines_of c.args.body.now in
    let own = runs (line (If e body otherwise) c.args.test.now.line lines) rest in
    let following = runs lines rest in
    let one = c.in_ok-yes.ensures following tree f is_open points context are leads.0 in
    let grown = one.grows.grown in
    emits_push tree f is_open points c.args.code.now c.emit_lines.new.code c.push.new.self _ own c.args.test.now.line _ c.push.result one.grows
    (record {
      in_line = refl;
      acts = if_test tree f (grown ++ own ∷ []) e body otherwise lines c.args.test.now.line rest c.in_ok-value.value c.in_ok-yes.yes c.args.no
          (stands_here _ _ _ _ context.names c.in_ok-value.ensures)
          (goes_push tree grown grown own c.in_ok-yes.yes (runs body following) (stay_all grown) one.goes)
          (goes_push tree points grown own c.args.no (runs otherwise following) one.grows.stay leads.1);
    })
    c.push.ensures.point c.push.ensures.rows c.push.ensures.labels

pub emit_stmt-returns-in-While : goal.emit_stmt-returns-in-While
emit_stmt-returns-in-While t c lines rest tree f is_open points context are leads =
    let e = expr_of c.in-While.e in
    let body = lines_of c.deref-in-While.result.now in
    let named =
    ap (λ (ls : List Line). While e (lines_of ls)) c.deref-in-While.ensures.value
    ∙ sym (while-tree c.in-While.e c.in-While.body)
    ∙ sym (ap stmt_of c.in-While.is) in
    stmt_at tree f is_open points c.args.code.now c.emit_loop.new.code c.args.line lines rest c.emit_loop.result (While e body) (stmt_of c.args.stmt.now) named
    (c.emit_loop.ensures lines rest tree f is_open points context are leads.next)

pub emit_stmt-returns-in-DoWhile : goal.emit_stmt-returns-in-DoWhile
emit_stmt-returns-in-DoWhile t c lines rest tree f is_open points context are leads =
    let e = expr_of c.in-DoWhile.e in
    let body = lines_of c.deref-in-DoWhile.result.now in
    let named =
    ap (λ (ls : List Line). DoWhile (lines_of ls) e) c.deref-in-DoWhile.ensures.value
    ∙ sym (do_while-tree c.in-DoWhile.e c.in-DoWhile.body)
    ∙ sym (ap stmt_of c.in-DoWhile.is) in
    stmt_at tree f is_open points c.args.code.now c.emit_loop-in-DoWhile.new.code c.args.line lines rest c.emit_loop-in-DoWhile.result (DoWhile body e) (stmt_of c.args.stmt.now) named
    (c.emit_loop-in-DoWhile.ensures lines rest tree f is_open points context are leads.next)

-- a `while`, whose test is its first point
pub emit_loop-returns-in_ok-value : goal.emit_loop-returns-in_ok-value
emit_loop-returns-in_ok-value t c lines rest tree f is_open points context are goes =
    let e = expr_of c.args.test.now.e.now in
    let body = lines_of c.args.body.now in
    let own = runs (line (While e body) c.args.test.now.line lines) rest in
    let following = runs lines rest in
    let one = c.in_ok-yes.ensures following tree f is_open points context are goes in
    let grown = one.grows.grown in
    rw c.if-tests_first.true
    (emits_push tree f is_open points c.args.code.now c.emit_repeated.new.code c.push.new.self _ own c.args.test.now.line _ c.push.result one.grows
    (record {
      in_line = refl;
      acts = while_test tree f (grown ++ own ∷ []) e body lines c.args.test.now.line rest c.in_ok-value.value c.in_ok-yes.yes c.args.next
          (stands_here _ _ _ _ context.names c.in_ok-value.ensures)
          (goes_push tree grown grown own c.in_ok-yes.yes (runs body (tests e body c.args.test.now.line following)) (stay_all grown) one.goes)
          (goes_push tree points grown own c.args.next following one.grows.stay goes);
    })
    c.push.ensures.point c.push.ensures.rows c.push.ensures.labels)

-- a `do`, which passes to its body
pub emit_loop-returns-else-tests_first : goal.emit_loop-returns-else-tests_first
emit_loop-returns-else-tests_first t c lines rest tree f is_open points context are goes =
    let e = expr_of c.args.test.now.e.now in
    let body = lines_of c.args.body.now in
    let own = runs (line (DoWhile body e) c.args.test.now.line lines) rest in
    let following = runs lines rest in
    let one = c.in_ok-yes.ensures following tree f is_open points context are goes in
    let grown = one.grows.grown in
    rw c.if-tests_first.false
    (emits_push tree f is_open points c.args.code.now c.emit_repeated.new.code c.push-else-tests_first.new.self _ own c.args.test.now.line _ c.push-else-tests_first.result one.grows
    (record {
      in_line = refl;
      acts = record {
        to = runs body (tests e body c.args.test.now.line following);
        goes = goes_push tree grown grown own c.in_ok-yes.yes (runs body (tests e body c.args.test.now.line following)) (stay_all grown) one.goes;
        does = λ s. refl;
      };
    })
    c.push-else-tests_first.ensures.point c.push-else-tests_first.ensures.rows c.push-else-tests_first.ensures.labels)

pub emit_stmt-returns-in-Forever : goal.emit_stmt-returns-in-Forever
emit_stmt-returns-in-Forever t c lines rest tree f is_open points context are leads =
    let body = lines_of c.deref-in-Forever.result.now in
    let st = Forever body in
    let own = runs (line st c.args.line lines) rest in
    let following = runs lines rest in
    let named =
    ap (λ (ls : List Line). Forever (lines_of ls)) c.deref-in-Forever.ensures.value
    ∙ sym (forever-tree c.in-Forever.body)
    ∙ sym (ap stmt_of c.in-Forever.is) in
    stmt_at tree f is_open points c.args.code.now c.emit_forever.new.code c.args.line lines rest c.emit_forever.result st (stmt_of c.args.stmt.now) named
    (c.emit_forever.ensures lines rest tree f is_open points context are leads.next)

pub emit_stmt-returns-in_ok-otherwise-in-Switch : goal.emit_stmt-returns-in_ok-otherwise-in-Switch
emit_stmt-returns-in_ok-otherwise-in-Switch t c lines rest tree f is_open points context are leads =
    let e = expr_of c.in-Switch.e in
    let arms = arms_of c.deref-in-Switch.result.now in
    let last = arms_if c.in-Switch.last in
    let st = Switch e arms last in
    let own = runs (line st c.args.line lines) rest in
    let inside = ends_switch (runs lines rest) in
    let named =
    ap (λ (xs : List Arm). Switch e (arms_of xs) last) c.deref-in-Switch.ensures.value
    ∙ sym (switch-tree c.in-Switch.e c.in-Switch.arms c.in-Switch.last)
    ∙ sym (ap stmt_of c.in-Switch.is) in
    let leads_inside : Leads tree points c.inside_switch-inside.result inside =
    subst (λ (b : Following). Leads tree points b inside) (sym c.inside_switch-inside.ensures)
    (record { next = goes_alike tree points c.args.following.next (runs lines rest) inside (λ s. refl) (λ number is. is) leads.next; on_break = leads.next; on_continue = leads.on_continue }) in
    let first = c.in_ok-otherwise-in-Switch.ensures inside tree f is_open points context are leads_inside in
    stmt_at tree f is_open points c.args.code.now c.emit_switch.new.code c.args.line lines rest c.emit_switch.result st (stmt_of c.args.stmt.now) named
    (emits_after_ok tree f is_open points c.args.code.now c.emit_default.new.code c.emit_switch.new.code
    (λ word. from_label_in_arms word last inside) (λ word. from_label_in_arms word arms inside) c.emit_switch.result own first.grows
    (c.emit_switch.ensures last lines rest tree f is_open first.grows.grown context first.grows.rows
    (leads_stay tree points first.grows.grown c.inside_switch-inside.result inside first.grows.stay leads_inside, first.goes)))

pub emit_switch-returns : goal.emit_switch-returns
emit_switch-returns t c last lines rest tree f is_open points context are leads =
    let e = expr_of c.args.test.now.e.now in
    let arms = arms_of c.args.arms.now in
    let own = runs (line (Switch e arms last) c.args.test.now.line lines) rest in
    let inside = ends_switch (runs lines rest) in
    let one = c.in_ok-cases.ensures tree f is_open points inside context are leads.0 in
    let grown = one.grows.grown in
    emits_push tree f is_open points c.args.code.now c.emit_arms.new.code c.push.new.self _ own c.args.test.now.line _ c.push.result one.grows
    (record {
      in_line = refl;
      acts = switch_test tree f (grown ++ own ∷ []) e arms last lines c.args.test.now.line rest c.in_ok-value.value c.in_ok-cases.cases.items c.args.otherwise
          (stands_here _ _ _ _ context.names c.in_ok-value.ensures)
          (λ n. one.goes (grown ++ own ∷ []) n c.args.otherwise (default_body last) (stay_push grown own)
          (goes_push tree points grown own c.args.otherwise (runs (default_body last) inside) one.grows.stay leads.1));
    })
    c.push.ensures.point c.push.ensures.rows c.push.ensures.labels

pub emit_stmt-returns-in-Break : goal.emit_stmt-returns-in-Break
emit_stmt-returns-in-Break t c lines rest tree f is_open points context are leads =
    let own = runs (line Break c.args.line lines) rest in
    stmt_at tree f is_open points c.args.code.now c.emit_jump.new.code c.args.line lines rest c.emit_jump.result Break (stmt_of c.args.stmt.now)
    (sym (ap stmt_of c.in-Break.is))
    (c.emit_jump.ensures tree f is_open points own (runs lines rest) (after_break rest) are refl leads.on_break (λ s. refl))

pub emit_stmt-returns-in-Continue : goal.emit_stmt-returns-in-Continue
emit_stmt-returns-in-Continue t c lines rest tree f is_open points context are leads =
    let own = runs (line Continue c.args.line lines) rest in
    stmt_at tree f is_open points c.args.code.now c.emit_jump-in-Continue.new.code c.args.line lines rest c.emit_jump-in-Continue.result Continue (stmt_of c.args.stmt.now)
    (sym (ap stmt_of c.in-Continue.is))
    (c.emit_jump-in-Continue.ensures tree f is_open points own (runs lines rest) (after_continue rest) are refl leads.on_continue (λ s. refl))

pub emit_stmt-returns-in-Goto : goal.emit_stmt-returns-in-Goto
emit_stmt-returns-in-Goto t c lines rest tree f is_open points context are leads =
    stmt_at tree f is_open points c.args.code.now c.emit_goto.new.code c.args.line lines rest c.emit_goto.result
    (Goto c.as_str.result.now) (stmt_of c.args.stmt.now)
    (ap Goto c.as_str.ensures.value ∙ sym (ap stmt_of c.in-Goto.is))
    (c.emit_goto.ensures tree f is_open points lines rest are tt)

pub emit_stmt-returns-in-Label : goal.emit_stmt-returns-in-Label
emit_stmt-returns-in-Label t c lines rest tree f is_open points context are leads =
    stmt_at tree f is_open points c.args.code.now c.emit_label.new.code c.args.line lines rest c.emit_label.result
    (Label c.as_str-in-Label.result.now) (stmt_of c.args.stmt.now)
    (ap Label c.as_str-in-Label.ensures.value ∙ sym (ap stmt_of c.in-Label.is))
    (c.emit_label.ensures tree f is_open points lines rest are leads.next)

pub emit_stmt-returns-in-Empty : goal.emit_stmt-returns-in-Empty
emit_stmt-returns-in-Empty t c lines rest tree f is_open points context are leads =
    let own = runs (line Empty c.args.line lines) rest in
    stmt_at tree f is_open points c.args.code.now c.push-in-Empty.new.self c.args.line lines rest c.push-in-Empty.result Empty (stmt_of c.args.stmt.now)
    (sym (ap stmt_of c.in-Empty.is))
    (pushed_ok tree f is_open points c.args.code.now c.push-in-Empty.new.self own c.args.line _ c.push-in-Empty.result are
    (record {
      in_line = refl;
      acts = record {
        to = runs lines rest;
        goes = goes_stay tree points (points ++ own ∷ []) c.args.following.next (runs lines rest) (stay_push points own) leads.next;
        does = λ s. refl;
      };
    })
    c.push-in-Empty.ensures.point c.push-in-Empty.ensures.rows c.push-in-Empty.ensures.labels)

pub emit_stmt-returns-in-Return : goal.emit_stmt-returns-in-Return
emit_stmt-returns-in-Return t c lines rest tree f is_open points context are leads =
    stmt_at tree f is_open points c.args.code.now c.emit_return.new.code c.args.line lines rest c.emit_return.result
    (Return (option_map expr_of c.in-Return.e)) (stmt_of c.args.stmt.now)
    (sym (ap stmt_of c.in-Return.is))
    (c.emit_return.ensures tree f is_open points lines rest context are)

pub emit_forever-returns : goal.emit_forever-returns
emit_forever-returns t c lines rest tree f is_open points context are goes =
    let body = lines_of c.args.body.now in
    let following = runs lines rest in
    let turn = turns body following in
    let own = runs (line (Forever body) c.args.line lines) rest in
    let all = loop_made tree f is_open points c.args.code.now c.push.new.self c.emit_lines.new.code c.set.new.self
    (λ word. from_label word body turn) own c.in_ok-turn.turn c.in_ok-first.first (runs body turn) _ _
    c.in_ok-turn.ensures.point are c.in_ok-turn.ensures.rows c.in_ok-turn.ensures.labels
    (λ opened here.
    let there = goes_stay tree points (points ++ own ∷ []) c.args.next following (stay_push points own) goes in
    let again = goes_alike tree (points ++ own ∷ []) c.in_ok-turn.turn own turn (λ s. refl) (λ number is. tt) here in
    let one = c.in_ok-first.ensures turn tree f _ (points ++ own ∷ []) context opened (in_loop_leads tree (points ++ own ∷ []) turn following c.in_ok-turn.turn c.args.next c.in_loop.result c.in_loop.ensures refl refl again there) in
    (one, record { in_line = refl; acts = record { to = runs body turn; goes = one.goes; does = λ s. refl } }))
    c.set.ensures.rows c.set.ensures.labels in
    record { grows = all.0.grows; goes = all.1 }

pub emit_default-returns-in-Some : goal.emit_default-returns-in-Some
emit_default-returns-in-Some t c rest tree f is_open points context are leads =
    let body = lines_of c.deref.result.now in
    let named =
    ap (λ (ls : List Line). arm (out-Arm c.in-Some.arm).cases.items (lines_of ls) no_arms) c.deref.ensures.value
    ∙ sym (arm-parts c.in-Some.arm no_arms)
    ∙ ap arms_if (sym c.in-Some.is) in
    subst (λ (a : Arms). IfOk c.emit_lines.result (λ at. Emits tree f is_open points c.args.code.now c.emit_lines.new.code (λ word. from_label_in_arms word a rest) at (runs (default_body a) rest))) named
    (emits_found tree f is_open points c.args.code.now c.emit_lines.new.code (λ word. from_label word body rest) (λ word. first_of (from_label word body rest) None) c.emit_lines.result (runs body rest)
    (λ word. first_of-none (from_label word body rest))
    (c.emit_lines.ensures rest tree f is_open points context are leads))

pub emit_default-returns-in-None : goal.emit_default-returns-in-None
emit_default-returns-in-None t c rest tree f is_open points context are leads =
    subst (λ (a : Arms). Emits tree f is_open points c.args.code.now c.args.code.now (λ word. from_label_in_arms word a rest) c.args.following.next (runs (default_body a) rest))
    (ap arms_if (sym c.in-None.is))
    (emits_none tree f is_open points c.args.code.now c.args.following.next (runs no_lines rest) are
    (record { own = leads.next.own; here = leads.next.here; alike = leads.next.alike; in_line = leads.next.in_line }))

pub emit_arms-loop-i-preserved : goal.emit_arms-loop-i-preserved
emit_arms-loop-i-preserved t c = record {
  within = omega arith;
  made = λ tree f is_open points rest context are leads.
      let arms = c.args.arms.now in
      let item = c.index-arms-i.result in
      let left = arms_of (drop c.loop-i.i arms) in
      let body = lines_of c.deref.result.now in
      let values = (out-Arm item).cases.items in
      let had = c.loop-i.invariant.made tree f is_open points rest context are leads in
      let named : arms_of (drop (c.loop-i.i - 1) arms) ≡ arm values body left =
      first_arm arms (c.loop-i.i - 1) c.loop-i.i item (omega arith) (omega arith) c.index-arms-i.is
      ∙ ap (λ (ls : List Line). arm values (lines_of ls) left) (sym c.deref.ensures.value) in
      arms_step tree f is_open points c.args.code.now c.loop-i.code c.emit_lines.new.code (arms_of (drop (c.loop-i.i - 1) arms)) values body left
      c.loop-i.cases.items c.push.new.self.items _ c.in_ok-point.point rest named
      (c.in_ok-values.ensures.items_if_clones_equal (λ x y same. same) ∙ c.deref-in-loop-i.ensures.value)
      refl c.in_ok-push.ensures.items had
      (c.in_ok-point.ensures rest tree f is_open had.grows.grown context had.grows.rows
      (leads_stay tree points had.grows.grown c.args.following rest had.grows.stay leads));
}

pub emit_arms-returns : goal.emit_arms-returns
emit_arms-returns t c tree f is_open points rest context are leads =
    let none : c.loop-i.i ≡ 0 = omega arith in
    subst (λ n. EmitsArms tree f is_open points c.args.code.now c.loop-i.code (λ word. from_label_in_arms word (arms_of (drop n c.args.arms.now)) rest) c.loop-i.cases.items (arms_of (drop n c.args.arms.now)) rest) none
    (c.loop-i.invariant.made tree f is_open points rest context are leads)
