use Rattle.std.proofs.Common.{◌≡◌, ◌+◌, ◌<◌, ◌≤◌, true, false, Some, None, sym, ap, ◌∙◌, arith}
use Rattle.std.specs.Prelude.{codes}
use Rattle.dcc_c.specs.Grammar as grammar
use Rattle.dcc_c.specs.Partial as partial
use Rattle.dcc_c.specs.Reading as reading
use Rattle.dcc_reader.specs.PartialViews.{expr_of}
use Rattle.dcc_read.specs.ExpressionViews.{inside_of, strong_enough}
use Rattle.dcc_reader.specs.ReaderViews.{reader_of}
use Rattle.dcc_read.proofs.expression.+expression.Goals as goal
use Rattle.dcc_read.proofs.ExpressionSteps as steps
use Rattle.dcc_read.proofs.ExpressionSteps.{both, along, made, not-some}

pub measured_unary-returns-in-Some-unary_of : goal.measured_unary-returns-in-Some-unary_of
measured_unary-returns-in-Some-unary_of t c =
    let is : c.args.calls ≡ c.in-Some.calls + 1 = omega (arith, c.in-Some.ensures) in
    let shallow : c.args.inside.operators < 200 = omega (arith, c.if-inside-ge-MOST.false) in
    let sees : reading.unary_of (reading.next_token (reader_of c.args.r.now)) ≡ Some c.in-Some-unary_of.operator =
    sym (c.in-Some-unary_of.ensures ∙ ap reading.unary_of c.next.ensures) in
    let a = reading.got (expr_of c.in_ok-operand.operand.expr) (reader_of c.measured_unary.new.r) in
    let inner : a ≡ reading.read_unary c.in-Some.calls (reading.in_operator (inside_of c.args.inside)) (reading.skip (reader_of c.args.r.now)) =
    c.in_ok-operand.ensures ∙ both (reading.read_unary c.in-Some.calls) c.in_operator.ensures c.skip.ensures in
    made c.unary_at.result (reader_of c.measured_unary.new.r)
    (partial.UnaryHere c.args.r.now.left.at c.in-Some-unary_of.operator (expr_of c.in_ok-operand.operand.expr))
    (reading.read_unary c.args.calls (inside_of c.args.inside) (reader_of c.args.r.now))
    c.unary_at.ensures
    (steps.unary-operator c.args.calls c.in-Some.calls (inside_of c.args.inside) (reader_of c.args.r.now) c.in-Some-unary_of.operator a is shallow sees inner)

pub measured_unary-returns-then-sees_mark : goal.measured_unary-returns-then-sees_mark
measured_unary-returns-then-sees_mark t c =
    let is : c.args.calls ≡ c.in-Some.calls + 1 = omega (arith, c.in-Some.ensures) in
    let shallow : c.args.inside.operators < 200 = omega (arith, c.if-inside-ge-MOST.false) in
    let sees : reading.unary_of (reading.next_token (reader_of c.args.r.now)) ≡ None =
    sym (ap reading.unary_of c.next.ensures) ∙ sym c.unary_of.ensures ∙ not-some c.unary_of.result c.in_default-unary_of.not-Some in
    along c.read_parentheses.result (reader_of c.read_parentheses.new.r)
    (reading.read_parentheses c.in-Some.calls (inside_of c.args.inside) c.args.r.now.left.at (reader_of c.skip-then-sees_mark.new.self))
    (reading.read_unary c.args.calls (inside_of c.args.inside) (reader_of c.args.r.now))
    c.read_parentheses.ensures
    (ap (reading.read_parentheses c.in-Some.calls (inside_of c.args.inside) c.args.r.now.left.at) c.skip-then-sees_mark.ensures
    ∙ steps.unary-parentheses c.args.calls c.in-Some.calls (inside_of c.args.inside) (reader_of c.args.r.now) is shallow sees (sym c.if-sees_mark.ensures))

pub measured_unary-returns : goal.measured_unary-returns
measured_unary-returns t c =
    let is : c.args.calls ≡ c.in-Some.calls + 1 = omega (arith, c.in-Some.ensures) in
    let shallow : c.args.inside.operators < 200 = omega (arith, c.if-inside-ge-MOST.false) in
    let sees : reading.unary_of (reading.next_token (reader_of c.args.r.now)) ≡ None =
    sym (ap reading.unary_of c.next.ensures) ∙ sym c.unary_of.ensures ∙ not-some c.unary_of.result c.in_default-unary_of.not-Some in
    c.read_leaf.ensures
    ∙ steps.unary-leaf c.args.calls c.in-Some.calls (inside_of c.args.inside) (reader_of c.args.r.now) is shallow sees (sym c.if-sees_mark.ensures)

pub read_parentheses-returns-then-sees_type : goal.read_parentheses-returns-then-sees_type
read_parentheses-returns-then-sees_type t c =
    let is : c.args.calls ≡ c.in-Some.calls + 1 = omega (arith, c.in-Some.ensures) in
    let here = reading.stop_if_enclosed (reading.in_parentheses (inside_of c.args.inside)) (reader_of c.args.r.now) in
    let enclosed : reader_of c.stop_if_enclosed.new.r ≡ here =
    c.stop_if_enclosed.ensures ∙ ap (λ i. reading.stop_if_enclosed i (reader_of c.args.r.now)) c.in_parentheses-content.ensures in
    let begins : reading.begins_type (reading.next_token here) ≡ true =
    sym (c.if-sees_type.ensures ∙ ap (λ r. reading.begins_type (reading.next_token r)) enclosed) in
    along c.read_cast.result (reader_of c.read_cast.new.r)
    (reading.read_cast c.in-Some.calls (inside_of c.args.inside) c.args.at (reading.got c.take_type-ty.result (reader_of c.take_type-ty.new.self)))
    (reading.read_parentheses c.args.calls (inside_of c.args.inside) c.args.at (reader_of c.args.r.now))
    c.read_cast.ensures
    (ap (reading.read_cast c.in-Some.calls (inside_of c.args.inside) c.args.at) (c.take_type-ty.ensures ∙ ap reading.take_type enclosed)
    ∙ steps.parentheses-cast c.args.calls c.in-Some.calls (inside_of c.args.inside) c.args.at (reader_of c.args.r.now) is begins)

pub read_parentheses-returns : goal.read_parentheses-returns
read_parentheses-returns t c =
    let is : c.args.calls ≡ c.in-Some.calls + 1 = omega (arith, c.in-Some.ensures) in
    let here = reading.stop_if_enclosed (reading.in_parentheses (inside_of c.args.inside)) (reader_of c.args.r.now) in
    let enclosed : reader_of c.stop_if_enclosed.new.r ≡ here =
    c.stop_if_enclosed.ensures ∙ ap (λ i. reading.stop_if_enclosed i (reader_of c.args.r.now)) c.in_parentheses-content.ensures in
    let begins : reading.begins_type (reading.next_token here) ≡ false =
    sym (c.if-sees_type.ensures ∙ ap (λ r. reading.begins_type (reading.next_token r)) enclosed) in
    let a = reading.got (expr_of c.in_ok-whole.whole.expr) (reader_of c.measured_expr.new.r) in
    let inner : a ≡ reading.read_expr c.in-Some.calls (reading.in_parentheses (inside_of c.args.inside)) here =
    c.in_ok-whole.ensures ∙ both (reading.read_expr c.in-Some.calls) c.in_parentheses-content.ensures enclosed in
    ap (reading.got (expr_of c.in_ok-whole.whole.expr)) c.take_mark.ensures
    ∙ steps.parentheses-closed c.args.calls c.in-Some.calls (inside_of c.args.inside) c.args.at (reader_of c.args.r.now) a is begins inner

pub read_cast-returns : goal.read_cast-returns
read_cast-returns t c =
    let is : c.args.calls ≡ c.in-Some.calls + 1 = omega (arith, c.in-Some.ensures) in
    let a = reading.got (expr_of c.in_ok-operand.operand.expr) (reader_of c.measured_unary.new.r) in
    let inner : a ≡ reading.read_unary c.in-Some.calls (reading.in_operator (inside_of c.args.inside)) (reading.take_mark (codes ")") (reader_of c.args.r.now)) =
    c.in_ok-operand.ensures ∙ both (reading.read_unary c.in-Some.calls) c.in_operator.ensures c.take_mark.ensures in
    made c.cast_at.result (reader_of c.measured_unary.new.r)
    (partial.CastHere c.args.at c.in-Some-ty.ty (expr_of c.in_ok-operand.operand.expr))
    (reading.read_cast c.args.calls (inside_of c.args.inside) c.args.at (reading.got c.args.ty (reader_of c.args.r.now)))
    c.cast_at.ensures
    (steps.cast-some c.args.calls c.in-Some.calls (inside_of c.args.inside) c.args.at c.in-Some-ty.ty (reader_of c.args.r.now) a is inner
    ∙ ap (λ ty. reading.read_cast c.args.calls (inside_of c.args.inside) c.args.at (reading.got ty (reader_of c.args.r.now))) (sym c.in-Some-ty.is))

pub read_binary-returns : goal.read_binary-returns
read_binary-returns t c =
    let is : c.args.calls ≡ c.in-Some.calls + 1 = omega (arith, c.in-Some.ensures) in
    let a = reading.got (expr_of c.in_ok-first.first.expr) (reader_of c.measured_unary.new.r) in
    along c.read_more.result (reader_of c.read_more.new.r)
    (reading.read_more c.in-Some.calls (inside_of c.args.inside) c.args.weakest a)
    (reading.read_binary c.args.calls (inside_of c.args.inside) c.args.weakest (reader_of c.args.r.now))
    c.read_more.ensures
    (steps.binary-first c.args.calls c.in-Some.calls (inside_of c.args.inside) c.args.weakest (reader_of c.args.r.now) a is c.in_ok-first.ensures)

pub read_more-loop-fewer-preserved : goal.read_more-loop-fewer-preserved
read_more-loop-fewer-preserved t c =
    let is : c.loop-fewer.calls ≡ c.in-Some.fewer + 1 = omega (arith, c.in-Some.ensures) in
    let few : c.in-Some.fewer ≤ c.args.calls = omega (arith, c.loop-fewer.invariant.few) in
    let inside = inside_of c.args.inside in
    let operator = c.in-Some-operator_of.operator in
    let left = reading.got (expr_of c.loop-fewer.left.expr) (reader_of c.loop-fewer.r) in
    let right = reading.got (expr_of c.in_ok-right.right.expr) (reader_of c.read_binary.new.r) in
    let read : right ≡ reading.read_binary c.in-Some.fewer (reading.in_operator inside) (grammar.strength operator + 1) (reading.skip left.following) =
    c.in_ok-right.ensures
    ∙ both (λ i s. reading.read_binary c.in-Some.fewer i (s + 1) (reader_of c.skip.new.self)) c.in_operator.ensures c.strength.ensures
    ∙ ap (reading.read_binary c.in-Some.fewer (reading.in_operator inside) (grammar.strength operator + 1)) c.skip.ensures in
    let joined : reading.got (expr_of c.in_ok-left.left.expr) (reader_of c.stop_if_deep.new.r)
    ≡ reading.joined inside operator left.value right =
    ap (reading.got (expr_of c.in_ok-left.left.expr)) c.stop_if_deep.ensures
    ∙ ap (λ w. reading.got w (reading.stop_if_deep inside w (reader_of c.read_binary.new.r))) c.in_ok-left.ensures in
    record {
      same = ap (reading.read_more c.in-Some.fewer inside c.args.weakest) joined
          ∙ steps.more-joins c.loop-fewer.calls c.in-Some.fewer inside c.args.weakest left operator right is c.in-Some-operator_of.ensures read
          ∙ c.loop-fewer.invariant.same;
      few = few;
    }

pub read_more-returns-in_default-operator_of : goal.read_more-returns-in_default-operator_of
read_more-returns-in_default-operator_of t c =
    let is : c.loop-fewer.calls ≡ c.in-Some.fewer + 1 = omega (arith, c.in-Some.ensures) in
    let left = reading.got (expr_of c.loop-fewer.left.expr) (reader_of c.loop-fewer.r) in
    let ends : None ≡ strong_enough c.args.weakest (reading.binary_of (reading.next_token left.following)) =
    sym (not-some c.operator_of.result c.in_default-operator_of.not-Some) ∙ c.operator_of.ensures in
    steps.more-ends c.loop-fewer.calls c.in-Some.fewer (inside_of c.args.inside) c.args.weakest
    (reading.got (expr_of c.loop-fewer.left.expr) (reader_of c.loop-fewer.r)) is ends
    ∙ c.loop-fewer.invariant.same

pub measured_expr-returns : goal.measured_expr-returns
measured_expr-returns t c =
    let is : c.args.calls ≡ c.in-Some.calls + 1 = omega (arith, c.in-Some.ensures) in
    let a = reading.got (expr_of c.in_ok-test.test.expr) (reader_of c.read_binary.new.r) in
    along c.read_rest.result (reader_of c.read_rest.new.r)
    (reading.read_rest c.in-Some.calls (inside_of c.args.inside) a)
    (reading.read_expr c.args.calls (inside_of c.args.inside) (reader_of c.args.r.now))
    c.read_rest.ensures
    (steps.expr-test c.args.calls c.in-Some.calls (inside_of c.args.inside) (reader_of c.args.r.now) a is c.in_ok-test.ensures)

pub read_rest-returns : goal.read_rest-returns
read_rest-returns t c =
    let is : c.args.calls ≡ c.in-Some.calls + 1 = omega (arith, c.in-Some.ensures) in
    let inside = inside_of c.args.inside in
    let test = reading.got (expr_of c.args.test.expr) (reader_of c.args.r.now) in
    let first = reading.got (expr_of c.in_ok-first.first.expr) (reader_of c.measured_expr.new.r) in
    let second = reading.got (expr_of c.in_ok-second.second.expr) (reader_of c.measured_expr-2.new.r) in
    let sees : reading.sees_mark (codes "?") test.following ≡ true = sym c.sees_mark.ensures ∙ c.if-not-sees_mark.false in
    let first_is : first ≡ reading.read_expr c.in-Some.calls (reading.in_operator inside) (reading.skip test.following) =
    c.in_ok-first.ensures ∙ both (reading.read_expr c.in-Some.calls) c.in_operator.ensures c.skip.ensures in
    let second_is : second ≡ reading.read_expr c.in-Some.calls (reading.in_operator inside) (reading.take_mark (codes ":") first.following) =
    c.in_ok-second.ensures ∙ both (reading.read_expr c.in-Some.calls) c.in_operator-2.ensures c.take_mark.ensures in
    ap (reading.got (expr_of c.in_ok-whole.whole.expr)) c.stop_if_deep.ensures
    ∙ ap (λ w. reading.got w (reading.stop_if_deep inside w (reader_of c.measured_expr-2.new.r))) c.in_ok-whole.ensures
    ∙ steps.rest-chooses c.args.calls c.in-Some.calls inside test first second is sees first_is second_is
