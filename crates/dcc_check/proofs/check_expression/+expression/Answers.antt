use Rattle.std.proofs.Common.{◌≡◌, ◌++◌, Global, rules, sym, ap, ◌∙◌}
use Rattle.std.specs.Prelude.{is_some, Box}
use Rattle.dcc_c.specs.declared.syntax.CUn.TheVariants.{AddressOf}
use Rattle.dcc_c.specs.Kinds.{of_type, offence, only_if, first_after}
use Rattle.dcc_c.specs.Offences.{expr_offences, told_type, unary_offences, binary_offences, wants_number, arms_offences}
use Rattle.dcc_c.specs.Partial.{BinaryOf, ConditionalOf, place_of}
use Rattle.dcc_c.specs.Typing as typing
use Rattle.dcc_reader.specs.declared.partial.PartialChoice.{PartialChoice}
use Rattle.dcc_reader.specs.declared.partial.PartialExpr.{PartialExpr, Conditional}
use Rattle.dcc_reader.specs.PartialViews.{expr_of}
use Rattle.dcc_reader.specs.Told.{told}
use Rattle.dcc_check.specs.Operands.{operand}
use Rattle.dcc_check.proofs.TellLaws.{then-told, no-image, operator-told, address-told}
use Rattle.dcc_check.proofs.check_expression.+expression.Goals as goal

pub check_address-returns-in-None-clause-told : goal.check_address-returns-in-None-clause-told
check_address-returns-in-None-clause-told t c = λ s is.
    let none = no-image _ _ (c.in-None.ensures s is) in
    let inner = c.check_expr-inner.ensures in
    let e = expr_of c.args.a.now in
    let typed = only_if (is_some (told_type s.names e)) (offence of_type (place_of e)) in
    then-told (told c.args.first.now) (told c.check_expr-inner.new.first) (told c.tell_typed.new.first) (expr_offences s e) typed (inner.told s is) (c.tell_typed.ensures s e (inner.operand s is))
    ∙ ap (first_after (told c.args.first.now)) (sym (address-told s (expr_of c.args.a.now) none))

pub check_expr-returns-in-Binary-clause-told : goal.check_expr-returns-in-Binary-clause-told
check_expr-returns-in-Binary-clause-told t c = λ s is.
    let a = c.check_expr-a.ensures in
    let b = c.check_expr-b.ensures in
    let operator = c.in-Binary.operator in
    let d = expr_of c.deref-in-Binary.result.now in
    let e = expr_of c.deref-in-Binary-2.result.now in
    let last = binary_offences s operator d e in
    let end = told c.check_binary.new.first in
    let tree =
    ap (λ x. BinaryOf operator (expr_of x) (expr_of c.deref-in-Binary-2.result.now)) c.deref-in-Binary.ensures
    ∙ ap (λ x. BinaryOf operator (expr_of c.in-Binary.a.value) (expr_of x)) c.deref-in-Binary-2.ensures
    ∙ ap expr_of (sym c.in-Binary.is) in
    then-told (told c.args.first.now) (told c.check_expr-a.new.first) end (expr_offences s d) (expr_offences s e ++ last) (a.told s is)
    (then-told (told c.check_expr-a.new.first) (told c.check_expr-b.new.first) end (expr_offences s e) last (b.told s is) (c.check_binary.ensures s d e (a.operand s is) (b.operand s is)))
    ∙ ap (λ e. first_after (told c.args.first.now) (expr_offences s e)) tree

-- the tree of a conditional, by the parts that its box lends
conditional-tree : (e : PartialExpr) (x y z : PartialChoice) (b : Box PartialChoice Global) → x ≡ b.value → y ≡ b.value → z ≡ b.value → e ≡ Conditional b →
    ConditionalOf (expr_of x.test) (expr_of y.first) (expr_of z.second) ≡ expr_of e
conditional-tree e x y z b first second third is =
    ap (λ p. ConditionalOf (expr_of p.test) (expr_of y.first) (expr_of z.second)) first
    ∙ ap (λ p. ConditionalOf (expr_of b.value.test) (expr_of p.first) (expr_of z.second)) second
    ∙ ap (λ p. ConditionalOf (expr_of b.value.test) (expr_of b.value.first) (expr_of p.second)) third
    ∙ ap expr_of (sym is)

pub check_expr-returns-in-Conditional-clause-operand :
    goal.check_expr-returns-in-Conditional-clause-operand
check_expr-returns-in-Conditional-clause-operand t c = λ s is.
    let a = c.check_expr-a-in-Conditional in
    let b = c.check_expr-b-in-Conditional in
    let c' = c.check_expr-c in
    let tree = conditional-tree _ _ _ _ _ c.deref-in-Conditional.ensures c.deref-in-Conditional-2.ensures c.deref-in-Conditional-3.ensures c.in-Conditional.is in
    ap (λ ty. record { ty = ty; at = a.result.at }) c.both_arms_type.ensures
    ∙ ap (λ o. record { ty = typing.both_arms_type b.result.ty c'.result.ty; at = o.at }) (a.ensures.operand s is)
    ∙ ap (λ o. record { ty = typing.both_arms_type o.ty c'.result.ty; at = (operand s (expr_of c.deref-in-Conditional.result.now.test)).at }) (b.ensures.operand s is)
    ∙ ap (λ o. record {
      ty = typing.both_arms_type (told_type s.names (expr_of c.deref-in-Conditional-2.result.now.first)) o.ty;
      at =
          (operand s (expr_of c.deref-in-Conditional.result.now.test)).at;
    }) (c'.ensures.operand s is)
    ∙ ap (operand s) tree

pub check_expr-returns-in-Conditional-clause-told :
    goal.check_expr-returns-in-Conditional-clause-told
check_expr-returns-in-Conditional-clause-told t c = λ s is.
    let a = c.check_expr-a-in-Conditional.ensures in
    let b = c.check_expr-b-in-Conditional.ensures in
    let c' = c.check_expr-c.ensures in
    let tree = conditional-tree _ _ _ _ _ c.deref-in-Conditional.ensures c.deref-in-Conditional-2.ensures c.deref-in-Conditional-3.ensures c.in-Conditional.is in
    let x = expr_of c.deref-in-Conditional.result.now.test in
    let y = expr_of c.deref-in-Conditional-2.result.now.first in
    let z = expr_of c.deref-in-Conditional-3.result.now.second in
    let start = told c.args.first.now in
    let after_a = told c.check_expr-a-in-Conditional.new.first in
    let after_b = told c.check_expr-b-in-Conditional.new.first in
    let after_c = told c.check_expr-c.new.first in
    let after_number = told c.want_number.new.first in
    let end = told c.check_choice.new.first in
    let last = wants_number s x ++ arms_offences s y z in
    then-told start after_a end (expr_offences s x) (expr_offences s y ++ (expr_offences s z ++ last)) (a.told s is)
    (then-told after_a after_b end (expr_offences s y) (expr_offences s z ++ last) (b.told s is)
    (then-told after_b after_c end (expr_offences s z) last (c'.told s is)
    (then-told after_c after_number end (wants_number s x) (arms_offences s y z) (c.want_number.ensures s x (a.operand s is)) (c.check_choice.ensures s y z (b.operand s is) (c'.operand s is)))))
    ∙ ap (λ e. first_after (told c.args.first.now) (expr_offences s e)) tree

pub check_operator-returns-clause-told : goal.check_operator-returns-clause-told
check_operator-returns-clause-told t c = λ s is.
    let a = c.check_expr-a.ensures in
    let e = expr_of c.args.a.now in
    let other : c.args.operator ≡ AddressOf → ⊥ = search rules in
    then-told (told c.args.first.now) (told c.check_expr-a.new.first) (told c.check_unary.new.first) (expr_offences s e)
    (unary_offences s c.args.operator e) (a.told s is) (c.check_unary.ensures s e (a.operand s is))
    ∙ ap (first_after (told c.args.first.now)) (sym (operator-told s c.args.at c.args.operator (expr_of c.args.a.now) other))
