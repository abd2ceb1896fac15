use Rattle.std.proofs.Common.{sym, ap, ◌∙◌}
use Rattle.dcc_ir.specs.Views.{expr_of}
use Rattle.dcc_ir.specs.Tree.{Load, Unary, Binary, Widen, Part, Join, Choose}
use Rattle.dcc_rules.proofs.ReducedLaws.{reduced_load, reduced_unary, reduced_binary, reduced_widen, reduced_part, reduced_join, reduced_choose}
use Rattle.dcc_rules.proofs.NormalLaws.{normal_leaf}
use Rattle.dcc_rules.proofs.ResultLaws.{made_of_one, made_of_two, made_of_three, reduced_further}
use Rattle.dcc_rules.proofs.reduce.+simplified.Goals as goal

pub parts_simplified-returns-in_ok-address-in-Load-clause-reduced : goal.parts_simplified-returns-in_ok-address-in-Load-clause-reduced
parts_simplified-returns-in_ok-address-in-Load-clause-reduced g t c =
    let w = c.in-Load.width in
    made_of_one c.args.bits.now (Load w) c.args.e c.into_inner.result (expr_of c.in-Load.address.value) (expr_of c.in_ok-address-in-Load.address) c.load.result
    (reduced_load c.args.bits.now w _ _) (ap expr_of c.in-Load.is) (ap expr_of c.into_inner.ensures) c.in_ok-address-in-Load.ensures.reduced c.load.ensures

pub parts_simplified-returns-in_ok-operand-in-Un-clause-reduced : goal.parts_simplified-returns-in_ok-operand-in-Un-clause-reduced
parts_simplified-returns-in_ok-operand-in-Un-clause-reduced g t c =
    let f = c.in-Un.operator in
    let w = c.in-Un.width in
    made_of_one c.args.bits.now (Unary f w) c.args.e c.into_inner-in-Un.result (expr_of c.in-Un.operand.value) (expr_of c.in_ok-operand-in-Un.operand) c.unary.result
    (reduced_unary c.args.bits.now f w _ _) (ap expr_of c.in-Un.is) (ap expr_of c.into_inner-in-Un.ensures) c.in_ok-operand-in-Un.ensures.reduced c.unary.ensures

pub parts_simplified-returns-in_ok-right-in-Bin-clause-reduced : goal.parts_simplified-returns-in_ok-right-in-Bin-clause-reduced
parts_simplified-returns-in_ok-right-in-Bin-clause-reduced g t c =
    let f = c.in-Bin.operator in
    let w = c.in-Bin.width in
    made_of_two c.args.bits.now (Binary f w) c.args.e c.into_inner-in-Bin.result c.into_inner-in-Bin-2.result
    (expr_of c.in-Bin.left.value) (expr_of c.in_ok-left-in-Bin.left) (expr_of c.in-Bin.right.value) (expr_of c.in_ok-right-in-Bin.right) c.binary.result
    (reduced_binary c.args.bits.now f w _ _ _ _) (ap expr_of c.in-Bin.is) (ap expr_of c.into_inner-in-Bin.ensures) (ap expr_of c.into_inner-in-Bin-2.ensures)
    c.in_ok-left-in-Bin.ensures.reduced c.in_ok-right-in-Bin.ensures.reduced c.binary.ensures

pub parts_simplified-returns-in_ok-operand-in-Widen-clause-reduced : goal.parts_simplified-returns-in_ok-operand-in-Widen-clause-reduced
parts_simplified-returns-in_ok-operand-in-Widen-clause-reduced g t c =
    let s = c.in-Widen.by_sign in
    let w = c.in-Widen.width in
    made_of_one c.args.bits.now (Widen s w) c.args.e c.into_inner-in-Widen.result (expr_of c.in-Widen.operand.value) (expr_of c.in_ok-operand-in-Widen.operand) c.widen.result
    (reduced_widen c.args.bits.now s w _ _) (ap expr_of c.in-Widen.is) (ap expr_of c.into_inner-in-Widen.ensures) c.in_ok-operand-in-Widen.ensures.reduced c.widen.ensures

pub parts_simplified-returns-in_ok-operand-in-Part-clause-reduced : goal.parts_simplified-returns-in_ok-operand-in-Part-clause-reduced
parts_simplified-returns-in_ok-operand-in-Part-clause-reduced g t c =
    let w = c.in-Part.width in
    let first = c.in-Part.first in
    made_of_one c.args.bits.now (Part w first) c.args.e c.into_inner-in-Part.result (expr_of c.in-Part.operand.value) (expr_of c.in_ok-operand-in-Part.operand) c.part.result
    (reduced_part c.args.bits.now w first _ _) (ap expr_of c.in-Part.is) (ap expr_of c.into_inner-in-Part.ensures) c.in_ok-operand-in-Part.ensures.reduced c.part.ensures

pub parts_simplified-returns-in_ok-low-in-Join-clause-reduced : goal.parts_simplified-returns-in_ok-low-in-Join-clause-reduced
parts_simplified-returns-in_ok-low-in-Join-clause-reduced g t c =
    made_of_two c.args.bits.now Join c.args.e c.into_inner-in-Join.result c.into_inner-in-Join-2.result
    (expr_of c.in-Join.high.value) (expr_of c.in_ok-high-in-Join.high) (expr_of c.in-Join.low.value) (expr_of c.in_ok-low-in-Join.low) c.join.result
    (reduced_join c.args.bits.now _ _ _ _) (ap expr_of c.in-Join.is) (ap expr_of c.into_inner-in-Join.ensures) (ap expr_of c.into_inner-in-Join-2.ensures)
    c.in_ok-high-in-Join.ensures.reduced c.in_ok-low-in-Join.ensures.reduced c.join.ensures

pub parts_simplified-returns-in_ok-other-in-Choose-clause-reduced : goal.parts_simplified-returns-in_ok-other-in-Choose-clause-reduced
parts_simplified-returns-in_ok-other-in-Choose-clause-reduced g t c =
    made_of_three c.args.bits.now Choose c.args.e c.into_inner-in-Choose.result c.into_inner-in-Choose-2.result c.into_inner-in-Choose-3.result
    (expr_of c.in-Choose.test.value) (expr_of c.in_ok-test-in-Choose.test) (expr_of c.in-Choose.one.value) (expr_of c.in_ok-one-in-Choose.one)
    (expr_of c.in-Choose.other.value) (expr_of c.in_ok-other-in-Choose.other) c.choose.result
    (reduced_choose c.args.bits.now _ _ _ _ _ _) (ap expr_of c.in-Choose.is) (ap expr_of c.into_inner-in-Choose.ensures) (ap expr_of c.into_inner-in-Choose-2.ensures)
    (ap expr_of c.into_inner-in-Choose-3.ensures) c.in_ok-test-in-Choose.ensures.reduced c.in_ok-one-in-Choose.ensures.reduced c.in_ok-other-in-Choose.ensures.reduced
    c.choose.ensures

pub simplified-returns-in-Some-clause-reduced : goal.simplified-returns-in-Some-clause-reduced
simplified-returns-in-Some-clause-reduced g t c =
    reduced_further _ c.args.bits.now (expr_of c.args.e) (expr_of c.in_ok-e.e) c.in_ok-answer.field-0 c.in-Some.simpler c.simplified.result
    c.in_ok-e.ensures.reduced c.in_ok-answer.ensures c.in-Some.is c.simplified.ensures.reduced

pub simplified-returns-then-is_leaf-clause-normal : goal.simplified-returns-then-is_leaf-clause-normal
simplified-returns-then-is_leaf-clause-normal g t c =
    normal_leaf (g.A.Answers.ids c.args.answers.now) c.args.bits.now (expr_of c.args.e) (sym c.is_leaf.ensures ∙ c.if-is_leaf.true)
