use Rattle.std.proofs.Common.{◌≡◌, true, sym, ap, ◌∙◌}
use Rattle.dcc_ir.specs.declared.syntax.BinOp.{BinOp}
use Rattle.dcc_ir.specs.Forms.{same_binary}
use Rattle.dcc_ir.specs.Views.{expr_of}
use Rattle.dcc_ir.specs.Tree.{Expr, Const, Binary}
use Rattle.dcc_stdrules.specs.Sums.{outer_of, inner_of}
use Rattle.dcc_stdrules.proofs.SumLaws.{some_sum}
use Rattle.dcc_stdrules.proofs.sums.summed.Goals as goal

pub returns : goal.returns
returns c =
    let f = c.in-Bin.outer in
    let w = c.in-Bin.width in
    let g = c.in-Bin-left.inner in
    let v = c.in-Bin-left.inner_width in
    let x = expr_of c.in-Bin-left.x.value in
    let l = expr_of c.in-Bin-left.number.value in
    let r = expr_of c.in-Bin.right.value in
    let inside : expr_of c.in-Bin.left.value ≡ Binary g v x l = ap expr_of (sym c.deref-left.ensures) ∙ ap expr_of c.in-Bin-left.is in
    let whole : expr_of c.args.e.now ≡ Binary f w (Binary g v x l) r = ap expr_of c.in-Bin.is ∙ ap (λ (y : Expr). Binary f w y r) inside in
    let outer : same_binary f (outer_of c.args.sums) ≡ true =
    ap (λ (h : BinOp). same_binary f h) (sym c.outer.ensures) ∙ sym c.same_binary.ensures ∙ c.if-not-same_binary.false in
    let inner : same_binary g (inner_of c.args.sums) ≡ true =
    ap (λ (h : BinOp). same_binary g h) (sym c.inner.ensures) ∙ sym c.same_binary-else-not-same_binary.ensures ∙ c.if-not-same_binary-2.false in
    let first : l ≡ Const w c.in-Some.c = ap expr_of (sym c.deref.ensures) ∙ c.in-Some.ensures.some in
    let second : r ≡ Const w c.in-Some-number_in.d = ap expr_of (sym c.deref-2.ensures) ∙ c.in-Some-number_in.ensures.some in
    let copy : expr_of c.in_ok-x.x ≡ x = c.in_ok-x.ensures ∙ ap expr_of c.deref-3.ensures in
    let made : expr_of c.in_ok-binary.field-0 ≡ Binary c.moved-moved.result.operator w x (Const w c.moved-moved.result.number) =
    c.in_ok-binary.ensures ∙ ap (λ (y : Expr). Binary c.moved-moved.result.operator w y (Const w c.moved-moved.result.number)) copy in
    some_sum c.args.sums (expr_of c.args.e.now) f g w v x l r (expr_of c.in_ok-binary.field-0) c.in-Some.c c.in-Some-number_in.d c.moved-moved.result whole outer inner
    c.if-width-inner_width.false first second c.moved-moved.ensures made
