use Rattle.std.proofs.Common.{sym, ap, ap₂, ◌∙◌}
use Rattle.dcc_ir.specs.Tree.{Load, Unary, Binary, Widen, Part, Join, Choose}
use Rattle.dcc_ir.specs.Views.{expr_of}
use Rattle.dcc_available.specs.Known.{known_of}
use Rattle.dcc_available.proofs.WithinLaws.{stays_within, load_within, unary_within, binary_within, widen_within, part_within, join_within, choose_within}
use Rattle.dcc_available.proofs.known.Known.+within.Goals as goal

pub returns-in-Const : goal.returns-in-Const
returns-in-Const t c = stays_within (known_of c.args.self.now) c.args.depth (expr_of c.args.e.now) _ (sym (ap expr_of c.in-Const.is))

pub returns-in_ok-within-in-Load : goal.returns-in_ok-within-in-Load
returns-in_ok-within-in-Load t c =
    load_within (known_of c.args.self.now) c.args.depth c.saturating_sub-less.result c.saturating_sub-less.ensures (expr_of c.args.e.now) c.load.result c.in-Load.width (expr_of c.deref.result.now)
    (expr_of c.in_ok-within-in-Load.field-0) (ap expr_of c.in-Load.is ∙ ap (λ x. Load c.in-Load.width (expr_of x)) (sym c.deref.ensures)) c.in_ok-within-in-Load.ensures c.load.ensures

pub returns-in_ok-within-in-Un : goal.returns-in_ok-within-in-Un
returns-in_ok-within-in-Un t c =
    unary_within (known_of c.args.self.now) c.args.depth c.saturating_sub-less.result c.saturating_sub-less.ensures (expr_of c.args.e.now) c.unary.result c.in-Un.operator c.in-Un.width
    (expr_of c.deref-in-Un.result.now) (expr_of c.in_ok-within-in-Un.field-0)
    (ap expr_of c.in-Un.is ∙ ap (λ x. Unary c.in-Un.operator c.in-Un.width (expr_of x)) (sym c.deref-in-Un.ensures)) c.in_ok-within-in-Un.ensures c.unary.ensures

pub returns-in_ok-within-in-Bin : goal.returns-in_ok-within-in-Bin
returns-in_ok-within-in-Bin t c =
    binary_within (known_of c.args.self.now) c.args.depth c.saturating_sub-less.result c.saturating_sub-less.ensures (expr_of c.args.e.now) c.binary.result c.in-Bin.operator c.in-Bin.width
    (expr_of c.deref-in-Bin.result.now) (expr_of c.in_ok-left-in-Bin.left) (expr_of c.deref-in-Bin-2.result.now) (expr_of c.in_ok-within-in-Bin.field-0)
    (ap expr_of c.in-Bin.is ∙ ap₂ (λ x y. Binary c.in-Bin.operator c.in-Bin.width (expr_of x) (expr_of y)) (sym c.deref-in-Bin.ensures) (sym c.deref-in-Bin-2.ensures))
    c.in_ok-left-in-Bin.ensures c.in_ok-within-in-Bin.ensures c.binary.ensures

pub returns-in_ok-within-in-Widen : goal.returns-in_ok-within-in-Widen
returns-in_ok-within-in-Widen t c =
    widen_within (known_of c.args.self.now) c.args.depth c.saturating_sub-less.result c.saturating_sub-less.ensures (expr_of c.args.e.now) c.widen.result c.in-Widen.by_sign c.in-Widen.width
    (expr_of c.deref-in-Widen.result.now) (expr_of c.in_ok-within-in-Widen.field-0)
    (ap expr_of c.in-Widen.is ∙ ap (λ x. Widen c.in-Widen.by_sign c.in-Widen.width (expr_of x)) (sym c.deref-in-Widen.ensures)) c.in_ok-within-in-Widen.ensures c.widen.ensures

pub returns-in_ok-within-in-Part : goal.returns-in_ok-within-in-Part
returns-in_ok-within-in-Part t c =
    part_within (known_of c.args.self.now) c.args.depth c.saturating_sub-less.result c.saturating_sub-less.ensures (expr_of c.args.e.now) c.part.result c.in-Part.width c.in-Part.first
    (expr_of c.deref-in-Part.result.now) (expr_of c.in_ok-within-in-Part.field-0)
    (ap expr_of c.in-Part.is ∙ ap (λ x. Part c.in-Part.width c.in-Part.first (expr_of x)) (sym c.deref-in-Part.ensures)) c.in_ok-within-in-Part.ensures c.part.ensures

pub returns-in_ok-within-in-Join : goal.returns-in_ok-within-in-Join
returns-in_ok-within-in-Join t c =
    join_within (known_of c.args.self.now) c.args.depth c.saturating_sub-less.result c.saturating_sub-less.ensures (expr_of c.args.e.now) c.join.result
    (expr_of c.deref-in-Join.result.now) (expr_of c.in_ok-high-in-Join.high) (expr_of c.deref-in-Join-2.result.now) (expr_of c.in_ok-within-in-Join.field-0)
    (ap expr_of c.in-Join.is ∙ ap₂ (λ x y. Join (expr_of x) (expr_of y)) (sym c.deref-in-Join.ensures) (sym c.deref-in-Join-2.ensures))
    c.in_ok-high-in-Join.ensures c.in_ok-within-in-Join.ensures c.join.ensures

pub returns-in_ok-within-in-Choose : goal.returns-in_ok-within-in-Choose
returns-in_ok-within-in-Choose t c =
    choose_within (known_of c.args.self.now) c.args.depth c.saturating_sub-less.result c.saturating_sub-less.ensures (expr_of c.args.e.now) c.choose.result
    (expr_of c.deref-in-Choose.result.now) (expr_of c.in_ok-test-in-Choose.test) (expr_of c.deref-in-Choose-2.result.now) (expr_of c.in_ok-one-in-Choose.one) (expr_of c.deref-in-Choose-3.result.now)
    (expr_of c.in_ok-within-in-Choose.field-0)
    (ap expr_of c.in-Choose.is ∙ ap (λ x. Choose (expr_of x) (expr_of c.in-Choose.one.value) (expr_of c.in-Choose.other.value)) (sym c.deref-in-Choose.ensures)
    ∙ ap₂ (λ x y. Choose (expr_of c.deref-in-Choose.result.now) (expr_of x) (expr_of y)) (sym c.deref-in-Choose-2.ensures) (sym c.deref-in-Choose-3.ensures))
    c.in_ok-test-in-Choose.ensures c.in_ok-one-in-Choose.ensures c.in_ok-within-in-Choose.ensures c.choose.ensures

pub returns-in-Address : goal.returns-in-Address
returns-in-Address t c = stays_within (known_of c.args.self.now) c.args.depth (expr_of c.args.e.now) _ (sym (ap expr_of c.in-Address.is))
