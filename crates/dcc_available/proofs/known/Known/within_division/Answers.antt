use Rattle.std.proofs.Common.{sym, ap, ap₂, ◌∙◌}
use Rattle.dcc_ir.specs.Tree.{Binary}
use Rattle.dcc_ir.specs.Views.{expr_of}
use Rattle.dcc_available.specs.Known.{known_of}
use Rattle.dcc_available.proofs.WithinLaws.{divided_within, divided_same}
use Rattle.dcc_available.proofs.known.Known.within_division.Goals as goal

pub returns-in_ok-right-in-Bin : goal.returns-in_ok-right-in-Bin
returns-in_ok-right-in-Bin c =
    divided_within (known_of c.args.self.now) (expr_of c.args.division.now) c.binary.result c.in-Bin.width c.in-Bin.operator
    (expr_of c.deref.result.now) (expr_of c.in_ok-left-in-Bin.left) (expr_of c.deref-in-Bin.result.now) (expr_of c.in_ok-right-in-Bin.right)
    (ap expr_of c.in-Bin.is ∙ ap₂ (λ x y. Binary c.in-Bin.operator c.in-Bin.width (expr_of x) (expr_of y)) (sym c.deref.ensures) (sym c.deref-in-Bin.ensures))
    c.in_ok-left-in-Bin.ensures c.in_ok-right-in-Bin.ensures c.binary.ensures

pub returns-in_default : goal.returns-in_default
returns-in_default c = divided_same (known_of c.args.self.now) (expr_of c.args.division.now) c.copied.result c.copied.ensures
