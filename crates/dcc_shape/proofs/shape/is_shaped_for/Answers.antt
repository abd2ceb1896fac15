use Rattle.std.proofs.Common.{subst}
use Rattle.dcc_c.specs.Views.{lines_of, function_of}
use Rattle.dcc_shape.specs.Procedures.{flow_of}
use Rattle.dcc_shape.specs.Shape.{HasShapeOf}
use Rattle.dcc_shape.proofs.ShapeLaws.{if-ok}
use Rattle.dcc_shape.proofs.shape.is_shaped_for.Goals as goal

pub returns : goal.returns
returns c =
    let has : HasShapeOf (flow_of c.args.proc.now) (function_of c.args.function.now).body =
    subst (λ l. HasShapeOf (flow_of c.args.proc.now) (lines_of l)) c.deref.ensures.value
    (c.in_ok-has_shape_of.ensures.0 c.if-not-branch.false) in
    if-ok c.has_addresses_of.result
    (λ answer told. (λ is. record { shape = has; addresses = told.0 is }, λ shaped. told.1 shaped.addresses))
    c.has_addresses_of.ensures
