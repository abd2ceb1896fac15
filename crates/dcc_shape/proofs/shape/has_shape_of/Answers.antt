use Rattle.std.proofs.Common.{◌≡◌, sym, subst, ◌∙◌}
use Rattle.std.specs.Prelude.{IfOk}
use Rattle.dcc_c.specs.Views.{lines_of}
use Rattle.dcc_shape.specs.Procedures.{flow_of}
use Rattle.dcc_shape.specs.Asked.{is_as_asked}
use Rattle.dcc_shape.proofs.ShapeLaws.{has-shape, shape-asked, if-ok}
use Rattle.dcc_shape.proofs.shape.has_shape_of.Goals as goal

pub returns : goal.returns
returns c =
    let flow = flow_of c.args.proc.now in
    let body = lines_of c.args.body.now in
    let asked = c.in_ok-asked.asked in
    let list = c.in_ok-list.list.items in
    let told : IfOk c.is_as_asked.result (λ yes. yes ≡ is_as_asked asked list) =
    subst (λ l. IfOk c.is_as_asked.result (λ yes. yes ≡ is_as_asked asked l)) c.as_slice.ensures.value c.is_as_asked.ensures in
    if-ok c.is_as_asked.result (λ yes is. (
      λ h. has-shape flow asked c.in_ok-asked.ensures list body c.in_ok-list.ensures (sym is ∙ h),
      λ h. is ∙ shape-asked flow asked c.in_ok-asked.ensures list body c.in_ok-list.ensures h,
    )) told
