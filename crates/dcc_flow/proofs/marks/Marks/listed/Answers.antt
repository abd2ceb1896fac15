use Rattle.std.proofs.Common.{filter, ap, ◌∙◌}
use Rattle.std.proofs.lemmas.Result.{IfOk-weaker}
use Rattle.dcc_ir.specs.Live.{is_among}
use Rattle.dcc_flow.specs.Marks.{members}
use Rattle.dcc_flow.proofs.MarkLaws.{noted_members}
use Rattle.dcc_flow.proofs.marks.Marks.listed.Goals as goal

pub returns : goal.returns
returns c =
    let has = c.self.inside.has.items in
    let noted = c.self.inside.noted.items in
    IfOk-weaker c.those_held.result _ _
    (λ list is x.
    ap (λ l. is_among l x)
    (is ∙ ap (λ h. filter (members h) c.as_slice-2.result.now) c.as_slice.ensures.value ∙ ap (filter (members has)) c.as_slice-2.ensures.value)
    ∙ noted_members has noted c.self.invariant x ∙ ap (λ h. members h x) c.self.view_is)
    c.those_held.ensures
