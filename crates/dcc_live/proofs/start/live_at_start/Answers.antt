use Rattle.std.proofs.Common.{◌++◌, map, slice_get, ap, ◌∙◌}
use Rattle.std.proofs.lemmas.Result.{IfOk-weaker}
use Rattle.dcc_ir.specs.Views.{graph_of}
use Rattle.dcc_flow.specs.Marks.{empty, with_all}
use Rattle.dcc_live.specs.First.{others, row_of, row_in}
use Rattle.dcc_live.proofs.StartLaws.{start-is, front-map}
use Rattle.dcc_live.proofs.start.live_at_start.Goals as goal

pub returns-in-Some-Some : goal.returns-in-Some-Some
returns-in-Some-Some c =
    let h = c.in-Some-Some in
    let rows = c.in_ok-rows.rows.items in
    let ends = c.in_ok-live.live.at_end.items in
    let row = row_in h.row.now in
    IfOk-weaker c.live_before.result _ _ (λ list is.
    start-is (graph_of c.args.g.now) c.requires (map row_in rows) row (map (λ v. v.items) ends) h.at_end.now.items list.items
    (c.in_ok-rows.ensures ∙ ap (map row_of) c.in_ok-blocks.ensures)
    (front-map row_in rows h.row.now (h.ensures.value ∙ ap (λ l. slice_get l 0) c.deref.ensures.value)) c.in_ok-live.ensures
    (front-map (λ v. v.items) ends h.at_end.now (h.ensures'.value ∙ ap (λ l. slice_get l 0) c.deref-2.ensures.value))
    (is ∙ ap (λ l. row.first ++ others (with_all empty row.writes) l) c.as_slice.ensures.value)) c.live_before.ensures
