use Rattle.std.proofs.Common.{◌<◌, ◌≤◌, length, get_or, map, ap, ◌∙◌, subst, arith, Contains}
use Rattle.std.specs.Prelude.{All}
use Rattle.std.proofs.lemmas.List.{length-map, take_all}
use Rattle.dcc_flow.specs.Places.{with_places}
use Rattle.dcc_live.specs.First.{Row, row_in}
use Rattle.dcc_live.proofs.RowLaws.{rows_placed, map_read}
use Rattle.dcc_live.proofs.rows.places.Goals as goal

pub loop-row-init : goal.loop-row-init
loop-row-init c = λ k d less. absurd (omega (arith, less))

pub loop-row-preserved : goal.loop-row-preserved
loop-row-preserved c =
    let items = c.args.rows.now.items in
    let rows = map row_in items in
    let i = c.loop-row.row-index in
    let same = ap length c.deref-row-items.ensures.value in
    let inside : i < length items = omega (arith, same) in
    let within : i < length rows = omega (arith, inside, length-map items row_in) in
    let read = map_read row_in items i c.row-item.result inside (c.row-item.is ∙ ap (λ l. get_or l i c.row-item.result) c.deref-row-items.ensures.value) in
    rows_placed rows i (row_in c.row-item.result) c.loop-row.places c.add_all.new.self within read
    (c.in_ok-add_all.ensures ∙ ap (with_places c.loop-row.places) c.as_slice.ensures.value) c.loop-row.invariant

pub returns : goal.returns
returns c =
    let items = c.args.rows.now.items in
    let rows = map row_in items in
    let i = c.loop-row.row-index in
    let same = ap length c.deref-row-items.ensures.value in
    let past : length rows ≤ i = omega (arith, same, length-map items row_in) in
    subst (All (λ (row : Row). All (Contains c.loop-row.places) row.first)) (take_all i rows past) c.loop-row.invariant
