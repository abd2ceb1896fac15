use Rattle.std.proofs.Common.{◌<◌, length, get_or, map, ap, ◌∙◌, arith}
use Rattle.std.proofs.lemmas.List.{length-map}
use Rattle.dcc_flow.specs.Access.{access_in}
use Rattle.dcc_flow.specs.Marks.{members}
use Rattle.dcc_live.proofs.RowLaws.{first_step, writes_step, map_read}
use Rattle.dcc_live.proofs.rows.block_row.Goals as goal

pub loop-access-preserved : goal.loop-access-preserved
loop-access-preserved c =
    let items = c.args.block.now.stmts.items in
    let stmts = map access_in items in
    let i = c.loop-access.access-index in
    let a = access_in c.access-item.result in
    let row = c.loop-access.row in
    let same = ap length c.deref-access-items.ensures.value in
    let inside : i < length items = omega (arith, same) in
    let within : i < length stmts = omega (arith, inside, length-map items access_in) in
    let read = map_read access_in items i c.access-item.result inside (c.access-item.is ∙ ap (λ l. get_or l i c.access-item.result) c.deref-access-items.ensures.value) in
    let h = c.in_ok-note.ensures in
    record {
      first = first_step (members c.loop-access.written) stmts c.args.block.now.last.items i a row.first.items c.note.new.self.first.items (members c.note.new.written)
          within read h.first h.written ∙ c.loop-access.invariant.first;
      writes = h.writes ∙ writes_step stmts i a row.writes.items within read c.loop-access.invariant.writes;
    }
