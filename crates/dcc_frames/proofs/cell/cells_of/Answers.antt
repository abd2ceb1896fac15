use Rattle.std.proofs.Common.{rules}
use Rattle.dcc_frames.specs.CellLists.{cells_from, IsOverfull}
use Rattle.dcc_frames.proofs.CellLaws.{overfull-read}
use Rattle.dcc_frames.proofs.cell.cells_of.Goals as goal

pub returns-in_err-add-clause-refused : goal.returns-in_err-add-clause-refused
returns-in_err-add-clause-refused c =
    let named : IsOverfull (cells_from c.args.extents.now) c.in_err-add.field-0.0 =
    overfull-read c.args.extents.now c.loop-extent.extent-index _ c.loop-extent.cells.items c.small_cell.result
    c.in_err-add.field-0.0
    c.loop-extent-test.true c.loop-extent.invariant.0 c.small_cell.ensures c.in_err-add.ensures.refused in
    search rules
