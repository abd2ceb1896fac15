use Rattle.std.proofs.Common.{◌∙◌, sym, rules, tests}
use Rattle.std.proofs.lemmas.Iterator.{YieldsList-from_slice}
use Rattle.std.proofs.lemmas.Iterator.Search.{any_from_yields_List}
use Rattle.dcc_prog.specs.declared.frame.Cell.{Cell}
use Rattle.dcc_prog.specs.Analysed.{bytes_of}
use Rattle.dcc_lift.specs.KnownProcedures.{is_in_exposed_slot}
use Rattle.dcc_lift.proofs.ListTests.{any_map}
use Rattle.dcc_lift.proofs.procedure.is_in_exposed_cell.Goals as goal

pub returns : goal.returns
returns c =
    let test = is_in_exposed_slot c.args.frame.now c.args.k in
    let cells = c.args.frame.now.cells.items in
    any_from_yields_List (λ (cell : Cell). test (bytes_of cell)) _ _ c.any.result c.any.ensures.ran
    (YieldsList-from_slice cells cc) (λ x b q k. search (rules, tests))
    ∙ sym (any_map test bytes_of cells)
