use Rattle.dcc_asm.specs.Fault.{IsAssembled}
use Rattle.dcc_top.specs.Answer.{IsUnassembled, no_listing, shelf_reply, listing_reply}
use Rattle.dcc_top.proofs.FetchedLaws.{of-whole, unassembled-of_fault, unassembled-of_front, no_file-of_fault, by-error}
use Rattle.dcc_top.proofs.fetch.fetch_assembled.Goals as goal

pub returns-in_err-fetch-clause-refused : goal.returns-in_err-fetch-clause-refused
returns-in_err-fetch-clause-refused g c =
    let fault = c.in_err-fetch.field-0.0 in
    by-error c.from_residual.result (shelf_reply fault)
    (IsUnassembled (g.H.Shelf.files c.args.shelf.now) c.args.name.now) c.from_residual.ensures.1
    (no_listing (no_file-of_fault (g.H.Shelf.files c.args.shelf.now) c.args.name.now c.fetch.new.into.items 67108864
    fault c.in_err-fetch.ensures.answer))

pub returns-in_err-assemble-in-Whole-clause-refused : goal.returns-in_err-assemble-in-Whole-clause-refused
returns-in_err-assemble-in-Whole-clause-refused g c =
    let files = g.H.Shelf.files c.args.shelf.now in
    let name = c.args.name.now in
    let fault = c.in_err-assemble-in-Whole.field-0.0 in
    let given = rw c.in-Whole.is at c.in_ok-fetch.ensures.answer in
    let step = c.from_residual-in_err-assemble-in-Whole in
    by-error step.result (listing_reply fault) (IsUnassembled files name) step.ensures.1
    (unassembled-of_fault files name c.fetch.new.into.items 67108864 fault given
    c.in_err-assemble-in-Whole.ensures.refused)

pub returns-in-Whole-clause-assembled : goal.returns-in-Whole-clause-assembled
returns-in-Whole-clause-assembled g c =
    let given = rw c.in-Whole.is at c.in_ok-fetch.ensures.answer in
    let found = c.in_ok-assemble-in-Whole in
    of-whole (g.H.Shelf.files c.args.shelf.now) c.args.name.now c.fetch.new.into.items 67108864
    (λ text. IsAssembled text found.field-0.items) given found.ensures.assembled

pub returns-clause-refused : goal.returns-clause-refused
returns-clause-refused g c =
    let answer = rw c.in-Longer.is at c.in_ok-fetch.ensures.answer in
    let within = rw c.in-Longer.is at c.in_ok-fetch.ensures.within in
    unassembled-of_front (g.H.Shelf.files c.args.shelf.now) c.args.name.now c.fetch.new.into.items answer within
