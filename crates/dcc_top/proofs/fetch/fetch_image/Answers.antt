use Rattle.dcc_machine.specs.MzImage.{IsImageOf}
use Rattle.dcc_top.specs.Answer.{HasNoImage, no_executable, shelf_reply, fault_reply}
use Rattle.dcc_top.proofs.FetchedLaws.{of-whole, no_image-of_fault, no_image-of_front, no_file-of_fault, by-error}
use Rattle.dcc_top.proofs.fetch.fetch_image.Goals as goal

pub returns-in_err-fetch-clause-refused : goal.returns-in_err-fetch-clause-refused
returns-in_err-fetch-clause-refused g c =
    let fault = c.in_err-fetch.field-0.0 in
    by-error c.from_residual.result (shelf_reply fault) (HasNoImage (g.H.Shelf.files c.args.shelf.now)
    c.args.name.now) c.from_residual.ensures.1
    (no_executable (no_file-of_fault (g.H.Shelf.files c.args.shelf.now) c.args.name.now c.fetch.new.into.items 262144
    fault c.in_err-fetch.ensures.answer))

pub returns-in_err-load-in-Whole-clause-refused : goal.returns-in_err-load-in-Whole-clause-refused
returns-in_err-load-in-Whole-clause-refused g c =
    let files = g.H.Shelf.files c.args.shelf.now in
    let name = c.args.name.now in
    let fault = c.in_err-load-in-Whole.field-0.0 in
    let given = rw c.in-Whole.is at c.in_ok-fetch.ensures.answer in
    let step = c.from_residual-in_err-load-in-Whole in
    by-error step.result (fault_reply fault) (HasNoImage files name) step.ensures.1
    (no_image-of_fault files name c.fetch.new.into.items 262144 fault given c.in_err-load-in-Whole.ensures.refused)

pub returns-in-Whole-clause-image : goal.returns-in-Whole-clause-image
returns-in-Whole-clause-image g c =
    let given = rw c.in-Whole.is at c.in_ok-fetch.ensures.answer in
    let found = c.in_ok-load-in-Whole in
    of-whole (g.H.Shelf.files c.args.shelf.now) c.args.name.now c.fetch.new.into.items 262144
    (λ file. IsImageOf file found.field-0) given found.ensures.image

pub returns-clause-refused : goal.returns-clause-refused
returns-clause-refused g c =
    let answer = rw c.in-Longer.is at c.in_ok-fetch.ensures.answer in
    let within = rw c.in-Longer.is at c.in_ok-fetch.ensures.within in
    no_image-of_front (g.H.Shelf.files c.args.shelf.now) c.args.name.now c.fetch.new.into.items answer within
