use Rattle.dcc_c.specs.Views.{tree_of}
use Rattle.dcc_top.specs.Answer.{HasNoUnit, IsReadAs, no_text, shelf_reply, parse_reply}
use Rattle.dcc_top.proofs.FetchedLaws.{of-whole, no_unit-of_fault, no_unit-of_front, no_file-of_fault, by-error}
use Rattle.dcc_top.proofs.fetch.fetch_unit.Goals as goal

pub returns-in_err-fetch-clause-refused : goal.returns-in_err-fetch-clause-refused
returns-in_err-fetch-clause-refused g c =
    let fault = c.in_err-fetch.field-0.0 in
    by-error c.from_residual.result (shelf_reply fault) (HasNoUnit (g.H.Shelf.files c.args.shelf.now) c.args.name.now)
    c.from_residual.ensures.1
    (no_text (no_file-of_fault (g.H.Shelf.files c.args.shelf.now) c.args.name.now c.fetch.new.into.items 67108864
    fault c.in_err-fetch.ensures.answer))

pub returns-in_err-parse-in-Whole-clause-refused : goal.returns-in_err-parse-in-Whole-clause-refused
returns-in_err-parse-in-Whole-clause-refused g c =
    let files = g.H.Shelf.files c.args.shelf.now in
    let name = c.args.name.now in
    let fault = c.in_err-parse-in-Whole.field-0.0 in
    let given = rw c.in-Whole.is at c.in_ok-fetch.ensures.answer in
    let step = c.from_residual-in_err-parse-in-Whole in
    by-error step.result (parse_reply fault) (HasNoUnit files name) step.ensures.1
    (no_unit-of_fault files name c.fetch.new.into.items 67108864 fault given c.in_err-parse-in-Whole.ensures.refused)

pub returns-in-Whole-clause-unit : goal.returns-in-Whole-clause-unit
returns-in-Whole-clause-unit g c =
    let given = rw c.in-Whole.is at c.in_ok-fetch.ensures.answer in
    let found = c.in_ok-parse-in-Whole in
    of-whole (g.H.Shelf.files c.args.shelf.now) c.args.name.now c.fetch.new.into.items 67108864
    (λ text. IsReadAs text (tree_of found.field-0)) given
    (record { stands = found.ensures.stands; alone = found.ensures.alone; length = found.ensures.length })

pub returns-clause-refused : goal.returns-clause-refused
returns-clause-refused g c =
    let answer = rw c.in-Longer.is at c.in_ok-fetch.ensures.answer in
    let within = rw c.in-Longer.is at c.in_ok-fetch.ensures.within in
    no_unit-of_front (g.H.Shelf.files c.args.shelf.now) c.args.name.now c.fetch.new.into.items answer within
