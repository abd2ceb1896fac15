use Rattle.std.proofs.Common.{sym, ◌∙◌}
use Rattle.dcc_value.proofs.NameLaws.{first-added, first-kept}
use Rattle.dcc_value.proofs.places.add_place.Goals as goal

pub returns-in_ok-insert-clause-added : goal.returns-in_ok-insert-clause-added
returns-in_ok-insert-clause-added c words are behind =
    first-added c.args.places.now words c.args.name.now c.args.place are behind c.insert.new.self c.in_ok-insert.ensures.updates (sym c.contains_key.ensures ∙ c.if-not-contains_key.true)

pub returns-else-not-contains_key-clause-added : goal.returns-else-not-contains_key-clause-added
returns-else-not-contains_key-clause-added c words are behind =
    first-kept c.args.places.now words c.args.name.now c.args.place are behind (sym c.contains_key.ensures ∙ c.if-not-contains_key.false)
