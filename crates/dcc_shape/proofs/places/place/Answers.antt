use Rattle.std.proofs.Common.{sym, ◌∙◌}
use Rattle.std.proofs.lemmas.List.{length-map}
use Rattle.indexmap.specs.IndexMap.{keys}
use Rattle.dcc_shape.proofs.GraphLaws.{place-past}
use Rattle.dcc_shape.proofs.places.place.Goals as goal

pub returns-in-None-clause-is : goal.returns-in-None-clause-is
returns-in-None-clause-is c =
    c.requires ∙ sym (length-map c.args.nodes.now.entries (λ e. e.0))
    ∙ place-past (keys c.args.nodes.now) c.args.at (sym c.in-None.is ∙ c.get_index_of.ensures.index)
