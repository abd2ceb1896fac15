use Rattle.std.proofs.Common.{ap, ◌∙◌}
use Rattle.dcc_value.specs.Places.{first_place}
use Rattle.dcc_value.proofs.NameLaws.{names-declared}
use Rattle.dcc_value.proofs.resolve.index_named.Goals as goal

pub returns : goal.returns
returns c = c.find.ensures ∙ ap (λ l. first_place l c.args.name.now) (names-declared c.args.names.now.list.now)
