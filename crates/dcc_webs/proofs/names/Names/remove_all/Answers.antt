use Rattle.std.proofs.Common.{◌∙◌, ap}
use Rattle.dcc_flow.specs.Marks.{members}
use Rattle.dcc_webs.proofs.NameLaws.{names_with, taken_away}
use Rattle.dcc_webs.proofs.names.Names.remove_all.Goals as goal

pub returns : goal.returns
returns c =
    let names = c.args.self.now in
    ap (names_with names.numbers.items names.origins.items) c.remove_all.ensures
    ∙ taken_away names.numbers.items names.origins.items (members names.has) c.args.locations.now
