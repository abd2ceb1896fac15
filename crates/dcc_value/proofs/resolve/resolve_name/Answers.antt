use Rattle.std.proofs.Common.{sym, ◌∙◌}
use Rattle.dcc_value.proofs.StandLaws.{name_stands, no_name_stands}
use Rattle.dcc_value.proofs.resolve.resolve_name.Goals as goal

pub returns-in-Some : goal.returns-in-Some
returns-in-Some c = name_stands _ c.args.name.now c.in-Some.slot (sym c.slot_named.ensures ∙ c.in-Some.is)

pub returns-in-None : goal.returns-in-None
returns-in-None c = no_name_stands _ c.args.name.now (sym c.slot_named.ensures ∙ c.in-None.is)
