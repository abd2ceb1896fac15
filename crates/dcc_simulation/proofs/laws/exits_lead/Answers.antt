use Rattle.dcc_simulation.proofs.ExitsLead.{exits-lead}
use Rattle.dcc_simulation.proofs.laws.exits_lead.Goals as goal

pub returns : goal.returns
returns c = exits-lead
