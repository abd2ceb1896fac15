use Rattle.dcc_variables.proofs.Words.{own-differ-all}
use Rattle.dcc_variables.proofs.laws.own_names_differ.Goals as goal

pub returns : goal.returns
returns c p graph tree f well formed few globals functions params locals =
    own-differ-all p tree well globals functions graph few.variables few.params formed f params locals
