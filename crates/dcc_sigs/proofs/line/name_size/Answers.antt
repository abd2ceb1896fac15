use Rattle.std.proofs.Common.{sym, ◌∙◌}
use Rattle.dcc_reread.proofs.Places.{place-of_none}
use Rattle.dcc_sigs.specs.Reading.{is_space}
use Rattle.dcc_sigs.proofs.line.name_size.Goals as goal

pub returns-in-None-clause-size : goal.returns-in-None-clause-size
returns-in-None-clause-size c = place-of_none is_space c.args.line.now (sym c.space_in.ensures ∙ c.in-None.is)
