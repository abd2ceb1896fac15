use Rattle.std.proofs.Common.{sym, ◌∙◌}
use Rattle.std.specs.Prelude.{◌==◌}
use Rattle.dcc_reread.proofs.Places.{place-of_none}
use Rattle.dcc_reread.proofs.reading.name_length.Goals as goal

pub returns-in-None : goal.returns-in-None
returns-in-None c = place-of_none (λ byte. byte == 32) c.args.text.now (sym c.space_in.ensures ∙ c.in-None.is)
