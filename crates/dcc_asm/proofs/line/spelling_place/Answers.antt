use Rattle.std.proofs.Common.{sym, ◌∙◌}
use Rattle.std.specs.Prelude.{nat_le}
use Rattle.dcc_reread.proofs.Places.{place-of_none}
use Rattle.dcc_asm.proofs.line.spelling_place.Goals as goal

pub returns-in-None : goal.returns-in-None
returns-in-None c = place-of_none (λ byte. nat_le 97 byte) c.args.text.now (sym c.letter_in.ensures ∙ c.in-None.is)
