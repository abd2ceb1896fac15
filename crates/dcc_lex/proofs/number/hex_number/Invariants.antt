use Rattle.std.proofs.Common.{◌≡◌, drop}
use Rattle.dcc_c.specs.Token.{hex_from}
use Rattle.dcc_lex.proofs.number.hex_number.Given as goal

-- the value so far and the digits left make the value
abbrev pub invariant-loop-digit : goal.invariant-loop-digit
invariant-loop-digit l = hex_from l.value (drop l.digit-index l.digits) ≡ hex_from 0 l.digits
