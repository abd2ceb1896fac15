use Rattle.std.proofs.Common.{◌≡◌, drop}
use Rattle.dcc_c.specs.Pieces.{decimal_from}
use Rattle.dcc_lex.proofs.number.value_of.Given as goal

-- the value so far and the digits left make the value
abbrev pub invariant-loop-digit : goal.invariant-loop-digit
invariant-loop-digit l = decimal_from l.value (drop l.digit-index l.digits) ≡ decimal_from 0 l.digits
