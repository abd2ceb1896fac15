use Rattle.std.proofs.Common.{◌≡◌, ◌<◌, ◌≤◌, true, false, sym, arith}
use Rattle.dcc_c.specs.Pieces.{decimal_from}
use Rattle.dcc_lex.specs.NumberViews.{is_short}
use Rattle.dcc_lex.proofs.Numbers.{decimal_value_none, decimal_value_some, decimal_value_great}
use Rattle.dcc_lex.proofs.number.decimal_value.Goals as goal

pub returns-then-not-is_short : goal.returns-then-not-is_short
returns-then-not-is_short c =
    let long : is_short c.args.digits.now ≡ false = cc in
    sym (decimal_value_none c.args.digits.now long)

pub returns-then-value-le4294967295 : goal.returns-then-value-le4294967295
returns-then-value-le4294967295 c =
    let short : is_short c.args.digits.now ≡ true = cc in
    let small : decimal_from 0 c.args.digits.now ≤ 4294967295 = omega arith in
    let is = decimal_value_some c.args.digits.now c.requires short small in
    cc

pub returns-else-value-le4294967295 : goal.returns-else-value-le4294967295
returns-else-value-le4294967295 c =
    let great : 4294967295 < decimal_from 0 c.args.digits.now = omega arith in
    sym (decimal_value_great c.args.digits.now great)
