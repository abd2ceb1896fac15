use Rattle.std.proofs.Common.{◌≡◌, false, get_or, rules, tests}
use Rattle.dcc_c.specs.Token.{is_digit}
use Rattle.dcc_lex.proofs.Words.{not_plain}
use Rattle.dcc_lex.proofs.word.plain_number.Goals as goal

pub returns-then-not-is_digit : goal.returns-then-not-is_digit
returns-then-not-is_digit c =
    let other : is_digit (get_or c.args.run.now 0 0) ≡ false = search (rules, tests) in
    not_plain c.args.run.now other
