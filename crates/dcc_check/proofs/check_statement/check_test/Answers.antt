use Rattle.std.proofs.Common.{◌≡◌, true, [], rules}
use Rattle.dcc_c.specs.Offences.{expr_offences, wants_number}
use Rattle.dcc_reader.specs.PartialViews.{expr_of}
use Rattle.dcc_reader.specs.Told.{told}
use Rattle.dcc_check.proofs.TellLaws.{then-if}
use Rattle.dcc_check.proofs.check_statement.check_test.Goals as goal

pub returns-then-done : goal.returns-then-done
returns-then-done c = λ s is.
    let e = expr_of c.args.e.now in
    let holds : c.args.done ≡ true = search rules in
    then-if (told c.args.first.now) (told c.check_expr-a.new.first) (told c.want_number.new.first) (expr_offences s e)
    (wants_number s e) [] c.args.done holds (c.check_expr-a.ensures.told s is) (c.want_number.ensures s e (c.check_expr-a.ensures.operand s is))
