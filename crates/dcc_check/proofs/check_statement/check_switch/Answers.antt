use Rattle.dcc_c.specs.Offences.{expr_offences}
use Rattle.dcc_reader.specs.PartialViews.{expr_of}
use Rattle.dcc_reader.specs.Told.{told}
use Rattle.dcc_check.specs.Operands.{selector_offences}
use Rattle.dcc_check.proofs.TellLaws.{then-told}
use Rattle.dcc_check.proofs.check_statement.check_switch.Goals as goal

pub returns : goal.returns
returns c = λ s is.
    let e = expr_of c.args.e.now in
    then-told (told c.args.first.now) (told c.check_expr-a.new.first) (told c.check_selector.new.first) (expr_offences s e)
    (selector_offences s e c.args.done) (c.check_expr-a.ensures.told s is) (c.check_selector.ensures s e (c.check_expr-a.ensures.operand s is))
