use Rattle.std.proofs.Common.{sym, ap, ◌∙◌}
use Rattle.dcc_c.specs.Kinds.{first_after}
use Rattle.dcc_reader.specs.Told.{told}
use Rattle.dcc_check.proofs.TellLaws.{place-other}
use Rattle.dcc_check.proofs.check_expression.check_place.Goals as goal

pub returns-in_default : goal.returns-in_default
returns-in_default c = record {
  place = λ s is. c.check_expr.ensures.operand s is ∙ sym (place-other s c.args.e.now c.in_default.not-Name).0;
  told = λ s is. c.check_expr.ensures.told s is ∙ ap (first_after (told c.args.first.now)) (sym (place-other s c.args.e.now c.in_default.not-Name).1);
}
