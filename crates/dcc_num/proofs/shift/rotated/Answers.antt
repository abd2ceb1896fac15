use Rattle.std.proofs.Common.{◌∙◌}
use Rattle.dcc_num.proofs.Shifts.{rotated_is, limit_small}
use Rattle.dcc_num.proofs.shift.rotated.Goals as goal

pub returns-clause-width : goal.returns-clause-width
returns-clause-width c = rotated_is c.args.w c.args.a c.args.places _ _ c.from.ensures (c.from-limit.ensures ∙ c.limit.ensures) c.requires.operand c.requires.places

pub overflow_cast-result : goal.overflow_cast-result
overflow_cast-result c = record {
  fits = limit_small c.args.w _ (rotated_is c.args.w c.args.a c.args.places _ _ c.from.ensures (c.from-limit.ensures ∙ c.limit.ensures) c.requires.operand c.requires.places);
}
