use Rattle.std.proofs.Common.{◌∙◌, ap, ℕ, nat_eq}
use Rattle.dcc_num.proofs.Shifts.{moved_up_is}
use Rattle.dcc_num.proofs.shift.moved_up.Goals as goal

pub returns-clause-bits : goal.returns-clause-bits
returns-clause-bits c = (moved_up_is c.args.w c.args.a c.args.count _ _ _ c.from.ensures c.min.ensures (c.from-limit.ensures ∙ c.limit.ensures) c.requires).0

pub returns-clause-out : goal.returns-clause-out
returns-clause-out c = ap (λ (n : ℕ). nat_eq n 1) (moved_up_is c.args.w c.args.a c.args.count _ _ _ c.from.ensures c.min.ensures (c.from-limit.ensures ∙ c.limit.ensures) c.requires).1
