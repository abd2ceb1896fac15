use Rattle.std.proofs.Common.{ap, ℕ, ◌%◌, nat_eq}
use Rattle.dcc_num.proofs.Shifts.{moved_down_for}
use Rattle.dcc_num.proofs.shift.moved_down.Goals as goal

pub returns-clause-bits : goal.returns-clause-bits
returns-clause-bits c = (moved_down_for c.args.a c.args.count _ _ c.from.ensures c.min.ensures c.ranges.a.fits c.requires).0

pub returns-clause-out : goal.returns-clause-out
returns-clause-out c = ap (λ (n : ℕ). nat_eq (n % 2) 1) (moved_down_for c.args.a c.args.count _ _ c.from.ensures c.min.ensures c.ranges.a.fits c.requires).1
