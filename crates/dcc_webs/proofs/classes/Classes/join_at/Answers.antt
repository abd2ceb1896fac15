use Rattle.std.proofs.Common.{◌+◌, arith}
use Rattle.dcc_webs.proofs.ClassLaws.{joins_none}
use Rattle.dcc_webs.proofs.classes.Classes.join_at.Goals as goal

pub returns-then-begin-count-clause-joins : goal.returns-then-begin-count-clause-joins
returns-then-begin-count-clause-joins c = joins_none (c.args.begin + c.args.i) (c.args.end + c.args.n) c.args.self.now.class.items (λ x_in y_in. absurd (omega (arith, x_in, y_in, c.if-begin-count.true, c.len-count.ensures)))

pub returns-then-end-count-clause-joins : goal.returns-then-end-count-clause-joins
returns-then-end-count-clause-joins c = joins_none (c.args.begin + c.args.i) (c.args.end + c.args.n) c.args.self.now.class.items (λ x_in y_in. absurd (omega (arith, x_in, y_in, c.if-end-count.true, c.len-count.ensures)))

pub returns-then-i-count-clause-joins : goal.returns-then-i-count-clause-joins
returns-then-i-count-clause-joins c = joins_none (c.args.begin + c.args.i) (c.args.end + c.args.n) c.args.self.now.class.items (λ x_in y_in. absurd (omega (arith, x_in, y_in, c.if-i-count.true, c.if-begin-count.false, c.len-count.ensures)))

pub returns-then-n-count-clause-joins : goal.returns-then-n-count-clause-joins
returns-then-n-count-clause-joins c = joins_none (c.args.begin + c.args.i) (c.args.end + c.args.n) c.args.self.now.class.items (λ x_in y_in. absurd (omega (arith, x_in, y_in, c.if-n-count.true, c.if-end-count.false, c.len-count.ensures)))
