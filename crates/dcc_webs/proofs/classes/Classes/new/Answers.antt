use Rattle.std.proofs.Common.{arith}
use Rattle.dcc_webs.proofs.ClassLaws.{alone}
use Rattle.dcc_webs.proofs.classes.Classes.new.Goals as goal

pub returns-clause-classes : goal.returns-clause-classes
returns-clause-classes c = alone c.loop-x.class.items (λ k less. c.loop-x.invariant.own k (omega (arith, less, c.loop-x.invariant.count)))
