use Rattle.std.proofs.Common.{rules}
use Rattle.dcc_control.specs.Views.{plan_of}
use Rattle.dcc_pipe.proofs.unit.function.Goals as goal

pub returns-clause-function : goal.returns-clause-function
returns-clause-function c = record {
  plan = plan_of c.in_ok-plan.plan.items;
  is_control = c.in_ok-plan.ensures;
  is = search rules;
}
