use Rattle.std.proofs.Common.{ap, ◌∙◌, arith}
use Rattle.std.specs.Prelude.{not}
use Rattle.dcc_pipe.proofs.AllowedItems.{some-cases}
use Rattle.dcc_pipe.proofs.allowed.are_cases.Goals as goal

pub returns : goal.returns
returns c = ap not c.is_empty.ensures ∙ some-cases c.args.cases.now (λ k. let fits = c.type_inv.cases k in omega arith)
