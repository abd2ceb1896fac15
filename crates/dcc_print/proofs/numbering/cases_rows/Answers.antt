use Rattle.std.proofs.Common.{sym, arith}
use Rattle.dcc_print.proofs.CountedRows.{cases-count}
use Rattle.dcc_print.proofs.numbering.cases_rows.Goals as goal

pub returns-clause-rows : goal.returns-clause-rows
returns-clause-rows c = sym (cases-count c.args.cases.now (λ k. let fits = c.type_inv.cases k in omega arith))
