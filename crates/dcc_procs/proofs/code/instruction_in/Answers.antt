use Rattle.std.proofs.Common.{rules}
use Rattle.dcc_decode.proofs.Decoding.{end_rules}
use Rattle.dcc_procs.proofs.code.instruction_in.Goals as goal

pub returns-in_err-get-clause-found : goal.returns-in_err-get-clause-found
returns-in_err-get-clause-found c = search (rules, end_rules)
