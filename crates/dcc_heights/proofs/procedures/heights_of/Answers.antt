use Rattle.std.proofs.Common.{rules}
use Rattle.dcc_prog.specs.declared.refusal.Refusal.TheVariants.{Memory}
use Rattle.dcc_heights.specs.Search.{HasFault}
use Rattle.dcc_heights.specs.Search as searching
use Rattle.dcc_heights.proofs.procedures.heights_of.Goals as goal

pub returns-in_err-ordered-clause-refused : goal.returns-in_err-ordered-clause-refused
returns-in_err-ordered-clause-refused c =
    let named : HasFault c.args.removed.now.entries c.args.proc.now Memory = record {
      framed = c.is_framed-framed.result;
      framed_is = c.is_framed-framed.ensures;
      fault = searching.IsFault.no_memory;
    } in
    search rules
