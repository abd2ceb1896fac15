use Rattle.std.proofs.Common.{map, sym, ap, ◌∙◌}
use Rattle.dcc_ir.specs.Tree.{Ret}
use Rattle.dcc_ir.specs.Views.{expr_of, exit_of}
use Rattle.dcc_ir.specs.Trimmed.{kept, trim_exit}
use Rattle.dcc_sums.proofs.KeptLaws.{map-kept}
use Rattle.dcc_localise.specs.Staying.{stays_in, trim_in}
use Rattle.dcc_localise.proofs.trim.trim_end.Goals as goal

pub returns-in_ok-kept-in-Ret : goal.returns-in_ok-kept-in-Ret
returns-in_ok-kept-in-Ret c =
    let values = c.in-Ret.values.items in
    ap Ret (ap (map expr_of) c.in_ok-kept-in-Ret.ensures ∙ map-kept expr_of (stays_in c.gives.result.now) values
    ∙ ap (λ s. kept (stays_in s) (map expr_of values)) c.gives.ensures)
    ∙ sym (ap (λ e. trim_exit (trim_in c.args.staying.now.by_entry.entries) c.args.entry (exit_of e)) c.in-Ret.is)
