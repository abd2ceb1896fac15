use Rattle.std.proofs.Common.{map, sym, ap, ap₂, ◌∙◌}
use Rattle.dcc_ir.specs.Tree.{Call}
use Rattle.dcc_ir.specs.Views.{expr_of, stmt_of}
use Rattle.dcc_ir.specs.Trimmed.{kept, trim_stmt}
use Rattle.dcc_sums.proofs.KeptLaws.{map-kept}
use Rattle.dcc_localise.specs.Staying.{stays_in, trim_in}
use Rattle.dcc_localise.proofs.trim.trim_stmt.Goals as goal

pub returns-in_ok-kept-in-Call-2 : goal.returns-in_ok-kept-in-Call-2
returns-in_ok-kept-in-Call-2 c =
    let results = c.in-Call.results.items in
    let arguments = c.in-Call.arguments.items in
    ap₂ (λ r a. Call r c.in-Call.entry a c.in-Call.depth)
    (c.in_ok-kept-in-Call.ensures ∙ ap (λ s. kept (stays_in s) results) c.gives.ensures)
    (ap (map expr_of) c.in_ok-kept-in-Call-2.ensures ∙ map-kept expr_of (stays_in c.takes.result.now) arguments
    ∙ ap (λ s. kept (stays_in s) (map expr_of arguments)) c.takes.ensures)
    ∙ sym (ap (λ s. trim_stmt (trim_in c.args.staying.now.by_entry.entries) (stmt_of s)) c.in-Call.is)
