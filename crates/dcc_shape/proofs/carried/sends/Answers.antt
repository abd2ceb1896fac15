use Rattle.std.proofs.Common.{sym, ap, ◌∙◌}
use Rattle.std.specs.List.{list_any}
use Rattle.dcc_c.specs.Views.{expr_of, stmt_of}
use Rattle.dcc_shape.specs.Carried.{carries, sends}
use Rattle.dcc_shape.specs.Carrying.{holds}
use Rattle.dcc_shape.proofs.ListLaws.{list_any-map}
use Rattle.dcc_shape.proofs.carried.sends.Goals as goal

pub returns-in-Call : goal.returns-in-Call
returns-in-Call c =
    let names = holds c.args.names.now in
    c.any_carries.ensures
    ∙ ap (list_any (λ e. carries names (expr_of e))) c.deref.ensures.value
    ∙ sym (list_any-map (carries names) expr_of c.in-Call.arguments.items)
    ∙ ap (λ s. sends names (stmt_of s)) (sym c.in-Call.is)
