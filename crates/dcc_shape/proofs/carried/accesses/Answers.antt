use Rattle.std.proofs.Common.{sym, ap, ◌∙◌}
use Rattle.std.specs.Prelude.{◌||◌, option_map}
use Rattle.std.specs.List.{list_any}
use Rattle.dcc_c.specs.Views.{expr_of, stmt_of}
use Rattle.dcc_shape.specs.Carried.{points, points_if, accesses}
use Rattle.dcc_shape.specs.Carrying.{holds}
use Rattle.dcc_shape.proofs.ListLaws.{list_any-map}
use Rattle.dcc_shape.proofs.carried.accesses.Goals as goal

pub returns-in-Call : goal.returns-in-Call
returns-in-Call c =
    let names = holds c.args.names.now in
    let first = points_if names (option_map expr_of c.in-Call.place) in
    c.call_points.ensures
    ∙ ap (λ l. first || list_any (λ e. points names (expr_of e)) l) c.deref.ensures.value
    ∙ ap (λ b. first || b) (sym (list_any-map (points names) expr_of c.in-Call.arguments.items))
    ∙ ap (λ s. accesses names (stmt_of s)) (sym c.in-Call.is)
