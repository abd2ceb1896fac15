use Rattle.std.proofs.Common.{sym, ap, ◌∙◌, Some}
use Rattle.std.specs.Prelude.{option_map}
use Rattle.dcc_value.specs.Resolved.{names_of, lent_declared}
use Rattle.dcc_value.proofs.PlaceLaws.{declared_local, declared_global, declared_missing}
use Rattle.dcc_value.proofs.resolve.declared_as.Goals as goal

pub returns-in_err-i : goal.returns-in_err-i
returns-in_err-i c =
    ap (option_map lent_declared) c.from_residual.ensures
    ∙ declared_missing (names_of c.args.names.now) c.args.name.now (sym c.slot_named.ensures ∙ c.in_err-i.was)

pub returns-in-Local : goal.returns-in-Local
returns-in-Local c =
    c.declared_at.ensures
    ∙ declared_local (names_of c.args.names.now) c.args.name.now c.in-Local.i (sym c.slot_named.ensures ∙ c.in_ok-i.was ∙ ap Some c.in-Local.is)

pub returns-in-Global : goal.returns-in-Global
returns-in-Global c =
    c.declared_at-in-Global.ensures
    ∙ declared_global (names_of c.args.names.now) c.args.name.now c.in-Global.i (sym c.slot_named.ensures ∙ c.in_ok-i.was ∙ ap Some c.in-Global.is)
