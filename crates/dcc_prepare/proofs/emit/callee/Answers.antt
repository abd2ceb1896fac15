use Rattle.std.proofs.Common.{sym, ap, ◌∙◌}
use Rattle.std.specs.Prelude.{option_map}
use Rattle.dcc_prepare.specs.Points.{dos_call}
use Rattle.dcc_prepare.proofs.PrepareLaws.{function_found, no_function}
use Rattle.dcc_prepare.proofs.emit.callee.Goals as goal

pub returns-in-Some-place_of : goal.returns-in-Some-place_of
returns-in-Some-place_of c tree first =
    let found = function_found tree.functions c.args.name.now c.in-Some-place_of.number
    (sym (first c.args.name.now) ∙ sym c.place_of.ensures ∙ c.in-Some-place_of.is) in
    (found.0, sym c.dos_of.ensures ∙ ap (option_map dos_call) c.in-None.is, found.1, found.2)

pub returns-in-None-place_of : goal.returns-in-None-place_of
returns-in-None-place_of c tree first = (
  sym c.dos_of.ensures ∙ ap (option_map dos_call) c.in-None.is,
  no_function tree.functions c.args.name.now (sym (first c.args.name.now) ∙ sym c.place_of.ensures ∙ c.in-None-place_of.is),
)
