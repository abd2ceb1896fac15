use Rattle.std.proofs.Common.{sym, ap, ◌∙◌}
use Rattle.std.specs.Prelude.{is_some}
use Rattle.dcc_check.proofs.MapLaws.{none-found}
use Rattle.dcc_named.proofs.Offsets.{placed-added, placed-restored}
use Rattle.dcc_named.proofs.places.add_first.Goals as goal

pub returns-in_ok-insert : goal.returns-in_ok-insert
returns-in_ok-insert c = λ at.
    placed-restored c.args.places.now c.insert.new.self c.insert-in-Some.new.self c.args.g.now.at c.args.g c.in-Some.first
    c.in_ok-first.ensures.updates c.in_ok-insert.ensures.updates (sym c.in_ok-first.ensures.old ∙ c.in-Some.is) at

pub returns-in_default : goal.returns-in_default
returns-in_default c = λ at.
    placed-added c.args.places.now c.insert.new.self c.args.g.now.at c.args.g c.in_ok-first.ensures.updates (ap is_some (sym c.in_ok-first.ensures.old) ∙ none-found c.in_ok-first.field-0 c.in_default.not-Some) at
