use Rattle.std.proofs.Common.{sym, ap, ◌∙◌}
use Rattle.std.specs.Prelude.{is_some}
use Rattle.dcc_check.proofs.MapLaws.{none-found, held-added, held-restored}
use Rattle.dcc_rewrite.proofs.names.add_first.Goals as goal

pub returns-in_ok-insert : goal.returns-in_ok-insert
returns-in_ok-insert c = λ other.
    held-restored c.args.declared.now c.insert.new.self c.insert-in-Some.new.self c.args.word.now c.args.value c.in-Some.first
    c.in_ok-first.ensures.updates c.in_ok-insert.ensures.updates (sym c.in_ok-first.ensures.old ∙ c.in-Some.is) other

pub returns-in_default : goal.returns-in_default
returns-in_default c = λ other.
    held-added c.args.declared.now c.insert.new.self c.args.word.now c.args.value c.in_ok-first.ensures.updates (ap is_some (sym c.in_ok-first.ensures.old) ∙ none-found c.in_ok-first.field-0 c.in_default.not-Some) other
