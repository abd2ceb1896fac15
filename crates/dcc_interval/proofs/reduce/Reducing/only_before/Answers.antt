use Rattle.std.proofs.Common.{ℕ, false, Option, Some, None, sym, ◌∙◌}
use Rattle.std.specs.Prelude.{IfNone}
use Rattle.dcc_interval.specs.Reducing.{at_in}
use Rattle.dcc_interval.proofs.TryLaws.{none_other, more_others}
use Rattle.dcc_interval.proofs.reduce.Reducing.only_before.Goals as goal

always : {P : Type 0} (o : Option ℕ) → P → IfNone o P
always None p = p
always (Some n) p = tt

pub returns-in_err-into-clause-none : goal.returns-in_err-into-clause-none
returns-in_err-into-clause-none c =
    always c.from_residual.result (none_other (at_in c.args.self.now) c.args.sources.now c.args.region c.in_err-into.ensures.none)

pub returns-else-have_all-clause-none : goal.returns-else-have_all-clause-none
returns-else-have_all-clause-none c =
    more_others (at_in c.args.self.now) c.args.sources.now c.args.region c.in_ok-into.into c.in_ok-into.ensures.apart c.in_ok-into.ensures.some
    (sym c.have_all.ensures ∙ c.if-have_all.false)
