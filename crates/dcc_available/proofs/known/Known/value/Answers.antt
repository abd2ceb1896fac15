use Rattle.std.proofs.Common.{◌≡◌, ◌<◌, ◌≤◌, length, Some, sym, ap, ◌∙◌, subst, ltb-true, slice_get}
use Rattle.std.proofs.lemmas.Option.{slice_get-get_or}
use Rattle.dcc_ir.specs.declared.syntax.Loc.TheVariants.{Temp}
use Rattle.dcc_ir.specs.Measure.{depth_of}
use Rattle.dcc_ir.specs.Views.{expr_of}
use Rattle.dcc_available.specs.Known.{fact_of}
use Rattle.dcc_available.proofs.StepLaws.{got-mapped}
use Rattle.dcc_available.proofs.WithinLaws.{within_depth}
use Rattle.dcc_available.proofs.known.Known.value.Goals as goal

pub returns-in_ok-copied-in-Some-get-clause-told : goal.returns-in_ok-copied-in-Some-get-clause-told
returns-in_ok-copied-in-Some-get-clause-told c =
    let facts = c.deref-2.result.now in
    let fact = c.in-Some-get.fact.now in
    let at = c.in-Some.at.now in
    let lookup = c.in-Some-get.ensures.lookup in
    let less : at < length facts = ltb-true at (length facts) (sym lookup.0) in
    let found : slice_get facts at ≡ Some fact = slice_get-get_or facts at fact less ∙ ap Some (sym lookup.1) in
    record {
      at = at;
      fact = fact_of fact;
      noted = got-mapped fact_of c.args.self.now.facts.items at fact (subst (λ fs. slice_get fs at ≡ Some fact) c.deref-2.ensures.value found);
      place = ap Temp (sym c.if-fact-temporary.true);
      value = c.in_ok-copied-in-Some-get.ensures;
      holding = sym c.if-holds.ensures;
    }

pub returns-in_ok-copied-in-Some-get-clause-within : goal.returns-in_ok-copied-in-Some-get-clause-within
returns-in_ok-copied-in-Some-get-clause-within c =
    subst (λ e. depth_of e ≤ c.args.depth) (sym c.in_ok-copied-in-Some-get.ensures) (within_depth (expr_of c.in-Some-get.fact.now.value) c.args.depth (sym c.if-is_within.ensures))
