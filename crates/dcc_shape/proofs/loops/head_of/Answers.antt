use Rattle.std.proofs.Common.{◌≡◌, true, false, Option, Some, None, sym, ap, ◌∙◌}
use Rattle.std.specs.Prelude.{◌==◌, IfNone}
use Rattle.dcc_shape.specs.Shape.{names_one}
use Rattle.dcc_shape.specs.Seen.{lent}
use Rattle.dcc_shape.proofs.KnownLaws.{any-count, named-heads}
use Rattle.dcc_shape.proofs.LoopLaws.{no-name}
use Rattle.dcc_shape.proofs.loops.head_of.Goals as goal

if-none : {T : Type 0} (o : Option T) (P : Type 0) → P → IfNone o P
if-none None P told = told
if-none (Some x) P told = tt

pub returns-in_err-label-clause-none : goal.returns-in_err-label-clause-none
returns-in_err-label-clause-none c = λ ats is fit.
    if-none c.from_residual.result (names_one (λ at. true) ats (lent c.args.label) ≡ false)
    (ap (λ o. names_one (λ at. true) ats (lent o)) c.in_err-label.was ∙ no-name (λ at. true) ats)

pub returns-in_err-at-clause-none : goal.returns-in_err-at-clause-none
returns-in_err-at-clause-none c = λ ats is fit.
    if-none c.from_residual-in_err-at.result (names_one (λ at. true) ats (lent c.args.label) ≡ false)
    (ap (λ o. names_one (λ at. true) ats (lent o)) c.in_ok-label.was
    ∙ (named-heads c.args.heads.now ats fit is).others c.in_ok-label.field-0.now c.in_err-at.ensures.none)

pub returns-then-contains-clause-among : goal.returns-then-contains-clause-among
returns-then-contains-clause-among c = λ ats is.
    sym (any-count (λ m. m == c.in_ok-at.at) ats) ∙ sym (is.once c.in_ok-at.at) ∙ sym c.contains.ensures ∙ c.if-contains.true

pub returns-else-contains-clause-none : goal.returns-else-contains-clause-none
returns-else-contains-clause-none c = λ ats is fit.
    ap (λ o. names_one (λ at. true) ats (lent o)) c.in_ok-label.was
    ∙ ap (λ w. names_one (λ at. true) ats (Some w)) c.in_ok-at.ensures.is.1
    ∙ (named-heads c.args.heads.now ats fit is).offsets c.in_ok-at.at c.in_ok-at.ensures.is.0
    ∙ sym c.contains.ensures ∙ c.if-contains.false
