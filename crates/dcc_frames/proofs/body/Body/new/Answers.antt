use Rattle.std.proofs.Common.{refl, sym, subst, rules}
use Rattle.dcc_prog.specs.declared.refusal.LimitName.TheVariants.{Arguments}
use Rattle.dcc_prog.specs.declared.refusal.Refusal.TheVariants.{Limit, Memory}
use Rattle.dcc_prog.specs.Refused.{IsRefusedByFrames, no_memory}
use Rattle.dcc_frames.specs.Body.{IsBodyRefusal}
use Rattle.dcc_frames.proofs.BodyLaws.{too-many, is-body}
use Rattle.dcc_frames.proofs.body.Body.new.Goals as goal

pub returns-in_err-steps-clause-refused : goal.returns-in_err-steps-clause-refused
returns-in_err-steps-clause-refused c =
    let named : IsBodyRefusal c.args.proc.now c.args.heights.now.entries c.args.removed c.args.is_start Memory =
    λ image layout m. no_memory in
    search rules

pub returns-then-args-gt-MOST_ARGUMENTS-clause-refused :
    goal.returns-then-args-gt-MOST_ARGUMENTS-clause-refused
returns-then-args-gt-MOST_ARGUMENTS-clause-refused c = λ image layout m.
    subst (λ n. IsRefusedByFrames image layout (Limit Arguments n)) (sym c.from.ensures)
    (too-many image layout c.args.proc.now c.args.heights.now.entries c.args.removed c.args.is_start m
    c.is_framed-framed.result
    (c.is_framed-framed.ensures image layout m.found) c.in_ok-steps.steps.items c.in_ok-steps.ensures
    c.arguments-args.result c.deref.result.now c.deref.ensures.value c.arguments-args.ensures
    c.if-args-gt-MOST_ARGUMENTS.true)

pub returns-clause-body : goal.returns-clause-body
returns-clause-body c = λ image layout m.
    is-body image layout c.args.proc.now c.args.heights.now.entries c.args.removed c.args.is_start m
    c.is_framed-framed.result
    (c.is_framed-framed.ensures image layout m.found) c.in_ok-steps.steps.items c.in_ok-steps.ensures
    c.arguments-args.result c.deref.result.now c.deref.ensures.value c.arguments-args.ensures
    _ refl refl refl refl c.if-args-gt-MOST_ARGUMENTS.false
