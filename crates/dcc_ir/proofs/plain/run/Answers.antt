use Rattle.std.proofs.Common.{◌≡◌, ◌⊎◌, inl, inr, true, sym, ap, ◌∙◌, arith}
use Rattle.dcc_run.specs.End.{is_over}
use Rattle.dcc_run.proofs.RunLaws.{after-add}
use Rattle.dcc_ir.specs.Run.{step, first_state}
use Rattle.dcc_ir.specs.Views.{program_of}
use Rattle.dcc_ir.specs.Plain.{state_of}
use Rattle.dcc_ir.proofs.RunLaws.{stands_at_last}
use Rattle.dcc_ir.proofs.plain.run.Goals as goal
use Rattle.dcc_ir.proofs.plain.run.Goals.{then-loop-done-test+else-not-is_over, else-loop-done-test}

-- one more step is made
pub loop-done-preserved : goal.loop-done-preserved
loop-done-preserved c =
    let p = program_of c.args.program.now in
    let at_start = first_state p c.args.fill c.args.input.now in
    record {
      within = omega arith;
      stands = c.in_ok-step.ensures.after
          ∙ ap (λ fill. step p fill (state_of c.loop-done.run)) c.loop-done.invariant.fill
          ∙ ap (step p c.args.fill) c.loop-done.invariant.stands
          ∙ sym (after-add (step p c.args.fill) c.loop-done.done 1 at_start);
      fill = c.in_ok-step.ensures.fill ∙ c.loop-done.invariant.fill;
    }

pub returns : goal.returns
returns c =
    let p = program_of c.args.program.now in
    let last : (c.loop-done.done ≡ c.args.steps) ⊎ (is_over (state_of c.loop-done.run).end ≡ true) = elim c.loop-done-test.branch [
      | then-loop-done-test+else-not-is_over w ↦ inr (sym w.is_over.ensures ∙ w.if-not-is_over.false)
      | else-loop-done-test w ↦ inl (omega (arith, c.loop-done.invariant.within))
    ]
    in
    let stands = stands_at_last p c.args.fill c.args.steps c.loop-done.done (state_of c.loop-done.run) (first_state p c.args.fill c.args.input.now) c.loop-done.invariant.within c.loop-done.invariant.stands last in
    record { events = ap (λ s. s.events) stands; end = ap (λ s. s.end) stands }
