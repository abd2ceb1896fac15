use Rattle.std.proofs.Common.{◌≡◌, sym, ap, ◌∙◌}
use Rattle.dcc_run.specs.End.{Outside}
use Rattle.dcc_machine.specs.Operations.{with_end}
use Rattle.dcc_step.specs.Core.{Core, changed_by}
use Rattle.dcc_step.proofs.Steps.{moved_on, outside_answers, refused_answers, answered, answers, answer_made, no_fault, step_made_at, step_refused_at, leads_at}
use Rattle.dcc_step.specs.Stepped.{outcome_of}
use Rattle.dcc_step.proofs.machine.Machine.make_operation.Goals as goal

pub returns-in_default : goal.returns-in_default
returns-in_default g c =
    let m = c.args.self.now in
    let ip : c.self.inside.ip ≡ m.ip = ap (λ (k : Core). k.ip) c.self.view_is in
    outside_answers c.self-in_default.inside.end c.answer.result m c.finish.new.self _ _ _ _ c.requires.runs
    (sym c.requires.found ∙ c.in_default.is)
    (c.finish.ensures ∙ ap (λ at. changed_by (with_end (Outside at) at) m) ip)
    c.answer.ensures (sym (ap (λ (k : Core). k.end) c.self-in_default.view_is))

pub returns-in-Err : goal.returns-in-Err
returns-in-Err g c =
    let m : Core = c.args.self.now in
    let ip : c.self.inside.ip ≡ m.ip = ap (λ (k : Core). k.ip) c.self.view_is in
    let moved =
    moved_on _ m c.in-Some.instr.len c.next_of-self-inside.result c.self.view_is c.next_of-self-inside.ensures in
    refused_answers c.in-Err.fault c.from.result m _ _ _ _ _ _ _ _ _ c.requires.runs c.from.ensures
    (step_refused_at m _ c.perform.new.self _ c.self.inside.ip c.in-Some.instr c.in-Err.fault _ _ _ _ c.requires.runs (sym c.requires.found ∙ c.in-Some.is)
    c.in-Err.ensures.refused ip moved
    (λ kept. ap (λ (k : Core). record k { ip = c.self.inside.ip }) (c.self-2.view_is ∙ kept) ∙ ap (λ i. record m { ip = i }) ip))
    c.in-Err.ensures.faults

pub returns : goal.returns
returns g c =
    let m : Core = c.args.self.now in
    let ip : c.self.inside.ip ≡ m.ip = ap (λ (k : Core). k.ip) c.self.view_is in
    let moved =
    moved_on _ m c.in-Some.instr.len c.next_of-self-inside.result c.self.view_is c.next_of-self-inside.ensures in
    record {
      step =
          answered c.self-2.inside.end c.answer-2.result _ _ c.answer-2.ensures
          (step_made_at m _ c.self.inside.ip c.in-Some.instr _ _ _ c.requires.runs (sym c.requires.found ∙ c.in-Some.is)
          c.in_default-perform.ensures.made ip moved);
      bytes = λ is.
          leads_at m _ _ c.self.inside.ip c.in-Some.instr c.requires.runs (sym c.requires.found ∙ c.in-Some.is)
          c.in_default-perform.ensures.bytes ip moved;
      answer =
          answers c.self-2.inside.end c.answer-2.result _ c.answer-2.ensures
          (sym (ap (λ (k : Core). k.end) c.self-2.view_is));
      faults = no_fault c.answer-2.result _ _ _ _ (ap outcome_of c.answer-2.ensures ∙ answer_made c.self-2.inside.end) c.perform.ensures.faults.input_faults c.perform.ensures.faults.output_faults;
    }
