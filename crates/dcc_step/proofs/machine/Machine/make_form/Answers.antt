use Rattle.std.proofs.Common.{◌≡◌, ◌+◌, ◌%◌, ap}
use Rattle.dcc_run.specs.End.{Running}
use Rattle.dcc_step.specs.Core.{Core}
use Rattle.dcc_step.proofs.Steps.{moved_on}
use Rattle.dcc_step.proofs.Quick.{quiet_step}
use Rattle.dcc_step.proofs.machine.Machine.make_form.Goals as goal

pub returns-clause-made : goal.returns-clause-made
returns-clause-made c =
    λ so.
    let m : Core = c.args.self.now in
    let runs : m.end ≡ Running = cc in
    quiet_step m _ c.operate_form.new.self c.in-Some.form c.in-Some.len runs c.in-Some.ensures.form c.in-Some.ensures.found
    (moved_on _ m c.in-Some.len _ c.self.view_is (ap (λ k. (c.self.inside.ip + k) % 65536) c.from.ensures)) c.operate_form.ensures
