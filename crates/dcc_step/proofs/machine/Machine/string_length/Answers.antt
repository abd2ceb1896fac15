use Rattle.std.proofs.Common.{length, ap, ◌∙◌}
use Rattle.dcc_step.specs.Core.{state_of}
use Rattle.dcc_step.proofs.Strings.{string_at}
use Rattle.dcc_step.proofs.machine.Machine.string_length.Goals as goal

pub returns-clause-value : goal.returns-clause-value
returns-clause-value c =
    c.string_length.ensures.value
    ∙ ap length (string_at (state_of c.args.self.now) c.deref.result.now c.ds.result c.from.result (cc) c.ds.ensures (c.from.ensures ∙ c.reg.ensures))
