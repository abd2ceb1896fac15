use Rattle.std.proofs.Common.{◌≡◌, OnOk, OnErr, subst, List, ℕ, ◌∙◌}
use Rattle.dcc_io.specs.Told.{append_told, AppendsProperPrefix}
use Rattle.dcc_step.specs.Core.{state_of}
use Rattle.dcc_step.proofs.Strings.{string_at}
use Rattle.dcc_step.proofs.machine.Machine.write_string.Goals as goal

pub returns-clause-whole : goal.returns-clause-whole
returns-clause-whole g c =
    subst (λ (bytes : List ℕ). OnOk c.put_string.result (g.O.Sink.taken c.put_string.new.out ≡ append_told (g.O.Sink.taken c.args.out.now) bytes))
    (string_at (state_of c.args.self.now) c.deref.result.now c.ds.result c.from.result (cc) c.ds.ensures (c.from.ensures ∙ c.reg.ensures))
    c.put_string.ensures.whole

pub returns-clause-part : goal.returns-clause-part
returns-clause-part g c =
    subst (λ (bytes : List ℕ). OnErr c.put_string.result (AppendsProperPrefix (g.O.Sink.taken c.args.out.now) (g.O.Sink.taken c.put_string.new.out) bytes))
    (string_at (state_of c.args.self.now) c.deref.result.now c.ds.result c.from.result (cc) c.ds.ensures (c.from.ensures ∙ c.reg.ensures))
    c.put_string.ensures.part
