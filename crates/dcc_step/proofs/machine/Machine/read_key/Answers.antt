use Rattle.std.proofs.Common.{rules, arith}
use Rattle.dcc_step.proofs.Scenes.{key_made, key_refused, leads_by_key}
use Rattle.dcc_step.proofs.machine.Machine.read_key.Goals as goal

pub returns-clause-made : goal.returns-clause-made
returns-clause-made g c =
    key_made c.args.echo c.args.self.now c.set_al.new.self c.in_ok-byte.byte _ _ _ _ c.in_ok-byte.ensures.taken c.set_al.ensures

pub returns-in_err-byte-clause-refused : goal.returns-in_err-byte-clause-refused
returns-in_err-byte-clause-refused g c =
    let r =
    key_refused c.args.echo c.args.self.now c.in_err-byte.field-0.0 (g.I.Source.left c.args.input.now) (g.O.Sink.taken c.args.out.now)
    (g.I.Source.left c.take_key.new.input) (g.O.Sink.taken c.take_key.new.out) c.in_err-byte.ensures.refused in
    search rules

pub returns-clause-bytes : goal.returns-clause-bytes
returns-clause-bytes g c =
    leads_by_key c.args.echo c.args.self.now c.set_al.new.self c.in_ok-byte.byte (omega arith) c.set_al.ensures
