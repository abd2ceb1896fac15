use Rattle.std.proofs.Common.{◌++◌, ◌∙◌, ap, arith, vec_len}
use Rattle.dcc_step.proofs.Loaded.{memory_is}
use Rattle.dcc_step.proofs.machine.first_memory.Goals as goal

pub returns-clause-loaded : goal.returns-clause-loaded
returns-clause-loaded c =
    let image = c.args.image.now in
    let first = c.in_ok-memory.memory in
    let third = c.extend_from_slice.new.self in
    memory_is image.bytes.items first.items c.resize.new.self.items third.items c.resize-2.new.self.items (vec_len first) (vec_len third)
    c.in_ok-memory.ensures.items (omega (arith, image.bytes.ok.0)) first.ok.0 third.ok.0
    c.in_ok-resize.ensures.items (c.in_ok-extend_from_slice.ensures.items ∙ ap (λ l. c.resize.new.self.items ++ l) c.deref.ensures.value) c.in_ok-resize-2.ensures.items
