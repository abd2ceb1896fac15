use Rattle.std.proofs.Common.{◌≡◌, ℕ, List, map, subst, IfOk}
use Rattle.std.specs.List.{range_with_len}
use Rattle.dcc_ir.specs.Run.{first_memory}
use Rattle.dcc_ir.specs.Plain.{first_byte}
use Rattle.dcc_ir.proofs.plain.first_memory.Goals as goal

pub returns : goal.returns
unfolding first_memory
returns c =
    subst (λ (image : List ℕ). IfOk c.first_bytes.result (λ bytes. bytes.items ≡ map (first_byte image c.args.program.now.lo c.args.program.now.hi c.args.fill) (range_with_len 0 65536)))
    c.deref.ensures.value c.first_bytes.ensures
