use Rattle.std.proofs.Common.{◌≡◌, ◌+◌, ◌-◌, ◌/◌, ◌%◌, sym, ap, ◌∙◌, arith}
use Rattle.std.specs.Prelude.{slice_set}
use Rattle.dcc_c.specs.Types.{size_of}
use Rattle.dcc_c.specs.Memory.{store}
use Rattle.dcc_value.proofs.MemoryLaws.{store-step}
use Rattle.dcc_value.proofs.value.memory.store.Goals as goal

pub loop-i-preserved : goal.loop-i-preserved
loop-i-preserved c =
    let size = size_of c.args.ty in
    let i = c.loop-i.i in
    let m = c.loop-i.memory in
    let rest = c.loop-i.rest in
    let known : c.size-i-end.result ≡ size = c.size-i-end.ensures.value in
    let left : size - i ≡ size - (i + 1) + 1 = omega arith in
    let next : c.args.at + (i + 1) ≡ c.args.at + i + 1 = omega arith in
    let place : c.args.at + i ≡ c.from.result + c.from-in-loop-i.result = omega arith in
    let written : slice_set m ((c.args.at + i) % 65536) (rest % 256) ≡ c.put_byte.new.memory =
    ap (λ p. slice_set m (p % 65536) (rest % 256)) place ∙ sym c.put_byte.ensures in
    c.loop-i.invariant
    ∙ store-step (size - i) (size - (i + 1)) m (c.args.at + i) (c.args.at + (i + 1)) rest left next
    ∙ ap (λ n. store (size - (i + 1)) n (c.args.at + (i + 1)) (rest / 256)) written
