use Rattle.std.proofs.Common.{◌≡◌, ◌%◌, ◌+◌, drop, length, get_or, ap, sym, ◌∙◌, arith}
use Rattle.std.proofs.lemmas.List.{at_drop_more}
use Rattle.dcc_c.specs.Types.{size_of}
use Rattle.dcc_c.specs.Run.{with_values}
use Rattle.dcc_c.specs.Memory.{store}
use Rattle.dcc_prepare.proofs.StartLaws.{values-same}
use Rattle.dcc_prepare.proofs.start.put_values.Goals as goal

-- src/start.rt:52:5
pub loop-n-init : goal.loop-n-init
loop-n-init c =
    values-same c.args.global.now.ty (c.args.global.now.at % 65536) c.args.global.now.at c.args.global.now.init.items c.args.memory.now (omega arith)

-- src/start.rt:52:5
pub loop-n-preserved : goal.loop-n-preserved
loop-n-preserved c =
    let type = c.args.global.now.ty in
    let at = c.loop-n.at in
    let memory = c.loop-n.memory in
    let items = c.args.global.now.init.items in
    let i = c.loop-n.n-index in
    let rest = drop (i + 1) items in
    let next = ((at + c.size-size.result) % 4294967296) % 65536 in
    let n = get_or items i 0 in
    let long = ap length c.deref-n-items.ensures.value in
    let same : next % 65536 ≡ (at + size_of type) % 65536 = omega arith in
    ap (λ m. with_values type next rest m) c.store.ensures
    ∙ ap (λ l. with_values type next rest (store (size_of type) memory at (get_or l i 0))) c.deref-n-items.ensures.value
    ∙ values-same type next (at + size_of type) rest (store (size_of type) memory at n) same
    ∙ sym (at_drop_more (λ l. with_values type at l memory) items i 0 (omega arith))
    ∙ c.loop-n.invariant
