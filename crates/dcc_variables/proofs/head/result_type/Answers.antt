use Rattle.std.proofs.Common.{◌≡◌, ◌<◌, length, get_or, map, sym, ap, ap₂, ◌∙◌, subst}
use Rattle.std.specs.Prelude.{IfOk}
use Rattle.dcc_ir.specs.Value.{width_of}
use Rattle.dcc_ir.specs.Views.{expr_of}
use Rattle.dcc_variables.specs.Functions.{type_for}
use Rattle.dcc_variables.proofs.ResultTypes.{first-ret}
use Rattle.dcc_variables.proofs.head.result_type.Goals as goal

pub returns-in-Ret : goal.returns-in-Ret
returns-in-Ret c =
    let graph = c.args.graph.now in
    let at = c.deref-block-items.ensures.value in
    let i = c.loop-block.block-index in
    let b = c.block-item.result in
    let less = subst (λ bs. i < length bs) at c.loop-block-test.true in
    let is = c.block-item.is ∙ ap (λ bs. get_or bs i b) at in
    subst (λ ty. IfOk c.type_for.result (λ r. r ≡ ty))
    (ap₂ (λ bits es. type_for (map (width_of bits) (map expr_of es))) c.as_slice.ensures.value c.as_slice-in-Ret.ensures.value
    ∙ sym (first-ret graph.bits.items graph.blocks.items i b c.in-Ret.values less is c.in-Ret.is) ∙ c.loop-block.invariant) c.type_for.ensures
