use Rattle.std.proofs.Common.{◌≡◌, ◌+◌, ◌<◌, ◌≤◌, get_or, length, map, drop, sym, ap, ◌∙◌, arith}
use Rattle.std.proofs.Math.ListN.{get_or-map}
use Rattle.std.proofs.lemmas.List.{drop_all, length-map}
use Rattle.dcc_ir.specs.Views.{block_of}
use Rattle.dcc_control.specs.GotoPlan as spec
use Rattle.dcc_control.specs.Plan.{Mark, item}
use Rattle.dcc_control.specs.Views.{plan_before}
use Rattle.dcc_control.proofs.GotoSteps.{blocks-step}
use Rattle.dcc_control.proofs.goto_plan.blocks_plan.Goals as goal

pub loop-b-preserved : goal.loop-b-preserved
loop-b-preserved c =
    let given = c.args.blocks.now in
    let blocks = map block_of given in
    let b = c.loop-b.b in
    let items = c.loop-b.items.items in
    let left = spec.goto_blocks (b + 1) (drop (b + 1) blocks) in
    let block = block_of c.index-blocks-b.result in
    let within : b < length blocks = omega (arith, length-map given block_of) in
    let is : block ≡ get_or blocks b block = ap block_of c.index-blocks-b.is ∙ sym (get_or-map block_of given b c.index-blocks-b.result) in
    c.in_ok-push_block.ensures left
    ∙ ap (λ n. plan_before items (item (Mark n) (spec.do_all n 0 block.stmts (spec.goto_exit n block.exit left)))) c.in_ok-place.ensures
    ∙ ap (plan_before items) (sym (blocks-step b blocks block within is))
    ∙ c.loop-b.invariant

pub returns : goal.returns
returns c =
    let blocks = map block_of c.args.blocks.now in
    let b = c.loop-b.b in
    let items = c.loop-b.items.items in
    let over : length blocks ≤ b = omega (arith, length-map c.args.blocks.now block_of) in
    ap (λ l. plan_before items (spec.goto_blocks b l)) (sym (drop_all b blocks over)) ∙ c.loop-b.invariant
