use Rattle.std.proofs.Common.{◌≡◌, ◌∙◌, ap, sym, subst, map, Some, IfOk}
use Rattle.std.specs.Option.{option_copied}
use Rattle.std.proofs.lemmas.List.{take_all}
use Rattle.dcc_ir.specs.Views as views
use Rattle.dcc_simulation.specs.Passed.{exit_of}
use Rattle.dcc_lift.specs.Blocks.{node_in, nodes_in, node_exit, exit_at, block_place}
use Rattle.dcc_lift.specs.Known.{source_of}
use Rattle.dcc_lift.proofs.outline.Outline.end.Goals as goal

pub returns : goal.returns
returns c =
    let scene = source_of c.args.self.now in
    let at = c.args.at in
    let node : node_in (nodes_in scene) at ≡ Some c.in-Some.node.now = ap (λ ns. node_in ns at) (sym c.requires.nodes)
    ∙ sym c.at.ensures ∙ ap option_copied c.in-Some.is in
    let places : c.loop-next.places.items ≡ map (block_place scene) c.in-Some.node.now.succ.items =
    c.loop-next.invariant
    ∙ ap (map (block_place scene))
    (take_all c.loop-next.next-index c.as_slice-next-items.result.now c.loop-next-test.false
    ∙ c.as_slice-next-items.ensures) in
    let exit : exit_of scene.procedure c.in-Some.node.now.instr.op c.loop-next.places.items ≡ exit_at scene at =
    ap (exit_of scene.procedure c.in-Some.node.now.instr.op) places ∙ sym (ap (node_exit scene) node) in
    subst (λ e. IfOk c.end.result (λ end. views.exit_of end ≡ e)) exit c.end.ensures
