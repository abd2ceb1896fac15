use Rattle.std.proofs.Common.{◌≡◌, ◌∙◌, ap, ap₂, sym, subst, ◌++◌, [], Some, None, OnOk}
use Rattle.std.specs.Option.{option_copied}
use Rattle.std.proofs.lemmas.List.{append-nil}
use Rattle.dcc_ops.specs.Writing.{written}
use Rattle.dcc_lift.specs.Blocks.{node_in, nodes_in, height_in, node_stmts, stmts_at}
use Rattle.dcc_lift.specs.Known.{source_of}
use Rattle.dcc_lift.proofs.SceneLaws.{height_from_lookup, height_low}
use Rattle.dcc_lift.proofs.outline.Outline.write.Goals as goal

pub write-requires-clause-height : goal.write-requires-clause-height
write-requires-clause-height c =
    let heights = (source_of c.args.self.now).heights in
    let found : height_in heights c.args.at ≡ Some c.in-Some-get.height.now =
    sym (c.get.ensures.value ∙ height_from_lookup heights c.args.at) ∙ ap option_copied c.in-Some-get.is in
    height_low heights c.args.at c.in-Some-get.height.now c.requires.scene.heights found

pub returns-in-Some-get : goal.returns-in-Some-get
returns-in-Some-get c =
    let scene = source_of c.args.self.now in
    let at = c.args.at in
    let found : height_in scene.heights at ≡ Some c.in-Some-get.height.now =
    sym (c.get.ensures.value ∙ height_from_lookup scene.heights at) ∙ ap option_copied c.in-Some-get.is in
    let node : node_in (nodes_in scene) at ≡ Some c.in-Some.node.now = ap (λ ns. node_in ns at) (sym c.requires.nodes)
    ∙ sym c.at.ensures ∙ ap option_copied c.in-Some.is in
    subst (λ stmts. OnOk c.write.result (written c.write.new.writer ≡ written c.args.writer.now ++ stmts))
    (sym (ap₂ (node_stmts scene) found node)) c.write.ensures

pub returns-in-None : goal.returns-in-None
returns-in-None c =
    let scene = source_of c.args.self.now in
    let at = c.args.at in
    let none : height_in scene.heights at ≡ None = sym (c.get.ensures.value ∙ height_from_lookup scene.heights at)
    ∙ ap option_copied c.in-None.is in
    let stmts : stmts_at scene at ≡ [] = ap (λ h. node_stmts scene h (node_in (nodes_in scene) at)) none in
    sym (append-nil (written c.args.writer.now)) ∙ ap (λ more. written c.args.writer.now ++ more) (sym stmts)
