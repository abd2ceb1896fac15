use Rattle.std.proofs.Common.{◌≡◌, length, ap, sym, ◌∙◌, subst, arith}
use Rattle.std.proofs.lemmas.List.{length-map}
use Rattle.dcc_ir.specs.Views.{block_of, graph_of}
use Rattle.dcc_modref.specs.States.{told_in}
use Rattle.dcc_modref.specs.Tables.{states_of, first_states, AreFlowing, HasFlowed}
use Rattle.dcc_modref.specs.Flowing.{Answers}
use Rattle.dcc_modref.proofs.CodeLaws.{first_flowing, answered}
use Rattle.dcc_modref.proofs.graph.loses.Goals as goal

pub spread-requires-clause-going : goal.spread-requires-clause-going
spread-requires-clause-going c =
    let changed = told_in c.args.subject.now.changed.now in
    let graph = graph_of c.args.subject.now.graph.now in
    let size : c.len.result ≡ length graph.blocks = omega (arith, length-map c.args.subject.now.graph.now.blocks.items block_of) in
    subst (AreFlowing changed graph c.args.subject.now.location) (sym (c.in_ok-begins.ensures ∙ ap first_states size)) (first_flowing changed graph c.args.subject.now.location c.requires.begins)

pub returns : goal.returns
returns c =
    let changed = told_in c.args.subject.now.changed.now in
    let graph = graph_of c.args.subject.now.graph.now in
    let location = c.args.subject.now.location in
    let size = length-map c.args.subject.now.graph.now.blocks.items block_of in
    let turned = c.in_ok-round.ensures.turned in
    let after = states_of c.round.new.begins.items in
    answered changed graph location after c.in_ok-round.ensures.going
    (λ k below. subst (λ s. HasFlowed changed graph location s k) (sym (turned.same c.if-branch.false)) (turned.flowed c.if-branch.false k (omega (arith, below, size))))
    c.in_ok-lost.lost (subst (Answers changed graph location after c.in_ok-lost.lost) (sym size) c.in_ok-lost.ensures)
