use Rattle.std.proofs.Common.{◌≡◌, ◌<◌, length, get_or, subst, ◌∙◌, arith}
use Rattle.std.proofs.lemmas.List.{get_or_default}
use Rattle.std.specs.Prelude.{◌==◌, if◌then◌else◌}
use Rattle.dcc_interval.specs.Noted.{noted_of, with_noted}
use Rattle.dcc_interval.proofs.CollapseLaws.{others_count, others_step}
use Rattle.dcc_interval.proofs.collapse.note_places.Goals as goal

pub note_other-requires : goal.note_other-requires
note_other-requires c =
    let i = c.loop-node.node-index in
    let less : i < length c.args.nodes.now = omega arith in
    let node = get_or c.args.nodes.now i 0 in
    let place = c.index.ensures ∙ get_or_default c.args.places.now.items node c.index.result.now 0 (c.requires.nodes i 0 less) in
    let there = c.requires.places i 0 less in
    omega (arith, place, there, c.loop-node.invariant.count)

pub loop-node-preserved : goal.loop-node-preserved
loop-node-preserved c =
    let i = c.loop-node.node-index in
    let less : i < length c.args.nodes.now = omega arith in
    let node = get_or c.args.nodes.now i 0 in
    let before = noted_of c.loop-node.noted in
    let after = noted_of c.note_other.new.noted in
    let place = c.index.ensures ∙ get_or_default c.args.places.now.items node c.index.result.now 0 (c.requires.nodes i 0 less) in
    let is = subst (λ p. after ≡ (if p == c.args.place then before else with_noted before p)) place c.in_ok-note_other.ensures in
    let there = get_or c.args.places.now.items node 0 in
    record {
      count = others_count before there (there == c.args.place) after is ∙ c.loop-node.invariant.count;
      rest = others_step before c.args.places.now.items c.args.place c.args.nodes.now i less after is ∙ c.loop-node.invariant.rest;
    }
