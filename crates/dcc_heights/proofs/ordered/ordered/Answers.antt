use Rattle.std.proofs.Common.{◌∷◌, [], map, sym, ap, ◌∙◌}
use Rattle.std.specs.Map.Iter.{deref_pair}
use Rattle.std.proofs.lemmas.List.{map-append}
use Rattle.dcc_heights.specs.Search.{ordered_by}
use Rattle.dcc_heights.proofs.Entries.{turn-split}
use Rattle.dcc_heights.proofs.Ordering.{ordered-same, ordered-more}
use Rattle.dcc_heights.proofs.ordered.ordered.Goals as goal

pub loop-at-preserved-in_ok-insert : goal.loop-at-preserved-in_ok-insert
loop-at-preserved-in_ok-insert c =
    let all = c.args.nodes.now.entries in
    let before = map deref_pair c.loop-at.yielded in
    let at = c.in-Some.at.now in
    let node = c.in-Some._node.now in
    let start = c.into_iter-at-iterator.ensures.into_iter_gives ∙ c.iter-at-items.ensures.rest in
    let is =
    turn-split all c.loop-at.yielded c.into_iter-at-iterator.result c.loop-at.at-iterator c.next.new.self c.next.result
    (c.in-Some.at, c.in-Some._node) start c.loop-at.yielded_by c.in-Some.is c.next.ensures.steps in
    c.in_ok-insert.ensures.entries
    ∙ ordered-more all before c.next.new.self at node is c.iter-at-items.ensures.unique c.args.heights.now.entries
    c.loop-at.ordered c.in-Some-get.height.now (sym c.in-Some-get.ensures.value) c.loop-at.invariant
    ∙ sym (ap (ordered_by c.args.heights.now.entries) (map-append deref_pair c.loop-at.yielded
    ((c.in-Some.at, c.in-Some._node) ∷ [])))

pub loop-at-preserved : goal.loop-at-preserved
loop-at-preserved c =
    let heights = c.args.heights.now.entries in
    ordered-same (map deref_pair c.loop-at.yielded) c.in-Some.at.now c.in-Some._node.now heights
    c.loop-at.ordered.entries (sym c.in_default.ensures.value) c.loop-at.invariant
    ∙ sym (ap (ordered_by heights) (map-append deref_pair c.loop-at.yielded ((c.in-Some.at, c.in-Some._node) ∷ [])))
