use Rattle.std.proofs.Common.{◌≡◌, ◌++◌, ◌∷◌, [], length, take, drop, get_or, map, ap, sym, ◌∙◌, subst}
use Rattle.std.proofs.lemmas.List.{map-append, take_at}
use Rattle.std.proofs.lemmas.Map.Iter.{iter_end}
use Rattle.std.specs.Map.Iter.{deref_pair}
use Rattle.dcc_lift.specs.declared.edges.Incoming.TheVariants.{Nowhere}
use Rattle.dcc_lift.specs.Incoming.{incoming_of, AreIncoming}
use Rattle.dcc_lift.proofs.IncomingLaws.{noted, noted-none, noted-all}
use Rattle.dcc_lift.proofs.edges.edges_of.Goals as goal

pub loop-from-init : goal.loop-from-init
loop-from-init c = noted-none c.in_ok-table.table.items (c.in_ok-table.ensures.items_if_clones_equal (λ y same. same))

pub loop-from-preserved : goal.loop-from-preserved
loop-from-preserved c =
    let nodes = map deref_pair c.loop-from.yielded in
    let value = c.deref_mut.ensures.value in
    let more : AreIncoming (nodes ++ (c.in-Some.from.now, c.in-Some.node.now) ∷ []) c.note.new.table =
    noted-all nodes (c.in-Some.from.now, c.in-Some.node.now) c.loop-from.table.items c.note.new.table
    c.loop-from.invariant (c.note.auto.table ∙ ap length value)
    (λ to edges told.
    c.note.ensures to edges (ap (λ t. get_or t to Nowhere) value ∙ told)
    ∙ ap (λ l. incoming_of (edges ++ noted c.in-Some.from.now to l)) c.as_slice.ensures) in
    let all : take c.loop-from.table.len (c.note.new.table ++ drop (length c.note.new.table) c.loop-from.table.items)
    ≡ c.note.new.table =
    take_at c.note.new.table _ c.loop-from.table.len (c.note.auto.table ∙ c.deref_mut.ensures.len) in
    subst (λ t. AreIncoming (map deref_pair (c.loop-from.yielded ++ (c.in-Some.from, c.in-Some.node) ∷ [])) t)
    (sym all)
    (subst (λ ns. AreIncoming ns c.note.new.table)
    (sym (map-append deref_pair c.loop-from.yielded ((c.in-Some.from, c.in-Some.node) ∷ []))) more)

pub returns : goal.returns
returns c =
    let entries = c.args.nodes.now.entries in
    let start = c.into_iter-from-iterator.ensures.into_iter_gives ∙ c.iter-from-items.ensures.rest in
    let e = iter_end deref_pair entries c.loop-from.yielded c.into_iter-from-iterator.result c.loop-from.from-iterator
    c.next.new.self c.next.result start
    c.loop-from.yielded_by c.in-None.is c.next.ensures.steps in
    subst (λ ns. AreIncoming ns c.loop-from.table.items) e.0 c.loop-from.invariant
