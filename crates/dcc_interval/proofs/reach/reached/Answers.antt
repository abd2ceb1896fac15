use Rattle.std.proofs.Common.{◌≡◌, ◌<◌, ◌+◌, Bool, false, [], length, get_or, All, ap, sym, ◌∙◌, subst, arith}
use Rattle.std.proofs.lemmas.List.{length-replicate, get_or_default}
use Rattle.dcc_flow.specs.Edges.{rows}
use Rattle.dcc_flow.proofs.RowLaws.{row_read, length_rows}
use Rattle.dcc_interval.specs.Noted.{Noted, noted_of, with_noted, with_all_noted}
use Rattle.dcc_interval.specs.Collapsing.{nothing_noted}
use Rattle.dcc_interval.proofs.ReachLaws.{row_within, Reaching, reaching_first, reaching_on, reaching_inside, few_reached, reaching_last}
use Rattle.dcc_interval.proofs.reach.reached.Goals as goal

pub note-requires : goal.note-requires
note-requires c =
    let size = ap (λ (s : Noted). length s.marks) c.in_ok-found.ensures ∙ length-replicate {A = Bool} c.len.result false in
    omega (arith, size, c.requires.entry)

pub loop-turn-init : goal.loop-turn-init
loop-turn-init c =
    let vs = c.args.next.now.items in
    let size : c.len.result ≡ length (rows vs) = omega (arith, length_rows vs) in
    let is = c.in_ok-note.ensures ∙ ap (λ s. with_noted s c.args.entry) (c.in_ok-found.ensures ∙ ap nothing_noted size) in
    subst (λ s. Reaching (rows vs) c.args.entry s 0) (sym is) (reaching_first (rows vs) c.args.entry c.requires.within (omega (arith, c.requires.entry, length_rows vs)))

pub index-requires : goal.index-requires
index-requires c =
    let vs = c.args.next.now.items in
    let here : c.loop-turn.turn < length c.loop-turn.found.list.items = omega arith in
    let node = c.index-node.ensures ∙ get_or_default c.loop-turn.found.list.items c.loop-turn.turn c.index-node.result.now 0 here in
    let less = reaching_inside (rows vs) c.args.entry c.requires.within (omega (arith, c.requires.entry, length_rows vs)) (noted_of c.loop-turn.found) c.loop-turn.turn c.loop-turn.invariant here in
    omega (arith, less, node, length_rows vs)

pub note_all-requires : goal.note_all-requires
note_all-requires c =
    let vs = c.args.next.now.items in
    let here : c.loop-turn.turn < length c.loop-turn.found.list.items = omega arith in
    let node = c.index-node.ensures ∙ get_or_default c.loop-turn.found.list.items c.loop-turn.turn c.index-node.result.now 0 here in
    let less = reaching_inside (rows vs) c.args.entry c.requires.within (omega (arith, c.requires.entry, length_rows vs)) (noted_of c.loop-turn.found) c.loop-turn.turn c.loop-turn.invariant here in
    let row = c.as_slice.ensures.value ∙ row_read vs c.index-node.result.now c.index.result.now (omega (arith, less, node, length_rows vs)) c.index.ensures in
    subst (λ l. All (λ n. n < length c.loop-turn.found.marks.items) l) (sym row)
    (subst (λ k. All (λ n. n < k) (get_or (rows vs) c.index-node.result.now [])) (sym c.loop-turn.invariant.count) (row_within (rows vs) c.requires.within c.index-node.result.now))

pub loop-turn-smaller : goal.loop-turn-smaller
loop-turn-smaller c =
    let vs = c.args.next.now.items in
    let few = few_reached (rows vs) c.args.entry c.requires.within (omega (arith, c.requires.entry, length_rows vs)) (noted_of c.loop-turn.found) c.loop-turn.turn c.loop-turn.invariant in
    omega (arith, few, length_rows vs)

pub loop-turn-preserved : goal.loop-turn-preserved
loop-turn-preserved c =
    let vs = c.args.next.now.items in
    let inside : c.args.entry < length (rows vs) = omega (arith, c.requires.entry, length_rows vs) in
    let here : c.loop-turn.turn < length c.loop-turn.found.list.items = omega arith in
    let node = c.index-node.ensures ∙ get_or_default c.loop-turn.found.list.items c.loop-turn.turn c.index-node.result.now 0 here in
    let less = reaching_inside (rows vs) c.args.entry c.requires.within inside (noted_of c.loop-turn.found) c.loop-turn.turn c.loop-turn.invariant here in
    let row = c.as_slice.ensures.value ∙ row_read vs c.index-node.result.now c.index.result.now (omega (arith, less, node, length_rows vs)) c.index.ensures ∙ ap (λ n. get_or (rows vs) n []) node in
    let is = c.in_ok-note_all.ensures ∙ ap (with_all_noted (noted_of c.loop-turn.found)) row in
    subst (λ s. Reaching (rows vs) c.args.entry s (c.loop-turn.turn + 1)) (sym is) (reaching_on (rows vs) c.args.entry c.requires.within inside (noted_of c.loop-turn.found) c.loop-turn.turn c.loop-turn.invariant here)

pub returns : goal.returns
returns c =
    let vs = c.args.next.now.items in
    reaching_last (rows vs) c.args.entry c.requires.within (omega (arith, c.requires.entry, length_rows vs)) (noted_of c.loop-turn.found) c.loop-turn.turn c.loop-turn.invariant (omega arith)
