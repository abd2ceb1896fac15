use Rattle.std.proofs.Common.{◌∷◌, [], map, Some, sym, ◌∙◌, subst}
use Rattle.std.specs.Map.Iter.{deref_pair}
use Rattle.std.proofs.lemmas.List.{map-append}
use Rattle.std.proofs.lemmas.Map.Iter.{iter_end}
use Rattle.dcc_heights.specs.Removed.{IsSize, IsSizeSoFar}
use Rattle.dcc_heights.proofs.Entries.{turn-split}
use Rattle.dcc_heights.proofs.Sizes.{so-far-other, so-far-ret, size-fault, size-all, same-size, no-size}
use Rattle.dcc_heights.proofs.removed.size_of.Goals as goal

pub loop-at-preserved-in_default : goal.loop-at-preserved-in_default
loop-at-preserved-in_default c =
    let before = map deref_pair c.loop-at.yielded in
    subst (λ l. IsSizeSoFar l c.loop-at.size)
    (sym (map-append deref_pair c.loop-at.yielded ((c.in-Some.at, c.in-Some.node) ∷ [])))
    (so-far-other before c.in-Some.at.now c.in-Some.node.now c.loop-at.size c.in_default.not-Ret c.loop-at.invariant)

pub returns-in-Some-size-clause-refused : goal.returns-in-Some-size-clause-refused
returns-in-Some-size-clause-refused c =
    let all = c.args.proc.now.nodes.entries in
    let before = map deref_pair c.loop-at.yielded in
    let at = c.in-Some.at.now in
    let node = c.in-Some.node.now in
    let start = c.into_iter-at-iterator.ensures.into_iter_gives ∙ c.iter-at-items.ensures.rest in
    let is =
    turn-split all c.loop-at.yielded c.into_iter-at-iterator.result c.loop-at.at-iterator c.next.new.self c.next.result
    (c.in-Some.at, c.in-Some.node) start c.loop-at.yielded_by c.in-Some.is c.next.ensures.steps in
    size-fault before at node all c.next.new.self c.in-Some-size.known c.in-Ret.bytes is c.in-Ret.is
    c.if-known-bytes.true
    (subst (IsSizeSoFar before) c.in-Some-size.is c.loop-at.invariant)

pub loop-at-preserved-in_default-size : goal.loop-at-preserved-in_default-size
loop-at-preserved-in_default-size c =
    let before = map deref_pair c.loop-at.yielded in
    let same = c.if-known-bytes.false in
    let is = c.in-Some-size.is in
    subst (λ l. IsSizeSoFar l (Some c.in-Ret.bytes))
    (sym (map-append deref_pair c.loop-at.yielded ((c.in-Some.at, c.in-Some.node) ∷ [])))
    (so-far-ret before c.in-Some.at.now c.in-Some.node.now c.loop-at.size c.in-Ret.bytes c.in-Ret.is
    (λ known e. same-size known c.in-Some-size.known (sym e ∙ is) ∙ same) c.loop-at.invariant)

pub loop-at-preserved : goal.loop-at-preserved
loop-at-preserved c =
    subst (λ l. IsSizeSoFar l (Some c.in-Ret.bytes))
    (sym (map-append deref_pair c.loop-at.yielded ((c.in-Some.at, c.in-Some.node) ∷ [])))
    (so-far-ret (map deref_pair c.loop-at.yielded) c.in-Some.at.now c.in-Some.node.now c.loop-at.size c.in-Ret.bytes
    c.in-Ret.is (λ known e. no-size known (sym e ∙ c.in_default-size.is)) c.loop-at.invariant)

pub returns-clause-size : goal.returns-clause-size
returns-clause-size c =
    let all = c.args.proc.now.nodes.entries in
    let start = c.into_iter-at-iterator.ensures.into_iter_gives ∙ c.iter-at-items.ensures.rest in
    let e =
    iter_end deref_pair all c.loop-at.yielded c.into_iter-at-iterator.result c.loop-at.at-iterator c.next.new.self
    c.next.result start c.loop-at.yielded_by c.in-None.is c.next.ensures.steps in
    subst (IsSize all) (sym c.unwrap_or.ensures)
    (size-all all c.loop-at.size (subst (λ l. IsSizeSoFar l c.loop-at.size) e.0 c.loop-at.invariant))
