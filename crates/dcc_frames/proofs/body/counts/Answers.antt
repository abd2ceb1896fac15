use Rattle.std.proofs.Common.{ℕ, ◌≡◌, nat_eq, ◌+◌, ◌++◌, ◌∷◌, [], take, Option, sym, ap, ◌∙◌, subst}
use Rattle.std.specs.Map.{lookup}
use Rattle.std.proofs.lemmas.List.{take_more, take_all}
use Rattle.indexmap.specs.IndexMap.{get}
use Rattle.dcc_frames.specs.Body.{AreCounts}
use Rattle.dcc_frames.proofs.BodyLists.{counts-none, counts-more}
use Rattle.dcc_frames.proofs.body.counts.Goals as goal

pub loop-body-init : goal.loop-body-init
loop-body-init c = counts-none _ (λ entry. ap (λ l. lookup (nat_eq entry) l) c.new-counts.ensures.empty)

pub loop-body-preserved : goal.loop-body-preserved
loop-body-preserved c =
    let i = c.loop-body.body-index in
    let bodies = c.args.bodies.now in
    let body = c.body-item.result in
    let after : ℕ → Option ℕ = λ entry. get nat_eq c.note.new.counts entry in
    let read : (take i bodies ++ body ∷ []) ≡ take (i + 1) bodies =
    ap (λ b. take i bodies ++ b ∷ []) c.body-item.is ∙ sym (take_more bodies i body c.loop-body-test.true) in
    subst (λ l. AreCounts l after) read
    (counts-more (take i bodies) body (λ entry. get nat_eq c.loop-body.counts entry) after c.loop-body.invariant
    c.in_ok-note.ensures)

pub returns : goal.returns
returns c =
    let counts : ℕ → Option ℕ = λ entry. get nat_eq c.loop-body.counts entry in
    subst (λ l. AreCounts l counts) (take_all c.loop-body.body-index c.args.bodies.now c.loop-body-test.false)
    c.loop-body.invariant
