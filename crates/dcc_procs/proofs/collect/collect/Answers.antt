use Rattle.std.proofs.Common.{◌≡◌, ◌+◌, ℕ, get_or, Some, refl, sym, ap, ◌∙◌, subst}
use Rattle.dcc_procs.specs.Search.{seen_at}
use Rattle.dcc_procs.proofs.Collected.{Collected, collected-none, collected-more, collected-all, node-found}
use Rattle.dcc_procs.proofs.collect.collect.Goals as goal

pub loop-place-init : goal.loop-place-init
loop-place-init c =
    rw c.new-nodes.ensures.empty (collected-none c.args.image.now c.args.layout.now c.args.entry c.args.offsets.now)

pub loop-place-preserved : goal.loop-place-preserved
loop-place-preserved c =
    let image = c.args.image.now in
    let layout = c.args.layout.now in
    let offsets = c.args.offsets.now in
    let seen = c.args.seen.now in
    let at : ℕ = get_or offsets c.loop-place.place 0 in
    let known = c.in-Some.known in
    let is : seen_at seen at ≡ Some known = ap (λ n. seen_at seen n) (sym c.from.ensures) ∙ c.in-Some.is in
    let found =
    node-found image layout c.args.entry seen c.requires.seen at known c.in_ok-node.node is c.in_ok-node.ensures
    in
    let more =
    collected-more image layout c.args.entry offsets c.requires.ascending c.loop-place.place
    c.loop-place.nodes.entries c.loop-place.invariant c.loop-place-test.true c.in_ok-node.node found in
    subst (Collected image layout c.args.entry offsets (c.loop-place.place + 1)) (sym c.in_ok-add.ensures) more

pub returns : goal.returns
returns c =
    let image = c.args.image.now in
    let layout = c.args.layout.now in
    let i = c.loop-place.invariant in (
      refl,
      record {
        nodes = i.are;
        ascending = i.ascending;
        every =
            collected-all image layout c.args.entry c.args.offsets.now c.requires.ascending c.loop-place.place
            c.loop-place.nodes.entries i c.args.seen.now c.requires.seen c.requires.listing c.loop-place-test.false;
      },
    )
