use Rattle.std.proofs.Common.{◌≡◌, ◌+◌, ◌<◌, ◌++◌, ◌∷◌, [], length, take, get_or, map, ap, sym, ◌∙◌, subst}
use Rattle.std.proofs.lemmas.List.{take_more, map-append}
use Rattle.dcc_ir.specs.Views.{block_of}
use Rattle.dcc_lift.specs.Blocks.{AreBlocksAt}
use Rattle.dcc_lift.specs.Known.{source_of}
use Rattle.dcc_lift.proofs.BegunLaws.{blocks-more}
use Rattle.dcc_lift.proofs.outline.Outline.blocks.Goals as goal

pub loop-at-preserved : goal.loop-at-preserved
loop-at-preserved c =
    let scene = source_of c.args.self.now in
    let leaders = c.args.self.now.leaders.items in
    let i = c.loop-at.at-index in
    let value = c.deref-at-items.ensures.value in
    let inside : i < length leaders = subst (λ xs. i < length xs) value c.loop-at-test.true in
    let more = blocks-more scene (take i leaders) (map block_of c.loop-at.blocks.items)
    (get_or c.deref-at-items.result.now i 0)
    (block_of c.in_ok-block.field-0) c.loop-at.invariant c.in_ok-block.ensures in
    let places : take i leaders ++ get_or c.deref-at-items.result.now i 0 ∷ [] ≡ take (i + 1) leaders =
    ap (λ xs. take i leaders ++ get_or xs i 0 ∷ []) value ∙ sym (take_more leaders i 0 inside) in
    let blocks : map block_of c.loop-at.blocks.items ++ block_of c.in_ok-block.field-0 ∷ [] ≡ map block_of
    c.push.new.self.items =
    sym (ap (map block_of) c.in_ok-push.ensures.items
    ∙ map-append block_of c.loop-at.blocks.items (c.in_ok-block.field-0 ∷ [])) in
    subst (λ ps. AreBlocksAt scene ps (map block_of c.push.new.self.items)) places
    (subst (λ bs. AreBlocksAt scene (take i leaders ++ get_or c.deref-at-items.result.now i 0 ∷ []) bs) blocks more)
