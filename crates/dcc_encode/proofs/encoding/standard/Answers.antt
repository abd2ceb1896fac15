use Rattle.std.proofs.Common.{◌≡◌, List, ℕ, map, take, ap, ◌∙◌, subst}
use Rattle.std.proofs.lemmas.List.{take_all}
use Rattle.dcc_encode.specs.declared.shape.Shape.{Shape}
use Rattle.dcc_encode.specs.EncodingViews.{IsBest, items_of}
use Rattle.dcc_encode.specs.Shapes.{draft, shapes}
use Rattle.dcc_encode.proofs.Best.{best-told, drafts-more}
use Rattle.dcc_encode.proofs.encoding.standard.Goals as goal

pub loop-shape-preserved : goal.loop-shape-preserved
loop-shape-preserved c =
    let list = c.deref-shape-items.result.now in
    let i = c.loop-shape.shape-index in
    let f : Shape → List ℕ = draft c.args.op c.args.at in
    subst (λ (l : List (List ℕ)). IsBest c.args.cpu c.args.at c.args.op l (items_of c.with_draft-best.result))
    (drafts-more f list i _ c.in_ok-bytes.bytes.items c.loop-shape-test.true c.in_ok-bytes.ensures)
    (c.with_draft-best.ensures (map f (take i list)) c.loop-shape.invariant)

pub returns : goal.returns
returns c =
    let list = c.deref-shape-items.result.now in
    let f : Shape → List ℕ = draft c.args.op c.args.at in
    let all : map f (take c.loop-shape.shape-index list) ≡ map f (shapes c.args.op) =
    ap (map f) (take_all c.loop-shape.shape-index list c.loop-shape-test.false ∙ c.deref-shape-items.ensures.value ∙ c.in_ok-list.ensures) in
    best-told c.args.cpu c.args.at c.args.op c.loop-shape.best
    (subst (λ (l : List (List ℕ)). IsBest c.args.cpu c.args.at c.args.op l (items_of c.loop-shape.best)) all c.loop-shape.invariant)
