use Rattle.std.proofs.Common.{◌≡◌, true, false, subst, sym, ◌∙◌}
use Rattle.dcc_encode.specs.Encoding.{IsEncoding, is_preferred}
use Rattle.dcc_encode.specs.EncodingViews.{IsBest, items_of}
use Rattle.dcc_encode.proofs.Best.{best-first, best-better, best-kept}
use Rattle.dcc_encode.proofs.encoding.with_draft.Goals as goal

pub returns-then-is_preferred : goal.returns-then-is_preferred
returns-then-is_preferred c drafts h =
    let known = c.in-Some.known.items in
    let best = subst (λ b. IsBest c.args.cpu c.args.at c.args.op drafts (items_of b)) c.in-Some.is h in
    let is = subst (λ bs. IsEncoding c.args.cpu c.args.at c.args.op bs) c.as_slice.ensures (c.is_encoding.ensures.0 c.if-not-is_encoding.false) in
    let first = subst (λ bs. is_preferred bs c.as_slice-in-Some-2.result.now ≡ true) c.as_slice-in-Some.ensures (sym c.is_preferred.ensures ∙ c.if-is_preferred.true) in
    let better = subst (λ bs. is_preferred c.args.bytes.items bs ≡ true) c.as_slice-in-Some-2.ensures first in
    best-better c.args.cpu c.args.at c.args.op drafts c.args.bytes.items known is better best

pub returns-else-is_preferred : goal.returns-else-is_preferred
returns-else-is_preferred c drafts h =
    let known = c.in-Some.known.items in
    let best = subst (λ b. IsBest c.args.cpu c.args.at c.args.op drafts (items_of b)) c.in-Some.is h in
    let first = subst (λ bs. is_preferred bs c.as_slice-in-Some-2.result.now ≡ false) c.as_slice-in-Some.ensures (sym c.is_preferred.ensures ∙ c.if-is_preferred.false) in
    let worse = subst (λ bs. is_preferred c.args.bytes.items bs ≡ false) c.as_slice-in-Some-2.ensures first in
    best-kept c.args.cpu c.args.at c.args.op drafts c.args.bytes.items known worse best

pub returns-in-None : goal.returns-in-None
returns-in-None c drafts h =
    let best = subst (λ b. IsBest c.args.cpu c.args.at c.args.op drafts (items_of b)) c.in-None.is h in
    let is = subst (λ bs. IsEncoding c.args.cpu c.args.at c.args.op bs) c.as_slice.ensures (c.is_encoding.ensures.0 c.if-not-is_encoding.false) in
    best-first c.args.cpu c.args.at c.args.op drafts c.args.bytes.items is best
