use Rattle.std.proofs.Common.{◌≡◌, [], sym, ap, ◌∙◌}
use Rattle.std.specs.Prelude.{◌||◌}
use Rattle.dcc_c.specs.Grammar.{is_among}
use Rattle.dcc_c.specs.Known.{head_at, labels_before_head}
use Rattle.dcc_lex.specs.PiecesViews.{pieces_of}
use Rattle.dcc_lex.specs.TokenViews.{piece_of}
use Rattle.dcc_reader.specs.WordViews.{holds}
use Rattle.dcc_reader.proofs.UnreadLaws.{first-seen, head-some, head-none, labels-over, label-step}
use Rattle.dcc_reader.proofs.unread.add_labels.Goals as goal

pub returns-then-is_some : goal.returns-then-is_some
returns-then-is_some c = λ word.
    let left = pieces_of c.loop-left.left in
    let first = first-seen (λ p. piece_of p.now) c.first.result left c.first.ensures (sym c.is_some.ensures ∙ c.loop-left-test.true) in
    let head = head-some c.in_ok-head_here.field-0 _ c.in_ok-head_here.ensures (sym c.is_some-in-loop-left.ensures ∙ c.if-is_some.true) in
    ap (λ ls. is_among ls word || holds c.loop-left.words word) (sym (labels-over left first.0 head.0 first.1 head.1))
    ∙ c.loop-left.invariant word

pub loop-left-preserved : goal.loop-left-preserved
loop-left-preserved c = λ word.
    let left = pieces_of c.loop-left.left in
    let first = first-seen (λ p. piece_of p.now) c.first.result left c.first.ensures (sym c.is_some.ensures ∙ c.loop-left-test.true) in
    let none : head_at left ≡ [] = head-none c.in_ok-head_here.field-0 _ c.in_ok-head_here.ensures (sym c.is_some-in-loop-left.ensures ∙ c.if-is_some.false) in
    ap (λ ls. is_among (labels_before_head ls) word || holds c.add_label.new.words word) c.skip.ensures.pieces
    ∙ label-step left first.0 word (holds c.loop-left.words word) (holds c.add_label.new.words word) first.1 none (c.in_ok-add_label.ensures word)
    ∙ c.loop-left.invariant word
