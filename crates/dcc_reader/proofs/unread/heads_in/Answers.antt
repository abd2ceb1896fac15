use Rattle.std.proofs.Common.{◌++◌, map, drop, sym, ap, ◌∙◌, append_assoc}
use Rattle.dcc_c.specs.Known.{known_functions, head_at, heads_in}
use Rattle.dcc_lex.specs.PiecesViews.{pieces_of}
use Rattle.dcc_lex.specs.TokenViews.{piece_of}
use Rattle.dcc_reader.specs.PartialViews.{function_of}
use Rattle.dcc_reader.proofs.UnreadLaws.{first-seen, heads-next}
use Rattle.dcc_reader.proofs.unread.heads_in.Goals as goal

pub loop-left-preserved : goal.loop-left-preserved
loop-left-preserved c =
    let left = pieces_of c.loop-left.left in
    let first = first-seen (λ p. piece_of p.now) c.first.result left c.first.ensures (sym c.is_some.ensures ∙ c.loop-left-test.true) in
    let had = known_functions (map function_of c.loop-left.heads.items) in
    let others = heads_in (drop 1 left) in
    ap (λ l. known_functions (map function_of c.push_head.new.heads.items) ++ heads_in l) c.skip.ensures.pieces
    ∙ ap (λ l. l ++ others) c.in_ok-push_head.ensures
    ∙ append_assoc had (head_at left) others
    ∙ ap (λ l. had ++ l) (sym (heads-next left first.0 first.1))
    ∙ c.loop-left.invariant
