use Rattle.std.proofs.Common.{sym, ap, ◌∙◌}
use Rattle.dcc_c.specs.Known.{begins_head}
use Rattle.dcc_c.specs.Reading.{first_token}
use Rattle.dcc_lex.specs.PiecesViews.{pieces_of}
use Rattle.dcc_reader.proofs.UnreadLaws.{head-read}
use Rattle.dcc_reader.proofs.unread.head_here.Goals as goal

pub returns-then-is_some-2 : goal.returns-then-is_some-2
returns-then-is_some-2 c =
    head-read c.in_ok-function.function _ (begins_head (first_token (pieces_of c.args.pieces.now)))
    (ap begins_head (sym c.first_token.ensures) ∙ sym c.begins_head.ensures ∙ c.if-not-begins_head.false)
    c.in_ok-function.ensures
    (sym c.is_some.ensures ∙ c.if-is_some.true) (sym c.is_some-then-is_some.ensures ∙ c.if-is_some-2.true)
