use Rattle.std.proofs.Common.{Some, subst}
use Rattle.dcc_c.specs.Known.{head_at}
use Rattle.dcc_lex.specs.PiecesViews.{pieces_of}
use Rattle.dcc_reader.specs.Heads.{IsHead}
use Rattle.dcc_reader.proofs.UnreadLaws.{head-pushed}
use Rattle.dcc_reader.proofs.unread.push_head.Goals as goal

pub returns-in_ok-push : goal.returns-in_ok-push
returns-in_ok-push c =
    let heads = head_at (pieces_of c.args.pieces.now) in
    let is : IsHead (Some c.in-Some.head) heads = subst (λ o. IsHead o heads) c.in-Some.is c.in_ok-head.ensures in
    head-pushed c.push.new.self.items c.args.heads.now.items c.in-Some.head heads c.in_ok-push.ensures.items is.2
