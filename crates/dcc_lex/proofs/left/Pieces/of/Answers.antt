use Rattle.std.proofs.Common.{ap, length, ◌∙◌, arith}
use Rattle.dcc_c.specs.Pieces.{in_line}
use Rattle.dcc_lex.proofs.Cuts.{remaining-all}
use Rattle.dcc_lex.proofs.PieceLaws.{cut_pieces, few_remain}
use Rattle.dcc_lex.proofs.left.Pieces.of.Goals as goal

pub returns-clause-pieces : goal.returns-clause-pieces
returns-clause-pieces c =
    c.from_first.ensures.pieces
    ∙ cut_pieces in_line 1 c.args.rest.now c.next_piece-cut.result c.next_piece-cut.ensures.continues
    ∙ remaining-all c.args.rest.now

pub returns-clause-few : goal.returns-clause-few
returns-clause-few c =
    let cut = cut_pieces in_line 1 c.args.rest.now c.next_piece-cut.result c.next_piece-cut.ensures.continues in
    omega (arith, few_remain in_line 1 c.args.rest.now, ap length c.from_first.ensures.pieces, ap length cut)
