use Rattle.std.proofs.Common.{sym, ◌∙◌}
use Rattle.dcc_lex.specs.TokenViews.{mark_of}
use Rattle.dcc_lex.specs.CutViews.{spot_of}
use Rattle.dcc_lex.proofs.Cuts.{mark_found}
use Rattle.dcc_lex.proofs.cut.mark_cut.Goals as goal

pub returns-in-Some : goal.returns-in-Some
returns-in-Some c =
    let (is, same, after) = c.in-Some.ensures in
    c.token_piece.ensures ∙ sym (mark_found (spot_of c.args.spot) c.args.line c.args.bytes.now (mark_of c.in-Some.found.mark) c.in-Some.found.rest.now c.requires is same after)
