use Rattle.std.proofs.Common.{◌≡◌, suc, ◌+◌, ◌-◌, sym, ap, ◌∙◌, arith}
use Rattle.dcc_c.specs.Pieces.{line_at}
use Rattle.dcc_lex.specs.PiecesViews.{pieces_of}
use Rattle.dcc_parse.proofs.ParseRules.{line-next}
use Rattle.dcc_parse.proofs.parser.line_at.Goals as goal

pub loop-passed-preserved : goal.loop-passed-preserved
loop-passed-preserved c =
    let left = pieces_of c.loop-passed.left in
    let last = c.args.last in
    let fewer = c.args.at - (c.loop-passed._passed + 1) in
    let nearer : suc fewer ≡ c.args.at - c.loop-passed._passed = omega arith in
    ap (λ ps. line_at ps last fewer) c.skip.ensures.pieces ∙ line-next left last fewer ∙ ap (line_at left last) nearer ∙ c.loop-passed.invariant

pub returns-in-Some : goal.returns-in-Some
returns-in-Some c =
    let left = pieces_of c.loop-passed.left in
    let here : 0 ≡ c.args.at - c.loop-passed._passed = omega arith in
    sym (ap (λ ps. line_at ps c.args.last 0) c.in-Some.ensures) ∙ ap (line_at left c.args.last) here ∙ c.loop-passed.invariant

pub returns-in-None : goal.returns-in-None
returns-in-None c =
    sym (ap (λ ps. line_at ps c.args.last (c.args.at - c.loop-passed._passed)) c.in-None.ensures) ∙ c.loop-passed.invariant
