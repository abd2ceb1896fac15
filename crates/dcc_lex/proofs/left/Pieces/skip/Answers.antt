use Rattle.std.proofs.Common.{◌≡◌, length, take, drop, ap, sym, ◌∙◌, ◌+◌, arith}
use Rattle.dcc_lex.specs.PiecesViews.{pieces_of}
use Rattle.dcc_lex.proofs.PieceLaws.{second_left, one_taken, none_left}
use Rattle.dcc_lex.proofs.left.Pieces.skip.Goals as goal

pub returns-then-is_some-clause-pieces : goal.returns-then-is_some-clause-pieces
returns-then-is_some-clause-pieces c = c.from_first.ensures.pieces ∙ sym (second_left c.args.self.now)

pub returns-then-is_some-clause-place : goal.returns-then-is_some-clause-place
returns-then-is_some-clause-place c =
    let one = one_taken c.args.self.now (sym c.is_some.ensures ∙ c.if-is_some.true) in
    c.from_first.ensures.place ∙ ap (λ n. c.args.self.now.at + n) (sym one)

pub returns-else-is_some-clause-pieces : goal.returns-else-is_some-clause-pieces
returns-else-is_some-clause-pieces c =
    let none = none_left c.args.self.now (sym c.is_some.ensures ∙ c.if-is_some.false) in
    none ∙ sym (ap (drop 1) none)

pub returns-else-is_some-clause-place : goal.returns-else-is_some-clause-place
returns-else-is_some-clause-place c =
    let none = none_left c.args.self.now (sym c.is_some.ensures ∙ c.if-is_some.false) in
    let count : length (take 1 (pieces_of c.args.self.now)) ≡ 0 = ap (λ ps. length (take 1 ps)) none in
    omega (arith, count)
