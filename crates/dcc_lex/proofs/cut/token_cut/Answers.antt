use Rattle.std.proofs.Common.{◌≡◌, ◌<◌, ◌∷◌, [], length, ap, sym, ◌∙◌, arith}
use Rattle.std.specs.List.{take_while}
use Rattle.std.proofs.lemmas.Bool.{eqb-true, eqb-false}
use Rattle.dcc_c.specs.Token.{is_word_byte}
use Rattle.dcc_c.specs.Pieces.{cut, piece, in_line, allowed_at, token_of_word}
use Rattle.dcc_lex.specs.CutViews.{spot_of}
use Rattle.dcc_lex.proofs.Cuts.{token_mark, token_run}
use Rattle.dcc_lex.proofs.cut.token_cut.Goals as goal

pub returns-then-is_empty : goal.returns-then-is_empty
returns-then-is_empty c =
    let run = c.split.result.0.now in
    let none : length run ≡ 0 = eqb-true (length run) 0 (sym c.is_empty.ensures ∙ c.if-is_empty.true) in
    c.mark_cut.ensures ∙ sym (token_mark (spot_of c.args.spot) c.args.line c.args.bytes.now (ap length (sym c.split.ensures.front) ∙ none))

pub returns : goal.returns
returns c =
    let run = c.split.result.0.now in
    let spot = spot_of c.args.spot in
    let line = c.args.line in
    let some : length run ≡ 0 → ⊥ = eqb-false (length run) 0 (sym c.is_empty.ensures ∙ c.if-is_empty.false) in
    let read : 0 < length (take_while is_word_byte c.args.bytes.now) = omega (arith, ap length c.split.ensures.front) in
    c.token_piece.ensures
    ∙ ap (λ t. cut (piece line (allowed_at spot t) ∷ []) in_line line c.split.result.1.now) (c.token_of_word.ensures ∙ ap token_of_word c.split.ensures.front)
    ∙ ap (λ r. cut (piece line (allowed_at spot (token_of_word (take_while is_word_byte c.args.bytes.now))) ∷ []) in_line line r) c.split.ensures.back
    ∙ sym (token_run spot line c.args.bytes.now read)
