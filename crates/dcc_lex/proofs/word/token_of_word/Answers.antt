use Rattle.std.proofs.Common.{◌≡◌, false, get_or, sym, ◌∙◌}
use Rattle.dcc_c.specs.Token.{is_digit}
use Rattle.dcc_lex.proofs.WordLists.{word-token}
use Rattle.dcc_lex.proofs.word.token_of_word.Goals as goal

pub returns : goal.returns
returns c =
    let other : is_digit (get_or c.args.run.now 0 0) ≡ false = sym c.begins_number.ensures ∙ c.if-begins_number.false in
    let (is, same) = c.in_ok-word_in.ensures in
    c.token_of_text.ensures ∙ word-token c.args.run.now c.in_ok-word_in.field-0.now same other is
