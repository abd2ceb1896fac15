use Rattle.std.proofs.Common.{get_or}
use Rattle.dcc_c.specs.Token.{is_between}
use Rattle.dcc_lex.proofs.WordLists.{word-name}
use Rattle.dcc_lex.proofs.word.token_from_a.Goals as goal

pub invariant_of-result : goal.invariant_of-result
invariant_of-result c =
    let d = c.in_default in
    let name = word-name (λ k. is_between 97 99 (get_or k 0 0)) c.args.word.now c.requires.word c.requires.first
    (d.not-auto, (d.not-break, (d.not-case, (d.not-char, (d.not-const, (d.not-continue, tt)))))) in
    record { name = name }
