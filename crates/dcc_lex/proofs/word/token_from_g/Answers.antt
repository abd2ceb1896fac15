use Rattle.std.proofs.Common.{get_or}
use Rattle.dcc_c.specs.Token.{is_between}
use Rattle.dcc_lex.proofs.WordLists.{word-name}
use Rattle.dcc_lex.proofs.word.token_from_g.Goals as goal

pub invariant_of-result : goal.invariant_of-result
invariant_of-result c =
    let d = c.in_default in
    let name = word-name (λ k. is_between 103 114 (get_or k 0 0)) c.args.word.now c.requires.word c.requires.first
    (d.not-goto, (d.not-if, (d.not-int, (d.not-long, (d.not-register, (d.not-return, tt)))))) in
    record { name = name }
