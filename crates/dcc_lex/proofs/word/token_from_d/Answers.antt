use Rattle.std.proofs.Common.{get_or}
use Rattle.dcc_c.specs.Token.{is_between}
use Rattle.dcc_lex.proofs.WordLists.{word-name}
use Rattle.dcc_lex.proofs.word.token_from_d.Goals as goal

pub invariant_of-result : goal.invariant_of-result
invariant_of-result c =
    let d = c.in_default in
    let name = word-name (λ k. is_between 100 102 (get_or k 0 0)) c.args.word.now c.requires.word c.requires.first (
      d.not-text,
      (
        d.not-do,
        (
          d.not-double,
          (
            d.not-else,
            (
              d.not-enum,
              (
                d.not-extern,
                (
                  d.not-float,
                  (d.not-for, tt),
                ),
              ),
            ),
          ),
        ),
      ),
    ) in
    record { name = name }
