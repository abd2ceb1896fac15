use Rattle.std.proofs.Common.{get_or}
use Rattle.dcc_c.specs.Token.{is_between}
use Rattle.dcc_lex.proofs.WordLists.{word-name}
use Rattle.dcc_lex.proofs.word.token_from_s.Goals as goal

pub invariant_of-result : goal.invariant_of-result
invariant_of-result c =
    let d = c.in_default in
    let name = word-name (λ k. is_between 115 119 (get_or k 0 0)) c.args.word.now c.requires.word c.requires.first (
      d.not-short,
      (
        d.not-signed,
        (
          d.not-sizeof,
          (
            d.not-static,
            (
              d.not-struct,
              (
                d.not-switch,
                (d.not-typedef, (d.not-union, (d.not-unsigned, (d.not-void, (d.not-volatile, (d.not-while, tt)))))),
              ),
            ),
          ),
        ),
      ),
    ) in
    record { name = name }
