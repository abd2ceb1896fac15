use Rattle.std.proofs.Common.{◌≡◌, length, sym, ◌∙◌, arith}
use Rattle.std.proofs.lemmas.Bool.{eqb-false}
use Rattle.dcc_lex.proofs.Words.{word_utf8, run_is_word}
use Rattle.dcc_lex.proofs.word.word_in.Goals as goal

pub unreachable-requires : goal.unreachable-requires
unreachable-requires c =
    let run = c.args.run.now in
    let some : length run ≡ 0 → ⊥ = eqb-false (length run) 0 (sym c.is_empty.ensures ∙ c.if-is_empty.false) in
    c.in-Err.ensures.cases.0 (word_utf8 run (run_is_word run c.requires.run c.requires.other some (omega arith)))
