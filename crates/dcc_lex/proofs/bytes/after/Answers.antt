use Rattle.std.proofs.Common.{◌≡◌, ◌<◌, None, ap, drop, length, length-drop, sym, ◌∙◌, arith}
use Rattle.std.specs.Option.{option_map}
use Rattle.dcc_c.specs.Pieces.{after}
use Rattle.dcc_lex.proofs.Runs.{after_none}
use Rattle.dcc_lex.proofs.bytes.after.Goals as goal

pub returns-in_err-first : goal.returns-in_err-first
returns-in_err-first c =
    let left = drop c.loop-word.word-index c.args.words.now in
    let some : 0 < length left = omega (arith, length-drop c.loop-word.word-index c.args.words.now) in
    let none : after left c.loop-word.rest.now ≡ None = after_none left c.loop-word.rest.now some c.in_err-first.ensures.cases in
    ap (option_map (λ rest. rest.now)) c.from_residual.ensures ∙ sym none ∙ c.loop-word.invariant
