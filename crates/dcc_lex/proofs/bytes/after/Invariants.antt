use Rattle.std.proofs.Common.{◌≡◌, drop}
use Rattle.dcc_c.specs.Pieces.{after}
use Rattle.dcc_lex.proofs.bytes.after.Given as goal

-- what stands after all of the words is after the words left
abbrev pub invariant-loop-word : goal.invariant-loop-word
invariant-loop-word l = after (drop l.word-index l.words) l.rest ≡ after l.words l.bytes
