use Rattle.std.proofs.Common.{◌≡◌, ◌+◌, ◌≤◌, drop}
use Rattle.dcc_c.specs.Numbered.{rows}
use Rattle.dcc_lex.proofs.lexer.line_feeds.Given as goal

-- the line feeds so far and those of the bytes left are all
abbrev pub invariant-loop-byte : goal.invariant-loop-byte
invariant-loop-byte l = (l.count + rows (drop l.byte-index l.bytes) ≡ rows l.bytes) × (l.count ≤ l.byte-index)
