use Rattle.std.proofs.Common.{◌≡◌, map, string_bytes, length}
use Rattle.dcc_commands.specs.Words.{parts_of}
use Rattle.dcc_commands.specs.WordsRead.{parts_read}
use Rattle.dcc_commands.proofs.WordsLaws.{joined}
use Rattle.dcc_commands.proofs.words.found_in.Given as goal

-- the parts that were found come before those of the words that are left
abbrev pub invariant-loop-word : goal.invariant-loop-word
invariant-loop-word l =
    joined (parts_read l.found) (parts_of (map string_bytes l.left)) ≡ parts_of (map string_bytes l.fn.words)

abbrev pub decreases-loop-word : goal.decreases-loop-word
decreases-loop-word l = length l.left
