use Rattle.std.proofs.Common.{◌≡◌, ◌++◌, map, take, string_bytes}
use Rattle.dcc_commands.specs.WordsRead.{parts_read, positions_read}
use Rattle.dcc_commands.proofs.words.Found.with_all.Given as goal

-- the words so far are behind those that stood before
abbrev pub invariant-loop-word : goal.invariant-loop-word
invariant-loop-word l =
    parts_read l.found ≡ record (parts_read l.fn.self) {
      positional = positions_read l.fn.self.positions ++ map string_bytes (take l.word-index l.words);
    }
