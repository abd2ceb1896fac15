-- What is written on the output and on the error stream.
use Rattle.std.specs.Prelude.{◌≡◌, ◌⊎◌, ℕ, List, Option}
use Rattle.dcc_io.specs.Told.{append_told, AppendsProperPrefix}
use Rattle.dcc_top.specs.declared.reply.Reply.{Reply}
use Rattle.dcc_top.specs.Answer.{line_of, status_of}
use Rattle.dcc_top.specs.Call.{SinkChange, Rises, Appends, AppendsPart}
use Rattle.dcc_top.specs.Status as exit

-- these bytes were appended to the output, and the answer is one after them
pub record Answers (IsAnswer : Reply → List ℕ → Type 0) (before after : Option (List ℕ)) (reply : Reply) : Type 0 where
  pub output : List ℕ
  pub wrote : after ≡ append_told before output
  pub is_answer : IsAnswer reply output

-- a write of bytes that are due failed: a part of them was appended to the output, and not all
pub record CutsShort (IsDue : List ℕ → Type 0) (before after : Option (List ℕ)) : Type 0 where
  pub due : List ℕ
  pub is_due : IsDue due
  pub part : AppendsProperPrefix before after due

-- The answer's line is on the error stream, and the status is the answer's; or a write failed there, and a part of the
-- line is on it.
abbrev pub TellsReply : Reply → ℕ → SinkChange → Type 0
TellsReply reply status errors =
    ((status ≡ status_of reply) × Appends errors (line_of reply))
    ⊎ ((status ≡ exit.write_fault) × AppendsPart errors (line_of reply) × Rises errors.faults)
