-- In which line a step stands.
use Rattle.std.specs.Prelude.{◌≡◌, ℕ, Option, Some, None}
use Rattle.dcc_c.specs.Tree.{no_lines, line}
use Rattle.dcc_c.specs.Run.{Continuation, ends_function, runs, tests, turns, ends_switch}

-- The line of the statement that the next step executes, or of the closing brace. A further turn of a `for` stands in no
-- line: nothing happens in it but that the body begins again.
abbrev pub next_line : Continuation → Option ℕ
next_line (ends_function at) = Some at
next_line (runs no_lines rest) = next_line rest
next_line (runs (line stmt at lines) rest) = Some at
next_line (tests e body at rest) = Some at
next_line (turns body rest) = None
next_line (ends_switch rest) = next_line rest

-- the number is the line, where there is one
abbrev pub IsLine : Option ℕ → ℕ → Type 0
IsLine (Some at) number = number ≡ at
IsLine None number = Unit {0}
