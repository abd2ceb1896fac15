use Rattle.std.proofs.Common.{◌≡◌, ◌++◌, drop, string_bytes}
use Rattle.dcc_c.specs.Written.{written_cases}
use Rattle.dcc_print.proofs.statement.push_cases.Given as goal

abbrev pub invariant-loop-n : goal.invariant-loop-n
invariant-loop-n l =
    string_bytes l.text ++ written_cases l.braces (drop l.n-index l.cases) ≡ string_bytes l.initial.text ++ written_cases l.braces l.cases
