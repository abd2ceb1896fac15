use Rattle.std.proofs.Common.{◌≡◌, ◌++◌, map, drop}
use Rattle.dcc_c.specs.Stripped.{plain_numbers}
use Rattle.dcc_reader.specs.PartialViews as partial
use Rattle.dcc_parse.proofs.strip.strip_numbers.Given as goal

-- what has been stripped, before the rest
abbrev pub invariant-loop-n : goal.invariant-loop-n
invariant-loop-n l =
    l.found.items ++ plain_numbers (map partial.case_of (drop l.n-index l.numbers)) ≡ plain_numbers (map partial.case_of l.numbers)
