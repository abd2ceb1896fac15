use Rattle.std.proofs.Common.{◌≡◌, ◌++◌, take, string_bytes}
use Rattle.std.specs.Fmt.{decimal}
use Rattle.std.specs.List.{flat_map}
use Rattle.dcc_print.proofs.JoinedLaws.{after_comma}
use Rattle.dcc_print.proofs.declaration.push_numbers.Given as goal

abbrev pub invariant-loop-n : goal.invariant-loop-n
invariant-loop-n l =
    string_bytes l.text ≡ string_bytes l.initial.text ++ flat_map (λ n. after_comma (decimal n)) (take l.n-index l.others)
