use Rattle.std.proofs.Common.{◌≡◌, ◌++◌, take, string_bytes}
use Rattle.std.specs.List.{flat_map}
use Rattle.dcc_c.specs.Written.{written_param}
use Rattle.dcc_c.specs.Views.{variable_of}
use Rattle.dcc_print.proofs.JoinedLaws.{after_comma}
use Rattle.dcc_print.proofs.declaration.push_params.Given as goal

abbrev pub invariant-loop-v : goal.invariant-loop-v
invariant-loop-v l =
    string_bytes l.text
    ≡ string_bytes l.initial.text
    ++ flat_map (λ v. after_comma (written_param (variable_of v))) (take l.v-index l.others)
