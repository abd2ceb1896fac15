use Rattle.std.proofs.Common.{◌≡◌, ◌++◌, map, take, string_bytes}
use Rattle.std.specs.List.{flat_map}
use Rattle.dcc_c.specs.Written.{written_local}
use Rattle.dcc_c.specs.Views.{variable_of}
use Rattle.dcc_print.proofs.unit.push_locals.Given as goal

abbrev pub invariant-loop-v : goal.invariant-loop-v
invariant-loop-v l =
    string_bytes l.text ≡ string_bytes l.initial.text ++ flat_map written_local (map variable_of (take l.v-index l.locals))
