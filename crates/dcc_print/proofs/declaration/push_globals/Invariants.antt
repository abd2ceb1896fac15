use Rattle.std.proofs.Common.{◌≡◌, ◌++◌, map, drop, string_bytes, None}
use Rattle.dcc_c.specs.Written.{written_globals}
use Rattle.dcc_c.specs.Views.{global_of}
use Rattle.dcc_print.proofs.declaration.push_globals.Given as goal

abbrev pub invariant-loop-global : goal.invariant-loop-global
invariant-loop-global l =
    string_bytes l.text ++ written_globals l.end (map global_of (drop l.global-index l.globals))
    ≡ string_bytes l.initial.text ++ written_globals None (map global_of l.globals)
