use Rattle.std.proofs.Common.{◌≡◌, drop, map}
use Rattle.dcc_c.specs.Run.{with_globals, stack_memory}
use Rattle.dcc_c.specs.Views.{global_of}
use Rattle.dcc_prepare.proofs.start.first_memory.Given as goal

-- with the variables that are left, all have their values
abbrev pub invariant-loop-global : goal.invariant-loop-global
invariant-loop-global l =
    with_globals (map global_of (drop l.global-index l.unit.globals.items)) l.memory.items
    ≡ with_globals (map global_of l.unit.globals.items) (stack_memory l.unit.lo l.unit.hi l.fill)
