use Rattle.std.proofs.Common.{◌≡◌, ◌++◌, map, drop}
use Rattle.dcc_c.specs.Views.{global_of}
use Rattle.dcc_rewrite.proofs.copies.copied_globals.Given as goal

-- with the global variables that are left, all are copied
abbrev pub invariant-loop-g : goal.invariant-loop-g
invariant-loop-g l = map global_of l.copies.items ++ map global_of (drop l.g-index l.gs) ≡ map global_of l.gs
