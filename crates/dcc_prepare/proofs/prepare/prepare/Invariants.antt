use Rattle.std.proofs.Common.{map, take}
use Rattle.dcc_c.specs.Views.{function_of, tree_of}
use Rattle.dcc_prepare.specs.Prepared.{ArePrepared}
use Rattle.dcc_prepare.proofs.prepare.prepare.Given as goal

-- the functions so far are prepared
abbrev pub invariant-loop-function : goal.invariant-loop-function
invariant-loop-function l = ArePrepared (tree_of l.unit) (map function_of (take l.function-index l.unit.funcs.items)) l.procedures.items
