use Rattle.std.proofs.Common.{◌≡◌, ◌++◌, map, drop}
use Rattle.dcc_c.specs.Views.{variable_of}
use Rattle.dcc_rewrite.proofs.copies.copied_variables.Given as goal

-- with the variables that are left, all are copied
abbrev pub invariant-loop-v : goal.invariant-loop-v
invariant-loop-v l = map variable_of l.copies.items ++ map variable_of (drop l.v-index l.vs) ≡ map variable_of l.vs
