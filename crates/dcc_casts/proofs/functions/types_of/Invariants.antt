use Rattle.std.proofs.Common.{◌≡◌, ◌++◌, map, drop}
use Rattle.dcc_c.specs.Tree.{Variable}
use Rattle.dcc_c.specs.Views.{variable_of}
use Rattle.dcc_casts.proofs.functions.types_of.Given as goal

-- with the types that are left, all are there
abbrev pub invariant-loop-v : goal.invariant-loop-v
invariant-loop-v l = l.types.items ++ map (λ (v : Variable). v.type) (map variable_of (drop l.v-index l.params)) ≡ map (λ (v : Variable). v.type) (map variable_of l.params)
