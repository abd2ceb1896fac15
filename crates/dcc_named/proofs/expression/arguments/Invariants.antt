use Rattle.std.proofs.Common.{◌≡◌, ◌++◌, map, drop}
use Rattle.dcc_c.specs.Tree.{Function, Tree}
use Rattle.dcc_c.specs.Views.{expr_of}
use Rattle.dcc_named.specs.Named.{argument_named}
use Rattle.dcc_named.specs.Views.{IsSceneOf}
use Rattle.dcc_named.proofs.expression.arguments.Given as goal

-- with the arguments that are left, all are written
abbrev pub invariant-loop-e : goal.invariant-loop-e
invariant-loop-e l = (tree : Tree) (f : Function) → IsSceneOf l.scene tree f →
    map expr_of l.after.items ++ map (argument_named tree f l.function) (map expr_of (drop l.e-index l.es)) ≡ map (argument_named tree f l.function) (map expr_of l.es)
