use Rattle.std.proofs.Common.{◌≡◌, ◌++◌, map, drop}
use Rattle.dcc_c.specs.Tree.{Tree}
use Rattle.dcc_c.specs.Views.{function_of}
use Rattle.dcc_respell.specs.Writing.{function_by}
use Rattle.dcc_named.specs.Named as spec
use Rattle.dcc_named.specs.Views.{KnowsText}
use Rattle.dcc_named.proofs.text.all_functions.Given as goal

-- with the functions that are left, all are written
abbrev pub invariant-loop-f : goal.invariant-loop-f
invariant-loop-f l = (tree : Tree) → KnowsText l.known tree →
    map function_of l.after.items ++ map (function_by (spec.writing tree)) (map function_of (drop l.f-index l.fs)) ≡ map (function_by (spec.writing tree)) (map function_of l.fs)
