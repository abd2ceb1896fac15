-- What statements that set locations leave of what expressions read.
use Rattle.std.specs.Prelude.{List, [], ◌∷◌}
use Rattle.dcc_ir.specs.Location.{with_value}
use Rattle.dcc_ir.specs.Tree.{Stmt, Set}
use Rattle.dcc_ir.specs.Value.{Environment, value_of}

-- what expressions read after statements that set locations; other statements leave it
abbrev pub executed : List Stmt → Environment → Environment
executed [] scene = scene
executed (Set location e ∷ rest) scene =
    executed rest (record scene { values = with_value scene.values location (value_of scene e) })
executed (stmt ∷ rest) scene = executed rest scene
