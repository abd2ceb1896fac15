-- The depth in force.
use Rattle.std.proofs.Common.{◌≡◌, ℕ, List, [], ◌∷◌, ◌++◌, refl}
use Rattle.dcc_c.specs.Tree.{Stmt, Call, Label, Lines, no_lines, line}
use Rattle.dcc_c.specs.Parts.{stmts_in}
use Rattle.dcc_c.specs.Written.{depth_after, next_depth}

-- after some statements, and then more
pub depth_after-append : (depth : ℕ) (first second : List Stmt) → depth_after depth (first ++ second) ≡ depth_after (depth_after depth first) second
depth_after-append depth [] second = refl
depth_after-append depth (Call place function arguments own ∷ stmts) second = depth_after-append own stmts second
depth_after-append depth (stmt ∷ stmts) second = depth_after-append depth stmts second

-- the depth of the call that comes next stays so once it is in force
pub next_depth-again : (depth : ℕ) (lines : Lines) → next_depth (next_depth depth lines) lines ≡ next_depth depth lines
next_depth-again depth no_lines = refl
next_depth-again depth (line (Label word) at lines) = next_depth-again depth lines
next_depth-again depth (line (Call place function arguments own) at lines) = refl
next_depth-again depth (line stmt at lines) = refl

-- where the depth of the call that comes next is in force already, it is the same after the statements
pub depth_after-next : (depth : ℕ) (lines : Lines) → depth_after (next_depth depth lines) (stmts_in lines) ≡ depth_after depth (stmts_in lines)
depth_after-next depth no_lines = refl
depth_after-next depth (line (Label word) at lines) = depth_after-next depth lines
depth_after-next depth (line (Call place function arguments own) at lines) = refl
depth_after-next depth (line stmt at lines) = refl
