-- A tree with its lines counted in the written form.
use Rattle.std.specs.Prelude.{ℕ, suc, ◌+◌, ◌==◌, if◌then◌else◌, List, [], ◌∷◌, length, None}
use Rattle.dcc_c.specs.Tree.{Word, Stmt, If, While, DoWhile, Forever, Switch, Lines, no_lines, line, Arms, no_arms, arm}
use Rattle.dcc_c.specs.Tree.{Function, Tree}
use Rattle.dcc_c.specs.Parts.{stmts_in, inner_stmts}
use Rattle.dcc_c.specs.Written.{depth_after, next_depth, written_depth, written_stmt, written_lines, written_arms}
use Rattle.dcc_c.specs.Written.{written_globals}

-- how many lines the bytes are
abbrev pub rows : Word → ℕ
rows [] = 0
rows (b ∷ bytes) = if b == 10 then suc (rows bytes) else rows bytes

abbrev mutual
  -- statements with their lines, where the first one stands in this line or after its pragma
  pub numbered_lines : ℕ → ℕ → Lines → Lines
  numbered_lines depth at no_lines = no_lines
  numbered_lines depth at (line stmt was lines) =
      let own = next_depth depth (line stmt was lines) in
      let here = at + rows (written_depth depth own) in
      let following = here + rows (written_stmt 1 own stmt) in
      line (numbered_stmt own here stmt) here
      (numbered_lines (depth_after own (stmt ∷ inner_stmts stmt)) following lines)

  -- a statement with the lines of the statements inside it, where it stands in this line
  pub numbered_stmt : ℕ → ℕ → Stmt → Stmt
  numbered_stmt depth at (If e body otherwise) =
      let second = at + 2 + rows (written_lines 1 depth body) in
      If e (numbered_lines depth (at + 1) body)
      (numbered_lines (depth_after depth (stmts_in body)) second otherwise)
  numbered_stmt depth at (While e body) = While e (numbered_lines depth (at + 1) body)
  numbered_stmt depth at (DoWhile body e) = DoWhile (numbered_lines depth (at + 1) body) e
  numbered_stmt depth at (Forever body) = Forever (numbered_lines depth (at + 1) body)
  numbered_stmt depth at (Switch e arms last) =
      let following = depth_after depth (inner_stmts (Switch e arms no_arms)) in
      let second = at + 2 + rows (written_arms 1 depth arms) in
      Switch e (numbered_arms depth (at + 1) arms) (numbered_default following second last)
  numbered_stmt depth at stmt = stmt

  -- arms with their lines, where the first case stands in this line
  pub numbered_arms : ℕ → ℕ → Arms → Arms
  numbered_arms depth at no_arms = no_arms
  numbered_arms depth at (arm cases body arms) =
      let first = at + length cases in
      let following = first + rows (written_lines 1 depth body) + 1 in
      arm cases (numbered_lines depth first body)
      (numbered_arms (depth_after depth (stmts_in body)) following arms)

  -- the default arm with its lines, where its body begins in this line
  pub numbered_default : ℕ → ℕ → Arms → Arms
  numbered_default depth at no_arms = no_arms
  numbered_default depth at (arm cases body arms) = arm cases (numbered_lines depth at body) arms

-- a function with its lines, where its head stands in this line: its braces and its local variables have lines of
-- their own
abbrev pub numbered_function : ℕ → Function → Function
numbered_function at f =
    let first = at + 2 + length f.locals in
    record f { body = numbered_lines 2 first f.body; last = first + rows (written_lines 1 2 f.body) }

abbrev pub numbered_functions : ℕ → List Function → List Function
numbered_functions at [] = []
numbered_functions at (f ∷ functions) =
    let here = numbered_function at f in here ∷ numbered_functions (here.last + 1) functions

-- the tree with its lines as they are in its written form
abbrev pub numbered : Tree → Tree
numbered tree =
    record tree { functions = numbered_functions (3 + rows (written_globals None tree.globals)) tree.functions }
