-- The indentation counts 16 pairs of braces at most.
use Rattle.std.proofs.Common.{◌≡◌, ℕ, ◌+◌, min, None, Some, arith}
use Rattle.dcc_c.specs.Tree.{Stmt, Assign, Call, If, While, DoWhile, Forever, Switch, Break, Continue, Goto, Label, Empty, Return, Lines, no_lines, line, Arms, no_arms, arm}
use Rattle.std.proofs.Common.{List, [], ◌∷◌, refl}
use Rattle.dcc_c.specs.Parts.{stmts_in, inner_stmts}
use Rattle.dcc_c.specs.Written.{depth_after, next_depth, written_cases, written_stmt, written_lines, written_arms, written_default}

cases-counted : (a b : ℕ) → min a 16 ≡ min b 16 → (cases : List ℕ) → written_cases a cases ≡ written_cases b cases
cases-counted a b same [] = refl
cases-counted a b same (n ∷ cases) = let rest = cases-counted a b same cases in cc

deeper : (a b : ℕ) → min a 16 ≡ min b 16 → min (1 + a) 16 ≡ min (1 + b) 16
deeper a b same = omega arith

mutual
  -- statements are indented alike inside as many pairs of braces, or inside 16 or more
  pub stmt-counted : (a b : ℕ) → min a 16 ≡ min b 16 → (depth : ℕ) (stmt : Stmt) → written_stmt a depth stmt ≡ written_stmt b depth stmt
  stmt-counted a b same depth (Assign place e) = cc
  stmt-counted a b same depth (Call None function arguments own) = cc
  stmt-counted a b same depth (Call (Some place) function arguments own) = cc
  stmt-counted a b same depth (If e body no_lines) =
      let first = lines-counted (1 + a) (1 + b) (deeper a b same) depth body in cc
  stmt-counted a b same depth (If e body (line stmt at lines)) =
      let first = lines-counted (1 + a) (1 + b) (deeper a b same) depth body in
      let second = lines-counted (1 + a) (1 + b) (deeper a b same) (depth_after depth (stmts_in body)) (line stmt at lines) in
      cc
  stmt-counted a b same depth (While e body) =
      let inner = lines-counted (1 + a) (1 + b) (deeper a b same) depth body in cc
  stmt-counted a b same depth (DoWhile body e) =
      let inner = lines-counted (1 + a) (1 + b) (deeper a b same) depth body in cc
  stmt-counted a b same depth (Forever body) =
      let inner = lines-counted (1 + a) (1 + b) (deeper a b same) depth body in cc
  stmt-counted a b same depth (Switch e arms last) =
      let first = arms-counted (1 + a) (1 + b) (deeper a b same) depth arms in
      let second = default-counted (1 + a) (1 + b) (deeper a b same) (depth_after depth (inner_stmts (Switch e arms no_arms))) last in
      cc
  stmt-counted a b same depth Break = cc
  stmt-counted a b same depth Continue = cc
  stmt-counted a b same depth (Goto word) = cc
  stmt-counted a b same depth (Label word) = refl
  stmt-counted a b same depth Empty = cc
  stmt-counted a b same depth (Return e) = cc

  pub lines-counted : (a b : ℕ) → min a 16 ≡ min b 16 → (depth : ℕ) (lines : Lines) → written_lines a depth lines ≡ written_lines b depth lines
  lines-counted a b same depth no_lines = refl
  lines-counted a b same depth (line stmt at lines) =
      let own = next_depth depth (line stmt at lines) in
      let first = stmt-counted a b same own stmt in
      let rest = lines-counted a b same (depth_after own (stmt ∷ inner_stmts stmt)) lines in
      cc

  pub arms-counted : (a b : ℕ) → min a 16 ≡ min b 16 → (depth : ℕ) (arms : Arms) → written_arms a depth arms ≡ written_arms b depth arms
  arms-counted a b same depth no_arms = refl
  arms-counted a b same depth (arm cases body arms) =
      let heads = cases-counted a b same cases in
      let first = lines-counted a b same depth body in
      let rest = arms-counted a b same (depth_after depth (stmts_in body)) arms in
      cc

  pub default-counted : (a b : ℕ) → min a 16 ≡ min b 16 → (depth : ℕ) (arms : Arms) → written_default a depth arms ≡ written_default b depth arms
  default-counted a b same depth no_arms = refl
  default-counted a b same depth (arm cases body arms) = let inner = lines-counted a b same depth body in cc
