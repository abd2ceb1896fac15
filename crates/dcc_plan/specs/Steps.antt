-- How many steps of a text there are, those inside others too.
use Rattle.std.specs.Prelude.{ℕ, suc, ◌+◌}
use Rattle.dcc_c.specs.Tree.{Stmt, If, While, DoWhile, Forever, Switch, Lines, no_lines, line, Arms, no_arms, arm}

abbrev mutual
  pub steps_in : Lines → ℕ
  steps_in no_lines = 0
  steps_in (line stmt at lines) = stmt_steps stmt + steps_in lines

  -- one for a statement, and one more for each further test of a loop with a test
  pub stmt_steps : Stmt → ℕ
  stmt_steps (If e body otherwise) = suc (steps_in body + steps_in otherwise)
  stmt_steps (While e body) = suc (suc (steps_in body))
  stmt_steps (DoWhile body e) = suc (suc (steps_in body))
  stmt_steps (Forever body) = suc (steps_in body)
  stmt_steps (Switch e arms last) = suc (arm_steps arms + arm_steps last)
  stmt_steps _ = 1

  pub arm_steps : Arms → ℕ
  arm_steps no_arms = 0
  arm_steps (arm cases body arms) = steps_in body + arm_steps arms
