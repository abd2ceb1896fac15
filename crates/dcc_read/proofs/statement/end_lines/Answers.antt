use Rattle.std.proofs.Common.{sym, ◌∙◌, arith}
use Rattle.dcc_read.proofs.LineLaws.{lines-one}
use Rattle.dcc_read.proofs.statement.end_lines.Goals as goal

pub returns-then-begins_stmt : goal.returns-then-begins_stmt
returns-then-begins_stmt c around = lines-one _ around _ _ _ (omega arith) (sym c.begins_stmt.ensures ∙ c.if-begins_stmt.true)
