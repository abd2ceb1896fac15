-- Lines, and what stands around them, as code has them.
use Rattle.dcc_c.specs.declared.syntax.CStmt.{CStmt}
use Rattle.dcc_c.specs.declared.syntax.Line.{Line}
use Rattle.dcc_c.specs.Grammar.{Around}
use Rattle.dcc_pipe.specs.declared.allowed.Around.{Around as TheAround}

-- what the declared type stands for
abbrev pub around_of : TheAround → Around
around_of around = record { blocks = around.blocks; breaks = around.breaks; continues = around.continues }

-- a statement in a line that is not counted yet
abbrev pub fresh_line : CStmt → Line
fresh_line stmt = record { stmt = stmt; line = 0 }
