-- What the type that expressions are read with stands for, and what their functions keep beside the expression.
use Rattle.std.specs.Prelude.{ℕ, nat_le, min, ◌||◌, if◌then◌else◌, Option, Some, None}
use Rattle.dcc_c.specs.declared.syntax.CBin.{CBin}
use Rattle.dcc_c.specs.Grammar.{strength}
use Rattle.dcc_c.specs.Kinds.{of_depth}
use Rattle.dcc_c.specs.Partial.{PartialExpr, depth_of}
use Rattle.dcc_c.specs.Reading as reading
use Rattle.dcc_c.specs.Reading.{Reader, next_token, begins_expr, begins_type, stop_at, fail}
use Rattle.dcc_read.specs.declared.expression.Inside.{Inside}

abbrev pub inside_of : Inside → reading.Inside
inside_of i = record { start = i.start; operators = i.operators; opened = i.opened }

-- the depth of an expression, or 201 where it is deeper
abbrev pub measure : PartialExpr → ℕ
measure e = min 201 (depth_of e)

-- the operator, if it has the given strength at least
abbrev pub strong_enough : ℕ → Option CBin → Option CBin
strong_enough weakest (Some operator) = if nat_le weakest (strength operator) then Some operator else None
strong_enough weakest None = None

-- reading stops at a piece that stands in too many parentheses, and may be the first in them
abbrev pub stopped_deep : Reader → Reader
stopped_deep r = if begins_expr (next_token r) || begins_type (next_token r) then stop_at of_depth r.at r else fail r
