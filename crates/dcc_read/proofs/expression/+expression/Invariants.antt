use Rattle.std.proofs.Common.{◌≡◌, ◌≤◌}
use Rattle.dcc_c.specs.Reading as reading
use Rattle.dcc_reader.specs.PartialViews.{expr_of}
use Rattle.dcc_read.specs.ExpressionViews.{inside_of}
use Rattle.dcc_reader.specs.ReaderViews.{reader_of}
use Rattle.dcc_read.proofs.expression.+expression.Given as goal

abbrev pub decreases-measured_expr : goal.decreases-measured_expr
decreases-measured_expr l = l.calls

abbrev pub decreases-measured_unary : goal.decreases-measured_unary
decreases-measured_unary l = l.calls

abbrev pub decreases-read_binary : goal.decreases-read_binary
decreases-read_binary l = l.calls

abbrev pub decreases-read_cast : goal.decreases-read_cast
decreases-read_cast l = l.calls

abbrev pub decreases-read_more : goal.decreases-read_more
decreases-read_more l = l.calls

abbrev pub decreases-read_parentheses : goal.decreases-read_parentheses
decreases-read_parentheses l = l.calls

abbrev pub decreases-read_rest : goal.decreases-read_rest
decreases-read_rest l = l.calls

-- what is still to be read after what was read so far is the whole
abbrev pub invariant-read_more-loop-fewer : goal.invariant-read_more-loop-fewer
invariant-read_more-loop-fewer l = record {
  same : reading.read_more l.calls (inside_of l.inside) l.weakest (reading.got (expr_of l.left.expr) (reader_of l.r))
      ≡ reading.read_more l.fn.calls (inside_of l.inside) l.weakest (reading.got (expr_of l.fn.first.expr) (reader_of l.fn.r));
  few : l.calls ≤ l.fn.calls;
}

abbrev pub decreases-read_more-loop-fewer : goal.decreases-read_more-loop-fewer
decreases-read_more-loop-fewer l = l.calls
