use Rattle.std.proofs.Common.{◌≡◌, ◌≤◌, length, map, take, drop, reverse}
use Rattle.dcc_ir.specs.Views.{stmt_of}
use Rattle.dcc_flow.specs.Access.{access_of}
use Rattle.dcc_flow.specs.Marks.{members}
use Rattle.dcc_live.specs.Needed.{before_all, left_of}
use Rattle.dcc_live.proofs.dead.stmts_left.Given as goal

abbrev pub invariant-loop-stmt : goal.invariant-loop-stmt
invariant-loop-stmt l = record {
  le : length l.rest.items ≤ length (map stmt_of l.initial.rest.items);
  front : map stmt_of l.rest.items ≡ take (length l.rest.items) (map stmt_of l.initial.rest.items);
  left : map stmt_of (reverse l.left.items) ≡ left_of (drop (length l.rest.items) (map stmt_of l.initial.rest.items)) (members l.initial.marks);
  marks : members l.marks ≡ before_all (map access_of (drop (length l.rest.items) (map stmt_of l.initial.rest.items))) (members l.initial.marks);
}

abbrev pub decreases-loop-stmt : goal.decreases-loop-stmt
decreases-loop-stmt l = length l.rest.items
