use Rattle.std.proofs.Common.{◌≡◌, ◌≤◌, [], length, map, take, drop, reverse}
use Rattle.dcc_ir.specs.Tree.{Graph, Block}
use Rattle.dcc_ir.specs.Families.{live}
use Rattle.dcc_ir.specs.Views.{stmt_of}
use Rattle.dcc_flow.specs.Marks.{members}
use Rattle.dcc_divisions.specs.Divisions.{AreLeft}
use Rattle.dcc_divisions.specs.Walk.{backward, Covers}
use Rattle.dcc_divisions.proofs.left.stmts_left.Given as goal

abbrev pub invariant-loop-stmt : goal.invariant-loop-stmt
invariant-loop-stmt l = record {
  le : length l.passed.items ≤ length (map stmt_of l.initial.passed.items);
  front : map stmt_of l.passed.items ≡ take (length l.passed.items) (map stmt_of l.initial.passed.items);
  left : (graph : Graph) (block : Block) → Covers graph block [] (members l.initial.live)
      → AreLeft (live graph block) (backward l.passed.items) (drop (length l.passed.items) (map stmt_of l.initial.passed.items)) (backward l.left.items);
  covers : (graph : Graph) (block : Block) → Covers graph block [] (members l.initial.live)
      → Covers graph block (drop (length l.passed.items) (map stmt_of l.initial.passed.items)) (members l.live);
}

abbrev pub decreases-loop-stmt : goal.decreases-loop-stmt
decreases-loop-stmt l = length l.passed.items
