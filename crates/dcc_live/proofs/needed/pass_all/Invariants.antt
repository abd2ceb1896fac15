use Rattle.std.proofs.Common.{◌≡◌, ◌≤◌, length, map, drop}
use Rattle.dcc_flow.specs.Access.{access_in}
use Rattle.dcc_flow.specs.Marks.{members}
use Rattle.dcc_live.specs.Needed.{before_all}
use Rattle.dcc_live.proofs.needed.pass_all.Given as goal

abbrev pub invariant-loop-at : goal.invariant-loop-at
invariant-loop-at l = record {
  inside : l.at ≤ length l.stmts;
  marks : members l.marks ≡ before_all (drop l.at (map access_in l.stmts)) (members l.initial.marks);
}

abbrev pub decreases-loop-at : goal.decreases-loop-at
decreases-loop-at l = l.at
