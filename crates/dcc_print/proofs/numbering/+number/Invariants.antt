use Rattle.std.proofs.Common.{◌≡◌, ℕ, true, ◌+◌, ◌≤◌, length, get_or, take, drop}
use Rattle.dcc_c.specs.declared.syntax.Line.{Line}
use Rattle.dcc_c.specs.Parts.{stmts_in, arm_stmts}
use Rattle.dcc_c.specs.Written.{depth_after, written_lines, written_arms}
use Rattle.dcc_c.specs.Numbered.{rows, numbered_lines, numbered_arms}
use Rattle.dcc_c.specs.Views.{lines_of, arms_of}
use Rattle.dcc_print.specs.Unbroken.{are_unbroken}
use Rattle.dcc_print.proofs.CountedTrees.{lines_before, arms_before}
use Rattle.dcc_print.proofs.numbering.+number.Given as goal

-- the lines so far are counted, and with those that are left the count is whole
abbrev pub invariant-number_lines-loop-i : goal.invariant-number_lines-loop-i
invariant-number_lines-loop-i l = record {
  unvisited : (length l.lines ≡ length l.initial.lines) × ((k : ℕ) (d : Line) → l.i ≤ k → get_or l.lines k d ≡ get_or l.initial.lines k d);
  unbroken : are_unbroken (stmts_in (lines_of l.initial.lines)) ≡ true → are_unbroken (stmts_in (lines_of (drop l.i l.lines))) ≡ true;
  numbered : are_unbroken (stmts_in (lines_of l.initial.lines)) ≡ true →
      lines_before (take l.i l.lines) (numbered_lines l.place.depth l.place.line (lines_of (drop l.i l.lines)))
      ≡ numbered_lines l.initial.place.depth l.initial.place.line (lines_of l.initial.lines);
  line : are_unbroken (stmts_in (lines_of l.initial.lines)) ≡ true →
      l.place.line + rows (written_lines 1 l.place.depth (lines_of (drop l.i l.lines)))
      ≡ l.initial.place.line + rows (written_lines 1 l.initial.place.depth (lines_of l.initial.lines));
  depth : depth_after l.place.depth (stmts_in (lines_of (drop l.i l.lines)))
      ≡ depth_after l.initial.place.depth (stmts_in (lines_of l.initial.lines));
}

-- while arms are numbered: the arms that are left, and the lines so far
abbrev pub invariant-number_arms-loop-i : goal.invariant-number_arms-loop-i
invariant-number_arms-loop-i l = record {
  unvisited : goal.unvisited-number_arms-loop-i l;
  unbroken : are_unbroken (arm_stmts (arms_of l.initial.arms)) ≡ true → are_unbroken (arm_stmts (arms_of (drop l.i l.arms))) ≡ true;
  numbered : are_unbroken (arm_stmts (arms_of l.initial.arms)) ≡ true →
      arms_before (take l.i l.arms) (numbered_arms l.place.depth l.place.line (arms_of (drop l.i l.arms)))
      ≡ numbered_arms l.initial.place.depth l.initial.place.line (arms_of l.initial.arms);
  line : are_unbroken (arm_stmts (arms_of l.initial.arms)) ≡ true →
      l.place.line + rows (written_arms 1 l.place.depth (arms_of (drop l.i l.arms)))
      ≡ l.initial.place.line + rows (written_arms 1 l.initial.place.depth (arms_of l.initial.arms));
  depth : depth_after l.place.depth (arm_stmts (arms_of (drop l.i l.arms)))
      ≡ depth_after l.initial.place.depth (arm_stmts (arms_of l.initial.arms));
}
