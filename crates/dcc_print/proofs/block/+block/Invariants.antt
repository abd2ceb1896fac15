use Rattle.std.proofs.Common.{◌≡◌, true, ◌++◌, drop, string_bytes}
use Rattle.dcc_c.specs.Parts.{stmts_in, arm_stmts}
use Rattle.dcc_c.specs.Written.{depth_after, next_depth, written_lines, written_arms}
use Rattle.dcc_c.specs.Views.{lines_of, arms_of}
use Rattle.dcc_print.proofs.block.+block.Given as goal

-- with the arms that are left, the text is whole
abbrev pub invariant-push_arms-loop-arm : goal.invariant-push_arms-loop-arm
invariant-push_arms-loop-arm l = record {
  text : string_bytes l.text ++ written_arms l.braces l.in_force (arms_of (drop l.arm-index l.arms))
      ≡ string_bytes l.initial.text ++ written_arms l.braces l.depth (arms_of l.arms);
  depth : depth_after l.in_force (arm_stmts (arms_of (drop l.arm-index l.arms))) ≡ depth_after l.depth (arm_stmts (arms_of l.arms));
}

-- with the statements that are left, the text is whole
abbrev pub invariant-push_lines-loop-i : goal.invariant-push_lines-loop-i
invariant-push_lines-loop-i l = record {
  text : string_bytes l.text ++ written_lines l.braces l.in_force (lines_of (drop l.i l.lines))
      ≡ string_bytes l.initial.text ++ written_lines l.braces l.depth (lines_of l.lines);
  depth : depth_after l.in_force (stmts_in (lines_of (drop l.i l.lines))) ≡ depth_after l.depth (stmts_in (lines_of l.lines));
  label : l.is_after_label ≡ true → next_depth l.in_force (lines_of (drop l.i l.lines)) ≡ l.in_force;
}
