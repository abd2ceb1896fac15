use Rattle.std.proofs.Common.{◌≡◌, ℕ, ◌+◌, ◌-◌, ◌++◌, None, map, drop}
use Rattle.dcc_c.specs.Views.{lines_of, arms_of}
use Rattle.dcc_shape.specs.Spots.{block_spots, arm_spots}
use Rattle.dcc_shape.specs.Seen.{lent, seen, seen_in}
use Rattle.dcc_shape.proofs.seen.+add.Given as goal

-- with the statements that are left the list is whole
abbrev pub invariant-add_lines-loop-line : goal.invariant-add_lines-loop-line
invariant-add_lines-loop-line l = (depth : ℕ) → l.room ≡ 199 - depth →
    map seen_in l.list.items ++ map seen (block_spots (map lent l.loops) depth (lent l.label) (lines_of (drop l.line-index l.lines)))
    ≡ map seen_in l.initial.list.items ++ map seen (block_spots (map lent l.loops) depth None (lines_of l.lines))

-- with the arms that are left the list is whole
abbrev pub invariant-add_arms-loop-arm : goal.invariant-add_arms-loop-arm
invariant-add_arms-loop-arm l = (depth : ℕ) → l.less ≡ 199 - (depth + 1) →
    map seen_in l.list.items ++ map seen (arm_spots (map lent l.loops) depth (arms_of (drop l.arm-index l.arms)))
    ≡ map seen_in l.initial.list.items ++ map seen (arm_spots (map lent l.loops) depth (arms_of l.arms))
