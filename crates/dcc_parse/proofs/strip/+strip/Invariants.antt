use Rattle.std.proofs.Common.{◌≡◌, ℕ, [], false, length}
use Rattle.std.specs.Vec.Iter.{into_iter_items, into_iter_len}
use Rattle.dcc_c.specs.Offences.{BodyContext, default_offences, lines_offences, arms_inner}
use Rattle.dcc_reader.specs.PartialViews as partial
use Rattle.dcc_parse.proofs.StripLaws.{LinesLeft, LinesMade, ArmsLeft}
use Rattle.dcc_parse.proofs.strip.+strip.Given as goal

abbrev pub invariant-strip_lines-loop-row : goal.invariant-strip_lines-loop-row
invariant-strip_lines-loop-row l = (scene : BodyContext) (blocks : ℕ) → lines_offences scene blocks (partial.lines_of l.fn.rows.items) ≡ [] →
    LinesLeft scene blocks l.lines.items (into_iter_items l.row-iterator) (into_iter_len l.row-iterator) l.fn.rows.items

abbrev pub invariant-strip_lines-loop-last : goal.invariant-strip_lines-loop-last
invariant-strip_lines-loop-last l = record {
  deep : goal.no_deeper-strip_lines-loop-last l;
  made : (scene : BodyContext) (blocks : ℕ) → lines_offences scene blocks (partial.lines_of l.fn.rows.items) ≡ [] →
      LinesMade scene blocks l.lines.items l.rows.items l.fn.rows.items;
}

abbrev pub decreases-strip_lines-loop-last : goal.decreases-strip_lines-loop-last
decreases-strip_lines-loop-last l = length l.rows.items

abbrev pub invariant-strip_arms-loop-arm : goal.invariant-strip_arms-loop-arm
invariant-strip_arms-loop-arm l = (scene : BodyContext) (blocks : ℕ) → arms_inner scene blocks (partial.arms_of l.fn.arms.items) ≡ [] →
    default_offences false (partial.arms_of l.fn.arms.items) ≡ [] →
    ArmsLeft scene blocks l.with_cases.items l.default (into_iter_items l.arm-iterator) (into_iter_len l.arm-iterator) l.fn.arms.items
