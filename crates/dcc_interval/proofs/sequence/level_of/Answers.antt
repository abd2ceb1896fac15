use Rattle.std.proofs.Common.{length, arith}
use Rattle.dcc_flow.specs.Edges.{rows}
use Rattle.dcc_flow.proofs.RowLaws.{length_rows}
use Rattle.dcc_interval.proofs.SequenceLaws.{headers_within}
use Rattle.dcc_interval.proofs.sequence.level_of.Goals as goal

pub is_still-still-requires : goal.is_still-still-requires
is_still-still-requires c =
    let vs = c.args.next.now.items in
    headers_within (rows vs) c.args.entry c.requires.within (omega (arith, c.requires.entry, length_rows vs)) c.in_ok-intervals.intervals.items c.in_ok-intervals.ensures (length vs) (length_rows vs)

pub collapsed-requires : goal.collapsed-requires
collapsed-requires c = record {
  within = c.requires.within;
  intervals = (c.args.entry, c.requires.entry, c.in_ok-intervals.ensures);
}
