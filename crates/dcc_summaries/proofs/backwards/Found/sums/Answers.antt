use Rattle.std.proofs.Common.{◌+◌, length, ap, ◌∙◌, arith}
use Rattle.std.proofs.lemmas.List.{length-map, length_push}
use Rattle.dcc_ir.specs.Views.{graph_of, program_of}
use Rattle.dcc_summaries.proofs.FaultLaws.{none_first, first_more, all_sums, all_one}
use Rattle.dcc_summaries.proofs.backwards.Found.sums.Goals as goal

pub loop-place-init : goal.loop-place-init
loop-place-init c = record {
  count = ap length c.new-of.ensures.items;
  first = none_first (program_of c.args.p.now) c.new-of.result.items c.new-of.ensures.items;
}

pub loop-place-preserved : goal.loop-place-preserved
loop-place-preserved c = record {
  count = ap length c.in_ok-push.ensures.items ∙ length_push c.loop-place.of.items c.in_ok-sum.sum ∙ ap (λ n. n + 1) c.loop-place.invariant.count;
  first = first_more (program_of c.args.p.now) c.loop-place.of.items c.push.new.self.items c.in_ok-sum.sum c.loop-place.place c.loop-place.invariant.count c.in_ok-push.ensures.items c.loop-place.invariant.first
      c.in_ok-sum.ensures.sum;
}

pub returns-clause-sums : goal.returns-clause-sums
returns-clause-sums c =
    all_sums (program_of c.args.p.now) c.loop-place.of.items
    (omega (arith, c.loop-place.invariant.count, c.loop-place-test.false, c.loop-place.auto.place-end, c.len-place-end.ensures, length-map c.args.p.now.graphs.items graph_of)) c.loop-place.invariant.first

pub returns-clause-one : goal.returns-clause-one
returns-clause-one c = all_one (program_of c.args.p.now) c.loop-place.of.items c.loop-place.invariant.first
