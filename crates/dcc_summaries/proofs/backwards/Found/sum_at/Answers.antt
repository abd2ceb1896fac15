use Rattle.std.proofs.Common.{ap, sym, ◌∙◌}
use Rattle.dcc_summaries.specs.Summaries.{is_one_value}
use Rattle.dcc_summaries.proofs.FaultLaws.{good_sum, several}
use Rattle.dcc_summaries.proofs.backwards.Found.sum_at.Goals as goal

pub returns-then-is_one_value-clause-sum : goal.returns-then-is_one_value-clause-sum
returns-then-is_one_value-clause-sum c =
    good_sum c.args.p.now c.requires.program c.args.self.now c.requires.found c.args.place c.requires.place c.index-graph.result.now c.index-graph.ensures c.in_ok-sum.sum c.in_ok-sum.ensures
    (ap is_one_value (sym c.as_slice.ensures.value) ∙ sym c.is_one_value.ensures ∙ c.if-is_one_value.true)

pub returns-else-is_one_value-clause-fault : goal.returns-else-is_one_value-clause-fault
returns-else-is_one_value-clause-fault c =
    several c.args.p.now c.requires.program c.args.self.now c.requires.found c.args.place c.requires.place c.index-graph.result.now c.index-graph.ensures c.in_ok-sum.sum c.in_ok-sum.ensures
    (ap is_one_value (sym c.as_slice.ensures.value) ∙ sym c.is_one_value.ensures ∙ c.if-is_one_value.false)
