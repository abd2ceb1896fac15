use Rattle.std.proofs.Common.{inl, inr, false, length, arith}
use Rattle.std.proofs.lemmas.Bool.{cases_lt}
use Rattle.std.proofs.lemmas.List.{get_or_past}
use Rattle.dcc_flow.proofs.uses.Work.first_waiting.Goals as goal

pub returns : goal.returns
returns c b =
    elim (cases_lt b (length c.args.self.now.queued.items)) [
      | inl below ↦ c.loop-block.invariant b (omega (arith, below))
      | inr past ↦ get_or_past c.args.self.now.queued.items b false past
    ]
