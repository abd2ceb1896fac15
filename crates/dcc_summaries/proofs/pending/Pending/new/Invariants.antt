use Rattle.std.proofs.Common.{◌≡◌, [], replicate}
use Rattle.dcc_summaries.specs.Table.{lists_of}
use Rattle.dcc_summaries.proofs.pending.Pending.new.Given as goal

abbrev pub invariant-loop : goal.invariant-loop
invariant-loop l = lists_of l.lists.items ≡ replicate l.counter []
