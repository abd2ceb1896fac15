use Rattle.std.proofs.Common.{◌≡◌, drop, map}
use Rattle.dcc_ir.specs.Passing.{passed}
use Rattle.dcc_summaries.specs.Follow.{changed_among, changed_in}
use Rattle.dcc_summaries.proofs.follow.is_changed.Given as goal

abbrev pub invariant-loop-place : goal.invariant-loop-place
invariant-loop-place l =
    let lists = map (λ v. v.items) l.changed in
    changed_among (drop l.place passed) (drop l.place lists) l.entry l.location ≡ changed_in lists l.entry l.location
