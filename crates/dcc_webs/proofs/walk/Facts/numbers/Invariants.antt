use Rattle.dcc_webs.specs.Walk.{facts_of}
use Rattle.dcc_webs.proofs.WalkLaws.{BasesBelow}
use Rattle.dcc_webs.proofs.walk.Facts.numbers.Given as goal

abbrev pub invariant-loop-place : goal.invariant-loop-place
invariant-loop-place l = BasesBelow (facts_of l.self) l.bases.items l.origins.items l.place
