use Rattle.std.proofs.Common.{◌≡◌, drop}
use Rattle.dcc_webs.specs.Classes.{all_moved}
use Rattle.dcc_webs.proofs.classes.move_all.Given as goal

abbrev pub invariant-loop-x : goal.invariant-loop-x
invariant-loop-x l = all_moved l.to l.class.items (drop l.x-index l.moved) ≡ all_moved l.to l.initial.class.items l.moved
