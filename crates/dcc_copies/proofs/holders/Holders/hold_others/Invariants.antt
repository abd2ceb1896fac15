use Rattle.std.proofs.Common.{◌≡◌, true, take}
use Rattle.std.specs.List.{list_all}
use Rattle.dcc_copies.specs.Holders.{holders_of, is_own_or_entered}
use Rattle.dcc_copies.proofs.holders.Holders.hold_others.Given as goal

abbrev pub invariant-loop-place : goal.invariant-loop-place
invariant-loop-place l = list_all (is_own_or_entered (holders_of l.self) l.entries) (take l.place-index l.self.noted.items) ≡ true
