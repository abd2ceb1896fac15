use Rattle.std.proofs.Common.{◌+◌, ◌*◌}
use Rattle.dcc_struct.proofs.walk.Walk.+walk.Given as goal

abbrev pub decreases-push_coming : goal.decreases-push_coming
decreases-push_coming l = l.room * 8 + 4

abbrev pub decreases-push_block : goal.decreases-push_block
decreases-push_block l = l.room * 8 + 3

abbrev pub decreases-push_loop : goal.decreases-push_loop
decreases-push_loop l = l.room * 8 + 9

abbrev pub decreases-push_body : goal.decreases-push_body
decreases-push_body l = l.room * 8 + 8

abbrev pub decreases-push_test : goal.decreases-push_test
decreases-push_test l = l.room * 8 + 7

abbrev pub decreases-push_ways : goal.decreases-push_ways
decreases-push_ways l = l.room * 8 + 6

abbrev pub decreases-push_guard : goal.decreases-push_guard
decreases-push_guard l = l.room * 8 + 6

abbrev pub decreases-side : goal.decreases-side
decreases-side l = l.room * 8 + 5

abbrev pub decreases-arms : goal.decreases-arms
decreases-arms l = l.room * 8 + 6
