use Rattle.std.proofs.Common.{false}
use Rattle.dcc_watch.specs.Marks.{no_marks}
use Rattle.dcc_watch.proofs.MarkLaws.{filled}
use Rattle.dcc_watch.proofs.marks.Marks.none.Goals as goal

pub returns : goal.returns
unfolding no_marks
returns c = filled 65536 _ false c.in_ok-items.items.items c.resize.new.self.items c.in_ok-items.ensures.items c.in_ok-items.ensures.len c.in_ok-resize.ensures.items
