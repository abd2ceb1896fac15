use Rattle.dcc_flow.specs.Edges.{rows}
use Rattle.dcc_webs.specs.Classes.{AreInOrder, JoinMore}
use Rattle.dcc_webs.specs.Walk.{facts_of, links_into}
use Rattle.dcc_webs.proofs.walk.Facts.join_block.Given as goal

abbrev pub invariant-loop-i : goal.invariant-loop-i
invariant-loop-i l = record {
  order : AreInOrder l.classes.class.items (rows l.classes.others.items);
  joins : JoinMore l.initial.classes.class.items (links_into (facts_of l.self) l.place l.i) l.classes.class.items;
}
