use Rattle.dcc_flow.specs.Edges.{rows}
use Rattle.dcc_webs.specs.Classes.{AreInOrder, JoinMore}
use Rattle.dcc_webs.specs.Walk.{facts_of, links_before}
use Rattle.dcc_webs.proofs.walk.Facts.join_all.Given as goal

abbrev pub invariant-loop-place : goal.invariant-loop-place
invariant-loop-place l = record {
  order : AreInOrder l.classes.class.items (rows l.classes.others.items);
  joins : JoinMore l.initial.classes.class.items (links_before (facts_of l.self) l.place) l.classes.class.items;
}
