use Rattle.dcc_flow.specs.Edges.{rows}
use Rattle.dcc_webs.specs.Names.{names_of}
use Rattle.dcc_webs.specs.Classes.{AreInOrder, JoinMore}
use Rattle.dcc_webs.specs.Walk.{links_upto}
use Rattle.dcc_webs.proofs.walk.join_edge.Given as goal

abbrev pub invariant-loop-i : goal.invariant-loop-i
invariant-loop-i l = record {
  order : AreInOrder l.classes.class.items (rows l.classes.others.items);
  joins : JoinMore l.initial.classes.class.items (links_upto (names_of l.names) l.begin l.end l.at_end l.i) l.classes.class.items;
}
