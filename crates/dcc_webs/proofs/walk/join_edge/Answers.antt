use Rattle.std.proofs.Common.{arith}
use Rattle.dcc_webs.specs.Names.{names_of}
use Rattle.dcc_webs.proofs.ClassLaws.{joins_nothing}
use Rattle.dcc_webs.proofs.WalkLaws.{along_step, along_end}
use Rattle.dcc_webs.proofs.walk.join_edge.Goals as goal

pub loop-i-init : goal.loop-i-init
loop-i-init c = record { order = c.requires; joins = joins_nothing c.args.classes.now.class.items }

pub loop-i-preserved : goal.loop-i-preserved
loop-i-preserved c = record {
  order = c.in_ok-join_one.ensures.order;
  joins = along_step (names_of c.args.names.now) c.args.begin c.args.end c.args.at_end.now c.loop-i.i _ c.get.result c.args.classes.now.class.items c.loop-i.classes.class.items c.join_one.new.classes.class.items (omega arith)
      c.get.ensures c.loop-i.invariant.joins c.in_ok-join_one.ensures.joins;
}

pub returns-clause-joins : goal.returns-clause-joins
returns-clause-joins c =
    along_end (names_of c.args.names.now) c.args.begin c.args.end c.args.at_end.now c.loop-i.i c.args.classes.now.class.items c.loop-i.classes.class.items (omega arith) c.loop-i.invariant.joins
