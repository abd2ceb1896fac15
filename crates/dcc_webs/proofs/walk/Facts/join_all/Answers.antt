use Rattle.std.proofs.Common.{arith}
use Rattle.std.proofs.lemmas.List.{length-map}
use Rattle.dcc_flow.specs.Access.{block_access_in}
use Rattle.dcc_webs.specs.Walk.{facts_of}
use Rattle.dcc_webs.proofs.ClassLaws.{joins_nothing}
use Rattle.dcc_webs.proofs.WalkLaws.{all_step, all_end}
use Rattle.dcc_webs.proofs.walk.Facts.join_all.Goals as goal

pub loop-place-init : goal.loop-place-init
loop-place-init c = record { order = c.requires.order; joins = joins_nothing c.args.classes.now.class.items }

pub loop-place-preserved : goal.loop-place-preserved
loop-place-preserved c = record {
  order = c.in_ok-join_block.ensures.order;
  joins = all_step (facts_of c.args.self.now) c.loop-place.place c.args.classes.now.class.items c.loop-place.classes.class.items c.join_block.new.classes.class.items c.loop-place.invariant.joins c.in_ok-join_block.ensures.joins;
}

pub returns-clause-joins : goal.returns-clause-joins
returns-clause-joins c = all_end (facts_of c.args.self.now) c.loop-place.place c.args.classes.now.class.items c.loop-place.classes.class.items
    (omega (arith, c.len-place-end.ensures, length-map c.args.self.now.accesses.now.items block_access_in)) c.loop-place.invariant.joins
