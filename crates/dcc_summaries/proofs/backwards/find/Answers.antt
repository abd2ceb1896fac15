use Rattle.std.proofs.Common.{ap, sym, ◌∙◌, subst}
use Rattle.dcc_summaries.specs.Demands.{demand_of, no_demand, with_wants, seeds}
use Rattle.dcc_summaries.specs.Table.{lists_of}
use Rattle.dcc_summaries.specs.Follow.{changed_in}
use Rattle.dcc_summaries.proofs.PointLaws.{listed_are}
use Rattle.dcc_summaries.proofs.FollowLaws.{changes_told}
use Rattle.dcc_summaries.proofs.FindLaws.{IsFinding, begun, next_good, found_all, program, change_lists, pred_lists}
use Rattle.dcc_summaries.proofs.FindLaws.{going_on, less}
use Rattle.dcc_summaries.proofs.backwards.find.Goals as goal

pub seed-requires : goal.seed-requires
seed-requires c = listed_are (program c.args.setting.now) c.args.points.now c.requires.points

pub loop-want-init : goal.loop-want-init
loop-want-init c good tells are =
    let s = c.args.setting.now in
    let p = program s in
    subst (IsFinding p good (changed_in (change_lists s)) tells (pred_lists s) are)
    (sym (c.in_ok-seed.ensures ∙ ap (λ d. with_wants d (seeds p c.args.points.now)) c.in_ok-demand.ensures
    ∙ ap (λ l. with_wants (no_demand c.most_blocks.result) (seeds p l)) c.requires.points))
    (begun p good (changed_in (change_lists s)) tells (pred_lists s) are c.most_blocks.result)

pub follow-requires-clause-point : goal.follow-requires-clause-point
follow-requires-clause-point c =
    let s = c.args.setting.now in
    let p = program s in
    let tells = changes_told p (change_lists s) c.requires.changed in
    (next_good p c.requires.program (changed_in (change_lists s)) tells (pred_lists s) c.requires.preds (demand_of c.loop-want.demand) (c.loop-want.invariant c.requires.program tells c.requires.preds)
    (lists_of c.take.new.self.lists.items) c.in-Some.want c.in-Some.ensures).0

pub loop-want-smaller : goal.loop-want-smaller
loop-want-smaller c =
    let s = c.args.setting.now in
    let tells = changes_told (program s) (change_lists s) c.requires.changed in
    less s c.requires.program tells c.requires.preds c.args.points.now c.requires.points c.requires.calls c.requires.returns c.loop-want.demand c.follow.new.self
    (c.loop-want.invariant c.requires.program tells c.requires.preds) (lists_of c.take.new.self.lists.items) c.in-Some.want c.in-Some.ensures c.in_ok-follow.ensures

pub loop-want-preserved : goal.loop-want-preserved
loop-want-preserved c good tells are =
    going_on c.args.setting.now good tells are c.args.points.now c.requires.points c.requires.calls c.requires.returns c.loop-want.demand c.follow.new.self
    (c.loop-want.invariant good tells are) (lists_of c.take.new.self.lists.items) c.in-Some.want c.in-Some.ensures c.in_ok-follow.ensures

pub returns : goal.returns
returns c =
    let s = c.args.setting.now in
    let p = program s in
    let tells = changes_told p (change_lists s) c.requires.changed in
    record {
      exact = λ at l inside. found_all p c.requires.program (changed_in (change_lists s)) tells (pred_lists s) c.requires.preds (demand_of c.loop-want.demand)
          (c.loop-want.invariant c.requires.program tells c.requires.preds) c.in_default.ensures at l inside;
    }
