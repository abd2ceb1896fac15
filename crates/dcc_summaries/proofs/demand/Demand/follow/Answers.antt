use Rattle.std.proofs.Common.{◌≡◌, ◌-◌, suc, ap, sym, ◌∙◌, arith}
use Rattle.std.proofs.lemmas.Result.{on_ok_weaker}
use Rattle.dcc_summaries.specs.Demands.{demand_of, with_wants}
use Rattle.dcc_summaries.specs.Points.{site_seen, point_at}
use Rattle.dcc_summaries.specs.Follow.{before_block, before_entry, before_site}
use Rattle.dcc_summaries.specs.Setting.{setting_of}
use Rattle.dcc_summaries.proofs.DemandLaws.{with_wants-append}
use Rattle.dcc_summaries.proofs.FollowLaws.{followed_begin, followed_inside}
use Rattle.dcc_summaries.proofs.demand.Demand.follow.Goals as goal

pub returns-in_ok-follow_begin : goal.returns-in_ok-follow_begin
returns-in_ok-follow_begin c =
    let s = setting_of c.args.setting.now in
    let x = c.args.want in
    let old = demand_of c.args.self.now in
    let zero : x.at.done ≡ 0 = omega arith in
    let blocks = before_block s.program s.preds x.at.graph x.at.block x.location in
    let calls = before_entry s.program s.calls x.at.graph x.at.block x.location in
    on_ok_weaker c.follow_entry.result
    (λ e. e ∙ ap (λ d. with_wants d calls) c.in_ok-follow_begin.ensures ∙ with_wants-append old blocks calls ∙ ap (with_wants old) (sym (followed_begin s x zero)))
    c.follow_entry.ensures

pub returns-in-Executes : goal.returns-in-Executes
returns-in-Executes c =
    let s = setting_of c.args.setting.now in
    let x = c.args.want in
    let old = demand_of c.args.self.now in
    let done = x.at.done - 1 in
    let more : x.at.done ≡ suc done = omega arith in
    let at = point_at x.at.graph x.at.block done in
    let site = ap site_seen (sym c.in-Executes.is) ∙ c.site_at.ensures in
    on_ok_weaker c.follow_stmt.result
    (λ e. e ∙ ap (λ y. with_wants old (before_site s.changed s.returns at y x.location)) site ∙ ap (with_wants old) (sym (followed_inside s x done more))) c.follow_stmt.ensures
