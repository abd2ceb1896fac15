use Rattle.std.proofs.Common.{◌<◌, length, get_or, ◌∙◌, arith}
use Rattle.std.proofs.lemmas.List.{length-set}
use Rattle.dcc_interval.proofs.ReachLaws.{enter_step}
use Rattle.dcc_interval.proofs.reach.enter.Goals as goal

pub loop-to-preserved : goal.loop-to-preserved
loop-to-preserved c =
    let vs = c.loop-to.sources.items in
    let i = c.loop-to.to-index in
    let tos = c.args.tos.now in
    let inside : i < length tos = omega arith in
    let within : get_or tos i 0 < length c.args.sources.now.items = c.requires i 0 inside in
    let here : get_or tos i 0 < length vs = omega (arith, within, c.loop-to.invariant.count) in
    record {
      count = length-set vs (get_or tos i 0) c.push.new.self ∙ c.loop-to.invariant.count;
      rest = enter_step vs c.push.new.self c.index_mut.result.now c.args.from i tos inside here c.index_mut.ensures.value c.in_ok-push.ensures.items ∙ c.loop-to.invariant.rest;
    }
