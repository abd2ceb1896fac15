use Rattle.dcc_named.proofs.Offsets.{within, before-found, before-nothing}
use Rattle.dcc_named.proofs.places.begins_before.Goals as goal

pub returns-in-Some : goal.returns-in-Some
returns-in-Some c = λ globals knows.
    let entry = (c.range.ensures.in_range tt).3 _ _ c.in-Some.ensures.steps in
    let last = (c.range.ensures.in_range tt).4 _ _ c.in-Some.ensures.steps in
    before-found c.args.places.now globals c.args.at _ _ knows (within _ _ entry.0.1) entry.1 (λ q upto some. last q (tt, upto) some)

pub returns-in-None : goal.returns-in-None
returns-in-None c = λ globals knows.
    before-nothing c.args.places.now globals c.args.at knows (λ q upto. (c.range.ensures.in_range tt).5 c.in-None.ensures.steps.0 q (tt, upto))
