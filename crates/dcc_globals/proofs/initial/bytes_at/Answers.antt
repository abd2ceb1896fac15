use Rattle.std.proofs.Common.{length, take, ap, ◌∙◌, arith}
use Rattle.std.proofs.lemmas.List.{length-take}
use Rattle.dcc_globals.proofs.initial.bytes_at.Goals as goal

pub returns-clause-value : goal.returns-clause-value
returns-clause-value c = c.front.ensures ∙ ap (take c.args.size) c.rest.ensures

pub returns-clause-short : goal.returns-clause-short
returns-clause-short c =
    let e = ap length c.front.ensures ∙ length-take c.args.size c.rest.result.now in
    omega (arith, e)
