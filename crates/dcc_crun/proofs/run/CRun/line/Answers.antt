use Rattle.dcc_crun.proofs.run.CRun.line.Goals as goal

pub returns : goal.returns
returns c tree s stands runs = c.line.ensures tree stands.points s stands.program (stands.moment.going runs)
