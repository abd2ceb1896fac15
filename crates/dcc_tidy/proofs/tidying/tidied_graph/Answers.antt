use Rattle.dcc_tidy.proofs.tidying.tidied_graph.Goals as goal

pub returns : goal.returns
returns g c = record { stands = c.in_ok-after.ensures.stands; done = c.in_ok-after.ensures.done }
