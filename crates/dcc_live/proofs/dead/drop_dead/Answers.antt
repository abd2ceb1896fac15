use Rattle.std.proofs.Common.{ap}
use Rattle.dcc_ir.specs.Views.{graph_of}
use Rattle.dcc_live.proofs.DeadLaws.{unneeded_gone, formed_left, may_replace}
use Rattle.dcc_live.proofs.dead.drop_dead.Goals as goal

pub returns-clause-formed : goal.returns-clause-formed
returns-clause-formed c =
    let g = graph_of c.args.g in
    formed_left g c.in_ok-needed.needed.places c.in_ok-needed.needed.at_end.items c.in_ok-needed.ensures
    (graph_of (record c.args.g { blocks = c.in_ok-blocks.blocks })) (ap (λ bs. record g { blocks = bs }) c.in_ok-blocks.ensures) c.requires.graph

pub returns-clause-without : goal.returns-clause-without
returns-clause-without c =
    let g = graph_of c.args.g in
    unneeded_gone g c.in_ok-needed.needed.places c.in_ok-needed.needed.at_end.items c.in_ok-needed.ensures
    (graph_of (record c.args.g { blocks = c.in_ok-blocks.blocks })) (ap (λ bs. record g { blocks = bs }) c.in_ok-blocks.ensures)

pub returns-clause-keeps : goal.returns-clause-keeps
returns-clause-keeps c =
    let g = graph_of c.args.g in
    may_replace g c.in_ok-needed.needed.places c.in_ok-needed.needed.at_end.items c.in_ok-needed.ensures
    (graph_of (record c.args.g { blocks = c.in_ok-blocks.blocks })) (ap (λ bs. record g { blocks = bs }) c.in_ok-blocks.ensures)
