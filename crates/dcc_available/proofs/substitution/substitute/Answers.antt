use Rattle.std.proofs.Common.{refl}
use Rattle.dcc_ir.specs.Views.{graph_of}
use Rattle.dcc_available.proofs.TidiedLaws.{substituted-tidied}
use Rattle.dcc_available.proofs.GraphLaws.{put-substituted, put-shallow}
use Rattle.dcc_available.proofs.substitution.substitute.Goals as goal

pub returns-clause-tidied : goal.returns-clause-tidied
returns-clause-tidied c =
    let g = graph_of c.args.g in
    substituted-tidied g (graph_of (record c.args.g { blocks = c.put-blocks.result })) c.requires
    (put-substituted g c.args.g.blocks.items c.in_ok-news.news.items c.put-blocks.result.items refl c.in_ok-news.ensures.rewritten c.put-blocks.ensures)

pub returns-clause-depth : goal.returns-clause-depth
returns-clause-depth c =
    put-shallow (graph_of c.args.g) c.args.g.blocks.items c.in_ok-news.news.items c.put-blocks.result.items refl c.in_ok-news.ensures.rewritten c.put-blocks.ensures
