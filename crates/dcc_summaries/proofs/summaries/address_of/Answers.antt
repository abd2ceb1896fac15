use Rattle.std.proofs.Common.{ap}
use Rattle.dcc_ir.specs.Tree.{Block}
use Rattle.dcc_summaries.proofs.PointLaws.{block_there}
use Rattle.dcc_summaries.proofs.summaries.address_of.Goals as goal

pub returns : goal.returns
returns c = ap (λ (b : Block). b.at) (block_there c.args.p.now c.args.at c.index.result.now c.index-block.result.now c.requires c.index.ensures c.index-block.ensures)
