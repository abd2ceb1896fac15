use Rattle.std.proofs.Common.{refl, ap}
use Rattle.dcc_ir.specs.Views.{graph_of, live_of}
use Rattle.dcc_divisions.specs.Divisions.{IsWithoutDivisions}
use Rattle.dcc_divisions.proofs.LeftLaws.{left-tidied, left-depth}
use Rattle.dcc_divisions.proofs.WalkLaws.{ends-covered}
use Rattle.dcc_divisions.proofs.left.drop_divisions.Goals as goal

pub returns-clause-without : goal.returns-clause-without
returns-clause-without c =
    let g = graph_of c.args.g in record {
      frame = refl;
      blocks = c.in_ok-blocks.ensures g (ends-covered g (live_of c.in_ok-live.live) c.in_ok-live.ensures);
    }

pub returns-clause-tidied : goal.returns-clause-tidied
returns-clause-tidied c = left-tidied (graph_of c.args.g) _ (returns-clause-without c) c.requires

pub returns-clause-depth : goal.returns-clause-depth
returns-clause-depth c = left-depth (graph_of c.args.g) _ (returns-clause-without c)
