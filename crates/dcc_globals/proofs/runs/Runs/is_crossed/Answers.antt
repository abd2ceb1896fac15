use Rattle.std.proofs.Common.{arith}
use Rattle.dcc_globals.specs.Gaps.{is_crossed}
use Rattle.dcc_globals.specs.Marks.{data_of}
use Rattle.dcc_globals.specs.Pieces.{pieces, crosses}
use Rattle.dcc_globals.proofs.Tests.{told}
use Rattle.dcc_globals.proofs.runs.Runs.is_crossed.Goals as goal

pub returns : goal.returns
unfolding is_crossed
returns c =
    let runs = c.args.self.now in
    told crosses (pieces (data_of runs.source)) runs.marks.crossed.items c.args.at _ c.requires.runs.crossed (omega (arith, c.requires.inside)) c.index.ensures
