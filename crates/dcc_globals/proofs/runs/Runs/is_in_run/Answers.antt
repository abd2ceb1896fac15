use Rattle.std.proofs.Common.{arith}
use Rattle.dcc_globals.specs.Gaps.{is_in_run}
use Rattle.dcc_globals.specs.Marks.{data_of}
use Rattle.dcc_globals.specs.Pieces.{pieces, has_byte}
use Rattle.dcc_globals.proofs.Tests.{told}
use Rattle.dcc_globals.proofs.runs.Runs.is_in_run.Goals as goal

pub returns : goal.returns
unfolding is_in_run
returns c =
    let runs = c.args.self.now in
    told has_byte (pieces (data_of runs.source)) runs.marks.in_run.items c.args.at _ c.requires.runs.in_run (omega (arith, c.requires.inside)) c.index.ensures
