use Rattle.std.proofs.Common.{arith}
use Rattle.dcc_globals.specs.Pieces.{is_displaced_by}
use Rattle.dcc_globals.proofs.Tests.{told}
use Rattle.dcc_globals.proofs.runs.Runs.is_displaced.Goals as goal

pub returns : goal.returns
returns c =
    let runs = c.args.self.now in
    told is_displaced_by runs.source.operands.now runs.marks.displaced.items c.args.at _ c.requires.runs.displaced (omega (arith, c.requires.inside)) c.index.ensures
