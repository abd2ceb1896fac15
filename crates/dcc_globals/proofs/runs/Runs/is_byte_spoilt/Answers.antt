use Rattle.std.proofs.Common.{sym, ◌∙◌, arith}
use Rattle.dcc_globals.specs.Marks.{data_of, breaks}
use Rattle.dcc_globals.specs.Pieces.{pieces}
use Rattle.dcc_globals.proofs.Tests.{told, byte-spoilt}
use Rattle.dcc_globals.proofs.runs.Runs.is_byte_spoilt.Goals as goal

pub returns : goal.returns
returns c =
    let runs = c.args.self.now in
    let ps = pieces (data_of runs.source) in
    told breaks ps runs.marks.broken.items c.args.at _ c.requires.runs.broken (omega (arith, c.requires.inside)) c.index.ensures
    ∙ sym (byte-spoilt c.args.at ps)
