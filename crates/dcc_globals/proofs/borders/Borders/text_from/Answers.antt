use Rattle.std.proofs.Common.{arith}
use Rattle.dcc_globals.specs.Gaps.{text_from}
use Rattle.dcc_globals.specs.Marks.{data_of}
use Rattle.dcc_globals.proofs.Counting.{told_count, text-from-le}
use Rattle.dcc_globals.proofs.borders.Borders.text_from.Goals as goal

pub returns-clause-value : goal.returns-clause-value
returns-clause-value c =
    let borders = c.args.self.now in
    told_count (text_from (data_of borders.runs.source)) borders.texts.behind.items c.args.at _ c.requires.tables.texts.behind (omega (arith, c.requires.inside)) c.index.ensures

pub returns-clause-fits : goal.returns-clause-fits
returns-clause-fits c =
    let borders = c.args.self.now in
    let d = data_of borders.runs.source in
    let is = told_count (text_from d) borders.texts.behind.items c.args.at _ c.requires.tables.texts.behind (omega (arith, c.requires.inside)) c.index.ensures in
    let h = text-from-le d c.args.at (omega (arith, c.requires.inside)) in
    omega (arith, is, h, c.requires.inside)
