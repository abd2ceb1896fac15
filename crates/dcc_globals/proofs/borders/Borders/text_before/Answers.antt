use Rattle.std.proofs.Common.{arith}
use Rattle.dcc_globals.specs.Gaps.{text_before}
use Rattle.dcc_globals.specs.Marks.{data_of}
use Rattle.dcc_globals.proofs.Counting.{told_count, text-before-le}
use Rattle.dcc_globals.proofs.borders.Borders.text_before.Goals as goal

pub returns-clause-value : goal.returns-clause-value
returns-clause-value c =
    let borders = c.args.self.now in
    told_count (text_before (data_of borders.runs.source)) borders.texts.before.items c.args.at _ c.requires.tables.texts.before (omega (arith, c.requires.inside)) c.index.ensures

pub returns-clause-fits : goal.returns-clause-fits
returns-clause-fits c =
    let borders = c.args.self.now in
    let d = data_of borders.runs.source in
    let is = told_count (text_before d) borders.texts.before.items c.args.at _ c.requires.tables.texts.before (omega (arith, c.requires.inside)) c.index.ensures in
    let h = text-before-le d c.args.at in
    omega (arith, is, h, c.requires.inside)
