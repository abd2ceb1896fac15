use Rattle.std.proofs.Common.{sym, ◌∙◌, arith}
use Rattle.dcc_globals.specs.Marks.{data_of}
use Rattle.dcc_globals.proofs.Counting.{reaches-first, reaches-next, reaches-stop, reaches-end}
use Rattle.dcc_globals.proofs.borders.Borders.extent.Goals as goal

pub loop-next-init : goal.loop-next-init
loop-next-init c = reaches-first (data_of c.args.self.now.runs.source) c.args.at c.requires.inside

pub loop-next-preserved : goal.loop-next-preserved
loop-next-preserved c =
    reaches-next (data_of c.args.self.now.runs.source) c.args.at c.loop-next.next c.loop-next.invariant c.loop-next-test.true
    (sym c.goes_on.ensures ∙ c.if-not-goes_on.false)
