use Rattle.std.proofs.Common.{map, sym, subst}
use Rattle.dcc_ir.specs.Views.{graph_of, program_of, summaries_of}
use Rattle.dcc_sums.specs.Localised.{summary_at, PassesJust}
use Rattle.dcc_sums.specs.Laws.{IsKeptBy}
use Rattle.dcc_sums.proofs.KeepLaws.{localised-keeps}
use Rattle.dcc_sums.proofs.JustLaws.{localised-passes_just}
use Rattle.dcc_localise.specs.Staying.{trim_in}
use Rattle.dcc_localise.proofs.StayingLaws.{is_localised}
use Rattle.dcc_localise.proofs.localised.localise.Goals as goal

pub returns-clause-keeps : goal.returns-clause-keeps
returns-clause-keeps c back formed passes are none =
    let p = program_of c.args.p in
    let sums = summaries_of c.args.sums.now in
    let same = is_localised p sums (trim_in c.in_ok-staying.staying.by_entry.entries) (map graph_of c.in_ok-graphs.graphs.items)
    c.in_ok-graphs.ensures c.in_ok-staying.ensures in
    subst (IsKeptBy p) (sym same) (localised-keeps back p sums formed passes are none)

pub returns-clause-just : goal.returns-clause-just
returns-clause-just c back formed passes are =
    let p = program_of c.args.p in
    let sums = summaries_of c.args.sums.now in
    let same = is_localised p sums (trim_in c.in_ok-staying.staying.by_entry.entries) (map graph_of c.in_ok-graphs.graphs.items)
    c.in_ok-graphs.ensures c.in_ok-staying.ensures in
    subst (PassesJust (summary_at p.graphs sums)) (sym same) (localised-passes_just back p sums formed passes are)
