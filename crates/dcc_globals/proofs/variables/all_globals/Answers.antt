use Rattle.std.proofs.Common.{◌≡◌, ◌++◌, ap, sym, ◌∙◌, arith}
use Rattle.dcc_globals.specs.Gaps.{begins}
use Rattle.dcc_globals.specs.Globals.{global_at, globals_of}
use Rattle.dcc_globals.specs.Marks.{data_of, global_if}
use Rattle.dcc_globals.proofs.ListLaws.{listed, listed-more}
use Rattle.dcc_globals.proofs.variables.all_globals.Goals as goal

pub loop-at-preserved : goal.loop-at-preserved
loop-at-preserved c =
    let d = data_of c.args.borders.now.runs.source in
    c.in_ok-push_global.ensures ∙ ap (λ gs. gs ++ global_if d c.loop-at.at) c.loop-at.invariant
    ∙ sym (listed-more (global_at d) (begins d) c.loop-at.at)

pub returns : goal.returns
unfolding globals_of
returns c =
    let d = data_of c.args.borders.now.runs.source in
    let end : c.loop-at.at ≡ 65536 = omega (arith, c.loop-at-test.false, c.loop-at.auto.at-end) in
    c.loop-at.invariant ∙ ap (listed (global_at d) (begins d)) end
