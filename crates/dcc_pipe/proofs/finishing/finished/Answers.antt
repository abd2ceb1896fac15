use Rattle.std.proofs.Common.{ap, ◌∙◌}
use Rattle.std.proofs.lemmas.Result.{IfOk-weaker}
use Rattle.dcc_c.specs.Views.{tree_of}
use Rattle.dcc_casts.specs.Casts.{without_casts}
use Rattle.dcc_pipe.proofs.FinishedTexts.{finished-unbroken, is-finished}
use Rattle.dcc_pipe.proofs.finishing.finished.Goals as goal

pub returns : goal.returns
returns g =
    let law = g.respelled_texts_run_alike.ensures in
    let names = g.accesses_may_be_named.ensures in
    let casts = g.needless_casts_may_go.ensures in
    let plain = tree_of g.args.plain.now in
    let written = tree_of g.in_ok-written.written in
    let same = g.in_ok-written.ensures ∙ ap without_casts g.in_ok-by_names.ensures in
    IfOk-weaker g.number.result _ _
    (λ unit counts. is-finished law names casts plain written (tree_of unit) g.requires same counts)
    (g.number.ensures (finished-unbroken law names casts plain written g.requires same))
