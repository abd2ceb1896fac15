use Rattle.std.proofs.Common.{sym, ap, ◌∙◌, append-nil, List, ◌++◌, map}
use Rattle.dcc_sigs.specs.Recognised.{Told, told_by}
use Rattle.dcc_sigs.proofs.Telling.{is-told, is-untold}
use Rattle.dcc_sigs.proofs.recognised.push_if_alone.Goals as goal

pub returns-else-is_alone : goal.returns-else-is_alone
returns-else-is_alone c sigs one =
    sym (ap (λ (l : List Told). map told_by c.args.found.now.items ++ l) (is-untold c.args.code.now c.args.entries.now sigs c.args.entry c.args.sig.now c.is_alone.result one c.is_alone.ensures c.if-is_alone.false)
    ∙ append-nil (map told_by c.args.found.now.items))
