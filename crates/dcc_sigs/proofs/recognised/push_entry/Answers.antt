use Rattle.std.proofs.Common.{map, sym, ◌∙◌}
use Rattle.dcc_sigs.specs.Recognised.{told_by}
use Rattle.dcc_sigs.proofs.Telling.{none-told}
use Rattle.dcc_sigs.proofs.recognised.push_entry.Goals as goal

pub returns-else-sigs_at-eq1 : goal.returns-else-sigs_at-eq1
returns-else-sigs_at-eq1 c =
    none-told c.args.code.now c.args.entries.now c.args.sigs.now c.args.entry
    (λ one. c.if-sigs_at-eq1.false (c.sigs_at.ensures ∙ one)) (map told_by c.args.found.now.items)
