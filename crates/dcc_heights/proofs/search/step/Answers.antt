use Rattle.std.proofs.Common.{sym, ap, ◌∙◌, rules, w32}
use Rattle.std.proofs.lemmas.Int.{to_z-of_z}
use Rattle.std.proofs.lemmas.Bool.{ne_eqb}
use Rattle.std.specs.Prelude.{not, ◌&&◌, ◌==◌, FitsSigned}
use Rattle.dcc_heights.specs.Form.{is_misplaced, is_bad}
use Rattle.dcc_heights.specs.Search.{misplaced, bad}
use Rattle.dcc_heights.proofs.search.step.Goals as goal

pub returns-then-is_misplaced-clause-refused : goal.returns-then-is_misplaced-clause-refused
returns-then-is_misplaced-clause-refused c =
    let op = c.args.op in
    let inner = ne_eqb c.args.at c.args.proc.now.entry c.if-at-proc.true in
    misplaced
    (ap (λ b. b && not (c.args.at == c.args.proc.now.entry) && is_misplaced op c.args.height) c.if-framed.true
    ∙ ap (λ b. not b && is_misplaced op c.args.height) inner
    ∙ sym c.is_misplaced.ensures
    ∙ c.if-is_misplaced.true)

pub returns-then-is_bad-clause-refused : goal.returns-then-is_bad-clause-refused
returns-then-is_bad-clause-refused c =
    let after = c.height_after-after.result in
    let fits : FitsSigned w32 after = search rules in
    let told = simp to_z-of_z at c.is_bad.ensures in
    bad
    (ap (is_bad c.args.framed c.args.op c.args.height) (sym c.height_after-after.ensures)
    ∙ sym told
    ∙ c.if-is_bad.true)
