use Rattle.std.proofs.Common.{◌≡◌, ◌++◌, List, ℕ, OnOk, subst, sym, ◌∙◌}
use Rattle.dcc_list.specs.Text.{text_of}
use Rattle.dcc_list.proofs.PeopleLaws.{lines-labelled}
use Rattle.dcc_list.proofs.people.push_lines.Goals as goal

pub returns : goal.returns
returns c prelude are =
    let labelled = sym (c.is_labelled.ensures prelude are) ∙ c.if-not-is_labelled.false in
    subst (λ (lines : List (List ℕ)). OnOk c.push_label.result (c.push_label.new.text.items ≡ c.args.text.now.items ++ text_of lines))
    (sym (lines-labelled c.args.image.now c.args.program.now c.args.at labelled)) c.push_label.ensures
