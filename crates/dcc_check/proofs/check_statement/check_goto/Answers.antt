use Rattle.std.proofs.Common.{not, sym, ap, ◌∙◌}
use Rattle.std.specs.Prelude.{option_map}
use Rattle.dcc_c.specs.Kinds.{of_name, offence, only_if, first_after}
use Rattle.dcc_c.specs.Offences.{goto_offences}
use Rattle.dcc_reader.specs.PartialViews.{word_of}
use Rattle.dcc_reader.specs.Told.{told}
use Rattle.dcc_check.proofs.check_statement.check_goto.Goals as goal

pub returns-in-Some : goal.returns-in-Some
returns-in-Some c = λ s is.
    let name = c.in-Some.name in
    c.tell_if.ensures
    ∙ ap (λ known. first_after (told c.args.first.now) (only_if (not known) (offence of_name name.at))) (c.has_label.ensures s is)
    ∙ ap (λ o. first_after (told c.args.first.now) (goto_offences s (option_map word_of o))) (sym c.in-Some.is)
