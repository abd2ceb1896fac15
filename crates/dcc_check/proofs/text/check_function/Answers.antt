use Rattle.std.proofs.Common.{◌≡◌, [], ◌++◌, map, ap, ◌∙◌}
use Rattle.dcc_c.specs.Grammar.{is_among}
use Rattle.dcc_c.specs.Kinds.{first_after}
use Rattle.dcc_c.specs.Offences.{label_list, lines_offences, repeated}
use Rattle.dcc_c.specs.TextOffences.{name_list, sizes_of, scene_of, words_of}
use Rattle.dcc_lex.specs.PiecesViews.{pieces_of}
use Rattle.dcc_reader.specs.PartialViews.{function_of, lines_of, variable_of}
use Rattle.dcc_check.specs.Names.{lent_names}
use Rattle.dcc_check.specs.Wholes.{labels_if}
use Rattle.dcc_reader.specs.Told.{told}
use Rattle.dcc_check.proofs.ToldLaws.{told-four}
use Rattle.dcc_check.proofs.text.check_function.Goals as goal

pub returns : goal.returns
returns c = λ w is_whole.
    let f = function_of c.args.function.now in
    let more = labels_if c.args.is_last (pieces_of c.args.rest.now) in
    let labels_are : lent_names c.push_labels.new.found.items ≡ label_list f.body =
    c.in_ok-push_labels.ensures ∙ ap (λ l. lent_names l ++ label_list (lines_of c.deref-2.result.now)) c.new-labels.ensures.items
    ∙ ap (λ l. label_list (lines_of l)) c.deref-2.ensures.value in
    told-four (told c.args.first.now) (told c.tell_variables.new.first) (told c.tell_sizes.new.first) (told c.tell_labels.new.first) (told c.check_statements.new.first)
    (repeated w.words (name_list f.params ++ name_list f.locals)) (sizes_of f.locals) (repeated [] (label_list f.body)) (lines_offences (scene_of w more f) 0 f.body)
    (c.in_ok-tell_variables.ensures w.words is_whole.words)
    (c.tell_sizes.ensures ∙ ap (λ l. first_after (told c.tell_variables.new.first) (sizes_of (map variable_of l))) c.deref.ensures.value)
    (c.in_ok-tell_labels.ensures ∙ ap (λ l. first_after (told c.tell_sizes.new.first) (repeated [] l)) (ap lent_names c.deref-3.ensures.value ∙ labels_are))
    (c.in_ok-check_statements.ensures w more is_whole
    (λ word. c.in_ok-words.ensures word ∙ ap (λ l. is_among (words_of l ++ more) word) (ap lent_names c.deref-4.ensures.value ∙ labels_are)))
