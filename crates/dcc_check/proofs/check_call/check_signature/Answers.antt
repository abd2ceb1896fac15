use Rattle.std.proofs.Common.{◌++◌, map, ap, ◌∙◌}
use Rattle.dcc_c.specs.Kinds.{of_type, offence, only_if, first_after}
use Rattle.dcc_c.specs.Offences.{result_offences, count_offends, arguments_become}
use Rattle.dcc_reader.specs.PartialViews.{expr_of, word_of, call_of}
use Rattle.dcc_reader.specs.Told.{told}
use Rattle.dcc_check.proofs.TellLaws.{then-told}
use Rattle.dcc_check.proofs.check_call.check_signature.Goals as goal

pub returns : goal.returns
returns c = λ s e is to.
    let call = c.args.call.now in
    let at = c.args.at in
    let params = c.args.signature.now.params.items in
    let after_result = told c.check_result.new.first in
    let after_count = told c.tell_if.new.self in
    let end = told c.check_arguments_become.new.first in
    let result = result_offences s at e (word_of call.function) c.args.signature.now.result in
    let count = only_if (count_offends (call_of call) params) (offence of_type at) in
    let become = arguments_become s call.closed params (map expr_of call.arguments.items) in
    let count_told =
    c.tell_if.ensures
    ∙ ap (λ test. first_after after_result (only_if test (offence of_type at))) (c.count_offends-miscounted.ensures ∙ ap (count_offends (call_of call)) c.deref.ensures.value) in
    let become_told =
    c.check_arguments_become.ensures s is
    ∙ ap (λ types. first_after after_count (arguments_become s call.closed types (map expr_of c.deref-3.result.now))) c.deref-2.ensures.value
    ∙ ap (λ l. first_after after_count (arguments_become s call.closed params (map expr_of l))) c.deref-3.ensures.value in
    then-told (told c.args.first.now) after_result end result (count ++ become) (c.check_result.ensures s e to)
    (then-told after_result after_count end count become count_told become_told)
