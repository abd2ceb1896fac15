use Rattle.std.proofs.Common.{◌+◌, [], length, nat_eq, sym, ap, ◌∙◌}
use Rattle.std.specs.Prelude.{if◌then◌else◌}
use Rattle.dcc_c.specs.Kinds.{first_after}
use Rattle.dcc_c.specs.TextOffences.{function_offences}
use Rattle.dcc_reader.specs.PartialViews.{function_of}
use Rattle.dcc_reader.specs.Told.{told}
use Rattle.dcc_check.proofs.ToldLaws.{function-step}
use Rattle.dcc_check.proofs.text.check_functions.Goals as goal

pub loop-i-preserved : goal.loop-i-preserved
loop-i-preserved c = λ w is_whole are_labels.
    let fs = c.args.functions.now in
    let i = c.loop-i.i in
    let f = c.index-functions-i.result in
    function-step w fs i f (told c.loop-i.first) (told c.check_function.new.first) c.loop-i-test.true c.index-functions-i.is
    (c.in_ok-check_function.ensures w is_whole
    ∙ ap (λ labels. first_after (told c.loop-i.first) (function_offences w (if nat_eq (i + 1) (length fs) then labels else []) (function_of f))) (sym are_labels))
    ∙ c.loop-i.invariant w is_whole are_labels
