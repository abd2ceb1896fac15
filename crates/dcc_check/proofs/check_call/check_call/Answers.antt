use Rattle.std.proofs.Common.{◌++◌, map, ap, ◌∙◌}
use Rattle.std.specs.Prelude.{option_map}
use Rattle.dcc_c.specs.Kinds.{first_after}
use Rattle.dcc_c.specs.Offences.{place_if, arguments_inner, callee_offences}
use Rattle.dcc_reader.specs.PartialViews.{expr_of, call_of}
use Rattle.dcc_reader.specs.Told.{told}
use Rattle.dcc_check.proofs.TellLaws.{then-told}
use Rattle.dcc_check.proofs.check_call.check_call.Goals as goal

pub returns : goal.returns
returns c = λ s is.
    let call = c.args.call.now in
    let place = option_map expr_of c.args.place.now in
    let after_place = told c.check_place_if-place.new.first in
    let after_arguments = told c.check_arguments.new.first in
    let end = told c.check_callee.new.first in
    let inner = arguments_inner s (map expr_of call.arguments.items) in
    let callee = callee_offences s c.args.at place (call_of call) in
    let inner_told = c.check_arguments.ensures s is ∙ ap (λ l. first_after after_place (arguments_inner s (map expr_of l))) c.deref.ensures.value in
    then-told (told c.args.first.now) after_place end (place_if s place) (inner ++ callee) (c.check_place_if-place.ensures.told s is)
    (then-told after_place after_arguments end inner callee inner_told (c.check_callee.ensures s place is (c.check_place_if-place.ensures.place s is)))
