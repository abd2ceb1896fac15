use Rattle.std.proofs.Common.{◌∙◌, refl, sym, arith, rules, tests}
use Rattle.std.specs.List.{range_with_len}
use Rattle.std.proofs.lemmas.Iterator.{YieldsList-from_range}
use Rattle.std.proofs.lemmas.Iterator.Search.{any_from_yields_List}
use Rattle.dcc_prog.specs.Frame.{argument_word}
use Rattle.dcc_lift.specs.KnownProcedures.{is_in_exposed_slot}
use Rattle.dcc_lift.proofs.ListTests.{any_map}
use Rattle.dcc_lift.proofs.procedure.is_in_exposed_argument.Goals as goal

pub returns : goal.returns
returns c =
    let test = is_in_exposed_slot c.args.frame.now c.args.k in
    let count = c.args.frame.now.args in
    any_from_yields_List (λ number. test (argument_word number)) _ _ c.any.result c.any.ensures.ran
    (YieldsList-from_range 0 count count refl (omega arith)) (λ x b q k. search (rules, tests))
    ∙ sym (any_map test argument_word (range_with_len 0 count))
