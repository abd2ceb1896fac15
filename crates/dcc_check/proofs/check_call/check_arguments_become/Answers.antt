use Rattle.std.proofs.Common.{◌+◌, ◌<◌, ◌||◌, ◌∷◌, Some, false, length, map, get_or, drop, sym, ap, ◌∙◌, arith}
use Rattle.std.specs.Prelude.{nat_lt}
use Rattle.std.proofs.lemmas.List.{at_drop_more, length-drop, length-map}
use Rattle.dcc_c.specs.declared.syntax.Base.TheVariants.{Schar}
use Rattle.dcc_c.specs.declared.syntax.CType.{CType}
use Rattle.dcc_c.specs.Kinds.{first_after}
use Rattle.dcc_c.specs.Offences.{becomes, arguments_become}
use Rattle.dcc_reader.specs.PartialViews.{expr_of}
use Rattle.dcc_reader.specs.Told.{told}
use Rattle.dcc_check.proofs.TellLaws.{step-told}
use Rattle.dcc_reader.proofs.LeftLaws.{next-left}
use Rattle.dcc_check.proofs.ListLaws.{become-more, become-empty, more-left}
use Rattle.dcc_check.proofs.check_call.check_arguments_become.Goals as goal

pub loop-i-preserved : goal.loop-i-preserved
loop-i-preserved c = λ s is.
    let params = c.args.params.now in
    let xs = c.args.arguments.now in
    let i = c.loop-i.i in
    let closed = c.args.closed in
    let within : i < length xs = omega arith in
    let within_params : i < length params = omega arith in
    let e = expr_of c.index-arguments-i.result in
    let none : CType = record { base = Schar; pointer = false } in
    let type = get_or params i none in
    let rest = arguments_become s closed (drop (i + 1) params) (map expr_of (drop (i + 1) xs)) in
    let done = closed || nat_lt 0 (length (map expr_of (drop (i + 1) xs))) in
    let parts =
    at_drop_more (λ l. arguments_become s closed l (map expr_of (drop i xs))) params i none within_params
    ∙ next-left (λ l. arguments_become s closed (type ∷ drop (i + 1) params) (map expr_of l)) xs i c.index-arguments-i.result within c.index-arguments-i.is
    ∙ become-more s closed type (drop (i + 1) params) e (map expr_of (drop (i + 1) xs)) in
    let done_is = c.is_done-done.ensures ∙ sym (ap (λ more. closed || more) (more-left expr_of xs i)) in
    let become_told =
    c.check_becomes.ensures s e (c.operand_of-argument.ensures s is)
    ∙ ap (λ d. first_after (told c.loop-i.first) (becomes s e d (Some type))) done_is in
    step-told (told c.loop-i.first) (told c.check_becomes.new.first) (first_after (told c.args.first.now) (arguments_become s closed params (map expr_of xs)))
    (becomes s e done (Some type)) rest (arguments_become s closed (drop i params) (map expr_of (drop i xs))) become_told parts (c.loop-i.invariant s is)

pub returns : goal.returns
returns c = λ s is.
    let params = drop c.loop-i.i c.args.params.now in
    let xs = map expr_of (drop c.loop-i.i c.args.arguments.now) in
    let params_left = length-drop c.loop-i.i c.args.params.now in
    let left = length-map (drop c.loop-i.i c.args.arguments.now) expr_of ∙ length-drop c.loop-i.i c.args.arguments.now in
    let over : 0 < length params → 0 < length xs → ⊥ = λ a b. omega (arith, params_left, left, a, b, c.min-i-end.ensures, c.loop-i-test.false) in
    sym (ap (first_after (told c.loop-i.first)) (become-empty s c.args.closed params xs over)) ∙ c.loop-i.invariant s is
