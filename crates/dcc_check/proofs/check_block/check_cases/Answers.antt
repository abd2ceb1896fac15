use Rattle.std.proofs.Common.{◌+◌, ◌<◌, ◌++◌, ◌∷◌, [], not, length, map, drop, get_or, sym, ap, ◌∙◌, arith}
use Rattle.std.specs.Prelude.{◌==◌}
use Rattle.std.specs.List.{list_any}
use Rattle.std.proofs.lemmas.List.{at_drop_more}
use Rattle.dcc_c.specs.Kinds.{of_name, offence, only_if, first_after}
use Rattle.dcc_c.specs.Offences.{case_offences, case_numbers}
use Rattle.dcc_reader.specs.declared.partial.CaseAt.{CaseAt}
use Rattle.dcc_reader.specs.PartialViews.{case_of, arms_of}
use Rattle.dcc_reader.proofs.RowLaws.{arm-left}
use Rattle.dcc_reader.specs.Told.{told}
use Rattle.dcc_check.proofs.TellLaws.{step-told}
use Rattle.dcc_check.proofs.CaseLaws.{known-more, not-not}
use Rattle.dcc_check.proofs.check_block.check_cases.Goals as goal

pub loop-number-init : goal.loop-number-init
loop-number-init c =
    let rest = arms_of (drop (c.loop-arm.arm-index + 1) c.args.arms.now) in
    let invariant = c.loop-arm.invariant in
    let parts =
    arm-left case_numbers c.args.arms.now c.loop-arm.arm-index c.arm-item.result (omega arith) c.arm-item.is
    ∙ ap (λ l. map case_of l ++ case_numbers rest) (sym c.deref-number-items.ensures.value) in
    (invariant.0, (invariant.1.0, ap (λ l. first_after (told c.loop-arm.first) (case_offences invariant.0 l)) (sym parts) ∙ invariant.1.1))

pub loop-number-preserved : goal.loop-number-preserved
loop-number-preserved c =
    let numbers = c.deref-number-items.result.now in
    let j = c.loop-number.number-index in
    let within : j < length numbers = omega arith in
    let none : CaseAt = record { value = 0; at = 0 } in
    let n = get_or numbers j none in
    let invariant = c.loop-number.invariant in
    let earlier = invariant.0 in
    let later = case_numbers (arms_of (drop (c.loop-arm.arm-index + 1) c.args.arms.now)) in
    let rest = map case_of (drop (j + 1) numbers) ++ later in
    let start = told c.loop-number.first in
    let twice = only_if (list_any (λ m. m == n.value) earlier) (offence of_name n.at) in
    let is_old = ap not c.in_ok-is_new.ensures.added ∙ not-not _ ∙ invariant.1.0 n.value in
    let number_told = c.tell_if.ensures ∙ ap (λ test. first_after start (only_if test (offence of_name n.at))) is_old in
    let parts = at_drop_more (λ l. case_offences earlier (map case_of l ++ later)) numbers j none within in
    let end = first_after (told c.args.first.now) (case_offences [] (case_numbers (arms_of c.args.arms.now))) in (
      n.value ∷ earlier,
      (
        known-more c.loop-number.known c.insert.new.self earlier n.value invariant.1.0 c.in_ok-is_new.ensures.updates,
        step-told start (told c.tell_if.new.self) end twice (case_offences (n.value ∷ earlier) rest) (case_offences earlier (map case_of (drop j numbers) ++ later)) number_told parts invariant.1.1,
      ),
    )
