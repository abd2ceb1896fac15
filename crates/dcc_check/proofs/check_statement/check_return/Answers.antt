use Rattle.std.proofs.Common.{◌≡◌, true, false, not, rules, sym, ap, ◌∙◌}
use Rattle.std.specs.Prelude.{option_map}
use Rattle.dcc_c.specs.Kinds.{of_type, offence, only_if, first_after}
use Rattle.dcc_c.specs.Partial.{is_missing}
use Rattle.dcc_c.specs.Offences.{expr_offences, becomes, return_offences}
use Rattle.dcc_reader.specs.PartialViews.{expr_of}
use Rattle.dcc_reader.specs.Told.{told}
use Rattle.dcc_check.proofs.TellLaws.{then-if, then-if_not}
use Rattle.dcc_check.proofs.check_statement.check_return.Goals as goal

pub returns-then-scene : goal.returns-then-scene
returns-then-scene c = λ s is.
    let e = expr_of c.in-Some.e in
    let value = c.check_expr-value.ensures in
    let holds : c.args.scene.now.has_result ≡ true = search rules in
    let end = told c.check_becomes.new.first in
    let becomes_told = c.check_becomes.ensures s e (value.operand s is) ∙ ap (λ ty. first_after (told c.check_expr-value.new.first) (becomes s e c.args.done ty)) is.result in
    then-if (told c.args.first.now) (told c.check_expr-value.new.first) end (expr_offences s e) (becomes s e c.args.done s.result)
    (only_if (not (is_missing e)) (offence of_type c.args.at)) s.has_result (sym is.has_result ∙ holds) (value.told s is) becomes_told
    ∙ ap (λ o. first_after (told c.args.first.now) (return_offences s c.args.at (option_map expr_of o) c.args.done)) (sym c.in-Some.is)

pub returns-else-scene : goal.returns-else-scene
returns-else-scene c = λ s is.
    let e = expr_of c.in-Some.e in
    let value = c.check_expr-value.ensures in
    let fails : c.args.scene.now.has_result ≡ false = search rules in
    let end = told c.tell_if.new.self in
    let missing = c.tell_if.ensures ∙ ap (λ m. first_after (told c.check_expr-value.new.first) (only_if (not m) (offence of_type c.args.at))) c.is_missing.ensures in
    then-if_not (told c.args.first.now) (told c.check_expr-value.new.first) end (expr_offences s e) (becomes s e c.args.done s.result)
    (only_if (not (is_missing e)) (offence of_type c.args.at)) s.has_result (sym is.has_result ∙ fails) (value.told s is) missing
    ∙ ap (λ o. first_after (told c.args.first.now) (return_offences s c.args.at (option_map expr_of o) c.args.done)) (sym c.in-Some.is)
