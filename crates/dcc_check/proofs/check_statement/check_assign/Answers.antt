use Rattle.std.proofs.Common.{◌≡◌, ◌∙◌, ◌&&◌, ◌++◌, [], false, not, rules, sym, ap}
use Rattle.std.specs.Prelude.{option_map}
use Rattle.dcc_c.specs.Kinds.{first_after}
use Rattle.dcc_c.specs.Partial.{is_name_here}
use Rattle.dcc_c.specs.Offences.{expr_offences, place_offences, assigned_offences, becomes, told_place}
use Rattle.dcc_reader.specs.PartialViews.{expr_of}
use Rattle.dcc_reader.specs.Told.{told}
use Rattle.dcc_check.proofs.TellLaws.{then-told, then-if_not, not-alone, alone-not}
use Rattle.dcc_check.proofs.check_statement.check_assign.Goals as goal
use Rattle.dcc_check.proofs.check_statement.check_assign.Goals.{then-done-via-then-done, then-done-via-else-done+then-not-is_name}

pub returns-then-done : goal.returns-then-done
returns-then-done c = λ s is.
    let place = expr_of c.args.place.now in
    let e = expr_of c.in-Some.e in
    let to = c.check_place-to in
    let from = c.check_expr-from in
    let start = told c.args.first.now in
    let end = told c.check_becomes.new.first in
    let value = becomes s e c.args.done (told_place s.names place) in
    let read : (is_name_here e && not c.args.done) ≡ false =
    elim c.then-done.branch [
      | then-done-via-then-done w ↦ not-alone (is_name_here e) c.args.done (search rules)
      | then-done-via-else-done+then-not-is_name w ↦ alone-not (is_name_here e) c.args.done (search rules)
    ] in
    let becomes_told = c.check_becomes.ensures s e (from.ensures.operand s is) ∙ ap (λ o. first_after (told from.new.first) (becomes s e c.args.done o.ty)) (to.ensures.place s is) in
    let value_told = then-told (told to.new.first) (told from.new.first) end (expr_offences s e) value (from.ensures.told s is) becomes_told in
    then-if_not start (told to.new.first) end (place_offences s place) [] (expr_offences s e ++ value) (is_name_here e && not c.args.done) read (to.ensures.told s is) value_told
    ∙ ap (λ o. first_after start (assigned_offences s place (option_map expr_of o) c.args.done)) (sym c.in-Some.is)
