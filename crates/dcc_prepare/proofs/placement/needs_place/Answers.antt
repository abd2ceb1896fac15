use Rattle.std.proofs.Common.{string_bytes, sym, ap, ◌∙◌}
use Rattle.std.specs.Prelude.{◌||◌, is_some}
use Rattle.dcc_c.specs.Placement.{is_auto, takes_address}
use Rattle.dcc_value.specs.Places.{first_place}
use Rattle.dcc_prepare.proofs.TakenLaws.{taken_same}
use Rattle.dcc_prepare.specs.Taken.{lines_taken}
use Rattle.dcc_prepare.proofs.placement.needs_place.Goals as goal

pub returns-else-is_auto : goal.returns-else-is_auto
returns-else-is_auto c body first =
    let word = string_bytes c.args.param.now.name in
    let taken = takes_address body word in
    c.is_some.ensures
    ∙ ap is_some (c.place_of.ensures ∙ first c.as_str.result.now)
    ∙ ap (λ w. is_some (first_place (lines_taken body) w)) c.as_str.ensures.value
    ∙ taken_same body word
    ∙ ap (λ b. b || taken) (sym (sym c.is_auto.ensures ∙ c.if-is_auto.false))
    ∙ ap (λ b. b || (is_auto c.args.param.now.class || taken)) (sym c.if-placed.false)
