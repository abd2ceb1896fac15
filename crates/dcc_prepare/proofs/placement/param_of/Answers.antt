use Rattle.std.proofs.Common.{◌≡◌, true, false, ◌+◌, ◌*◌, ◌%◌, ◌∷◌, Some, sym, ap, ◌∙◌, arith}
use Rattle.std.specs.Prelude.{option_map}
use Rattle.dcc_c.specs.Placement.{param_places}
use Rattle.dcc_c.specs.Views.{variable_of}
use Rattle.dcc_prepare.proofs.PlacementLaws.{stack_param, next-placed, next-free}
use Rattle.dcc_prepare.proofs.placement.param_of.Goals as goal

pub returns-then-needs_place : goal.returns-then-needs_place
returns-then-needs_place c body number first at =
    let v = variable_of c.args.param.now in
    let made = c.variable-then-needs_place in
    stack_param body v c.args.placed true number c.args.offset made.result at made.ensures.kind made.ensures.array
    (λ base params.
    let here : (base + c.args.offset) % 65536 ≡ (base + 2 * number) % 65536 = omega (arith, at) in
    ap (λ o. option_map (λ offset. (base + offset) % 65536) o ∷ param_places body base (number + 1) true params) made.ensures.offset
    ∙ ap (λ n. Some n ∷ param_places body base (number + 1) true params) here
    ∙ next-placed body base number c.args.placed v params (sym c.is_register.ensures ∙ c.if-is_register.false) (sym (c.needs_place.ensures body first) ∙ c.if-needs_place.true))

pub returns : goal.returns
returns c body number first at =
    let v = variable_of c.args.param.now in
    let made = c.variable-2 in
    stack_param body v c.args.placed false number c.args.offset made.result at made.ensures.kind made.ensures.array
    (λ base params.
    ap (λ o. option_map (λ offset. (base + offset) % 65536) o ∷ param_places body base (number + 1) false params) made.ensures.offset
    ∙ next-free body base number c.args.placed v params (sym c.is_register.ensures ∙ c.if-is_register.false) (sym (c.needs_place.ensures body first) ∙ c.if-needs_place.false))
