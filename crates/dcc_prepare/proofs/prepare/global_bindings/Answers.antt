use Rattle.std.proofs.Common.{Bool, true, ◌<◌, ◌≤◌, ◌++◌, [], ◌∷◌, length, take, map, sym, ap, ◌∙◌, arith}
use Rattle.std.proofs.lemmas.List.{take_more, take_all, map-append}
use Rattle.dcc_c.specs.Rules.{declared_global}
use Rattle.dcc_c.specs.Views.{global_of}
use Rattle.dcc_value.specs.declared.variable.Binding.{Binding as Bound}
use Rattle.dcc_value.specs.Evaluation.{bindings_named}
use Rattle.dcc_prepare.specs.Prepared.{global_bound}
use Rattle.dcc_prepare.proofs.ProgramLaws.{globals_named}
use Rattle.dcc_prepare.proofs.prepare.global_bindings.Goals as goal

pub loop-global-preserved : goal.loop-global-preserved
loop-global-preserved c =
    let gs = c.args.globals.now in
    let i = c.loop-global.global-index in
    let g = c.global-item.result in
    let within : i < length gs = omega arith in
    let make : Bool → Bound = λ is_array. record { ty = g.ty; is_array = is_array; is_placed = true; bits = g.at } in
    c.in_ok-push.ensures.items
    ∙ ap (λ b. c.loop-global.bindings.items ++ make b ∷ []) c.is_some.ensures
    ∙ ap (λ bs. bs ++ global_bound g ∷ []) c.loop-global.invariant
    ∙ sym (ap (map global_bound) (take_more gs i g within ∙ ap (λ x. take i gs ++ x ∷ []) (sym c.global-item.is)) ∙ map-append global_bound (take i gs) (g ∷ []))

pub returns : goal.returns
returns c =
    let gs = c.args.globals.now in
    let i = c.loop-global.global-index in
    let end : length gs ≤ i = omega arith in
    ap (bindings_named (map declared_global (map global_of gs))) (c.loop-global.invariant ∙ ap (map global_bound) (take_all i gs end))
    ∙ globals_named gs
