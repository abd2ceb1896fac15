use Rattle.std.proofs.Common.{◌+◌, ◌<◌, ◌++◌, ◌∷◌, [], map, drop, length, sym, ap, ◌∙◌, append_assoc, arith}
use Rattle.std.proofs.lemmas.List.{map-append, at_drop_more}
use Rattle.dcc_c.specs.Views.{function_of}
use Rattle.dcc_respell.specs.Writing.{function_by}
use Rattle.dcc_named.specs.Named as spec
use Rattle.dcc_named.proofs.text.all_functions.Goals as goal

pub loop-f-preserved : goal.loop-f-preserved
loop-f-preserved c = λ tree knows.
    let w = function_by (spec.writing tree) in
    let i = c.loop-f.f-index in
    let fs = c.args.fs.now in
    let after = c.loop-f.after.items in
    let g = c.in_ok-function.field-0 in
    let rest = map w (map function_of (drop (i + 1) fs)) in
    let within : i < length fs = omega arith in
    ap (λ xs. map function_of xs ++ rest) c.in_ok-push.ensures.items
    ∙ ap (λ xs. xs ++ rest) (map-append function_of after (g ∷ []))
    ∙ append_assoc (map function_of after) (function_of g ∷ []) rest
    ∙ ap (λ x. map function_of after ++ x ∷ rest) (c.in_ok-function.ensures tree knows)
    ∙ ap (λ x. map function_of after ++ w (function_of x) ∷ rest) c.f-item.is
    ∙ ap (λ xs. map function_of after ++ map w (map function_of xs)) (sym (at_drop_more (λ xs. xs) fs i c.f-item.result within))
    ∙ c.loop-f.invariant tree knows
