use Rattle.std.proofs.Common.{◌+◌, ◌<◌, ◌++◌, ◌∷◌, [], map, drop, length, sym, ap, ◌∙◌, append_assoc, arith}
use Rattle.std.proofs.lemmas.List.{map-append, at_drop_more}
use Rattle.dcc_c.specs.Views.{expr_of}
use Rattle.dcc_named.specs.Named.{argument_named}
use Rattle.dcc_named.proofs.expression.arguments.Goals as goal

pub loop-e-preserved : goal.loop-e-preserved
loop-e-preserved c = λ tree f of.
    let w = argument_named tree f c.args.function.now in
    let i = c.loop-e.e-index in
    let es = c.args.es.now in
    let after = c.loop-e.after.items in
    let e = c.in_ok-argument.field-0 in
    let rest = map w (map expr_of (drop (i + 1) es)) in
    let within : i < length es = omega arith in
    ap (λ xs. map expr_of xs ++ rest) c.in_ok-push.ensures.items
    ∙ ap (λ xs. xs ++ rest) (map-append expr_of after (e ∷ []))
    ∙ append_assoc (map expr_of after) (expr_of e ∷ []) rest
    ∙ ap (λ x. map expr_of after ++ x ∷ rest) (c.in_ok-argument.ensures tree f of)
    ∙ ap (λ x. map expr_of after ++ w (expr_of x) ∷ rest) c.e-item.is
    ∙ ap (λ xs. map expr_of after ++ map w (map expr_of xs)) (sym (at_drop_more (λ xs. xs) es i c.e-item.result within))
    ∙ c.loop-e.invariant tree f of
