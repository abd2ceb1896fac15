use Rattle.std.proofs.Common.{◌+◌, ◌<◌, ◌≤◌, ◌++◌, ◌∷◌, [], map, drop, length, sym, ap, ◌∙◌, append_assoc, arith}
use Rattle.std.specs.Prelude.{slice_get}
use Rattle.std.proofs.lemmas.List.{map-append, append-nil, drop_all}
use Rattle.dcc_c.specs.Views.{expr_of}
use Rattle.dcc_casts.specs.Casts.{passed, passed_to}
use Rattle.dcc_casts.proofs.Arguments.{passed-step, passed-none, lent-at}
use Rattle.dcc_casts.proofs.statement.passed.Goals as goal

pub loop-i-preserved : goal.loop-i-preserved
loop-i-preserved c = λ ds known.
    let i = c.loop-i.i in
    let types = c.args.types.now in
    let es = c.args.es.now in
    let after = c.loop-i.after.items in
    let e = c.in_ok-passed_to.field-0 in
    let rest = passed ds (drop (i + 1) types) (map expr_of (drop (i + 1) es)) in
    let here = c.in_ok-passed_to.ensures ds known in
    let within : i < length es = omega arith in
    ap (λ xs. map expr_of xs ++ rest) c.in_ok-push.ensures.items
    ∙ ap (λ xs. xs ++ rest) (map-append expr_of after (e ∷ []))
    ∙ append_assoc (map expr_of after) (expr_of e ∷ []) rest
    ∙ ap (λ x. map expr_of after ++ x ∷ rest) here
    ∙ ap (λ o. map expr_of after ++ passed_to ds o (expr_of c.index-es-i.result) ∷ rest) (lent-at types i c.get.result c.get.ensures.lookup.1 c.get.ensures.lookup.3)
    ∙ ap (λ x. map expr_of after ++ passed_to ds (slice_get types i) (expr_of x) ∷ rest) c.index-es-i.is
    ∙ ap (λ xs. map expr_of after ++ xs) (sym (passed-step ds types es i c.index-es-i.result within))
    ∙ c.loop-i.invariant ds known

pub returns : goal.returns
returns c = λ ds known.
    let i = c.loop-i.i in
    let over : length c.args.es.now ≤ i = omega arith in
    sym (append-nil (map expr_of c.loop-i.after.items))
    ∙ ap (λ xs. map expr_of c.loop-i.after.items ++ xs) (sym (passed-none ds (drop i c.args.types.now)))
    ∙ ap (λ xs. map expr_of c.loop-i.after.items ++ passed ds (drop i c.args.types.now) (map expr_of xs)) (sym (drop_all i c.args.es.now over))
    ∙ c.loop-i.invariant ds known
