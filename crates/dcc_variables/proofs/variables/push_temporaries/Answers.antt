use Rattle.std.proofs.Common.{[], ◌∷◌, ◌++◌, map, sym, ap, ◌∙◌, append_assoc, arith}
use Rattle.std.specs.List.{range_with_len}
use Rattle.std.proofs.lemmas.List.FromFn.{map-range_with_len_more}
use Rattle.dcc_ir.specs.declared.syntax.Loc.TheVariants.{Temp}
use Rattle.dcc_variables.proofs.variables.push_temporaries.Goals as goal

pub loop-n-preserved : goal.loop-n-preserved
loop-n-preserved c =
    let n = c.loop-n.n in
    let before = c.args.list.now.items in
    c.in_ok-push.ensures.items
    ∙ ap (λ l. l ++ Temp n ∷ []) c.loop-n.invariant
    ∙ append_assoc before (map Temp (range_with_len 0 n)) (Temp n ∷ [])
    ∙ ap (λ l. before ++ l) (sym (map-range_with_len_more Temp 0 n n (omega arith)))
