use Rattle.std.proofs.Common.{◌∷◌, [], ◌++◌, map, ap, sym, ◌∙◌, append_assoc, arith}
use Rattle.std.specs.List.{range_with_len}
use Rattle.std.proofs.lemmas.List.FromFn.{map-range_with_len_more}
use Rattle.dcc_summaries.specs.Points.{point_at}
use Rattle.dcc_summaries.proofs.points.add_block.Goals as goal

pub loop-done-preserved : goal.loop-done-preserved
loop-done-preserved c =
    let point = point_at c.args.graph c.args.block in
    let n = c.loop-done.done in
    c.in_ok-push.ensures.items ∙ ap (λ l. l ++ point n ∷ []) c.loop-done.invariant
    ∙ append_assoc c.args.points.now.items (map point (range_with_len 0 n)) (point n ∷ [])
    ∙ ap (λ l. c.args.points.now.items ++ l) (sym (map-range_with_len_more point 0 n n (omega arith)))
