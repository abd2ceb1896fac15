use Rattle.std.proofs.Common.{◌∙◌, ap, ◌++◌, ◌∷◌, [], map, arith}
use Rattle.std.specs.List.{range_with_len}
use Rattle.dcc_ir.specs.Passing.{passed}
use Rattle.dcc_ops.specs.Temporaries.{returned_place}
use Rattle.dcc_lift.proofs.ListLaws.{map_more_after}
use Rattle.dcc_lift.proofs.KnownLaws.{few_returned}
use Rattle.dcc_lift.proofs.procedure.Procedure.results.Goals as goal

pub overflow_cast-index-end : goal.overflow_cast-index-end
overflow_cast-index-end c = record { fits = omega (arith, few_returned c.args.self.now c.requires) }

pub overflow_mul-index-end : goal.overflow_mul-index-end
overflow_mul-index-end c = record { fits = omega (arith, few_returned c.args.self.now c.requires) }

pub loop-index-preserved : goal.loop-index-preserved
loop-index-preserved c =
    let index = c.loop-index.index in
    c.in_ok-push.ensures.items
    ∙ ap (λ xs. xs ++ c.returned_place.result ∷ []) c.loop-index.invariant
    ∙ ap (λ x. (passed ++ map returned_place (range_with_len 0 index)) ++ x ∷ []) c.returned_place.ensures
    ∙ map_more_after returned_place index passed
