use Rattle.std.proofs.Common.{◌∙◌, ap, sym, ◌++◌, ◌∷◌, [], true, map}
use Rattle.std.specs.List.{range_with_len}
use Rattle.dcc_ir.specs.declared.syntax.Put.{Put}
use Rattle.dcc_ir.specs.declared.syntax.Param.{Param}
use Rattle.dcc_simulation.specs.Passed.{argument_param}
use Rattle.dcc_lift.specs.KnownProcedures.{procedure_of}
use Rattle.dcc_lift.proofs.ListLaws.{map_more}
use Rattle.dcc_lift.proofs.procedure.Procedure.argument_params.Goals as goal

abbrev at_stack : Put → Param
at_stack put = record { stack = true; put = put }

pub loop-number-preserved : goal.loop-number-preserved
loop-number-preserved c =
    let param = argument_param (procedure_of c.args.self.now) in
    let number = c.loop-number.number in
    c.in_ok-push.ensures.items
    ∙ ap (λ xs. xs ++ at_stack c.put_of.result ∷ []) c.loop-number.invariant
    ∙ ap (λ put. map param (range_with_len 0 number) ++ at_stack put ∷ []) c.put_of.ensures
    ∙ sym (map_more param number)
