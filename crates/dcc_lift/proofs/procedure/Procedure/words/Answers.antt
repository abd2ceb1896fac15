use Rattle.std.proofs.Common.{◌≡◌, ◌∙◌, ap, sym, ◌++◌, ◌∷◌, [], map, w32}
use Rattle.std.specs.List.{range_with_len}
use Rattle.std.proofs.lemmas.List.{map-append}
use Rattle.std.proofs.Math.Facts.{to_z-of_z}
use Rattle.dcc_num.specs.declared.Width.TheVariants.{Word as word_width}
use Rattle.dcc_ir.specs.Views.{expr_of}
use Rattle.dcc_ops.specs.OperandPlace.{place_value}
use Rattle.dcc_simulation.specs.Procedures.{frame_place}
use Rattle.dcc_simulation.specs.Statements.{argument_value}
use Rattle.dcc_lift.specs.KnownProcedures.{procedure_of}
use Rattle.dcc_lift.proofs.ListLaws.{map_more}
use Rattle.dcc_lift.proofs.procedure.Procedure.words.Goals as goal

pub loop-number-preserved : goal.loop-number-preserved
loop-number-preserved c =
    let p = procedure_of c.args.self.now in
    let word = argument_value p c.args.height in
    let number = c.loop-number.number in
    let value : expr_of c.in_ok-value.field-0 ≡ word number = c.in_ok-value.ensures
    ∙ ap place_value (c.frame_place-word.ensures
    ∙ ap (frame_place p word_width)
    (to_z-of_z {w = w32} (record { sfits = c.argument_offset-first.type_inv }) ∙ c.argument_offset-first.ensures))
    in
    ap (map expr_of) c.in_ok-push.ensures.items
    ∙ map-append expr_of c.loop-number.words.items (c.in_ok-value.field-0 ∷ [])
    ∙ ap (λ xs. xs ++ expr_of c.in_ok-value.field-0 ∷ []) c.loop-number.invariant
    ∙ ap (λ e. map word (range_with_len 0 number) ++ e ∷ []) value
    ∙ sym (map_more word number)
