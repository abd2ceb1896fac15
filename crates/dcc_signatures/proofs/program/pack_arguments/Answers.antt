use Rattle.std.proofs.Common.{◌∷◌, [], ap, ◌∙◌, map, reverse}
use Rattle.std.proofs.lemmas.List.{map-append}
use Rattle.dcc_ir.specs.Views.{expr_of}
use Rattle.dcc_signatures.specs.Packed.{one_argument}
use Rattle.dcc_signatures.proofs.MergeLaws.{merged_onto, merged-onto, onto-next}
use Rattle.dcc_signatures.proofs.program.pack_arguments.Goals as goal

pub loop-argument-init : goal.loop-argument-init
loop-argument-init c =
    ap (λ l. merged_onto one_argument (map expr_of c.args.arguments.items) (map expr_of (reverse l))) c.new-packed.ensures.items
    ∙ merged-onto one_argument (map expr_of c.args.arguments.items)

pub loop-argument-preserved : goal.loop-argument-preserved
loop-argument-preserved c =
    let fewer = c.pop.new.self.items in
    let x = c.in-Some.argument in
    onto-next one_argument (map expr_of fewer) (map expr_of c.loop-argument.rest.items) (map expr_of (reverse c.loop-argument.packed.items))
    (map expr_of (reverse c.put_argument.new.later.items)) (map expr_of c.args.arguments.items) (expr_of x)
    (ap (map expr_of) c.in-Some.ensures.items ∙ map-append expr_of fewer (x ∷ [])) c.in_ok-put_argument.ensures c.loop-argument.invariant
