use Rattle.std.proofs.Common.{ap, ◌∙◌, reverse}
use Rattle.dcc_signatures.specs.Packed.{one_param}
use Rattle.dcc_signatures.proofs.MergeLaws.{merged_onto, merged-onto, onto-next}
use Rattle.dcc_signatures.proofs.program.pack_params.Goals as goal

pub loop-param-init : goal.loop-param-init
loop-param-init c = ap (λ l. merged_onto one_param c.args.params.items (reverse l)) c.new-packed.ensures.items ∙ merged-onto one_param c.args.params.items

pub loop-param-preserved : goal.loop-param-preserved
loop-param-preserved c =
    onto-next one_param c.pop.new.self.items c.loop-param.rest.items (reverse c.loop-param.packed.items) (reverse c.put_param.new.later.items) c.args.params.items
    c.in-Some.param c.in-Some.ensures.items c.in_ok-put_param.ensures c.loop-param.invariant
